use Rattle.std.proofs.Common.{codes, ◌++◌}
use Rattle.hurd_pairs.specs.Reports.{place_text, places_text, second_word}
use Rattle.hurd_pairs.proofs.JoinLaws.{join}
use Rattle.hurd_pairs.proofs.reports.push_places.Goals as goal

pub returns : goal.returns
unfolding places_text
returns c =
    let one = place_text c.args.word.now c.args.one in
    let two = place_text (second_word c.args.word.now c.args.one) c.args.two in
    let first = codes " of the first script," in
    let second = codes " of the second" in
    let a = c.push_place.new.text.items in
    let b = c.extend_from_slice.new.self.items in
    let new = c.extend_from_slice-2.new.self.items in
    join c.args.text.now.items one (first ++ (two ++ second)) a new c.in_ok-push_place.ensures
    (join a first (two ++ second) b new c.in_ok-extend_from_slice.ensures.items (join b two second c.push_place-2.new.text.items new (rw c.second_word.ensures at c.in_ok-push_place-2.ensures) c.in_ok-extend_from_slice-2.ensures.items))
