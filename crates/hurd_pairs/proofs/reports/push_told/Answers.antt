use Rattle.std.proofs.Common.{codes, ◌++◌}
use Rattle.hurd_pairs.specs.Lines.{line_before}
use Rattle.hurd_pairs.specs.Reports.{get_of, difference_text}
use Rattle.hurd_pairs.proofs.JoinLaws.{if_join, join, ok_join}
use Rattle.hurd_pairs.proofs.reports.push_told.Goals as goal

pub returns-in_ok-extend_from_slice-in-Some : goal.returns-in_ok-extend_from_slice-in-Some
returns-in_ok-extend_from_slice-in-Some c =
    let names = c.args.learners.now.names.items in
    let get = get_of c.args.learners.now.tasks.items in
    let said = difference_text (codes " at line ") (codes ":\n") (line_before c.args.one.now.heading c.args.one.now.text.now) (line_before c.args.two.now.heading c.args.two.now.text.now) c.in-Some.told in
    let a = c.extend_from_slice.new.self.items in
    let b = c.extend_from_slice-2.new.self.items in
    let new = c.push_difference.new.text.items in
    let r = c.push_difference.result in
    let begun = join c.args.text.now.items names get a b (rw c.as_slice.ensures.value at c.in_ok-extend_from_slice.ensures.items) (rw (c.get.ensures, c.as_slice-2.ensures.value) at c.in_ok-extend_from_slice-2.ensures.items) in
    rw c.in-Some.is (ok_join r c.args.text.now.items (names ++ get) (codes " a different reply" ++ said) b new begun
    (ok_join r b (codes " a different reply") said c.extend_from_slice-in-Some.new.self.items new c.in_ok-extend_from_slice-in-Some.ensures.items c.push_difference.ensures))

pub returns-in-None : goal.returns-in-None
returns-in-None c =
    let names = c.args.learners.now.names.items in
    let get = get_of c.args.learners.now.tasks.items in
    let a = c.extend_from_slice.new.self.items in
    let b = c.extend_from_slice-2.new.self.items in
    let begun = join c.args.text.now.items names get a b (rw c.as_slice.ensures.value at c.in_ok-extend_from_slice.ensures.items) (rw (c.get.ensures, c.as_slice-2.ensures.value) at c.in_ok-extend_from_slice-2.ensures.items) in
    rw c.in-None.is (if_join c.extend_from_slice-in-None.result c.args.text.now.items (names ++ get) (codes " the same replies\n") b c.extend_from_slice-in-None.new.self.items begun c.extend_from_slice-in-None.ensures.items)
