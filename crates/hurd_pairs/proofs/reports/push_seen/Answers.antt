use Rattle.std.proofs.Common.{codes, ◌++◌}
use Rattle.hurd_pairs.specs.Lines.{line_before}
use Rattle.hurd_pairs.specs.Reports.{difference_text}
use Rattle.hurd_pairs.proofs.JoinLaws.{ok_join}
use Rattle.hurd_pairs.proofs.reports.push_seen.Goals as goal

pub returns-in_ok-extend_from_slice-in-Some : goal.returns-in_ok-extend_from_slice-in-Some
returns-in_ok-extend_from_slice-in-Some c =
    let sees = c.args.learners.now.sees.items in
    let said = difference_text (codes " before line ") (codes "; first -> second:\n") (line_before c.args.one.now.heading c.args.one.now.text.now) (line_before c.args.two.now.heading c.args.two.now.text.now) c.in-Some.seen in
    let a = c.extend_from_slice.new.self.items in
    let new = c.push_difference.new.text.items in
    let r = c.push_difference.result in
    rw c.in-Some.is (ok_join r c.args.text.now.items sees (codes " a difference" ++ said) a new (rw c.as_slice.ensures.value at c.in_ok-extend_from_slice.ensures.items)
    (ok_join r a (codes " a difference") said c.extend_from_slice-in-Some.new.self.items new c.in_ok-extend_from_slice-in-Some.ensures.items c.push_difference.ensures))
