use Rattle.std.proofs.Common.{sym, ◌∙◌}
use Rattle.hurd_creds.proofs.CompareLaws.{same_of_among, among_of_same}
use Rattle.hurd_creds.proofs.ids.hold_the_same.Goals as goal

pub returns-then-are_among : goal.returns-then-are_among
returns-then-are_among c =
    let us = c.args.some.now in
    let vs = c.args.others.now in (
      λ also. same_of_among us vs (sym c.are_among.ensures ∙ c.if-are_among.true) (sym c.are_among-then-are_among.ensures ∙ also),
      λ same. c.are_among-then-are_among.ensures ∙ among_of_same vs us (sym same),
    )

pub returns-else-are_among : goal.returns-else-are_among
returns-else-are_among c = (
  λ also. absurd (cc (also, c.if-are_among.false)),
  λ same. c.are_among.ensures ∙ among_of_same c.args.some.now c.args.others.now same,
)
