use Rattle.std.proofs.Common.{sym, ◌∙◌, rules}
use Rattle.hurd_touches.proofs.AddsLaws.{among_any}
use Rattle.hurd_touches.proofs.part_list.PartList.has.Goals as goal

pub returns : goal.returns
returns c is = among_any c.args.part _ (λ y e. search rules) c.args.self.now (rw c.as_slice.ensures at (sym c.contains.ensures.value ∙ is))
