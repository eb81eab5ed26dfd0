use Rattle.std.proofs.Common.{◌∙◌, sym}
use Rattle.std.proofs.lemmas.Result.{IfOk-weaker}
use Rattle.hurd_kinds.specs.Boxes.{box_meaning}
use Rattle.hurd_lists.specs.Lists.{listed_by}
use Rattle.hurd_trans_iface.specs.Meaning.{begin}
use Rattle.hurd_sitting.proofs.LineLaws.{failed_line}
use Rattle.hurd_sitting.proofs.opening.starting.Goals as goal

pub returns-else-begun : goal.returns-else-begun
returns-else-begun c =
    let said = rw c.numbers.ensures at c.listed.ensures in
    IfOk-weaker c.listed.result _ _ (λ read is. failed_line c.args.task 0 (listed_by box_meaning read) (begin c.args.words) (sym c.if-begun.false ∙ c.requires) is) said
