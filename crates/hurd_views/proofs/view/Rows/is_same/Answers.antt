use Rattle.std.proofs.Common.{refl, sym}
use Rattle.hurd_views.proofs.RowLaws.{agree_both}
use Rattle.hurd_views.proofs.view.Rows.is_same.Goals as goal

pub returns-then-agrees : goal.returns-then-agrees
returns-then-agrees c =
    (λ t. agree_both c.args.self.now c.args.other.now (c.if-agrees.ensures.0 refl) (c.agrees-then-agrees.ensures.0 t), λ all. c.agrees-then-agrees.ensures.1 (λ n has. sym (all n)))
