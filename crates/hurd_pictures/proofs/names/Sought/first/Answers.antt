use Rattle.std.proofs.Common.{◌∙◌, sym}
use Rattle.hurd_pictures.proofs.SearchLaws.{sought_at}
use Rattle.hurd_pictures.proofs.names.Sought.first.Goals as goal

pub returns-then-is_at : goal.returns-then-is_at
returns-then-is_at c =
    sym (sought_at c.args.view.now c.args.self c.args.view.now.rows c.loop-i.i c.in-Some.name _ c.in-Some.ensures (sym c.if-is_at.ensures))
    ∙ c.loop-i.invariant

pub loop-i-preserved : goal.loop-i-preserved
loop-i-preserved c =
    sym (sought_at c.args.view.now c.args.self c.args.view.now.rows c.loop-i.i c.in-Some.name _ c.in-Some.ensures (sym c.if-is_at.ensures))
    ∙ c.loop-i.invariant
