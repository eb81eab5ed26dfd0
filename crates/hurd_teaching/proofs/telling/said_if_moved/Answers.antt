use Rattle.std.proofs.Common.{◌∙◌}
use Rattle.hurd_teaching.proofs.UnmovedLaws.{unmoved_says}
use Rattle.hurd_teaching.proofs.telling.said_if_moved.Goals as goal

pub returns-then-unmoved : goal.returns-then-unmoved
returns-then-unmoved g c =
    let here = c.requires c.if-unmoved.true in
    unmoved_says _ c.args.learners.now.who.items _ _ c.args.quiet _ here.0 here.1 (c.new-then-unmoved.ensures ∙ c.new.ensures.items)
