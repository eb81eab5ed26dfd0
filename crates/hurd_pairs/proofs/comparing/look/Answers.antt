use Rattle.std.proofs.Common.{◌∙◌, sym}
use Rattle.hurd_pairs.proofs.LookLaws.{look_found, look_same}
use Rattle.hurd_pairs.proofs.comparing.look.Goals as goal

pub returns-in-Some : goal.returns-in-Some
returns-in-Some g c = λ s t.
    let seen = rw (c.in-Some.is, c.world.ensures, c.world-2.ensures) at c.in_ok-said.ensures in
    look_found c.args.learners.now.tasks.items c.args.learners.now.sees.items _ _ c.args.seen.now _ (sym c.is_some.ensures ∙ c.if-is_some.false) c.told.ensures c.told-in-Some.ensures seen

pub returns-in_default : goal.returns-in_default
returns-in_default g c = λ s t.
    let seen = rw (c.in_default.is, c.world.ensures, c.world-2.ensures) at c.in_ok-said.ensures in
    look_same c.args.learners.now.tasks.items c.args.learners.now.sees.items _ _ c.args.seen.now (sym c.is_some.ensures ∙ c.if-is_some.false) seen
