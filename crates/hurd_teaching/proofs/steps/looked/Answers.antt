use Rattle.hurd_teaching.proofs.steps.looked.Goals as goal

pub returns-then-not-quiet-clause-sees : goal.returns-then-not-quiet-clause-sees
returns-then-not-quiet-clause-sees g c = rw c.world.ensures at c.in_ok-look_before.ensures.sees
