use Rattle.hurd_teaching.proofs.StepLaws.{sees_here}
use Rattle.hurd_teaching.proofs.telling.look_before.Goals as goal

pub returns-in_ok-look-clause-sees : goal.returns-in_ok-look-clause-sees
returns-in_ok-look-clause-sees g c =
    let sees = rw c.as_slice.ensures.value at c.in_ok-look.ensures.ok in
    λ other. sees_here _ _ c.args.watch.now.seen c.look.new.self.seen c.requires sees
