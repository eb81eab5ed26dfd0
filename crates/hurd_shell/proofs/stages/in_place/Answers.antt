use Rattle.hurd_shell.proofs.stages.in_place.Goals as goal

pub returns : goal.returns
returns g c = rw c.to_enter.ensures at c.with_open.ensures
