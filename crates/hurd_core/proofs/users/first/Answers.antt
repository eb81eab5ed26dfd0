-- All rights that use the boot root are counted.
use Rattle.std.proofs.Common.{arith}
use Rattle.hurd_core.proofs.users.first.Goals as goal

pub returns : goal.returns
returns c = λ s. let all = rw (c.uses.ensures, c.in-Ok.ensures.empty) at c.add.ensures s in omega arith
