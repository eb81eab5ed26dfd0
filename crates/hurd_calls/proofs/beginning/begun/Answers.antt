use Rattle.hurd_tmpfs.proofs.Beginning.{begins_tree}
use Rattle.hurd_calls.proofs.beginning.begun.Goals as goal

pub boot-requires : goal.boot-requires
boot-requires g c = begins_tree _ c.requires
