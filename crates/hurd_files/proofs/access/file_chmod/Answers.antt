-- What is asked, and what the core sets.
use Rattle.std.proofs.Common.{sym}
use Rattle.hurd_machine.proofs.Common.{known_mode, owns}
use Rattle.hurd_core.specs.Core.{world_of}
use Rattle.hurd_core.specs.PortNode.{named_of}
use Rattle.hurd_files.proofs.AccessLaws.{setting-follows}
use Rattle.hurd_files.proofs.access.file_chmod.Goals as goal

pub returns : goal.returns
returns g c =
    let w = world_of g.S.Server.meaning c.args.core.now in
    setting-follows c.args.task.0 c.args.port owns (λ n. n.header.owner) (λ n. n.header.group) (λ n. known_mode c.args.mode)
    w (named_of c.in_ok-named.named) _ _ (sym c.in_ok-named.ensures) (rw c.known.ensures at c.edit_header.ensures)
