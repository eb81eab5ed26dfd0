-- What is asked, and what the core sets.
use Rattle.std.proofs.Common.{sym}
use Rattle.hurd_core.specs.Core.{world_of}
use Rattle.hurd_core.specs.PortNode.{named_of}
use Rattle.hurd_files.specs.Access.{gives}
use Rattle.hurd_files.proofs.AccessLaws.{setting-follows}
use Rattle.hurd_files.proofs.access.file_chown.Goals as goal

pub returns : goal.returns
returns g c =
    let w = world_of g.S.Server.meaning c.args.core.now in
    setting-follows c.args.task.0 c.args.port (gives c.args.owner c.args.group) (λ n. c.args.owner) (λ n. c.args.group) (λ n. n.header.mode)
    w (named_of c.in_ok-named.named) _ _ (sym c.in_ok-named.ensures) c.edit_header.ensures
