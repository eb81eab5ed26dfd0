-- What the server does to the node.
use Rattle.std.proofs.Common.{◌≡◌, sym, refl, subst}
use Rattle.std.specs.Prelude.{Result, Ok, IfOk}
use Rattle.hurd_machine.proofs.Common.{Errno, Name, asked_at, changes_of, edits_of, resizing}
use Rattle.hurd_nodes.specs.Needs.{FreeSize}
use Rattle.hurd_machine.specs.declared.call.Reply.TheVariants.{Done}
use Rattle.hurd_machine.specs.World.{nodes_of}
use Rattle.hurd_core.specs.Core.{world_of}
use Rattle.hurd_core.proofs.PlanLaws.{follows-then}
use Rattle.hurd_core.proofs.NeedLaws.{does-follows}
use Rattle.hurd_files.specs.Files.{set_size_asks}
use Rattle.hurd_files.proofs.files.file_set_size.Goals as goal

pub returns-clause-free : goal.returns-clause-free
returns-clause-free g c free =
    let w = world_of g.S.Server.meaning c.args.core.now in
    let n = c.in_ok-node.node in
    let asked : set_size_asks w c.args.task.0 c.args.port ≡ Ok n = sym c.in_ok-node.ensures in
    let here : FreeSize c.args.size n (nodes_of w) = subst (λ (r : Result Name Errno). IfOk r (λ (m : Name). FreeSize c.args.size m (nodes_of w))) asked free in
    follows-then w (set_size_asks w c.args.task.0 c.args.port) _ n _ _ asked
    (does-follows w (asked_at (resizing c.args.size) n w) (λ d. changes_of (edits_of n (Ok d))) _ (λ u. Done) c.set_size.result _ (λ d. (refl, refl)) c.set_size.ensures.does (c.set_size.ensures.free here))
