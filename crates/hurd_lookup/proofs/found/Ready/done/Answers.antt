-- The file is made by the server that the lookup found.
use Rattle.hurd_core.specs.Core.{world_of}
use Rattle.hurd_core.specs.ToMake.{new_node_of}
use Rattle.hurd_lookup.specs.Ends.{maker}
use Rattle.hurd_lookup.proofs.DoneLaws.{made}
use Rattle.hurd_lookup.proofs.found.Ready.done.Goals as goal

pub returns-in_ok-port-in-Makes : goal.returns-in_ok-port-in-Makes
returns-in_ok-port-in-Makes g c =
    let w = world_of g.S.Server.meaning c.args.core.now in
    let ok = rw c.in-Makes.is at c.requires in
    let does = rw c.open_modes-modes.ensures at c.in_ok-port-in-Makes.ensures in
    rw c.in-Makes.is (made w c.args.task.0 (maker w c.in-Makes.file.dir) (new_node_of c.in-Makes.file) ok.0 c.args.flags c.in-Makes.ids c.in-Makes.parents _ _ does)
