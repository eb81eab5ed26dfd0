use Rattle.std.proofs.lemmas.Option.{slice_get_within}
use Rattle.hurd_ports.proofs.RoomLaws.{room-is}
use Rattle.hurd_ports.proofs.ports.Ports.insert.Goals as goal

pub reserve-requires : goal.reserve-requires
reserve-requires c =
    let roomy = room-is c.args.self.now.state c.args.task.0 1 c.requires in
    slice_get_within _ _ _ roomy.there
