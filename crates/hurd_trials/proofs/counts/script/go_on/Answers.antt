use Rattle.hurd_kinds.specs.Boxes.{box_meaning}
use Rattle.hurd_trials.proofs.ReadyLaws.{made}
use Rattle.hurd_trials.proofs.counts.script.go_on.Goals as goal

pub supply-requires : goal.supply-requires
supply-requires g c = made box_meaning c.in-Server.words c.in_ok-server-in-Server.server c.in_ok-server-in-Server.ensures
