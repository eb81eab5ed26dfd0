use Rattle.std.proofs.Common.{◌≡◌}
use Rattle.hurd_ports.specs.Steps.{appending}
use Rattle.hurd_ports.specs.Seats.{state_of}
use Rattle.hurd_ports.proofs.SeatLaws.{edit_open, open-changed}
use Rattle.hurd_ports.proofs.SoundLaws.{sound-open}
use Rattle.hurd_ports.proofs.ports.Ports.set_append.Goals as goal

done : (c : goal.After-set_append) → state_of c.set_append.new.self.all c.self.inside.tasks.items ≡ edit_open c.args.name (appending c.args.append) (state_of c.self.inside.opens.all c.self.inside.tasks.items)
done c = open-changed c.self.inside.opens.all c.set_append.new.self.all c.self.inside.tasks.items c.args.name (appending c.args.append) c.set_append.ensures.set

pub invariant_of-self : goal.invariant_of-self
invariant_of-self c = record {
  sound = rw (done c) (sound-open _ c.args.name (appending c.args.append) c.self.invariant.sound);
  counted = c.self.invariant.counted;
  spare = rw c.set_append.ensures.room c.self.invariant.spare;
}

pub returns-clause-set : goal.returns-clause-set
returns-clause-set c = rw (← c.self.view_is) (done c)

pub returns-clause-settled : goal.returns-clause-settled
returns-clause-settled c = (invariant_of-self c).sound.settled
