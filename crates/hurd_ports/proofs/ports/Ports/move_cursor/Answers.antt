use Rattle.std.proofs.Common.{◌≡◌}
use Rattle.hurd_ports.specs.Steps.{at_cursor}
use Rattle.hurd_ports.specs.Seats.{state_of}
use Rattle.hurd_ports.proofs.SeatLaws.{edit_open, open-changed}
use Rattle.hurd_ports.proofs.SoundLaws.{sound-open}
use Rattle.hurd_ports.proofs.ports.Ports.move_cursor.Goals as goal

done : (c : goal.After-move_cursor) → state_of c.move_cursor.new.self.all c.self.inside.tasks.items ≡ edit_open c.args.name (at_cursor c.args.cursor) (state_of c.self.inside.opens.all c.self.inside.tasks.items)
done c = open-changed c.self.inside.opens.all c.move_cursor.new.self.all c.self.inside.tasks.items c.args.name (at_cursor c.args.cursor) c.move_cursor.ensures.moved

pub invariant_of-self : goal.invariant_of-self
invariant_of-self c = record {
  sound = rw (done c) (sound-open _ c.args.name (at_cursor c.args.cursor) c.self.invariant.sound);
  counted = c.self.invariant.counted;
  spare = rw c.move_cursor.ensures.room c.self.invariant.spare;
}

pub returns-clause-moved : goal.returns-clause-moved
returns-clause-moved c = rw (← c.self.view_is) (done c)

pub returns-clause-settled : goal.returns-clause-settled
returns-clause-settled c = (invariant_of-self c).sound.settled
