use Rattle.hurd_ports.specs.Seats.{state_of}
use Rattle.std.specs.Prelude.{slice_set}
use Rattle.hurd_ports.proofs.FillLaws.{Inserted, filled, filled-counted, name-new}
use Rattle.hurd_ports.proofs.SeatLaws.{ready-room}
use Rattle.hurd_ports.proofs.CountLaws.{counts-fit}
use Rattle.hurd_ports.specs.declared.table.Right.TheVariants.{Io}
use Rattle.hurd_ports.proofs.ports.Ports.fill.Goals as goal

done : (c : goal.After-self-2-1)
    → Inserted (state_of c.self.inside.opens.all c.self.inside.tasks.items) (state_of c.add-2.new.self.all (slice_set c.self.inside.tasks.items c.args.task.0 c.add-number.new.self)) c.args.task.0 c.args.node c.args.ids c.args.parents c.args.modes c.add-number.result
done c =
    filled c.self.inside.opens.all c.self.inside.tasks.items c.args.task.0 c.args.node c.args.ids c.args.parents c.args.modes c.add-2.new.self.all c.index_mut-seat.result.now c.take_name-name.new.self c.add-number.new.self
    c.take_name-name.result c.add-number.result c.self.invariant.sound (rw (← c.self.view_is) at c.requires.room) c.index_mut-seat.ensures.value c.take_name-name.ensures.name c.take_name-name.ensures.named
    c.add-number.ensures.number c.add-number.ensures.added c.add-2.ensures

pub invariant_of-self : goal.invariant_of-self
invariant_of-self c = record {
  sound = (done c).sound;
  counted =
      filled-counted c.self.inside.opens.all c.self.inside.book c.add.new.self c.self.inside.tasks.items c.args.task.0 c.index_mut-seat.result.now c.take_name-name.new.self c.add-number.new.self
      (Io (record { node = c.args.node; ids = c.args.ids; open_name = c.take_name-name.result; parents = c.args.parents })) c.self.invariant.counted (rw (← c.self.view_is) at c.requires.room) c.index_mut-seat.ensures.value c.take_name-name.ensures.named
      c.add-number.ensures.added c.add.ensures.short c.add.ensures.more;
  spare = tt;
}

pub add-requires-clause-fits : goal.add-requires-clause-fits
add-requires-clause-fits c = counts-fit c.self.inside.book c.self.inside.tasks.items c.self.invariant.counted

pub add-requires-clause-room : goal.add-requires-clause-room
add-requires-clause-room c =
    ready-room c.self.inside.opens.room c.self.inside.book c.self.inside.tasks.items c.self.inside.ready c.args.task.0 c.self.invariant.spare (rw (← c.self.view_is) at c.requires.ready)

pub returns-clause-answer : goal.returns-clause-answer
returns-clause-answer c = rw (← c.self.view_is) (done c).step

pub returns-clause-new : goal.returns-clause-new
returns-clause-new c = rw (← c.self.view_is) (done c).new

pub returns-clause-settled : goal.returns-clause-settled
returns-clause-settled c = (done c).sound.settled

pub add-requires-2-clause-fresh : goal.add-requires-2-clause-fresh
add-requires-2-clause-fresh c =
    name-new c.self.inside.opens.all c.self.inside.tasks.items c.args.task.0 c.index_mut-seat.result.now c.take_name-name.result c.self.invariant.sound (rw (← c.self.view_is) at c.requires.room)
    c.index_mut-seat.ensures.value c.take_name-name.ensures.name
