use Rattle.hurd_program.proofs.PairEnded.{first_ends, no_pair_ends, second_ends, told_as}
use Rattle.hurd_program.proofs.pairing.compare_read.Goals as goal

pub returns-in-Err-First : goal.returns-in-Err-First
returns-in-Err-First g c =
    first_ends c.args.who.now c.args.first.now c.args.second.now c.args.one.now c.args.two.now g.W.Write.contents g.E.Write.contents c.args.output.now c.compare_scripts.new.output c.args.errors.now c.say_fault.new.errors c.say_fault.result
    c.in-Err-First.fault (rw (c.in-Err-First.is, c.in-Err-First.field-0-is) at c.compare_scripts.ensures.adds) (λ is. (rw (c.in-Err-First.is, c.in-Err-First.field-0-is) at c.compare_scripts.ensures.write) (told_as is)) c.say_fault.ensures

pub returns-in-Err-Second : goal.returns-in-Err-Second
returns-in-Err-Second g c =
    second_ends c.args.who.now c.args.first.now c.args.second.now c.args.one.now c.args.two.now g.W.Write.contents g.E.Write.contents c.args.output.now c.compare_scripts.new.output c.args.errors.now c.say_fault-in-Err-Second.new.errors
    c.say_fault-in-Err-Second.result c.in-Err-Second.fault (rw (c.in-Err-Second.is, c.in-Err-Second.field-0-is) at c.compare_scripts.ensures.adds) c.say_fault-in-Err-Second.ensures

pub returns-in-Err-NoPair : goal.returns-in-Err-NoPair
returns-in-Err-NoPair g c =
    let said = c.say_mismatch.ensures in
    no_pair_ends c.args.who.now c.args.first.now c.args.second.now c.args.one.now c.args.two.now g.W.Write.contents g.E.Write.contents c.args.output.now c.compare_scripts.new.output c.args.errors.now c.say_mismatch.new.errors
    c.say_mismatch.result c.in-Err-NoPair.why (rw (c.in-Err-NoPair.is, c.in-Err-NoPair.field-0-is) at c.compare_scripts.ensures.adds) said.0 said.1 (said.2 c.args.who.now) said.3
