use Rattle.hurd_program.proofs.PairEnded.{bad_blamed, stranger_blamed}
use Rattle.hurd_program.proofs.pairing.say_fault.Goals as goal

pub returns-in-Bad : goal.returns-in-Bad
returns-in-Bad g c =
    let said = c.blame.ensures in
    rw c.in-Bad.is (bad_blamed c.args.who.now c.args.file.now c.args.text.now g.E.Write.contents c.args.errors.now c.blame.new.errors c.blame.result c.in-Bad.line said.0 said.1 said.2 said.3)

pub returns-in-Unknown : goal.returns-in-Unknown
returns-in-Unknown g c =
    let said = c.say_stranger.ensures in
    rw c.in-Unknown.is (stranger_blamed c.args.who.now c.args.file.now c.args.text.now g.E.Write.contents c.args.errors.now c.say_stranger.new.errors c.say_stranger.result said.0 said.1 said.2 said.3)
