-- What was read is told; else that it can't be read, or that there is no memory, is said.
use Rattle.std.proofs.Common.{Err}
use Rattle.hurd_shell.specs.Scripts.{scripts}
use Rattle.hurd_terminal.specs.declared.fault.Fault.TheVariants.{Memory}
use Rattle.hurd_terminal.proofs.RunLaws.{ran_out}
use Rattle.hurd_run.proofs.WayLaws.{scripts_limited}
use Rattle.hurd_program.proofs.Ended.{exits_unread, exits_whole}
use Rattle.hurd_witnesses.specs.Finding.{finding}
use Rattle.hurd_program.proofs.witnesses.perform_witnesses.Goals as goal

pub returns-in-Ok-read_text : goal.returns-in-Ok-read_text
returns-in-Ok-read_text g c =
    exits_whole (finding scripts c.args.who.now) scripts_limited c.args.file.now _ g.R.Read.remaining g.W.Write.contents g.E.Write.contents c.args.input.now c.read_text.new.input c.args.output.now
    c.find_read.new.output c.args.errors.now c.find_read.new.errors c.find_read.result c.in-Ok-read_text.ensures.ok (rw c.as_slice-in-Ok-read_text.ensures at c.find_read.ensures)

pub returns : goal.returns
returns g c =
    exits_unread (finding scripts c.args.who.now) c.args.file.now g.R.Read.remaining g.W.Write.contents g.E.Write.contents c.args.input.now c.read_text.new.input c.args.output.now c.args.errors.now
    c.finish-in-Err.new.errors c.finish-in-Err.result c.in-Err.fault c.in-Err.ensures.err c.finish-in-Err.ensures.line c.finish-in-Err.ensures.status

pub returns-in_default : goal.returns-in_default
returns-in_default g c = record {
  ended = Err Memory;
  ran = ran_out (finding scripts c.args.who.now) _ _;
  blames = record { read = λ no. absurd (cc); write = λ no. absurd (cc) };
  says = c.finish.ensures.line;
  is = c.finish.ensures.status;
}
