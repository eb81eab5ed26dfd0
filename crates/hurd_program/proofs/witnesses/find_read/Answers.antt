-- A bad script: its line is said. Any other end is that of the printing.
use Rattle.std.proofs.Common.{◌∙◌, Err, sym}
use Rattle.hurd_shell.specs.Scripts.{scripts}
use Rattle.hurd_program.proofs.Ended.{bad_ends, other_ends, was_bad}
use Rattle.hurd_witnesses.specs.Finding.{finding}
use Rattle.hurd_program.proofs.witnesses.find_read.Goals as goal

pub returns-in-Some : goal.returns-in-Some
returns-in-Some g c =
    bad_ends (finding scripts c.args.who.now) c.args.file.now c.args.text.now g.W.Write.contents g.E.Write.contents c.args.output.now c.find_text-ended.new.output c.args.errors.now c.blame.new.errors c.in-Some.line c.blame.result
    c.blame.ensures.0 (rw (was_bad c.find_text-ended.result c.in-Some.line (sym c.bad_line.ensures ∙ c.in-Some.is)) at c.find_text-ended.ensures.adds) c.blame.ensures.1 c.blame.ensures.2 c.blame.ensures.3

pub returns-in-None : goal.returns-in-None
returns-in-None g c =
    other_ends (finding scripts c.args.who.now) c.args.file.now c.args.text.now c.args.stranger.now g.W.Write.contents g.E.Write.contents c.args.output.now c.find_text-ended.new.output c.args.errors.now c.finish.new.errors c.finish.result
    c.find_text-ended.result (sym c.bad_line.ensures ∙ c.in-None.is) c.requires c.find_text-ended.ensures.adds c.find_text-ended.ensures.read c.find_text-ended.ensures.write c.finish.ensures.line c.finish.ensures.status
