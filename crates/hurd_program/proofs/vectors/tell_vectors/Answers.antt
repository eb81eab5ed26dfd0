-- A bad list: its line is said. Any other end is that of the printing.
use Rattle.hurd_program.proofs.Ended.{bad_ends}
use Rattle.hurd_vectors.specs.Vectors.{vectors}
use Rattle.hurd_program.proofs.vectors.tell_vectors.Goals as goal

pub returns-in-Err-Bad : goal.returns-in-Err-Bad
returns-in-Err-Bad g c =
    bad_ends vectors c.args.file.now c.args.text.now g.W.Write.contents g.E.Write.contents c.args.output.now c.print_vectors.new.output c.args.errors.now c.blame.new.errors c.in-Err-Bad.line c.blame.result
    c.blame.ensures.0 (rw (c.in-Err-Bad.is, c.in-Err-Bad.field-0-is) at c.print_vectors.ensures.adds) c.blame.ensures.1 c.blame.ensures.2 c.blame.ensures.3
