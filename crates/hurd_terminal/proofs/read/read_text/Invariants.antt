use Rattle.std.proofs.Common.{◌<◌, vec_len}
use Rattle.std.specs.Io.KnownBytes.{Consumes}
use Rattle.hurd_terminal.proofs.read.read_text.Given as goal

abbrev pub invariant-loop-text : goal.invariant-loop-text
invariant-loop-text g l = record {
  consumed : Consumes (g.R.Read.remaining l.fn.input.reader) (g.R.Read.remaining l.input.reader) l.text.items;
  short : vec_len l.text < 1048577;
}

abbrev pub decreases-loop-text : goal.decreases-loop-text
decreases-loop-text g l = l.input.reads_left
