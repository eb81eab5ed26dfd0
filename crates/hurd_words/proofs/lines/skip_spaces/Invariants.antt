use Rattle.std.proofs.Common.{◌≡◌, drop}
use Rattle.hurd_words.specs.Lines.{skip_spaces}
use Rattle.hurd_words.proofs.lines.skip_spaces.Given as goal

abbrev pub invariant-loop-index : goal.invariant-loop-index
invariant-loop-index l = skip_spaces (drop l.index l.line) ≡ skip_spaces l.line
