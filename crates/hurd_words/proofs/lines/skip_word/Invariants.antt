use Rattle.std.proofs.Common.{◌≡◌, drop}
use Rattle.hurd_words.specs.Lines.{skip_word}
use Rattle.hurd_words.proofs.lines.skip_word.Given as goal

abbrev pub invariant-loop-index : goal.invariant-loop-index
invariant-loop-index l = skip_word (drop l.index l.line) ≡ skip_word l.line
