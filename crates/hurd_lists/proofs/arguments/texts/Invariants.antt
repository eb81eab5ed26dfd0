use Rattle.std.proofs.Common.{◌≡◌, drop}
use Rattle.hurd_lists.specs.Arguments.{texts_of}
use Rattle.hurd_lists.proofs.ArgumentLemmas.{texts_from}
use Rattle.hurd_lists.proofs.arguments.texts.Given as goal

abbrev pub invariant-loop-word : goal.invariant-loop-word
invariant-loop-word l = texts_from l.texts.items (drop l.word-index l.words) ≡ texts_of l.words
