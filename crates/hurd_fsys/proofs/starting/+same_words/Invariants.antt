-- What is left of the words gets shorter.
use Rattle.std.proofs.Common.{length}
use Rattle.hurd_fsys.proofs.starting.+same_words.Given as goal

abbrev pub decreases-same_words : goal.decreases-same_words
decreases-same_words l = length l.words.now
