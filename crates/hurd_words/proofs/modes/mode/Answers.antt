use Rattle.std.proofs.Common.{◌∙◌, ap, option_and_then}
use Rattle.bitflags.proofs.OnLiterals.{bitflags_on_literals}
use Rattle.hurd_words.specs.Modes.{mode_from}
use Rattle.hurd_words.proofs.ModeLemmas.{mode_read}
use Rattle.hurd_words.proofs.modes.mode.Goals as goal

pub returns : goal.returns
unfolding bitflags_on_literals
returns c = mode_read c.in_ok-bits.bits c.from_bits.result (c.from_bits.ensures.value tt) (c.from_bits.ensures.known tt) ∙ ap (option_and_then mode_from) c.in_ok-bits.ensures
