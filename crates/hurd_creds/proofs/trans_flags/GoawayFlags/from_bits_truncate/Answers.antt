use Rattle.std.proofs.Common.{ℕ, ap}
use Rattle.bitflags.proofs.OnLiterals.{bitflags_on_literals}
use Rattle.hurd_creds.specs.declared.trans_flags.GoawayFlags.{GoawayFlags}
use Rattle.hurd_creds.proofs.trans_flags.GoawayFlags.from_bits_truncate.Goals as goal

pub returns : goal.returns
unfolding bitflags_on_literals
returns c = let of_bits : ℕ → GoawayFlags = λ n. record { 0 = n } in ap of_bits (c.from_bits_truncate.ensures tt)
