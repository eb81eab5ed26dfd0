use Rattle.std.proofs.Common.{ℕ, ap}
use Rattle.hurd_creds.specs.declared.open_flags.OpenFlags.{OpenFlags}
use Rattle.hurd_creds.proofs.ids.Ids.access.Goals as goal

pub returns : goal.returns
returns c =
    let of_bits : ℕ → OpenFlags = λ n. record { 0 = n } in
    let one = c.union.ensures tt in
    let two = c.union-2.ensures tt in
    ap of_bits (cc (one, two, c.flag_if-read.ensures, c.flag_if-write.ensures, c.flag_if-exec.ensures, c.may.ensures, c.may-2.ensures, c.may-3.ensures))
