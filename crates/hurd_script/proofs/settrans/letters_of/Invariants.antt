use Rattle.std.proofs.Common.{◌≡◌, ◌++◌, drop, map, string_bytes}
use Rattle.hurd_script.specs.Settrans.{letters_of}
use Rattle.hurd_script.proofs.settrans.letters_of.Given as goal

abbrev pub invariant-loop-flag : goal.invariant-loop-flag
invariant-loop-flag l = l.letters.items ++ letters_of (map string_bytes (drop l.flag-index l.flags)) ≡ letters_of (map string_bytes l.flags)
