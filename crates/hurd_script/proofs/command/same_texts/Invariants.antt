use Rattle.std.proofs.Common.{◌≡◌, map, take}
use Rattle.std.specs.Prelude.{string_bytes}
use Rattle.hurd_script.proofs.command.same_texts.Given as goal

-- the texts so far are the same
abbrev pub invariant-loop-i : goal.invariant-loop-i
invariant-loop-i l = map string_bytes (take l.i l.some) ≡ map string_bytes (take l.i l.others)
