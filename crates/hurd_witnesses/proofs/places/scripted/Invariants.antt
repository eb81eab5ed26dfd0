use Rattle.std.proofs.Common.{◌≡◌, ◌++◌, drop}
use Rattle.hurd_witnesses.specs.Trials.{scripted, scripted_from}
use Rattle.hurd_witnesses.proofs.places.scripted.Given as goal

-- what is written so far, and what the bytes that are left are written as
abbrev pub invariant-loop-byte : goal.invariant-loop-byte
invariant-loop-byte l = l.text.items ++ scripted_from l.stand (drop l.byte-index l.place) ≡ scripted l.place
