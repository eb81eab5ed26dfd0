use Rattle.std.proofs.Common.{◌≡◌, Bor, List, map, take, ℕ}
use Rattle.hurd_witnesses.proofs.hunt.names_in.Given as goal

abbrev pub invariant-loop-part : goal.invariant-loop-part
invariant-loop-part l = l.names.items ≡ map (λ (x : Bor (List ℕ)). x.now) (take l.part-index l.part-items)
