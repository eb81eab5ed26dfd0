use Rattle.std.proofs.Common.{◌≡◌, drop}
use Rattle.hurd_script.specs.Settrans.{are_known_once}
use Rattle.hurd_script.proofs.settrans.are_known_once.Given as goal

abbrev pub invariant-loop-index : goal.invariant-loop-index
invariant-loop-index l = are_known_once (drop l.index l.letters) ≡ are_known_once l.letters
