use Rattle.std.proofs.Common.{◌≡◌, ◌++◌, drop}
use Rattle.hurd_pictures.specs.Servers.{targets_text}
use Rattle.hurd_pictures.proofs.servers.push_targets.Given as goal

abbrev pub invariant-loop-target : goal.invariant-loop-target
invariant-loop-target l = l.text.items ++ targets_text l.view l.root (drop l.target-index l.targets) ≡ l.fn.text.items ++ targets_text l.view l.root l.targets
