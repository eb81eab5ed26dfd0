use Rattle.std.proofs.Common.{◌≡◌, ◌++◌, ℕ, List, take}
use Rattle.hurd_can.specs.Tried.{AllSaid, SaysWay}
use Rattle.hurd_can.proofs.saying.push_sets.Given as goal

-- the ways of those before this one are added
abbrev pub invariant-loop-set : goal.invariant-loop-set
invariant-loop-set g l = (said : List ℕ) × AllSaid (SaysWay g.T.Telling.sort l.trial.text.now l.names l.trial.who.now l.trial.part l.trial.made l.trial.look.now l.path) (take l.set-index l.sets) said × (l.text.items ≡ l.fn.text.items ++ said)
