use Rattle.std.proofs.Common.{[], ℕ, List, drop}
use Rattle.hurd_can.specs.Tried.{Pared, ShowsWith}
use Rattle.hurd_can.proofs.trying.pared.Given as goal

-- what will be left of those that are still to be tried, with those that are kept, is what is left of all
abbrev pub invariant-loop-i : goal.invariant-loop-i
invariant-loop-i g l =
    (left : List (List ℕ)) → Pared (ShowsWith g.T.Telling.sort l.trial.who.now l.trial.part l.trial.text.now) l.kept.items (drop l.i l.lines) left
    → Pared (ShowsWith g.T.Telling.sort l.trial.who.now l.trial.part l.trial.text.now) [] l.lines left
