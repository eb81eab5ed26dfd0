-- A world where others have made more, which is gone, looks the same except for names.
use Rattle.std.proofs.Common.{◌≡◌, ◌<◌, ◌≤◌, ◌+◌, ℕ, Bool, Some, refl, sym, subst, arith}
use Rattle.hurd_machine.proofs.Common.{SameView, Task, World, task_at}
use Rattle.hurd_machine.specs.Sound.{AreGiven}
use Rattle.hurd_machine.specs.Renamed.{OtherNames, renamed}
use Rattle.hurd_laws.specs.Untold.{KeepsGiven, RaisedLooksSame, RaisesCounts}
use Rattle.hurd_laws.proofs.GivenRenamed.{StaysGiven, given-renamed}
use Rattle.hurd_laws.proofs.LeftAlone.{left_alone, same_names}
use Rattle.hurd_laws.proofs.TablesRenamed.{at_task}

no_further : (a b d m : ℕ) → a ≤ b + d → b < m → a < m + d
no_further a b d m most below = omega (arith, most, below)

-- where counts are raised by no more than that, names that were given stay so
pub stays_given : (f : OtherNames) (w : World) → RaisesCounts f → StaysGiven f w
stays_given f w raises n given x is =
    at_task f w n.task.0 (λ (x : Task). (f.to n).count < x.made) (λ x is. no_further (f.to n).count n.count (f.more n.task.0) x.made (raises.count n) (given x is))
    x (subst (λ (t : ℕ). task_at (renamed f w) t ≡ Some x) (raises.task n) is)

view_itself : (S : ℕ → Bool) (w : World) → SameView S w w
view_itself S w = record { tasks = refl; seen = λ p. (λ sees. sees, λ sees. sees); parts = λ p sees. refl }

pub raised_looks_same : RaisedLooksSame
raised_looks_same S f w none raises sound =
    let given : KeepsGiven f w = given-renamed f w (stays_given f w raises) sound.coherent.given in
    let same = sym (left_alone (renamed f w)) in
    record {
      left = f;
      right = same_names;
      ours = λ t is. (none t is, refl);
      given = (given, subst AreGiven same given);
      same = subst (SameView S (renamed f w)) same (view_itself S (renamed f w));
    }
