-- Calls that were noted are unnoticed by whoever sees none of the noted parts.
use Rattle.std.proofs.Common.{◌≡◌, ◌∙◌, ℕ, Bool, true, false, refl}
use Rattle.hurd_machine.proofs.Common.{SameView, TaskOf, World}
use Rattle.hurd_laws.specs.Runs.{TouchesUnseen}
use Rattle.hurd_laws.proofs.Assembled.{others_unseen}
use Rattle.hurd_touches.specs.Unnoticed.{NotedCall, NotedNothing}

-- the same view through a world between
through : {S : ℕ → Bool} {u v w : World} → SameView S u v → SameView S v w → SameView S u w
through x y = record {
  tasks = y.tasks ∙ x.tasks;
  seen = λ p. (λ s. (y.seen p).0 ((x.seen p).0 s), λ s. (x.seen p).1 ((y.seen p).1 s));
  parts = λ p s. y.parts p ((x.seen p).0 s) ∙ x.parts p s;
}

pub noted_nothing : NotedNothing
noted_nothing noted w S unseen = record { tasks = refl; seen = λ p. (λ s. s, λ s. s); parts = λ p s. refl }

-- by the law that what touches nothing that they see leaves the view of others
pub noted_call : NotedCall
noted_call u w t c old new sound before notes S unseen = through same (others_unseen S w t c sound (other (S t) refl) quiet)
  where
    same : SameView S u w
    same = before S (λ p on. unseen p (notes.kept p on))

    quiet : TouchesUnseen S w t c
    quiet p on seen = unseen p (notes.touched p on) ((same.seen p).1 seen)

    other : (b : Bool) → S t ≡ b → S t ≡ false
    other true ours = absurd (unseen (TaskOf t) notes.caller ours)
    other false is = is
