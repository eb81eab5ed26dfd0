-- Two runs in which a set of tasks makes the same calls.
use Rattle.std.proofs.Common.{◌≡◌, ◌∙◌, ℕ, Bool, List, [], ◌∷◌, sym, refl, ap₂}
use Rattle.hurd_machine.proofs.Common.{SameView, Sound, World}
use Rattle.hurd_laws.specs.Step.{after}
use Rattle.hurd_laws.specs.Runs.{TaskCall, run, calls_of, replies_to, worlds_of, SameViews, Unmoved}
use Rattle.hurd_laws.specs.Laws.{Isolated, IsolatedByView, QuietUnmoved, SideBySide, ViewSettled}
use Rattle.hurd_machine.proofs.Views.{view_of}
use Rattle.hurd_laws.proofs.Assembled.{others_unseen, own_from_view, stays_sound}
use Rattle.hurd_laws.proofs.Together.{together}

-- the same view, from either side and through a third world

SameView-sym : {S : ℕ → Bool} {v w : World} → SameView S v w → SameView S w v
SameView-sym x = record { tasks = sym x.tasks; seen = λ p. ((x.seen p).1, (x.seen p).0); parts = λ p s. sym (x.parts p ((x.seen p).1 s)) }

SameView-trans : {S : ℕ → Bool} {u v w : World} → SameView S u v → SameView S v w → SameView S u w
SameView-trans x y = record {
  tasks = y.tasks ∙ x.tasks;
  seen = λ p. (λ s. (y.seen p).0 ((x.seen p).0 s), λ s. (x.seen p).1 ((y.seen p).1 s));
  parts = λ p s. y.parts p ((x.seen p).0 s) ∙ x.parts p s;
}

-- where S makes its calls in worlds of the same view, it is told the same
abbrev Told : (ℕ → Bool) → List TaskCall → List TaskCall → Type 0
Told S ms ns = (v w : World) → Sound v → Sound w → SameViews S (worlds_of S v ms) (worlds_of S w ns) → replies_to S v ms ≡ replies_to S w ns

pub side_by_side : SideBySide
side_by_side S v w ms ns sv sw same views = together (λ (m : TaskCall). S m.task) (Told S)
    (λ v w sv sw views. refl)
    (λ m ms ns e ih v w sv sw. rw e (ih (after v m.task m.call) w (stays_sound v m.task m.call sv) sw))
    (λ n ms ns e ih v w sv sw. rw e (ih v (after w n.task n.call) sv (stays_sound w n.task n.call sw)))
    (λ m ms ns e ih v w sv sw. rw e (λ views. ap₂ ◌∷◌ (sym (own_from_view S v w m.task m.call sv sw e views.0).0)
    (ih (after v m.task m.call) (after w m.task m.call) (stays_sound v m.task m.call sv) (stays_sound w m.task m.call sw) views.1)))
    ms ns same v w sv sw views

-- where the others leave its view as it was, it makes its calls in worlds of the same view, and sees the same afterwards
abbrev Met : (ℕ → Bool) → List TaskCall → List TaskCall → Type 0
Met S ms ns = (v w : World) → Sound v → Sound w → SameView S v w → Unmoved S v ms → Unmoved S w ns
    → SameViews S (worlds_of S v ms) (worlds_of S w ns) × SameView S (run v ms) (run w ns)

met : (S : ℕ → Bool) (ms ns : List TaskCall) → calls_of S ms ≡ calls_of S ns → Met S ms ns
met S = together (λ (m : TaskCall). S m.task) (Met S)
    (λ v w sv sw x qv qw. (tt, x))
    (λ m ms ns e ih v w sv sw x qv qw. rw e (ih (after v m.task m.call) w (stays_sound v m.task m.call sv) sw (SameView-trans (SameView-sym (qv.0 e)) x) qv.1 qw))
    (λ n ms ns e ih v w sv sw x qv qw. rw e (ih v (after w n.task n.call) sv (stays_sound w n.task n.call sw) (SameView-trans x (qw.0 e)) qv qw.1))
    (λ m ms ns e ih v w sv sw x qv qw.
    let r = ih (after v m.task m.call) (after w m.task m.call) (stays_sound v m.task m.call sv) (stays_sound w m.task m.call sw) (own_from_view S v w m.task m.call sv sw e x).1 qv.1 qw.1 in
    rw e ((x, r.0), r.1))

pub isolated_by_view : IsolatedByView
isolated_by_view S v w ms ns sv sw x same qv qw =
    let m = met S ms ns same v w sv sw x qv qw in
    (side_by_side S v w ms ns sv sw same m.0, m.1)

pub quiet_unmoved : QuietUnmoved
quiet_unmoved S w [] s q = tt
quiet_unmoved S w (m ∷ ms) s q = (
  λ other. others_unseen S w m.task m.call s other (q.0 other),
  quiet_unmoved S (after w m.task m.call) ms (stays_sound w m.task m.call s) q.1,
)

pub isolated : Isolated
isolated S v w ms ns sv sw x same qv qw = isolated_by_view S v w ms ns sv sw x same (quiet_unmoved S v ms sv qv) (quiet_unmoved S w ns sw qw)

pub view_settled : ViewSettled
view_settled S v w tasks parts = view_of (record { tasks = tasks; parts = parts })
