-- The laws of a call that makes of what it found a port, a file or a retry, or is to start it.
use Rattle.std.proofs.Common.{◌≡◌, ℕ, Bool, true, Some, None, refl}
use Rattle.std.specs.Prelude.{Result, Ok}
use Rattle.hurd_machine.proofs.Common.{BodyOf, ESRCH, Errno, IdSets, Name, OpenFlags, Seen, Sees, Taken, Task, World, on, task_at}
use Rattle.hurd_machine.specs.declared.call.Reply.TheVariants.{Found}
use Rattle.hurd_machine.proofs.Views.{Agree, Agree-refl}
use Rattle.hurd_machine.proofs.Asks.{answered_same, answered_plain, done_plain}
use Rattle.hurd_machine.proofs.Piece.{stands}
use Rattle.hurd_machine.proofs.CallLaws.{CallLaws, answered_piece}
use Rattle.hurd_core.specs.Core.{room_asks}
use Rattle.hurd_lookup.specs.Lookup.{Outcome, Opens, Makes, Retries, Starts, ending_asks, whole_asks, lookup_told, finding, finding_parts}
use Rattle.hurd_lookup.proofs.AlikeLaws.{Alike, ok_alike, on_alike, given_alike, first_alike}
use Rattle.hurd_lookup.proofs.WalkLaws.{Ground, seen_ground, taken_powers}
use Rattle.hurd_lookup.proofs.BeginLaws.{Begins, held_begins, seen_begins}
use Rattle.hurd_lookup.proofs.EndLaws.{OutcomeShown}
use Rattle.hurd_lookup.proofs.HeldLaws.{held_ground}
use Rattle.hurd_lookup.proofs.NestedLaws.{Lends, held_lends, seen_lends}
use Rattle.hurd_lookup.proofs.OutcomeLaws.{outcome_whole}

-- what task t finds, which is to be opened by these flags, is the same in both worlds, where the task begins on their ground, and goes on by what is lent of its ids; and what is known of it
abbrev pub FoundLaws : ℕ → OpenFlags → (World → Result Outcome Errno) → Type 1
FoundLaws t flags found = (v w : World) (At Near Entries : Name → Type 0) (T : IdSets → Type 0) → Ground v w At Near Entries T → Begins t v w At Near T
    → (P : IdSets → Type 0) → Lends t v w At Near Entries P → Alike (OutcomeShown At Entries T v flags) (found v) (found w)

-- the task that makes a port of what was found
module _ (v w : World) (t : ℕ) (same : task_at w t ≡ task_at v t) where
  abbrev IsTask : Task → Type 0
  IsTask x = task_at v t ≡ Some x

  room_alike : (names : ℕ) → Alike IsTask (room_asks v t names) (room_asks w t names)
  room_alike names = on_alike _ _ _ _ _ _ refl same (λ x is. given_alike _ _ _ _ _ _ refl refl (λ room. ok_alike _ x is))

  there_alike : Alike IsTask (on ESRCH (task_at v t) (λ x. Ok x)) (on ESRCH (task_at w t) (λ x. Ok x))
  there_alike = on_alike _ _ _ _ _ _ refl same (λ x is. ok_alike _ x is)

  ending_alike : (o : Outcome) → Alike IsTask (ending_asks v t o) (ending_asks w t o)
  ending_alike (Opens e) = room_alike 1
  ending_alike (Makes s f ids ways) = room_alike 2
  ending_alike (Retries kind name (Some e)) = room_alike 1
  ending_alike (Retries kind name None) = there_alike
  ending_alike (Starts s) = there_alike

module _ (t : ℕ) (flags : OpenFlags) (found : World → Result Outcome Errno) (l : FoundLaws t flags found) where
  abbrev asked : World → Result (Outcome × Task) Errno
  asked w = whole_asks w t (found w)

  -- a call that is answered: what was found, and who called
  record Answered (At Entries : Name → Type 0) (T : IdSets → Type 0) (v : World) (got : Outcome × Task) : Type 0 where
    shown : OutcomeShown At Entries T v flags got.0
    is_task : task_at v t ≡ Some got.1

  asked_alike : {v w : World} {At Near Entries : Name → Type 0} {T P : IdSets → Type 0} → Ground v w At Near Entries T → Begins t v w At Near T → Lends t v w At Near Entries P → Alike (Answered At Entries T v) (asked v) (asked w)
  asked_alike {v} {w} g b k =
      first_alike _ _ _ _ _ _ (l v w _ _ _ _ g b _ k) (λ o is shown.
      first_alike _ _ _ _ _ _ (ending_alike v w t b.task o) (λ x there is_task. ok_alike _ (o, x) (record { shown = shown; is_task = is_task })))

  -- as a set of tasks sees it
  seen_alike : (S : ℕ → Bool) (v w : World) → Agree S v w → S t ≡ true → Alike (Answered (Seen S v) (λ d. Sees S v (BodyOf d)) (Taken S v) v) (asked v) (asked w)
  seen_alike S v w a ours = asked_alike (seen_ground a (Taken S v) (taken_powers S v)) (seen_begins a t ours) (seen_lends a t ours)

  -- in one world, and as all do
  alone : (S : ℕ → Bool) (w : World) → S t ≡ true → Alike (Answered (Seen S w) (λ d. Sees S w (BodyOf d)) (Taken S w) w) (asked w) (asked w)
  alone S w ours = seen_alike S w w (Agree-refl S w) ours

  pub finding_laws : CallLaws t (λ w. finding w t flags (found w)) (λ w. finding_parts w t (found w))
  finding_laws = record {
    piece = λ w s. answered_piece s (asked w) _ _ (λ got is.
        outcome_whole w t got.1 ((alone (λ k. true) w refl).has got is).is_task flags s got.0 ((asked_alike (held_ground w (stands s)) (held_begins w s.coherent t) (held_lends w (stands s) t)).has got is).shown.on (λ S ours. ((alone S w ours).has got is).shown));
    same = λ S v w c d a ours. answered_same _ _ _ _ (seen_alike S v w a ours).same (λ got is. refl);
    plain = λ w. answered_plain (asked w) _ (alone (λ k. true) w refl).plain (λ got is. done_plain (Found (lookup_told got.1 got.0)) refl);
  }
