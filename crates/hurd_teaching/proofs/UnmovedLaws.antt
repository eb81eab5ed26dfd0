-- What some tasks see where none of the parts that were touched was seen.
use Rattle.std.proofs.Common.{◌≡◌, ◌∙◌, inl, inr, sym, ap, subst, ℕ, Bool, true, false, true≢false, List, [], ◌∷◌, map, Option, Some}
use Rattle.std.specs.List.{list_any}
use Rattle.std.proofs.lemmas.Bool.{not-true, or_parts}
use Rattle.hurd_creds.specs.declared.name.TaskId.{TaskId}
use Rattle.hurd_machine.specs.World.{World, IsAmong}
use Rattle.hurd_machine.specs.Sight.{Part, SameView}
use Rattle.hurd_machine.specs.Sight as sight
use Rattle.hurd_machine.specs.Sound.{Sound}
use Rattle.hurd_sight.specs.Parts.{part_of}
use Rattle.hurd_sight.specs.Reach.{among}
use Rattle.hurd_sight.specs.declared.parts.SeenPart.{SeenPart}
use Rattle.hurd_touches.specs.Touched.{IsNoted, listed}
use Rattle.hurd_touches.specs.declared.noted.Noted.{Noted}
use Rattle.hurd_touches.specs.declared.noted.Noted.TheVariants.{All, These}
use Rattle.hurd_touches.proofs.UnnoticedLaws.{noted_nothing}
use Rattle.hurd_world.specs.Noting.{NotesWhatIsTouched}
use Rattle.hurd_views.specs.Views.{Views, tells_in}
use Rattle.hurd_views.specs.declared.view.View.{View}
use Rattle.hurd_views.proofs.StayLaws.{views_stay}
use Rattle.hurd_views.proofs.TellLaws.{views_tell_parts}
use Rattle.hurd_lessons.proofs.NothingLaws.{nothing_between}
use Rattle.hurd_teaching.specs.Telling.{SaysOf}
use Rattle.hurd_teaching.specs.Watched.{LearnedSince, Learns, Sees, misses}

-- of parts that a view doesn't tell none is seen
none_seen : (tasks : List TaskId) (w : World) (v : View) (parts : List SeenPart) → Views tasks w v → list_any (tells_in v) parts ≡ false
    → (p : Part) → IsAmong p (map part_of parts) → sight.Sees (among tasks) w p → ⊥
none_seen tasks w v [] views none p at sees = at
none_seen tasks w v (q ∷ qs) views none p (inl same) sees =
    let told : tells_in v q ≡ true = (views_tell_parts tasks w v q views).1 (subst (sight.Sees (among tasks) w) (sym same) sees) in
    absurd (true≢false (sym told ∙ (or_parts (tells_in v q) (list_any (tells_in v) qs) none).0))
none_seen tasks w v (q ∷ qs) views none p (inr later) sees = none_seen tasks w v qs views (or_parts (tells_in v q) (list_any (tells_in v) qs) none).1 p later sees

missed : (tasks : List TaskId) (w : World) (v : View) (noted : Noted) → Views tasks w v → misses (listed noted) (Some v) ≡ true → (p : Part) → IsNoted noted p → sight.Sees (among tasks) w p → ⊥
missed tasks w v All views is p at sees = absurd (true≢false (sym is))
missed tasks w v (These parts) views is p at sees = none_seen tasks w v parts views (not-true (list_any (tells_in v) parts) is) p at sees

-- what some tasks saw is what they see, where nothing of it was touched
pub still_sees : (tasks : List TaskId) (w x : World) (start noted : Noted) (seen : Option View) → Sound w → NotesWhatIsTouched (record { world = w; noted = start }) (record { world = x; noted = noted })
    → Sees tasks w seen → misses (listed noted) seen ≡ true → Sees tasks x seen
still_sees tasks w x start noted seen sound stays (v, same, views) is =
    let here : misses (listed noted) (Some v) ≡ true = sym (ap (misses (listed noted)) same) ∙ is in
    let view : SameView (among tasks) w x = stays.unnoticed w sound (noted_nothing start w) (among tasks) (missed tasks w v noted views here) in
    (v, same, views_stay tasks w x v sound (stays.sound sound) view views)

-- and nothing is learned
unmoved_learns : (tasks : List TaskId) (who : List ℕ) (x : World) (seen : Option View) → Sees tasks x seen → Learns tasks who x seen seen []
unfolding LearnedSince
unmoved_learns tasks who x seen (v, same, views) = record { view = v; kept = same; sees = views; learned = rw same (nothing_between who v) }

-- so nothing is said
pub unmoved_says : (tasks : List TaskId) (who : List ℕ) (x : World) (seen : Option View) (quiet : Bool) (text : List ℕ) → quiet ≡ false → Sees tasks x seen → text ≡ [] → SaysOf tasks who quiet x seen seen text
unmoved_says tasks who x seen quiet text loud sees none = rw (loud, none) (unmoved_learns tasks who x seen sees)
