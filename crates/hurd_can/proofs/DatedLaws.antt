-- Since which command a part is as it is: one world after another, and that there is one such command.
use Rattle.std.proofs.Common.{◌≡◌, ◌∙◌, ℕ, ◌+◌, Bool, true, List, [], ◌∷◌, Result, map, refl, sym, subst}
use Rattle.std.specs.Prelude.{◌↔◌, IfOk, IsTrue, Option, Some, None}
use Rattle.std.specs.declared.alloc.AllocError.{AllocError}
use Rattle.hurd_creds.specs.declared.name.TaskId.{TaskId}
use Rattle.hurd_dialogue.specs.Parts.{Goes, Part, Way}
use Rattle.hurd_dialogue.specs.Sorts.{Begins, Sort}
use Rattle.hurd_machine.specs.World.{World}
use Rattle.hurd_nodes.proofs.PartLaws.{same_bool}
use Rattle.hurd_sight.specs.declared.parts.SeenPart.{SeenPart}
use Rattle.hurd_teaching.proofs.PictureLaws.{said_so}
use Rattle.hurd_views.specs.Views.{Views}
use Rattle.hurd_views.specs.declared.rows.Row.{Row}
use Rattle.hurd_views.specs.declared.view.View.{View}
use Rattle.hurd_views.proofs.OneView.{views_are_one}
use Rattle.hurd_words.specs.declared.answers.Answer.{Answer}
use Rattle.hurd_can.specs.Dated.{SeenAs, Since, SinceIn, since_then, worlds_from}
use Rattle.hurd_can.specs.Remembered.{SawAs, row_of}
use Rattle.hurd_can.proofs.RecallLaws.{same_rows}

-- one view of these tasks tells whether they see a part so
pub seen_by : (w : World) (tasks : List TaskId) (v last : View) (p : SeenPart) (b : Bool) → Views tasks w v → (IsTrue b ↔ SawAs v last p) → IsTrue b ↔ SeenAs (row_of last p) tasks p w
seen_by w tasks v last p b views is = (
  λ h. (v, views, is.0 h),
  λ (u, of, saw). is.1 (rw (same_rows v u (views_are_one tasks w v u views of).rows p) saw),
)

module _ (r : Row) (tasks : List TaskId) (p : SeenPart) where
  -- on the way: what the worlds that are left will say, after what was found so far, is what all worlds say
  abbrev pub Left : Way → Way → Option ℕ → Type 0
  Left start here since =
      (end : Option ℕ) → Since r tasks p (map (λ (q : Part). q.world) here.left) (here.told + 1) since end → Since r tasks p (worlds_from start.world start.left) start.told None end

  -- the first world was looked at
  pub left_first : (start : Way) (alike : Bool) → (IsTrue alike ↔ SeenAs r tasks p start.world) → Left start start (since_then alike None start.told)
  left_first start alike is end rest = (alike, is, rest)

  -- and the world after one more part
  pub left_next : (start before here : Way) (answer : Answer) (alike : Bool) (since : Option ℕ) → Goes before (Some answer) here → (IsTrue alike ↔ SeenAs r tasks p here.world)
      → Left start before since → Left start here (since_then alike since here.told)
  left_next start before here answer alike since goes is left end rest =
      left end (subst (λ (qs : List Part). Since r tasks p (map (λ (q : Part). q.world) qs) (before.told + 1) since end) (sym goes.1)
      (alike, is, subst (λ (n : ℕ). Since r tasks p (map (λ (q : Part). q.world) here.left) (n + 1) (since_then alike since n) end) goes.2 rest))

  -- all were looked at
  pub left_none : (start here : Way) (since : Option ℕ) → here.left ≡ [] → Left start here since → Since r tasks p (worlds_from start.world start.left) start.told None since
  left_none start here since none left = left since (subst (λ (qs : List Part). Since r tasks p (map (λ (q : Part). q.world) qs) (here.told + 1) since since) (sym none) refl)

  -- there is one such command
  pub since_once : (ws : List World) (told : ℕ) (since x y : Option ℕ) → Since r tasks p ws told since x → Since r tasks p ws told since y → x ≡ y
  since_once [] told since x y a b = a ∙ sym b
  since_once (w ∷ ws) told since x y (b, is, rest) (c, too, more) =
      let same = same_bool b c (λ k. too.1 (is.0 k)) (λ k. is.1 (too.0 k)) in
      since_once ws (told + 1) (since_then c since told) x y (subst (λ (t : Bool). Since r tasks p ws (told + 1) (since_then t since told) x) same rest) more

  -- from the beginning of a text on, it is what is said of the text
  pub begun_since : (sort : Sort) (text : List ℕ) (way : Way) → Begins sort text way → (found : Result (Option ℕ) AllocError)
      → IfOk found (λ since. Since r tasks p (worlds_from way.world way.left) way.told None since) → IfOk found (λ since. SinceIn sort text r tasks p since)
  begun_since sort text way begins found is =
      said_so _ _ found (λ since h. let there = rw (begins.world, begins.left, begins.told) at h in there) is
