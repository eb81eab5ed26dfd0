-- Who saw a part before, one task and one world after another.
use Rattle.std.proofs.Common.{◌≡◌, ◌⊎◌, inl, inr, ℕ, ◌+◌, ◌<◌, add-one, true, List, [], ◌∷◌, Result, Ok, Err, length, get_or, refl, sym, ap, subst, ◌∙◌}
use Rattle.std.specs.Prelude.{OnOk, ◌++◌, take}
use Rattle.std.specs.declared.alloc.AllocError.{AllocError}
use Rattle.hurd_creds.specs.declared.name.TaskId.{TaskId}
use Rattle.hurd_machine.specs.World.{IsAmong, World}
use Rattle.hurd_sight.specs.Reach.{among}
use Rattle.hurd_sight.specs.declared.parts.SeenPart.{SeenPart}
use Rattle.hurd_sight.specs.declared.parts.SeenPart.TheVariants as seen
use Rattle.hurd_views.specs.Views.{Views, row_at}
use Rattle.hurd_views.specs.declared.view.View.{View}
use Rattle.hurd_views.proofs.OneView.{views_are_one}
use Rattle.hurd_can.specs.Help.{Help}
use Rattle.hurd_can.specs.Recalling.{NotesIf}
use Rattle.hurd_can.specs.Remembered.{Each, Remembers, SawAs, SawBefore, SawIn, row_of}
use Rattle.hurd_can.proofs.EachLaws.{each_as, each_next, each_same}
use Rattle.hurd_can.proofs.HelpLaws.{take_more, place_or}
use Rattle.hurd_can.proofs.PickLaws.{among_append}

-- two views with the same rows show a part alike
pub same_rows : (a b : View) → a.rows ≡ b.rows → (p : SeenPart) → row_of a p ≡ row_of b p
same_rows a b same (seen.Attributes n) = ap (λ es. row_at es n) same
same_rows a b same (seen.Empty n) = ap (λ es. row_at es n) same
same_rows a b same (seen.Body n) = ap (λ es. row_at es n) same
same_rows a b same (seen.Ends n) = ap (λ es. row_at es n) same
same_rows a b same (seen.Open n) = ap (λ es. row_at es n) same
same_rows a b same (seen.Options n) = ap (λ es. row_at es n) same
same_rows a b same (seen.Text n) = ap (λ es. row_at es n) same
same_rows a b same (seen.Users n) = ap (λ es. row_at es n) same
same_rows a b same (seen.Total n) = ap (λ es. row_at es n) same
same_rows a b same (seen.Task t) = refl

-- one view of a task tells whether it saw a part
pub saw_by : (w : World) (d : TaskId) (v last : View) → Views (d ∷ []) w v → (p : SeenPart) → SawIn w last d p → SawAs v last p
saw_by w d v last views p (u, of, saw) = rw (same_rows v u (views_are_one (d ∷ []) w v u views of).rows p) saw

module _ (last : View) where
  -- one task, in one world
  pub noted : (w : World) (d : TaskId) (v : View) → Views (d ∷ []) w v → (old new : Help) → NotesIf (SawAs v last old.part) d old new → Remembers (w ∷ []) last (d ∷ []) old new
  noted w d v views old new n = record {
    part = n.part;
    ones = n.ones;
    twos = n.twos;
    before = λ e. (λ h. to e ((n.before e).0 h), λ k. (n.before e).1 (from e k));
  }
    where
      to : (e : TaskId) → (among old.before e.0 ≡ true) ⊎ ((d ≡ e) × SawAs v last old.part) → (among old.before e.0 ≡ true) ⊎ SawBefore (w ∷ []) last (d ∷ []) old.part e
      to e (inl h) = inl h
      to e (inr (same, saw)) = inr (inl same, w, inl refl, (v, subst (λ (t : TaskId). Views (t ∷ []) w v) same views, saw))

      from : (e : TaskId) → (among old.before e.0 ≡ true) ⊎ SawBefore (w ∷ []) last (d ∷ []) old.part e → (among old.before e.0 ≡ true) ⊎ ((d ≡ e) × SawAs v last old.part)
      from e (inl h) = inl h
      from e (inr (inl same, x, inl is, saw)) =
          inr (same, saw_by w d v last views old.part (subst (λ (t : TaskId). SawIn w last t old.part) (sym same) (subst (λ (y : World). SawIn y last e old.part) (sym is) saw)))
      from e (inr (inl same, x, inr none, saw)) = absurd none
      from e (inr (inr none, x, at, saw)) = absurd none

  -- nobody, or in no world
  pub nobody : (ws : List World) (h : Help) → Remembers ws last [] h h
  nobody ws h = record { part = refl; ones = refl; twos = refl; before = λ e. (λ k. inl k, λ k. elim k [ inl is ↦ is | inr none ↦ absurd none.0 ]) }

  pub nowhere : (ds : List TaskId) (h : Help) → Remembers [] last ds h h
  nowhere ds h = record { part = refl; ones = refl; twos = refl; before = λ e. (λ k. inl k, λ k. elim k [ inl is ↦ is | inr none ↦ absurd none.2 ]) }

  among_left : {X : Type 0} (x : X) (xs ys : List X) → IsAmong x xs → IsAmong x (xs ++ ys)
  among_left x [] ys i = absurd i
  among_left x (z ∷ xs) ys (inl same) = inl same
  among_left x (z ∷ xs) ys (inr i) = inr (among_left x xs ys i)

  among_right : {X : Type 0} (x : X) (xs ys : List X) → IsAmong x ys → IsAmong x (xs ++ ys)
  among_right x [] ys i = i
  among_right x (z ∷ xs) ys i = inr (among_right x xs ys i)

  -- more tasks, in the same worlds
  pub more_tasks : (ws : List World) (ds es : List TaskId) (x y z : Help) → Remembers ws last ds x y → Remembers ws last es y z → Remembers ws last (ds ++ es) x z
  more_tasks ws ds es x y z a b = record {
    part = b.part ∙ a.part;
    ones = b.ones ∙ a.ones;
    twos = b.twos ∙ a.twos;
    before = λ d. (λ h. to d ((b.before d).0 h), λ k. (b.before d).1 (from d k));
  }
    where
      moved : (d : TaskId) → SawBefore ws last es y.part d → SawBefore ws last (ds ++ es) x.part d
      moved d (i, w, at, saw) = (among_right d ds es i, w, at, subst (SawIn w last d) a.part saw)

      to : (d : TaskId) → (among y.before d.0 ≡ true) ⊎ SawBefore ws last es y.part d → (among x.before d.0 ≡ true) ⊎ SawBefore ws last (ds ++ es) x.part d
      to d (inr saw) = inr (moved d saw)
      to d (inl h) = elim ((a.before d).0 h) [ inl k ↦ inl k | inr saw ↦ inr (among_left d ds es saw.0, saw.1, saw.2, saw.3) ]

      from : (d : TaskId) → (among x.before d.0 ≡ true) ⊎ SawBefore ws last (ds ++ es) x.part d → (among y.before d.0 ≡ true) ⊎ SawBefore ws last es y.part d
      from d (inl h) = inl ((a.before d).1 (inl h))
      from d (inr (i, w, at, saw)) = elim (among_append d ds es i) [
        | inl here ↦ inl ((a.before d).1 (inr (here, w, at, saw)))
        | inr there ↦ inr (there, w, at, subst (SawIn w last d) (sym a.part) saw)
      ]

  -- more worlds, with the same tasks
  pub more_worlds : (vs ws : List World) (ds : List TaskId) (x y z : Help) → Remembers vs last ds x y → Remembers ws last ds y z → Remembers (vs ++ ws) last ds x z
  more_worlds vs ws ds x y z a b = record {
    part = b.part ∙ a.part;
    ones = b.ones ∙ a.ones;
    twos = b.twos ∙ a.twos;
    before = λ d. (λ h. to d ((b.before d).0 h), λ k. (b.before d).1 (from d k));
  }
    where
      to : (d : TaskId) → (among y.before d.0 ≡ true) ⊎ SawBefore ws last ds y.part d → (among x.before d.0 ≡ true) ⊎ SawBefore (vs ++ ws) last ds x.part d
      to d (inr (i, w, at, saw)) = inr (i, w, among_right w vs ws at, subst (SawIn w last d) a.part saw)
      to d (inl h) = elim ((a.before d).0 h) [ inl k ↦ inl k | inr saw ↦ inr (saw.0, saw.1, among_left saw.1 vs ws saw.2, saw.3) ]

      from : (d : TaskId) → (among x.before d.0 ≡ true) ⊎ SawBefore (vs ++ ws) last ds x.part d → (among y.before d.0 ≡ true) ⊎ SawBefore ws last ds y.part d
      from d (inl h) = inl ((a.before d).1 (inl h))
      from d (inr (i, w, at, saw)) = elim (among_append w vs ws at) [
        | inl here ↦ inl ((a.before d).1 (inr (i, w, here, saw)))
        | inr there ↦ inr (i, w, there, subst (SawIn w last d) (sym a.part) saw)
      ]

  -- one task more was asked
  pub task_more : (w : World) (tasks : List TaskId) (i : ℕ) (d : TaskId) (old mid new : List Help) → i < length tasks → Each (Remembers (w ∷ []) last (take i tasks)) old mid
      → Each (Remembers (w ∷ []) last (get_or tasks i d ∷ [])) mid new → Each (Remembers (w ∷ []) last (take (i + 1) tasks)) old new
  task_more w tasks i d old mid new lt a b =
      rw (add-one, take_more tasks i (get_or tasks i d) (place_or tasks i d lt))
      (each_next _ _ _ (more_tasks (w ∷ []) (take i tasks) (get_or tasks i d ∷ [])) old mid new a b)

  -- the views of one task were noted
  pub one_noted : (w : World) (d : TaskId) (v : View) (old new : List Help) (r : Result (Unit {0}) AllocError) → Views (d ∷ []) w v
      → OnOk r (Each (λ (x y : Help). NotesIf (SawAs v last x.part) d x y) old new) → OnOk r (Each (Remembers (w ∷ []) last (d ∷ [])) old new)
  one_noted w d v old new (Ok u) views each = each_as _ _ (noted w d v views) old new each
  one_noted w d v old new (Err e) views each = tt

  pub none_asked : (w : World) (old : List Help) → Each (Remembers (w ∷ []) last []) old old
  none_asked w old = each_same _ (nobody (w ∷ [])) old
