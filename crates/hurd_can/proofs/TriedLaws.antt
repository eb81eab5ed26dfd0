-- Scripts that are tried: lines after lines, what is left of them shows what they show, and one script is found.
use Rattle.std.proofs.Common.{◌≡◌, ◌≢◌, ◌∙◌, inl, inr, ℕ, Bool, true, false, true≢false, List, [], ◌∷◌, Result, Ok, Err, refl, sym, ap, subst}
use Rattle.std.specs.Prelude.{◌↔◌, ◌++◌, IfOk, IsTrue, Option, Some, None, is_some}
use Rattle.std.specs.declared.alloc.AllocError.{AllocError}
use Rattle.hurd_creds.specs.declared.errno.Errno.{Errno}
use Rattle.hurd_creds.specs.declared.name.TaskId.{TaskId}
use Rattle.hurd_dialogue.specs.Parts.{Way, world_behind}
use Rattle.hurd_dialogue.specs.Sorts.{Begins, NotBegun, Sort, last_world}
use Rattle.hurd_machine.specs.Sight.{Sees}
use Rattle.hurd_machine.specs.World.{World, nodes_of}
use Rattle.hurd_sight.specs.Looks.{Looks, sees_with}
use Rattle.hurd_sight.specs.Parts.{part_of}
use Rattle.hurd_sight.specs.Reach.{among}
use Rattle.hurd_sight.specs.declared.looks.Sight.{Sight}
use Rattle.hurd_sight.specs.declared.parts.SeenPart.{SeenPart}
use Rattle.hurd_terminal.specs.declared.fault.Fault.{Fault}
use Rattle.hurd_terminal.specs.declared.fault.Fault.TheVariants.{Read, Write, Bad, Unknown, Boot, Memory}
use Rattle.hurd_can.specs.Tried.{FirstTried, Pared, Shows, Tried, with_lines}
use Rattle.hurd_can.proofs.HelpLaws.{append_append, append_none, look_exact}

-- WHETHER A TEXT SHOWS A PART

-- a look is exact
pub looks_exact : (w : World) (who : List TaskId) (v : Sight) (p : SeenPart) (b : Bool) → Looks (among who) w v → b ≡ sees_with (nodes_of w) v p → IsTrue b ↔ Sees (among who) w (part_of p)
looks_exact w who v p b looks is = (λ h. (look_exact w who v looks p).0 (sym is ∙ h), λ s. is ∙ (look_exact w who v looks p).1 s)

-- a text that was begun shows what its last world does
pub begun_shows : (sort : Sort) (who : List TaskId) (p : SeenPart) (text : List ℕ) (way : Way) → Begins sort text way → (r : Result Bool AllocError)
    → IfOk r (λ b. IsTrue b ↔ Sees (among who) (world_behind way.world way.left) (part_of p)) → IfOk r (λ b. IsTrue b ↔ Shows sort who p text)
begun_shows sort who p text way begins (Ok b) is =
    let same : world_behind way.world way.left ≡ last_world sort text = rw (begins.world, begins.left) refl in (
      λ h. record { good = begins.good; boots = begins.boots; sees = subst (λ (w : World). Sees (among who) w (part_of p)) same (is.0 h) },
      λ s. is.1 (subst (λ (w : World). Sees (among who) w (part_of p)) (sym same) s.sees),
    )
begun_shows sort who p text way begins (Err e) is = tt

is_ok : Result (Unit {0}) Errno → Bool
is_ok (Ok u) = true
is_ok (Err e) = false

-- one that wasn't shows nothing, unless that was for lack of memory
none_shown : (sort : Sort) (who : List TaskId) (p : SeenPart) (text : List ℕ) (fault : Fault) → fault ≢ Memory → NotBegun sort text fault → Shows sort who p text → ⊥
unfolding is_ok
none_shown sort who p text Read other not s = absurd not
none_shown sort who p text Write other not s = absurd not
none_shown sort who p text (Bad line) other not s = true≢false (ap is_some (sym not ∙ s.good))
none_shown sort who p text Unknown other not s = absurd not
none_shown sort who p text (Boot e) other not s = true≢false (ap is_ok (sym s.boots ∙ not.1))
none_shown sort who p text Memory other not s = other refl

pub unbegun_shows : (sort : Sort) (who : List TaskId) (p : SeenPart) (text : List ℕ) (fault : Fault) → NotBegun sort text fault → (r : Result Bool AllocError)
    → IfOk r (λ b. (b ≡ false) × (fault ≢ Memory)) → IfOk r (λ b. IsTrue b ↔ Shows sort who p text)
unbegun_shows sort who p text fault not (Ok b) is = (λ h. absurd (true≢false (sym h ∙ is.0)), λ s. absurd (none_shown sort who p text fault is.1 not s))
unbegun_shows sort who p text fault not (Err e) is = tt

-- SCRIPTS

-- lines after lines
pub with_more : (text : List ℕ) (xs ys : List (List ℕ)) → with_lines text (xs ++ ys) ≡ with_lines (with_lines text xs) ys
with_more text [] ys = refl
with_more text (x ∷ xs) ys = with_more ((text ++ x) ++ 10 ∷ []) xs ys

module _ (P : List (List ℕ) → Type 0) where
  -- what is left shows what all of them show
  pared_holds : (kept lines pared : List (List ℕ)) → P (kept ++ lines) → Pared P kept lines pared → P pared
  pared_holds kept [] pared holds is = subst P (sym (append_none kept) ∙ sym is) holds
  pared_holds kept (l ∷ ls) pared holds (inl (shown, more)) = pared_holds kept ls pared shown more
  pared_holds kept (l ∷ ls) pared holds (inr (needed, more)) = pared_holds (kept ++ l ∷ []) ls pared (subst P (sym (append_append kept (l ∷ []) ls)) holds) more

  tried_holds : (lines pared : List (List ℕ)) → Tried P lines (Some pared) → P pared
  tried_holds lines pared (holds, more) = pared_holds [] lines pared holds more

  pared_once : (kept lines xs ys : List (List ℕ)) → Pared P kept lines xs → Pared P kept lines ys → xs ≡ ys
  pared_once kept [] xs ys a b = a ∙ sym b
  pared_once kept (l ∷ ls) xs ys (inl (shown, a)) (inl (too, b)) = pared_once kept ls xs ys a b
  pared_once kept (l ∷ ls) xs ys (inl (shown, a)) (inr (needed, b)) = absurd (needed shown)
  pared_once kept (l ∷ ls) xs ys (inr (needed, a)) (inl (shown, b)) = absurd (needed shown)
  pared_once kept (l ∷ ls) xs ys (inr (needed, a)) (inr (too, b)) = pared_once (kept ++ l ∷ []) ls xs ys a b

  tried_once : (lines : List (List ℕ)) (v w : Option (List (List ℕ))) → Tried P lines v → Tried P lines w → v ≡ w
  tried_once lines None None a b = refl
  tried_once lines None (Some ys) a (holds, more) = absurd (a holds)
  tried_once lines (Some xs) None (holds, more) b = absurd (b holds)
  tried_once lines (Some xs) (Some ys) (h, a) (k, b) = ap (λ (l : List (List ℕ)). Some l) (pared_once [] lines xs ys a b)

  pub first_once : (one other : List (List ℕ)) (v w : Option (List (List ℕ))) → FirstTried P one other v → FirstTried P one other w → v ≡ w
  first_once one other v w (inl (fails, a)) (inl (too, b)) = tried_once other v w a b
  first_once one other v w (inl (fails, a)) (inr (pared, is, (holds, more))) = absurd (fails holds)
  first_once one other v w (inr (pared, is, (holds, more))) (inl (fails, b)) = absurd (fails holds)
  first_once one other v w (inr (pared, is, a)) (inr (left, too, b)) = is ∙ (tried_once one (Some pared) (Some left) a b ∙ sym too)

or_no_lines : Option (List (List ℕ)) → List (List ℕ)
or_no_lines None = []
or_no_lines (Some lines) = lines

-- a script that is found shows it
pub found_shows : (P : List (List ℕ) → Type 0) (one other lines : List (List ℕ)) → FirstTried P one other (Some lines) → P lines
unfolding or_no_lines
found_shows P one other lines (inl (fails, tried)) = tried_holds P other lines tried
found_shows P one other lines (inr (pared, is, tried)) = subst P (ap or_no_lines (sym is)) (tried_holds P one pared tried)
