-- Tasks and what they have, gone over together.
use Rattle.std.proofs.Common.{◌≡◌, ◌∙◌, sym, ap, ℕ, ◌+◌, ◌<◌, ◌≤◌, List, [], ◌∷◌, ◌++◌, append_assoc, append-nil, drop, get_or, length, Option}
use Rattle.std.proofs.lemmas.List.{at_drop_all, at_drop_more}
use Rattle.hurd_creds.specs.declared.name.TaskId.{TaskId}
use Rattle.hurd_ports.specs.Tables.{Task}

-- what is told of one, and of all of them
module _ (one : TaskId → Option Task → List ℕ) (told : List TaskId → List (Option Task) → List ℕ) where
  none_left : (ts : List TaskId) → told [] [] ≡ [] → ((t : TaskId) (us : List TaskId) → told (t ∷ us) [] ≡ []) → told ts [] ≡ []
  none_left [] none no_row = none
  none_left (t ∷ ts) none no_row = no_row t ts

  -- no task is left
  pub seats_past : told [] [] ≡ [] → ((t : TaskId) (us : List TaskId) → told (t ∷ us) [] ≡ []) → (ts : List TaskId) (xs : List (Option Task)) (i : ℕ) (text all : List ℕ) → length xs ≤ i
      → text ++ told (drop i ts) (drop i xs) ≡ all → text ≡ all
  seats_past none no_row ts xs i text all past so_far =
      sym (append-nil text) ∙ (ap (λ (t : List ℕ). text ++ t) (sym (at_drop_all (told (drop i ts)) xs i past ∙ none_left (drop i ts) none no_row)) ∙ so_far)

  -- the next one was told
  pub seats_here : ((t : TaskId) (x : Option Task) (ts : List TaskId) (xs : List (Option Task)) → told (t ∷ ts) (x ∷ xs) ≡ one t x ++ told ts xs)
      → (ts : List TaskId) (xs : List (Option Task)) (i : ℕ) (d : TaskId) (x : Option Task) (text more all : List ℕ) → i < length ts → i < length xs
      → x ≡ get_or xs i x → more ≡ text ++ one (get_or ts i d) x → text ++ told (drop i ts) (drop i xs) ≡ all
      → more ++ told (drop (i + 1) ts) (drop (i + 1) xs) ≡ all
  seats_here next ts xs i d x text more all in_ts in_xs is grown so_far =
      let t = get_or ts i d in
      let us = drop (i + 1) ts in
      let ys = drop (i + 1) xs in
      let step = at_drop_more (λ (vs : List TaskId). told vs (drop i xs)) ts i d in_ts ∙ (at_drop_more (told (t ∷ us)) xs i x in_xs
      ∙ (ap (λ (y : Option Task). told (t ∷ us) (y ∷ ys)) (sym is) ∙ next t x us ys)) in
      ap (λ (new : List ℕ). new ++ told us ys) grown ∙ (append_assoc text (one t x) (told us ys) ∙ (ap (λ (new : List ℕ). text ++ new) (sym step) ∙ so_far))
