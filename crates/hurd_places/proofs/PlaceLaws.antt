-- The way by which a node was found.
use Rattle.std.proofs.Common.{◌≡◌, ◌∙◌, refl, sym, ap, ℕ, zero, suc, ◌+◌, ◌<◌, ◌≤◌, Bool, false, List, [], ◌∷◌, ◌++◌, Option, Some, None, if◌then◌else◌, drop, get_or, length, arith}
use Rattle.std.specs.Prelude.{option_and_then, slice_get}
use Rattle.std.specs.Option.{option_or}
use Rattle.std.proofs.lemmas.List.{append_assoc, append-nil, drop_all, drop_more}
use Rattle.std.proofs.lemmas.Option.{get_or_from_slice_get, slice_get_within}
use Rattle.hurd_creds.specs.declared.name.Name.{Name}
use Rattle.hurd_creds.specs.declared.name.TaskId.{TaskId}
use Rattle.hurd_creds.specs.Names.{same_name}
use Rattle.hurd_ports.specs.Tables.{Task}
use Rattle.hurd_sight.specs.Found.{found_from, why_of}
use Rattle.hurd_sight.specs.declared.found.Why.{Why}
use Rattle.hurd_sight.specs.declared.found.Why.TheVariants as why
use Rattle.hurd_views.specs.declared.view.View.{View}
use Rattle.hurd_places.specs.Places.{beside_task, beside_tasks, count_to, is_alike, label_of_task, label_of_tasks, level_along, level_by, path_along, step_by, way_to}
use Rattle.hurd_places.specs.declared.labels.Label.{Label}
use Rattle.hurd_places.specs.declared.labels.Wanted.{Wanted}

no_way : (k : ℕ) (es : List (Name × Why)) → way_to k es None ≡ []
no_way zero es = refl
no_way (suc k) es = refl

-- a way that goes on from nowhere is at its end
pub way_ends : (k : ℕ) (es : List (Name × Why)) (way all : List Name) → way ++ way_to k es None ≡ all → way ≡ all
way_ends k es way all is = sym (append-nil way) ∙ (sym (ap (λ (ns : List Name). way ++ ns) (no_way k es)) ∙ is)

past : (i k : ℕ) → i < k → i + 0 ≡ k → ⊥
past i k below is = omega arith

next : (i j k : ℕ) → i + suc j ≡ k → i + 1 + j ≡ k
next i j k is = omega arith

-- a way goes on from a node
pub way_goes : (k len i : ℕ) (es : List (Name × Why)) (n : Name) (way more all : List Name) → i < len → i + k ≡ len → way ++ way_to k es (Some n) ≡ all → more ≡ way ++ n ∷ []
    → (j : ℕ) × (i + 1 + j ≡ len) × (more ++ way_to j es (option_and_then found_from (why_of n es)) ≡ all)
way_goes zero len i es n way more all below is so grown = absurd (past i len below is)
way_goes (suc k) len i es n way more all below is so grown =
    (k, next i k len is, ap (λ (ns : List Name). ns ++ way_to k es (option_and_then found_from (why_of n es))) grown ∙ (append_assoc way (n ∷ []) _ ∙ so))

-- lists that are gone over by an index

pub here : {X : Type 0} (xs : List X) (i : ℕ) (x : X) → slice_get xs i ≡ Some x → drop i xs ≡ x ∷ drop (i + 1) xs
here xs i x is = drop_more xs i x (slice_get_within xs i x is) ∙ ap (λ (y : _). y ∷ drop (i + 1) xs) (get_or_from_slice_get xs i x x is)

-- a count goes on

pub count_goes : (y : Why) (n : Name) (es : List (Name × Why)) (i : ℕ) (e : Name × Why) (count more all : ℕ) → slice_get es i ≡ Some e → same_name n e.0 ≡ false
    → more ≡ (if is_alike y e.1 then 1 else 0) → count + count_to y n (drop i es) ≡ all → count + more + count_to y n (drop (i + 1) es) ≡ all
count_goes y n es i e count more all at is adds so_far =
    let step = ap (count_to y n) (here es i e at) ∙ ap (λ (t : Bool). (if is_alike y e.1 then 1 else 0) + (if t then 0 else count_to y n (drop (i + 1) es))) is in
    omega (arith, step, adds, so_far)

-- a path goes on along a way

level_by_most : (y : Option Why) (k : ℕ) → level_by y k ≤ suc k
level_by_most (Some (why.Active d)) k = omega arith
level_by_most _ k = omega arith

pub level_most : (v : View) (ns : List Name) → level_along v ns ≤ length ns
level_most v [] = omega arith
level_most v (n ∷ ns) = let here = level_by_most (why_of n v.sight.found) (level_along v ns) in let rest = level_most v ns in omega (arith, here, rest)

pub path_goes : (v : View) (n : Name) (ns : List Name) (path : List ℕ) (k : ℕ) (y : Option Why) → path ≡ path_along v ns → k ≡ level_along v ns → y ≡ why_of n v.sight.found
    → step_by v n path k y ≡ path_along v (n ∷ ns)
path_goes v n ns path k y is_path is_level is_why =
    ap (λ (p : List ℕ). step_by v n p k y) is_path
    ∙ (ap (λ (j : ℕ). step_by v n (path_along v ns) j y) is_level ∙ ap (λ (z : Option Why). step_by v n (path_along v ns) (level_along v ns) z) is_why)

pub level_goes : (v : View) (n : Name) (ns : List Name) (k : ℕ) (y : Option Why) → k ≡ level_along v ns → y ≡ why_of n v.sight.found → level_by y k ≡ level_along v (n ∷ ns)
level_goes v n ns k y is_level is_why = ap (λ (j : ℕ). level_by y j) is_level ∙ ap (λ (z : Option Why). level_by z (level_along v ns)) is_why

-- tasks and what they have, gone over together

ended : (w : Wanted) (ts : List TaskId) → label_of_tasks w ts [] ≡ None
ended w [] = refl
ended w (t ∷ ts) = refl

pub labels_past : (w : Wanted) (ts : List TaskId) (xs : List (Option Task)) (i : ℕ) → length xs ≤ i → label_of_tasks w (drop i ts) (drop i xs) ≡ None
labels_past w ts xs i past = ap (λ (ys : List (Option Task)). label_of_tasks w (drop i ts) ys) (drop_all i xs past) ∙ ended w (drop i ts)

pub labels_here : (w : Wanted) (ts : List TaskId) (xs : List (Option Task)) (i : ℕ) (d : TaskId) (x : Option Task) (o : Option Label) → i < length ts → i < length xs → x ≡ get_or xs i x
    → o ≡ label_of_task w (get_or ts i d) x → option_or o (label_of_tasks w (drop (i + 1) ts) (drop (i + 1) xs)) ≡ label_of_tasks w (drop i ts) (drop i xs)
labels_here w ts xs i d x o in_ts in_xs is label =
    ap (λ (p : Option Label). option_or p (label_of_tasks w (drop (i + 1) ts) (drop (i + 1) xs))) label
    ∙ sym
    (ap (λ (us : List TaskId). label_of_tasks w us (drop i xs)) (drop_more ts i d in_ts)
    ∙ ap (λ (ys : List (Option Task)). label_of_tasks w (get_or ts i d ∷ drop (i + 1) ts) ys) (drop_more xs i x in_xs ∙ ap (λ (y : Option Task). y ∷ drop (i + 1) xs) (sym is)))

beside_ended : (many : Bool) (n : Name) (ts : List TaskId) → beside_tasks many n ts [] ≡ []
beside_ended many n [] = refl
beside_ended many n (t ∷ ts) = refl

pub beside_past : (many : Bool) (n : Name) (ts : List TaskId) (xs : List (Option Task)) (i : ℕ) (text all : List ℕ) → length xs ≤ i → text ++ beside_tasks many n (drop i ts) (drop i xs) ≡ all
    → text ≡ all
beside_past many n ts xs i text all past so_far =
    sym (append-nil text)
    ∙ (ap (λ (t : List ℕ). text ++ t) (sym (ap (λ (ys : List (Option Task)). beside_tasks many n (drop i ts) ys) (drop_all i xs past) ∙ beside_ended many n (drop i ts))) ∙ so_far)

pub beside_here : (many : Bool) (n : Name) (ts : List TaskId) (xs : List (Option Task)) (i : ℕ) (d : TaskId) (x : Option Task) (text more all : List ℕ) → i < length ts → i < length xs
    → x ≡ get_or xs i x → more ≡ text ++ beside_task many (get_or ts i d) n x → text ++ beside_tasks many n (drop i ts) (drop i xs) ≡ all
    → more ++ beside_tasks many n (drop (i + 1) ts) (drop (i + 1) xs) ≡ all
beside_here many n ts xs i d x text more all in_ts in_xs is grown so_far =
    let step = ap (λ (us : List TaskId). beside_tasks many n us (drop i xs)) (drop_more ts i d in_ts)
    ∙ ap (λ (ys : List (Option Task)). beside_tasks many n (get_or ts i d ∷ drop (i + 1) ts) ys) (drop_more xs i x in_xs ∙ ap (λ (y : Option Task). y ∷ drop (i + 1) xs) (sym is)) in
    ap (λ (t : List ℕ). t ++ beside_tasks many n (drop (i + 1) ts) (drop (i + 1) xs)) grown
    ∙ (append_assoc text (beside_task many (get_or ts i d) n x) (beside_tasks many n (drop (i + 1) ts) (drop (i + 1) xs)) ∙ (ap (λ (t : List ℕ). text ++ t) (sym step) ∙ so_far))
