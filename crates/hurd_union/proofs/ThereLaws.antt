-- The keys of a set of names.
use Rattle.std.proofs.Common.{◌≡◌, ℕ, Bool, true, false, ◌||◌, List, [], ◌∷◌, ◌++◌, refl, sym, ap, ap₂, ◌∙◌, if◌then◌else◌}
use Rattle.std.proofs.lemmas.List.Folds.{list_any-append}
use Rattle.std.proofs.lemmas.Slice.Eq.{bytes_eq-Decides}
use Rattle.std.specs.Global.{Vec}
use Rattle.std.specs.List.{list_any}
use Rattle.std.specs.Str.{bytes_eq}
use Rattle.indexmap.specs.IndexSet.{insert_key}
use Rattle.hurd_union.specs.Merge.{is_among}
use Rattle.hurd_union.specs.There.{Notes}

-- the names of a key
abbrev is_of : List ℕ → Vec ℕ → Bool
is_of name k = bytes_eq name k.items

or-false : (b : Bool) → b || false ≡ b
or-false true = refl
or-false false = refl

or-absorbed : (a b : Bool) → (b ≡ true → a ≡ true) → a || b ≡ a
or-absorbed true b h = refl
or-absorbed false true h = sym (h refl)
or-absorbed false false h = refl

-- names with one more at the end
is_among-more : (name : List ℕ) (names : List (List ℕ)) (n : List ℕ) → is_among name (names ++ n ∷ []) ≡ is_among name names || bytes_eq name n
is_among-more name names n = list_any-append (bytes_eq name) names (n ∷ []) ∙ ap (λ b. is_among name names || b) (or-false (bytes_eq name n))

-- a key is inserted
pub notes-inserted : (old new : List (Vec ℕ)) (k : Vec ℕ) (name : List ℕ) → k.items ≡ name → new ≡ insert_key (λ x y. bytes_eq x.items y.items) old k → Notes name old new
notes-inserted old new k name is put names tells m = go (list_any (is_of k.items) old) refl
  where
    go : (b : Bool) → list_any (is_of k.items) old ≡ b → list_any (is_of m) new ≡ is_among m (names ++ name ∷ [])
    go true there =
        let same : new ≡ old = put ∙ ap (λ b. if b then old else old ++ k ∷ []) there in
        let here : is_among name names ≡ true = sym (tells name) ∙ ap (λ n. list_any (is_of n) old) (sym is) ∙ there in
        ap (list_any (is_of m)) same ∙ tells m
        ∙ sym (is_among-more m names name ∙ or-absorbed (is_among m names) (bytes_eq m name) (λ e. ap (λ n. is_among n names) ((bytes_eq-Decides m name).0 e) ∙ here))
    go false there =
        let more : new ≡ old ++ k ∷ [] = put ∙ ap (λ b. if b then old else old ++ k ∷ []) there in
        ap (list_any (is_of m)) more ∙ list_any-append (is_of m) old (k ∷ [])
        ∙ ap₂ (λ a b. a || b) (tells m) (or-false (is_of m k) ∙ ap (bytes_eq m) is) ∙ sym (is_among-more m names name)
