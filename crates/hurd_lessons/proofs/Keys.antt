-- Things by their keys, as a map.
use Rattle.std.proofs.Common.{◌≡◌, ◌∙◌, ℕ, List, [], ◌∷◌, ◌++◌, Bool, true, false, map, refl, sym, ap, if◌then◌else◌, is_some}
use Rattle.std.proofs.lemmas.List.{map-append}
use Rattle.std.specs.Prelude.{Option, Some, None, bytes_eq}
use Rattle.std.specs.Global.{Vec}
use Rattle.std.specs.Map.{lookup}
use Rattle.indexmap.specs.IndexMap.{IndexMap, get, insert_entry}
use Rattle.indexmap.proofs.CallerLemmas.{insert_entry-new}
use Rattle.hurd_creds.specs.declared.name.Name.{Name}
use Rattle.hurd_lessons.specs.Beside.{keyed, with_key}

-- what is found by a key
pub lookup-keyed : (k : List ℕ) (es : List (Vec ℕ × Name)) → lookup (λ (q : Vec ℕ). bytes_eq k q.items) es ≡ lookup (bytes_eq k) (map keyed es)
lookup-keyed k [] = refl
lookup-keyed k (e ∷ es) = ap (λ (o : Option Name). if bytes_eq k e.0.items then Some e.1 else o) (lookup-keyed k es)

-- a key that is there already
pub key-there : (es : List (List ℕ × Name)) (k : List ℕ) (n : Name) → is_some (lookup (bytes_eq k) es) ≡ true → es ≡ with_key es k n
key-there es k n there = ap (λ (t : Bool). if t then es else es ++ (k, n) ∷ []) (sym there)

-- a new key
pub key-added : {S : Type 0} (m : IndexMap (Vec ℕ) Name S) (es : List (Vec ℕ × Name)) (new : List (Vec ℕ × Name)) (k : Vec ℕ) (n : Name) → m.entries ≡ es
    → is_some (lookup (bytes_eq k.items) (map keyed es)) ≡ false → new ≡ insert_entry (λ x y. bytes_eq x.items y.items) m.entries k n
    → map keyed new ≡ with_key (map keyed es) k.items n
key-added m es new k n same none put =
    let absent : get (λ x y. bytes_eq x.items y.items) m k ≡ None =
    lookup-keyed k.items m.entries ∙ ap (λ (xs : List (Vec ℕ × Name)). lookup (bytes_eq k.items) (map keyed xs)) same ∙ not_some _ none in
    ap (map keyed) (put ∙ insert_entry-new (λ x y. bytes_eq x.items y.items) m k n absent) ∙ map-append keyed m.entries ((k, n) ∷ [])
    ∙ ap (λ (xs : List (Vec ℕ × Name)). map keyed xs ++ (k.items, n) ∷ []) same
    ∙ ap (λ (t : Bool). if t then map keyed es else map keyed es ++ (k.items, n) ∷ []) (sym none)
  where
    not_some : (o : Option Name) → is_some o ≡ false → o ≡ None
    not_some None is = refl
    not_some (Some x) is = absurd (cc)
