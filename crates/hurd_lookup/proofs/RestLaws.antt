-- How long what is left of a path is, and how it is put after a text.
use Rattle.std.proofs.Common.{◌≡◌, ◌∙◌, ◌<◌, ◌≤◌, ℕ, suc, ◌+◌, ◌-◌, not, Bool, true, false, List, [], ◌∷◌, ◌++◌, length, nat_le, refl, sym, ap, arith}
use Rattle.std.proofs.lemmas.Bool.Decides.{nat_tests}
use Rattle.std.proofs.lemmas.List.{length-append, append_assoc, append-nil}
use Rattle.std.proofs.lemmas.List.Elements.{filter_passes}
use Rattle.std.specs.List.{All, slice_split}
use Rattle.hurd_creds.specs.Limits.{most_path}
use Rattle.hurd_lookup.specs.Path.{behind_slashes, is_nil, is_slash_byte, names_in, onto, rest_of, slash}
use Rattle.hurd_lookup.specs.Lookup.{is_last}
use Rattle.hurd_lookup.specs.Ends.{ending}

pub behind-none : behind_slashes [] ≡ []
unfolding behind_slashes
behind-none = refl

pub behind-one : (name : List ℕ) (names : List (List ℕ)) → behind_slashes (name ∷ names) ≡ slash ∷ name ++ behind_slashes names
unfolding behind_slashes
behind-one name names = refl

long-one : (name : List ℕ) (names : List (List ℕ)) → length (behind_slashes (name ∷ names)) ≡ suc (length name + length (behind_slashes names))
long-one name names = ap length (behind-one name names) ∙ omega (arith, length-append name (behind_slashes names))

-- what fits into a room

none-fits : (a b room : ℕ) → room ≤ a → nat_le (suc (a + b)) room ≡ false
none-fits a b room h = grind (arith, nat_tests)

same_test : (x y : Bool) → (x ≡ true → y ≡ true) → (y ≡ true → x ≡ true) → x ≡ y
same_test true y f g = sym (f refl)
same_test false true f g = g refl
same_test false false f g = refl

more-fits : (a b room : ℕ) → a < room → nat_le b (room - (a + 1)) ≡ nat_le (suc (a + b)) room
more-fits a b room h = same_test _ _ (λ e. grind (arith, nat_tests)) (λ e. grind (arith, nat_tests))

whole-fits : (t b k : ℕ) → k ≤ 2 → t ≤ most_path - k → nat_le b (most_path - k - t) ≡ nat_le (t + (b + k)) most_path
whole-fits t b k small h = same_test _ _ (λ e. grind (arith, nat_tests)) (λ e. grind (arith, nat_tests))

module _ (path name after : List ℕ) (is : names_in path ≡ name ∷ names_in after) (room : ℕ) where
  here : nat_le (length (behind_slashes (names_in path))) room ≡ nat_le (suc (length name + length (behind_slashes (names_in after)))) room
  here = ap (λ (ns : List (List ℕ)). nat_le (length (behind_slashes ns)) room) is ∙ ap (λ (k : ℕ). nat_le k room) (long-one name (names_in after))

  pub too-long : room ≤ length name → nat_le (length (behind_slashes (names_in path))) room ≡ false
  too-long h = here ∙ none-fits (length name) (length (behind_slashes (names_in after))) room h

  pub shorter : length name < room → nat_le (length (behind_slashes (names_in after))) (room - (length name + 1)) ≡ nat_le (length (behind_slashes (names_in path))) room
  shorter h = more-fits (length name) (length (behind_slashes (names_in after))) room h ∙ sym here

pub at-end : (path : List ℕ) (room : ℕ) → names_in path ≡ [] → nat_le (length (behind_slashes (names_in path))) room ≡ true
at-end path room is =
    ap (λ (ns : List (List ℕ)). nat_le (length (behind_slashes ns)) room) is ∙ ap (λ (bs : List ℕ). nat_le (length bs) room) behind-none ∙ grind (arith, nat_tests)

-- how long a rest after a text is

module _ (bytes : List ℕ) where
  long : (names : List (List ℕ)) (ended : Bool) → All (λ (name : List ℕ). not (is_nil name) ≡ true) names → length (onto bytes (rest_of names ended)) ≡ length bytes + (length (behind_slashes names) + ending (is_last names) ended)
  long [] false f = omega (arith, ap length behind-none)
  long [] true f = omega (arith, ap length behind-none, length-append bytes (slash ∷ slash ∷ []))
  long ([] ∷ ns) ended f = absurd (let no : false ≡ true = f 0 [] (omega arith) in cc)
  long ((b ∷ bs) ∷ ns) false f =
      let rest = (bs ++ behind_slashes ns) ++ [] in
      omega (arith, length-append bytes (slash ∷ b ∷ rest), length-append (bs ++ behind_slashes ns) [], length-append bs (behind_slashes ns), long-one (b ∷ bs) ns)
  long ((b ∷ bs) ∷ ns) true f =
      let rest = (bs ++ behind_slashes ns) ++ slash ∷ [] in
      omega (arith, length-append bytes (slash ∷ b ∷ rest), length-append (bs ++ behind_slashes ns) (slash ∷ []), length-append bs (behind_slashes ns), long-one (b ∷ bs) ns)

  pub onto-long : (path : List ℕ) (ended : Bool)
      → length (onto bytes (rest_of (names_in path) ended)) ≡ length bytes + (length (behind_slashes (names_in path)) + ending (is_last (names_in path)) ended)
  onto-long path ended = long (names_in path) ended (filter_passes _ (slice_split is_slash_byte path))

small : (last ended : Bool) → ending last ended ≤ 2
small last false = omega arith
small false true = omega arith
small true true = omega arith

module _ (bytes path : List ℕ) (ended : Bool) (t : ℕ) (is : length bytes ≡ t) where
  abbrev k : ℕ
  k = ending (is_last (names_in path)) ended

  abbrev b : ℕ
  b = length (behind_slashes (names_in path))

  whole : nat_le (length (onto bytes (rest_of (names_in path) ended))) most_path ≡ nat_le (t + (b + k)) most_path
  whole = ap (λ (n : ℕ). nat_le n most_path) (onto-long bytes path ended ∙ ap (λ (n : ℕ). n + (b + k)) is)

  pub fits-whole : t ≤ most_path - k → nat_le b (most_path - k - t) ≡ nat_le (length (onto bytes (rest_of (names_in path) ended))) most_path
  fits-whole h = whole-fits t b k (small (is_last (names_in path)) ended) h ∙ sym whole

-- names pushed after a text

pub pushed : (text path name after : List ℕ) → names_in path ≡ name ∷ names_in after → text ++ slash ∷ [] ++ name ++ behind_slashes (names_in after) ≡ text ++ behind_slashes (names_in path)
pushed text path name after is =
    append_assoc (text ++ slash ∷ []) name (behind_slashes (names_in after)) ∙ append_assoc text (slash ∷ []) (name ++ behind_slashes (names_in after))
    ∙ ap (λ (bs : List ℕ). text ++ bs) (sym (behind-one name (names_in after)) ∙ ap behind_slashes (sym is))

pub pushed-all : (text path : List ℕ) → names_in path ≡ [] → text ++ behind_slashes (names_in path) ≡ text
pushed-all text path is = ap (λ (ns : List (List ℕ)). text ++ behind_slashes ns) is ∙ ap (λ (bs : List ℕ). text ++ bs) behind-none ∙ append-nil text
