-- The pairs of two views as the code keeps them.
use Rattle.std.proofs.Common.{◌≡◌, ◌∙◌, ℕ, zero, suc, Bool, true, false, true≢false, List, [], ◌∷◌, ◌++◌, map, cond, Some, None, refl, sym, ap}
use Rattle.std.specs.Prelude.{◌||◌, if◌then◌else◌, slice_get}
use Rattle.std.specs.Map.{lookup}
use Rattle.indexmap.specs.IndexMap.{insert_entry}
use Rattle.hurd_creds.proofs.NameLaws.{equal_if_same, same_name-itself}
use Rattle.hurd_machine.proofs.Common.{Name, same_name}
use Rattle.hurd_machine.specs.Renamed.{OtherNames}
use Rattle.hurd_sight.specs.Parts.{is_in}
use Rattle.hurd_looks.specs.Pairings.{Agrees, AreApart, FromBoot, HaveOneMaker, IsOneToOne, KeepOwn, Pairing}
unfoldable use Rattle.hurd_looks.specs.Pairings.{PairsFor}
use Rattle.hurd_looks.proofs.MeetLaws.{agrees_more, found_says, taken_says}

abbrev pub firsts : Pairing → List Name
firsts ps = map (λ (p : Name × Name). p.0) ps

abbrev pub seconds : Pairing → List Name
seconds ps = map (λ (p : Name × Name). p.1) ps

-- one pair more, under a name that is new

pub put_last : (ps : Pairing) (n m : Name) → lookup (same_name n) ps ≡ None → insert_entry same_name ps n m ≡ ps ++ (n, m) ∷ []
put_last [] n m none = refl
put_last (p ∷ ps) n m none = go (same_name n p.0) refl (put_last ps n m)
  where
    go : (b : Bool) → same_name n p.0 ≡ b → (lookup (same_name n) ps ≡ None → insert_entry same_name ps n m ≡ ps ++ (n, m) ∷ []) → insert_entry same_name (p ∷ ps) n m ≡ (p ∷ ps) ++ (n, m) ∷ []
    go true same rest = let found : Some p.1 ≡ None = sym (ap (λ (d : Bool). cond d (Some p.1) (lookup (same_name n) ps)) same) ∙ none in absurd (cc)
    go false same rest =
        rw same (ap (λ (qs : Pairing). p ∷ qs) (rest (sym (ap (λ (d : Bool). cond d (Some p.1) (lookup (same_name n) ps)) same) ∙ none)))

mapped_last : {A B : Type 0} (g : A → B) (xs : List A) (y : A) → map g (xs ++ y ∷ []) ≡ map g xs ++ g y ∷ []
mapped_last g [] y = refl
mapped_last g (x ∷ xs) y = ap (λ (zs : List _). g x ∷ zs) (mapped_last g xs y)

pub key_last : (ps : Pairing) (n m : Name) (ks : List Name) → ks ≡ seconds ps → is_in m (seconds ps) ≡ false → (if is_in m ks then ks else ks ++ m ∷ []) ≡ seconds (ps ++ (n, m) ∷ [])
key_last ps n m ks same free =
    ap (λ (ls : List Name). if is_in m ls then ls else ls ++ m ∷ []) same
    ∙ ap (λ (b : Bool). if b then seconds ps else seconds ps ++ m ∷ []) free ∙ sym (mapped_last (λ (p : Name × Name). p.1) ps (n, m))

-- a name that is found is a first one
found_first : (ps : Pairing) (n : Name) → lookup (same_name n) ps ≡ None → is_in n (firsts ps) ≡ false
found_first [] n none = refl
found_first (p ∷ ps) n none = go (same_name n p.0) refl (found_first ps n)
  where
    go : (b : Bool) → same_name n p.0 ≡ b → (lookup (same_name n) ps ≡ None → is_in n (firsts ps) ≡ false) → (same_name n p.0 || is_in n (firsts ps)) ≡ false
    go true same rest = let found : Some p.1 ≡ None = sym (ap (λ (d : Bool). cond d (Some p.1) (lookup (same_name n) ps)) same) ∙ none in absurd (cc)
    go false same rest = rw same (rest (sym (ap (λ (d : Bool). cond d (Some p.1) (lookup (same_name n) ps)) same) ∙ none))

same_turned : (a b : Name) → same_name a b ≡ false → same_name b a ≡ false
same_turned a b apart = go (same_name b a) refl
  where
    go : (c : Bool) → same_name b a ≡ c → same_name b a ≡ false
    go false e = e
    go true e = absurd (true≢false (sym (ap (λ (x : Name). same_name x b) (sym (equal_if_same b a e)) ∙ same_name-itself b) ∙ apart))

in_last : (x : Name) (ns : List Name) (n : Name) → is_in x ns ≡ false → same_name x n ≡ false → is_in x (ns ++ n ∷ []) ≡ false
in_last x [] n none apart = rw apart refl
in_last x (y ∷ ns) n none apart = go (same_name x y) refl (in_last x ns n)
  where
    go : (b : Bool) → same_name x y ≡ b → (is_in x ns ≡ false → same_name x n ≡ false → is_in x (ns ++ n ∷ []) ≡ false) → (same_name x y || is_in x (ns ++ n ∷ [])) ≡ false
    go true e rest = absurd (true≢false (sym (ap (λ (c : Bool). c || is_in x ns) e) ∙ none))
    go false e rest = rw e (rest (sym (ap (λ (c : Bool). c || is_in x ns) e) ∙ none) apart)

apart_last : (ns : List Name) (n : Name) → AreApart ns → is_in n ns ≡ false → AreApart (ns ++ n ∷ [])
apart_last [] n apart none = (refl, tt)
apart_last (x ∷ ns) n apart none = go (same_name n x) refl (apart_last ns n)
  where
    go : (b : Bool) → same_name n x ≡ b → (AreApart ns → is_in n ns ≡ false → AreApart (ns ++ n ∷ [])) → AreApart ((x ∷ ns) ++ n ∷ [])
    go true e rest = absurd (true≢false (sym (ap (λ (c : Bool). c || is_in n ns) e) ∙ none))
    go false e rest = (in_last x ns n apart.0 (same_turned n x e), rest apart.1 (sym (ap (λ (c : Bool). c || is_in n ns) e) ∙ none))

makers_last : (ps : Pairing) (n m : Name) → HaveOneMaker ps → n.task ≡ m.task → HaveOneMaker (ps ++ (n, m) ∷ [])
makers_last [] n m have one = (one, tt)
makers_last (p ∷ ps) n m have one = (have.0, makers_last ps n m have.1 one)

boot_stays : (ps : Pairing) (p : Name × Name) → FromBoot ps → FromBoot (ps ++ p ∷ [])
boot_stays [] p from = absurd from
boot_stays (q ∷ ps) p from = from

pub one_more : (ps : Pairing) (n m : Name) → IsOneToOne ps → lookup (same_name n) ps ≡ None → is_in m (seconds ps) ≡ false → n.task ≡ m.task → IsOneToOne (ps ++ (n, m) ∷ [])
one_more ps n m is none free one = record {
  names = rw (mapped_last (λ (p : Name × Name). p.0) ps (n, m)) (apart_last (firsts ps) n is.names (found_first ps n none));
  others = rw (mapped_last (λ (p : Name × Name). p.1) ps (n, m)) (apart_last (seconds ps) m is.others free);
  makers = makers_last ps n m is.makers one;
  boot = boot_stays ps (n, m) is.boot;
}

-- pairing two names

module _ (n m : Name) (old : Pairing) where
  abbrev Called : (Name → Name) → Type 0
  Called g = g n ≡ m

  pub other_maker : (n.task.0 ≡ m.task.0 → ⊥) → PairsFor Called old false old
  unfolding PairsFor
  other_maker apart f raises before called = apart (sym (raises.task n) ∙ ap (λ (k : Name). k.task.0) called)

  pub was_paired : (k : Name) (b : Bool) → lookup (same_name n) old ≡ Some k → b ≡ same_name k m → PairsFor Called old b old
  unfolding PairsFor
  was_paired k b found is = go b is
    where
      says : (f : OtherNames) → Agrees f old → f.to n ≡ k
      says f agrees = found_says f old n k found agrees

      go : (b : Bool) → b ≡ same_name k m → PairsFor Called old b old
      go true is = λ f raises. (λ agrees. (agrees, says f agrees ∙ equal_if_same k m (sym is)), λ both. both.0)
      go false is = λ f raises agrees called. true≢false (sym (ap (same_name k) (sym called ∙ says f agrees) ∙ same_name-itself k) ∙ sym is)

  pub was_taken : lookup (same_name n) old ≡ None → is_in m (seconds old) ≡ true → PairsFor Called old false old
  unfolding PairsFor
  was_taken none taken f raises agrees called = taken_says f old n m taken agrees called none

  pub is_paired : (new : Pairing) → new ≡ old ++ (n, m) ∷ [] → PairsFor Called old true new
  unfolding PairsFor
  is_paired new is f raises = rw is (agrees_more f old n m)

-- what some tasks made keeps its name

abbrev pub Keeps : (ℕ → Bool) → Name × Name → Type 0
Keeps S p = S p.0.task.0 ≡ true → p.0 ≡ p.1

abbrev pub KeepsAt : (ℕ → Bool) → Pairing → ℕ → Type 0
KeepsAt S ps i = (p : Name × Name) → slice_get ps i ≡ Some p → Keeps S p

pub keep_each : (S : ℕ → Bool) (ps : Pairing) → ((i : ℕ) → KeepsAt S ps i) → KeepOwn S ps
keep_each S [] each = tt
keep_each S (p ∷ ps) each = (each 0 p refl, keep_each S ps (λ i. each (suc i)))

pub keep_at : (S : ℕ → Bool) (ps : Pairing) → KeepOwn S ps → (i : ℕ) → KeepsAt S ps i
keep_at S [] keep i p is = absurd (cc)
keep_at S (q ∷ ps) keep zero p is = let one : q ≡ p = cc in rw (sym one) keep.0
keep_at S (q ∷ ps) keep (suc i) p is = keep_at S ps keep.1 i p is
