-- The way by which a node was found, in a view of a world.
use Rattle.std.proofs.Common.{◌≡◌, ◌∙◌, refl, sym, ap, ℕ, zero, suc, ◌<◌, ◌≤◌, ◌||◌, Bool, true, false, true≢false, List, [], ◌∷◌, length, take, Option, Some, None, arith, if◌then◌else◌}
use Rattle.std.specs.Prelude.{option_and_then, slice_get}
use Rattle.hurd_creds.specs.declared.name.Name.{Name}
use Rattle.hurd_creds.specs.Names.{same_name}
use Rattle.hurd_creds.proofs.NameLaws.{equal_if_same}
use Rattle.hurd_machine.specs.World.{World}
use Rattle.hurd_sight.specs.Found.{IsBefore, IsSight, found_from, is_found, why_of}
use Rattle.hurd_sight.specs.declared.found.Why.{Why}
use Rattle.hurd_views.specs.declared.view.View.{View}
use Rattle.hurd_places.specs.Places.{way_to}
use Rattle.hurd_places.proofs.ApartLaws.{IsWay}

-- the first place of a node, within those that stand first
pub record At (n : Name) (es : List (Name × Why)) : Type 0 where
  pub place : ℕ
  pub why : Why
  pub there : slice_get es place ≡ Some (n, why)
  pub is_why : why_of n es ≡ Some why

pub at : (n : Name) (k : ℕ) (es : List (Name × Why)) → is_found n (take k es) ≡ true → (a : At n es) × (a.place < k)
at n zero es is = absurd (true≢false (sym is))
at n (suc k) [] is = absurd (true≢false (sym is))
at n (suc k) ((m, y) ∷ es) is = go (at n k es) (same_name n m) refl is
  where
    go : (is_found n (take k es) ≡ true → (a : At n es) × (a.place < k)) → (b : Bool) → same_name n m ≡ b → (b || is_found n (take k es)) ≡ true
        → (a : At n ((m, y) ∷ es)) × (a.place < suc k)
    go further true same found =
        (record { place = 0; why = y; there = ap (λ (x : Name). Some (x, y)) (sym (equal_if_same n m same)); is_why = ap (λ (t : Bool). if t then Some y else why_of n es) same }, omega arith)
    go further false other found =
        let rest = further found in
        let less = rest.1 in (
          record {
            place = suc rest.0.place;
            why = rest.0.why;
            there = rest.0.there;
            is_why = ap (λ (t : Bool). if t then Some y else why_of n es) other ∙ rest.0.is_why;
          },
          omega (arith, less),
        )

take_all : (es : List (Name × Why)) → take (length es) es ≡ es
take_all [] = refl
take_all (e ∷ es) = ap (λ (fs : List (Name × Why)). e ∷ fs) (take_all es)

pub at_all : (n : Name) (es : List (Name × Why)) → is_found n es ≡ true → (a : At n es) × (a.place < length es)
at_all n es is = at n (length es) es (ap (is_found n) (take_all es) ∙ is)

pub why_found : (n : Name) (y : Why) (es : List (Name × Why)) → why_of n es ≡ Some y → is_found n es ≡ true
why_found n y [] is = absurd (cc)
why_found n y ((m, z) ∷ es) is = go (why_found n y es) (same_name n m) is
  where
    go : (why_of n es ≡ Some y → is_found n es ≡ true) → (b : Bool) → (if b then Some z else why_of n es) ≡ Some y → (b || is_found n es) ≡ true
    go further true found = refl
    go further false found = further found

pub taken_found : (n : Name) (k : ℕ) (es : List (Name × Why)) → is_found n (take k es) ≡ true → is_found n es ≡ true
taken_found n k es is = let a = at n k es is in why_found n a.0.why es a.0.is_why

-- the way goes back from a node to the one from which it was found

nowhere : (k : ℕ) (es : List (Name × Why)) → way_to k es None ≡ []
nowhere zero es = refl
nowhere (suc k) es = refl

pub record Way (v : View) (n : Name) (k j : ℕ) : Type 0 where
  pub behind : List Name
  pub is : way_to j v.sight.found (Some n) ≡ n ∷ behind
  pub way : IsWay v n behind
  pub few : length behind < k

way_by : (v : View) (n : Name) (k j : ℕ) (a : At n v.sight.found) (from : Option Name) → found_from a.why ≡ from → a.place < k
    → ((d : Name) → from ≡ Some d → Way v d a.place j) → Way v n k (suc j)
way_by v n k j a None is less rest = record {
  behind = [];
  is = ap (λ (y : Option Why). n ∷ way_to j v.sight.found (option_and_then found_from y)) a.is_why ∙ (ap (λ (o : Option Name). n ∷ way_to j v.sight.found o) is ∙ ap (λ (ns : List Name). n ∷ ns) (nowhere j v.sight.found));
  way = (a.why, a.is_why, is);
  few = omega (arith, less);
}
way_by v n k j a (Some d) is less rest =
    let more = rest d refl in
    let shorter = more.few in
    record {
      behind = d ∷ more.behind;
      is = ap (λ (y : Option Why). n ∷ way_to j v.sight.found (option_and_then found_from y)) a.is_why ∙ (ap (λ (o : Option Name). n ∷ way_to j v.sight.found o) is ∙ ap (λ (ns : List Name). n ∷ ns) more.is);
      way = (a.why, a.is_why, is, more.way);
      few = omega (arith, less, shorter);
    }

pub before : (o : Option Name) (es : List (Name × Why)) (d : Name) → IsBefore o es → o ≡ Some d → is_found d es ≡ true
before None es d is some = absurd (cc)
before (Some e) es d is some = let same : e ≡ d = cc in ap (λ (x : Name). is_found x es) (sym same) ∙ is

way_from : (S : ℕ → Bool) (w : World) (v : View) → IsSight S w v.sight.found → (j k : ℕ) (n : Name) → is_found n (take k v.sight.found) ≡ true → k ≤ j → Way v n k j
way_from S w v sight zero zero n is small = absurd (true≢false (sym is))
way_from S w v sight zero (suc k) n is small = absurd (omega (arith, small))
way_from S w v sight (suc j) k n is small =
    let a = at n k v.sight.found is in
    let less = a.1 in
    way_by v n k j a.0 (found_from a.0.why) refl less
    (λ d from. way_from S w v sight j a.0.place d (before (found_from a.0.why) (take a.0.place v.sight.found) d (sight.why a.0.place n a.0.why a.0.there).1 from) (omega (arith, less, small)))

pub the_way : (S : ℕ → Bool) (w : World) (v : View) (n : Name) → IsSight S w v.sight.found → is_found n v.sight.found ≡ true → Way v n (length v.sight.found) (length v.sight.found)
the_way S w v n sight is = way_from S w v sight (length v.sight.found) (length v.sight.found) n (ap (is_found n) (take_all v.sight.found) ∙ is) (omega arith)
