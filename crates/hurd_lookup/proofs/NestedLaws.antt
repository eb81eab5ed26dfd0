-- What is to be started first is the same in worlds that agree, and is where a walk can be; and how the code finds it.
use Rattle.std.proofs.Common.{◌≡◌, ◌≢◌, ◌⊎◌, ◌∙◌, ◌<◌, ◌-◌, ℕ, zero, suc, Bool, true, false, true≢false, cond, if◌then◌else◌, ◌&&◌, ◌||◌, not, is_some, codes, length, nat_le, List, [], ◌∷◌, Option, Some, None, refl, sym, ap, ap₂, subst, inl, inr, arith}
use Rattle.std.specs.Prelude.{Result, Ok, Err, IfOk, IfSome}
use Rattle.std.specs.List.{list_all}
use Rattle.std.specs.Option.{option_map, option_or}
use Rattle.std.specs.Str.{bytes_eq}
use Rattle.std.proofs.lemmas.Slice.Eq.{bytes_eq-Decides}
use Rattle.hurd_machine.proofs.Common.{BodyOf, ENOMEM, Errno, Header, IdSets, Meaning, Name, Node, Seen, Sees, Task, World, header_at, is_no_memory, node_at, task_at, words_at}
use Rattle.hurd_creds.specs.Memory.{MeetsOr}
use Rattle.hurd_creds.specs.declared.errno.Errno.TheVariants.{ELOOP}
use Rattle.hurd_trans_iface.specs.Kinds.Firmlink.{firm_text, is_firm}
use Rattle.hurd_trans_iface.specs.Kinds.Union.{most_branches, text_of, union_text}
use Rattle.hurd_trans_iface.specs.Meaning.{all_kinds, begin, begin_among, begin_as, behaviour_of, new_server, targets_of}
use Rattle.hurd_trans_iface.specs.declared.begun.ServerKind.{ServerKind}
use Rattle.hurd_trans_iface.specs.declared.begun.ServerKind.TheVariants.{Firmlink, Union}
use Rattle.hurd_trans_iface.proofs.Goods.{aimless}
use Rattle.hurd_trans_iface.proofs.Options.{words_back}
use Rattle.hurd_machine.specs.World.{nodes_of, words_in}
use Rattle.hurd_machine.proofs.Piece.{Stands}
use Rattle.hurd_machine.proofs.Views.{Agree}
use Rattle.hurd_lookup.specs.declared.resolve.Landing.{Landing}
use Rattle.hurd_lookup.specs.declared.resolve.Landing.TheVariants.{Lands, Sleeps}
use Rattle.hurd_lookup.specs.Ends.{HasWords}
use Rattle.hurd_lookup.specs.Legs.{CanStart}
use Rattle.hurd_lookup.specs.Lent.{lent}
use Rattle.hurd_lookup.specs.Lookup.{no_ids}
use Rattle.hurd_lookup.specs.Resolve.{path_end}
use Rattle.hurd_lookup.specs.Nested.{HasAims, aims_of, asleep, first_among, first_asleep, first_unstarted, lent_at, lent_by, most_asked, needed, or_needed, passed, says_aims, words_aims}
use Rattle.hurd_lookup.proofs.AlikeLaws.{Alike, ok_alike, err_alike}
use Rattle.hurd_lookup.proofs.BeginLaws.{seen_begins}
use Rattle.hurd_lookup.proofs.HeldLaws.{AnyIds, Anywhere, held_ground}
use Rattle.hurd_lookup.proofs.LentLaws.{lent_powers}
use Rattle.hurd_lookup.proofs.ResolveLaws.{path_end_alike}
use Rattle.hurd_lookup.proofs.WalkLaws.{Ground, Powers, no_ids_taken, seen_ground, taken_powers}
use Rattle.hurd_machine.proofs.Common.{CanBeAt}

-- the words of a node are its header's

abbrev words_told : Option Header → List (List ℕ)
words_told None = []
words_told (Some h) = h.passive

words_from : (o : Option Node) → words_in o ≡ words_told (option_map (λ (x : Node). x.header) o)
words_from None = refl
words_from (Some x) = refl

-- by what is lent of a task's ids it goes on the same ground
pub record Lends (t : ℕ) (v w : World) (At Near Entries : Name → Type 0) (P : IdSets → Type 0) : Type 0 where
  pub ground : Ground v w At Near Entries P
  pub none : P no_ids
  pub lends : (x : Task) → task_at v t ≡ Some x → (o : ℕ) → P (lent x.ids o)

pub seen_lends : {S : ℕ → Bool} {v w : World} → Agree S v w → (t : ℕ) → S t ≡ true → Lends t v w (Seen S v) (Seen S v) (λ d. Sees S v (BodyOf d)) (Powers S v)
seen_lends {S} {v} a t ours = record {
  ground = seen_ground a (Powers S v) (λ i p. p);
  none = taken_powers S v no_ids (no_ids_taken S v);
  lends = λ x is o. lent_powers S v x.ids ((seen_begins a t ours).ids x is) o;
}

pub held_lends : (w : World) → Stands w → (t : ℕ) → Lends t w w (CanBeAt (nodes_of w)) (Anywhere w) (Anywhere w) (AnyIds w)
held_lends w st t = record { ground = held_ground w st; none = tt; lends = λ x is o. tt }

module _ {v w : World} {At Near Entries : Name → Type 0} {P : IdSets → Type 0} (g : Ground v w At Near Entries P) where
  pub words_same : (n : Name) → Near n → words_at w n ≡ words_at v n
  words_same n near = words_from (node_at w n) ∙ ap words_told (g.header n near) ∙ sym (words_from (node_at v n))

  module _ (ids : IdSets) (taken : P ids) where
    asleep_same : (paths : List (List ℕ)) → first_asleep w ids paths ≡ first_asleep v ids paths
    asleep_same [] = refl
    asleep_same (path ∷ paths) = ap₂ (λ (r : Result Landing Errno) (o : Option Name). option_or (asleep r) o) (path_end_alike g ids taken path).same (asleep_same paths)

    asleep_on : (paths : List (List ℕ)) (n : Name) → first_asleep v ids paths ≡ Some n → At n
    asleep_on [] n is = absurd (cc)
    asleep_on (path ∷ paths) n is = go (path_end v ids path) refl is (asleep_on paths n)
      where
        go : (r : Result Landing Errno) → path_end v ids path ≡ r → option_or (asleep r) (first_asleep v ids paths) ≡ Some n → (first_asleep v ids paths ≡ Some n → At n) → At n
        go (Ok (Lands m)) e k later = later k
        go (Ok (Sleeps m)) e k later = let same : m ≡ n = cc (k) in subst At same ((path_end_alike g ids taken path).has (Sleeps m) e)
        go (Err x) e k later = later k

  module _ (none : P no_ids) (ids : IdSets) (lends : (o : ℕ) → P (lent ids o)) where
    lent_taken : (o : Option Header) → P (lent_by ids o)
    lent_taken None = none
    lent_taken (Some h) = lends h.owner

    needed_same : (n : Name) → Near n → needed w ids n ≡ needed v ids n
    needed_same n near =
        ap₂ (λ (i : IdSets) (ws : List (List ℕ)). first_asleep w i (words_aims ws)) (ap (lent_by ids) (g.header n near)) (words_same n near)
        ∙ asleep_same (lent_at v ids n) (lent_taken (header_at v n)) (words_aims (words_at v n))

    among_alike : (k : ℕ) (n : Name) → At n → Alike At (first_among k v ids n) (first_among k w ids n)
    among_alike zero n at = err_alike _ ELOOP refl
    among_alike (suc k) n at = by (needed v ids n) (needed w ids n) (needed_same n (g.near n at)) (λ m is. asleep_on (lent_at v ids n) (lent_taken (header_at v n)) (words_aims (words_at v n)) m is) (among_alike k)
      where
        by : (o p : Option Name) → p ≡ o → ((m : Name) → o ≡ Some m → At m) → ((m : Name) → At m → Alike At (first_among k v ids m) (first_among k w ids m))
            → Alike At (or_needed n (first_among k v ids) o) (or_needed n (first_among k w ids) p)
        by None p same on deeper = rw same (ok_alike _ n at)
        by (Some m) p same on deeper = rw same (deeper m (on m refl))

    pub first_alike : (n : Name) → At n → Alike At (first_unstarted v ids n) (first_unstarted w ids n)
    first_alike n at = among_alike most_asked n at

-- the paths at which a server aims are words after its program's name

none_or : (x y : Option Meaning) → aims_of x ≡ [] → aims_of y ≡ [] → aims_of (option_or x y) ≡ []
none_or None y first others = others
none_or (Some m) y first others = first

-- a server of a kind that aims at nothing
module _ (k : ServerKind) (none : (text : List ℕ) → targets_of k text ≡ []) where
  aimless_text : (o : Option (List ℕ)) → aims_of (option_map (new_server k) o) ≡ []
  aimless_text None = refl
  aimless_text (Some text) = none text

  aimless_if : (b : Bool) (o : Option (List ℕ)) → aims_of (cond b (option_map (new_server k) o) None) ≡ []
  aimless_if true o = aimless_text o
  aimless_if false o = refl

  aimless_as : (p : List ℕ) (ws : List (List ℕ)) → aims_of (begin_as k (p ∷ ws)) ≡ []
  aimless_as p ws = aimless_if (bytes_eq p (behaviour_of k).program) ((behaviour_of k).begins ws)

-- a server of another kind
other_as : (k : ServerKind) (p : List ℕ) (ws : List (List ℕ)) → bytes_eq p (behaviour_of k).program ≡ false → aims_of (begin_as k (p ∷ ws)) ≡ []
other_as k p ws other = ap (λ (b : Bool). aims_of (cond b (option_map (new_server k) ((behaviour_of k).begins ws)) None)) other

-- the name of a program whose servers aim
abbrev is_aiming : List ℕ → Bool
is_aiming w = bytes_eq w (codes "/hurd/firmlink") || bytes_eq w (codes "/hurd/union")

not_aiming : (p w : List ℕ) → bytes_eq p (codes "/hurd/firmlink") ≡ false → bytes_eq p (codes "/hurd/union") ≡ false → is_aiming w ≡ true → bytes_eq p w ≡ false
not_aiming p w firm union is = by (bytes_eq w (codes "/hurd/firmlink")) refl (bytes_eq w (codes "/hurd/union")) refl is
  where
    by : (a : Bool) → bytes_eq w (codes "/hurd/firmlink") ≡ a → (b : Bool) → bytes_eq w (codes "/hurd/union") ≡ b → a || b ≡ true → bytes_eq p w ≡ false
    by true e b also h = ap (bytes_eq p) ((bytes_eq-Decides w (codes "/hurd/firmlink")).0 e) ∙ firm
    by false e true also h = ap (bytes_eq p) ((bytes_eq-Decides w (codes "/hurd/union")).0 also) ∙ union
    by false e false also h = absurd (true≢false (sym h))

-- a kind that aims is known by such a name
abbrev is_known : ServerKind → Bool
is_known k = not (behaviour_of k).aims || is_aiming (behaviour_of k).program

all_known : list_all is_known all_kinds ≡ true
all_known = refl

and_both : (a b : Bool) → a && b ≡ true → (a ≡ true) × (b ≡ true)
and_both true b h = (refl, h)
and_both false b h = absurd (true≢false (sym h))

module _ (p : List ℕ) (ws : List (List ℕ)) (firm : bytes_eq p (codes "/hurd/firmlink") ≡ false) (union : bytes_eq p (codes "/hurd/union") ≡ false) where
  other_aimless : (k : ServerKind) → is_known k ≡ true → aims_of (begin_as k (p ∷ ws)) ≡ []
  other_aimless k known = by (behaviour_of k).aims refl known
    where
      by : (b : Bool) → (behaviour_of k).aims ≡ b → not b || is_aiming (behaviour_of k).program ≡ true → aims_of (begin_as k (p ∷ ws)) ≡ []
      by true is aiming = other_as k p ws (not_aiming p (behaviour_of k).program firm union aiming)
      by false is aiming = aimless_as k (aimless k is) p ws

  among_aimless : (ks : List ServerKind) → list_all is_known ks ≡ true → aims_of (begin_among ks (p ∷ ws)) ≡ []
  among_aimless [] known = refl
  among_aimless (k ∷ ks) known = let both = and_both (is_known k) (list_all is_known ks) known in none_or (begin_as k (p ∷ ws)) _ (other_aimless k both.0) (among_aimless ks both.1)

  others_aimless : aims_of (begin (p ∷ ws)) ≡ []
  others_aimless = among_aimless all_kinds all_known

abbrev pub chosen : Bool → List (List ℕ) → List (List ℕ)
chosen b ws = if b then ws else []

firm_one : (w : List ℕ) (b : Bool) → aims_of (option_or (option_map (new_server Firmlink) (let o : Option (List ℕ) = if b then Some w else None in o)) None) ≡ chosen (is_some (let o : Option (List ℕ) = if b then Some w else None in o)) (w ∷ [])
firm_one w true = refl
firm_one w false = refl

firm_aims : (ws : List (List ℕ)) → aims_of (begin (codes "/hurd/firmlink" ∷ ws)) ≡ chosen (is_some (firm_text ws)) ws
firm_aims [] = refl
firm_aims (w ∷ []) = firm_one w (is_firm w)
firm_aims (w ∷ v ∷ ws) = refl

union_some : (w : List ℕ) (ws : List (List ℕ)) (b : Bool) → aims_of (option_or (option_map (new_server Union) (let o : Option (List ℕ) = if b then Some (text_of (w ∷ ws)) else None in o)) None)
    ≡ chosen (is_some (let o : Option (List ℕ) = if b then Some (text_of (w ∷ ws)) else None in o)) (w ∷ ws)
union_some w ws true = words_back (w ∷ ws)
union_some w ws false = refl

union_aims : (ws : List (List ℕ)) → aims_of (begin (codes "/hurd/union" ∷ ws)) ≡ chosen (is_some (union_text ws)) ws
union_aims [] = refl
union_aims (w ∷ ws) = union_some w ws (nat_le (length (w ∷ ws)) most_branches && list_all is_firm (w ∷ ws))

pub aims_said : (p : List ℕ) (ws : List (List ℕ)) → words_aims (p ∷ ws) ≡ chosen (says_aims p ws) ws
unfolding words_aims says_aims
aims_said p ws = by (bytes_eq p (codes "/hurd/firmlink")) refl (bytes_eq p (codes "/hurd/union")) refl
  where
    by : (a : Bool) → bytes_eq p (codes "/hurd/firmlink") ≡ a → (b : Bool) → bytes_eq p (codes "/hurd/union") ≡ b
        → aims_of (begin (p ∷ ws)) ≡ chosen (if a then is_some (firm_text ws) else b && is_some (union_text ws)) ws
    by true is b also = rw ((bytes_eq-Decides p (codes "/hurd/firmlink")).0 is) (firm_aims ws)
    by false is true also = rw ((bytes_eq-Decides p (codes "/hurd/union")).0 also) (union_aims ws)
    by false is false also = others_aimless p ws is also

pub aims_nothing : words_aims [] ≡ []
unfolding words_aims
aims_nothing = refl

-- of words that are none, or a program's name and the words after it

pub aims_none : (words : List (List ℕ)) → length words ≡ 0 → [] ≡ words_aims words
aims_none [] none = sym aims_nothing
aims_none (p ∷ ws) none = absurd (cc (none))

module _ (words ws : List (List ℕ)) (p : List ℕ) (are : words ≡ p ∷ ws) where
  pub aims_behind : true ≡ says_aims p ws → ws ≡ words_aims words
  aims_behind says = sym (ap words_aims are ∙ aims_said p ws ∙ ap (λ (b : Bool). chosen b ws) (sym says))

  pub aims_not : false ≡ says_aims p ws → [] ≡ words_aims words
  aims_not says = sym (ap words_aims are ∙ aims_said p ws ∙ ap (λ (b : Bool). chosen b ws) (sym says))

-- node after node, as it is asked

-- where a node is left to be asked, it is
pub among_one : (k : ℕ) (w : World) (ids : IdSets) (n : Name) → 0 < k → first_among k w ids n ≡ or_needed n (first_among (k - 1) w ids) (needed w ids n)
among_one zero w ids n more = absurd (omega (arith, more))
among_one (suc k) w ids n more = let same : k ≡ suc k - 1 = omega arith in ap (λ (j : ℕ). or_needed n (first_among j w ids) (needed w ids n)) same

-- where there are no targets, none is needed
pub needed_none : (w : World) (ids : IdSets) (n : Name) (paths : List (List ℕ)) → paths ≡ words_aims (words_at w n) → length paths ≡ 0 → needed w ids n ≡ None
needed_none w ids n [] is none = ap (first_asleep w (lent_at w ids n)) (sym is)
needed_none w ids n (path ∷ paths) is none = absurd (omega (arith, none))

-- where a node is needed, there are targets
pub needed_has : (w : World) (ids : IdSets) (paths : List (List ℕ)) (m : Name) → first_asleep w ids paths ≡ Some m → paths ≢ []
needed_has w ids [] m is none = absurd (cc (is))
needed_has w ids (path ∷ paths) m is none = absurd (cc (none))

-- as the code finds it

-- what waits at the end of a path, by how the path ended
pub passed_is : (w : World) (wanted r : Result Landing Errno) → MeetsOr {B = Landing} (Unit {0}) (λ l. l) wanted r → IfOk r (CanStart w) → (o : Option Name) → passed r ≡ Ok o → (asleep wanted ≡ o) × IfSome o (HasWords w)
passed_is w wanted (Ok (Lands n)) found starts o is = let same : None ≡ o = cc (is) in subst (λ (p : Option Name). (asleep wanted ≡ p) × IfSome p (HasWords w)) same (ap asleep found, tt)
passed_is w wanted (Ok (Sleeps n)) found starts o is = let same : Some n ≡ o = cc (is) in subst (λ (p : Option Name). (asleep wanted ≡ p) × IfSome p (HasWords w)) same (ap asleep found, starts)
passed_is w wanted (Err e) found starts o is = by (is_no_memory e) refl is
  where
    by : (b : Bool) → is_no_memory e ≡ b → (let r : Result (Option Name) Errno = if b then Err ENOMEM else Ok None in r) ≡ Ok o → (asleep wanted ≡ o) × IfSome o (HasWords w)
    by true out k = absurd (cc (k))
    by false out k =
        let same : None ≡ o = cc (k) in
        subst (λ (p : Option Name). (asleep wanted ≡ p) × IfSome p (HasWords w)) same
        (elim found [ inl refused ↦ ap asleep refused | inr lacks ↦ absurd (true≢false (sym (ap is_no_memory lacks.0) ∙ out)) ], tt)

module _ (w : World) (ids : IdSets) (n : Name) where
  pub needed_gone : header_at w n ≡ None → needed w ids n ≡ None
  needed_gone gone =
      let none : words_at w n ≡ [] = words_from (node_at w n) ∙ ap words_told gone in
      ap (λ (ws : List (List ℕ)). first_asleep w (lent_at w ids n) (words_aims ws)) none ∙ ap (first_asleep w (lent_at w ids n)) aims_nothing

-- from the one that was asked last, on
module _ (w : World) (ids : IdSets) (n here : Name) (k : ℕ) (more : 0 < k) (is : first_among k w ids here ≡ first_unstarted w ids n) where
  pub first_here : needed w ids here ≡ None → first_unstarted w ids n ≡ Ok here
  first_here none = sym is ∙ among_one k w ids here more ∙ ap (or_needed here (first_among (k - 1) w ids)) none

  pub first_on : (m : Name) → needed w ids here ≡ Some m → first_among (k - 1) w ids m ≡ first_unstarted w ids n
  first_on m next = sym (ap (or_needed here (first_among (k - 1) w ids)) next) ∙ sym (among_one k w ids here more) ∙ is

-- the first node has targets, where one on the way has some
pub first_has : (w : World) (n here : Name) → (here ≡ n) ⊎ HasAims w n → HasAims w here → HasAims w n
first_has w n here (inl same) has = subst (HasAims w) same has
first_has w n here (inr first) has = first
