-- Seats that change places: which of them come after the first, and what the table means.
use Rattle.std.proofs.Common.{arith, ◌≡◌, ◌≢◌, ◌⊎◌, inl, inr, ℕ, zero, suc, ◌+◌, ◌-◌, ◌<◌, ◌≤◌, Bool, true, false, cond, List, [], ◌∷◌, length, take, refl, sym, ap, ap₂, ◌∙◌}
use Rattle.std.proofs.lemmas.Bool.{cases_Bool, cases_lt}
use Rattle.std.proofs.lemmas.Option.{same_Some, slice_get-get_or, get_or_from_slice_get}
use Rattle.std.specs.Prelude.{Option, Some, None, is_some, position, swap, swap_remove, slice_get, slice_index_or, slice_set}
use Rattle.std.specs.Option.{IfSome, option_map, option_map_or}
use Rattle.std.specs.Map.{keys_of, lookup, values_of}
use Rattle.std.specs.FinMap as fin
use Rattle.indexmap.specs.IndexMap.{IndexMap, get, insert_entry, swap_remove_entry}
use Rattle.hurd_creds.specs.declared.name.Name.{Name}
use Rattle.hurd_creds.specs.Names.{same_name}
use Rattle.hurd_creds.specs.NameMaps.{place_by}
use Rattle.hurd_creds.proofs.NameLaws.{same_map_by, same_name-itself, equal_if_same}
use Rattle.hurd_nodes.specs.declared.seat.Seat.{Seat}
use Rattle.hurd_nodes.specs.Held.{AreApart, row_key, seat_key, seat_value, seated_in, seats_of}
use Rattle.hurd_nodes.specs.Quiet.{Behind, AreAmong, AreBut, AreLess, AreNot}
use Rattle.hurd_creds.proofs.KeyedLaws.{contains-place, get-absent, place-is}
use Rattle.hurd_nodes.proofs.HomeLaws.{distinct-apart, row-got}
use Rattle.hurd_nodes.proofs.RowLaws.{place-position}

-- what is read of a list with something put in

module _ {X : Type 0} where
  pub set_got : (xs : List X) (i : ℕ) (y : X) (k : ℕ) (x : X) → slice_get (slice_set xs i y) k ≡ Some x → ((k ≡ i) × (y ≡ x)) ⊎ ((k ≢ i) × (slice_get xs k ≡ Some x))
  set_got [] i y k x is = absurd (cc)
  set_got (z ∷ xs) zero y zero x is = inl (refl, same_Some y x is)
  set_got (z ∷ xs) zero y (suc k) x is = inr (λ e. omega (arith, e), is)
  set_got (z ∷ xs) (suc i) y zero x is = inr (λ e. omega (arith, e), is)
  set_got (z ∷ xs) (suc i) y (suc k) x is = elim (set_got xs i y k x is) [
    | inl here ↦ inl (ap suc here.0, here.1)
    | inr other ↦ inr (λ e. other.0 (omega (arith, e)), other.1)
  ]

  -- of two that changed places each is where the other was
  pub swap_got : (xs : List X) (a b k : ℕ) (x : X) → a < length xs → b < length xs → slice_get (swap xs a b) k ≡ Some x
      → ((k ≡ b) × (slice_get xs a ≡ Some x)) ⊎ ((k ≢ b) × (((k ≡ a) × (slice_get xs b ≡ Some x)) ⊎ ((k ≢ a) × (slice_get xs k ≡ Some x))))
  swap_got [] a b k x la lb is = absurd (omega (arith, la))
  swap_got (d ∷ ys) a b k x la lb is =
      let xs : List X = d ∷ ys in
      elim (set_got (slice_set xs a (slice_index_or xs b d)) b (slice_index_or xs a d) k x is) [
        | inl here ↦ inl (here.0, slice_get-get_or xs a d la ∙ ap Some here.1)
        | inr other ↦ inr (
          other.0,
          elim (set_got xs a (slice_index_or xs b d) k x other.1) [
            | inl here ↦ inl (here.0, slice_get-get_or xs b d lb ∙ ap Some here.1)
            | inr far ↦ inr far
          ],
        )
      ]

  take_got : (n : ℕ) (xs : List X) (k : ℕ) (x : X) → slice_get (take n xs) k ≡ Some x → (k < n) × (slice_get xs k ≡ Some x)
  take_got zero [] k x is = absurd (cc)
  take_got zero (y ∷ xs) k x is = absurd (cc)
  take_got (suc n) [] k x is = absurd (cc)
  take_got (suc n) (y ∷ xs) zero x is = (omega arith, is)
  take_got (suc n) (y ∷ xs) (suc k) x is = let r = take_got n xs k x is in (omega (arith, r.0), r.1)

  -- the last is in place of one that was taken out
  pub out_got : (xs : List X) (i : ℕ) (d : X) (k : ℕ) (x : X) → i < length xs → slice_get (swap_remove xs i d) k ≡ Some x
      → (k + 1 < length xs) × (((k ≡ i) × (slice_get xs (length xs - 1) ≡ Some x)) ⊎ ((k ≢ i) × (slice_get xs k ≡ Some x)))
  out_got xs i d k x below is =
      let last = slice_index_or xs (length xs - 1) d in
      let t = take_got (length xs - 1) (slice_set xs i last) k x is in (
        omega (arith, t.0),
        elim (set_got xs i last k x t.1) [
          | inl here ↦ inl (here.0, slice_get-get_or xs (length xs - 1) d (omega (arith, below)) ∙ ap Some here.1)
          | inr other ↦ inr other
        ],
      )

  -- what comes after is on the list
  pub behind_more : (k : ℕ) (xs : List X) (x : X) (i : ℕ) → k ≤ i → slice_get xs i ≡ Some x → Behind k xs x
  behind_more k xs x i past is = record { at = i; past = past; is = is }

-- what is at a place is found there by its name
later : (b : Bool) (o : Option ℕ) (k : ℕ) → b ≡ false → o ≡ Some k → cond b (Some 0) (option_map (λ i. i + 1) o) ≡ Some (suc k)
later b o k off is = let on : k + 1 ≡ suc k = omega arith in rw (off, is) (ap Some on)

pub own-place : {X : Type 0} (es : List (Name × X)) (k : ℕ) (x : Name × X) → AreApart row_key es → slice_get es k ≡ Some x → place_by row_key x.0 es ≡ Some k
own-place [] k x apart is = absurd (cc)
own-place (e ∷ es) zero x apart is =
    let same : e ≡ x = same_Some e x is in
    ap (λ (b : Bool). cond b (Some 0) (option_map (λ i. i + 1) (place_by row_key x.0 es))) (ap (λ (y : Name × _). same_name x.0 y.0) same ∙ same_name-itself x.0)
own-place (e ∷ es) (suc k) x apart is =
    let rest = own-place es k x apart.1 is in
    elim (cases_Bool (same_name x.0 e.0)) [
      | inl same ↦
          let none : place_by row_key x.0 es ≡ None = ap (λ n. place_by row_key n es) (equal_if_same x.0 e.0 same) ∙ apart.0 in
          let clash : None ≡ Some k = sym none ∙ rest in
          absurd (cc)
      | inr far ↦ later (same_name x.0 e.0) (place_by row_key x.0 es) k far rest
    ]

-- what stands where a name is found has it
pub named-at : {X : Type 0} (es : List (Name × X)) (s : Name) (i : ℕ) (x : Name × X) → place_by row_key s es ≡ Some i → slice_get es i ≡ Some x → x.0 ≡ s
named-at es s i x at is = sym (ap (λ (y : Name × _). y.0) (get_or_from_slice_get es i x x is)) ∙ (place-is row_key (λ (y : Name × _). y) s es i at).named x

-- what is read at the place of a name is there under that name

value_at : {X : Type 0} (es : List (Name × X)) (i : ℕ) (v : X) → slice_get (values_of es) i ≡ Some v → (e : Name × X) × (slice_get es i ≡ Some e) × (e.1 ≡ v)
value_at [] i v read = let none : None ≡ Some v = read in absurd (cc)
value_at (e ∷ es) zero v read = (e, refl, same_Some e.1 v read)
value_at (e ∷ es) (suc i) v read = value_at es i v read

pub placed : {X : Type 0} (es : List (Name × X)) (s : Name) (i : ℕ) (v : X) → Some i ≡ place_by row_key s es → slice_get (values_of es) i ≡ Some v → slice_get es i ≡ Some (s, v)
placed es s i v at read =
    let r = value_at es i v read in
    r.1 ∙ ap₂ (λ (n : Name) (w : _). Some (n, w)) (named-at es s i r.0 (sym at) r.1) r.2

-- of two that changed places each was there
pub swap-among : {S : Type 0} (ss : List (Name × Seat S)) (a b : ℕ) → a < length ss → b < length ss → AreAmong ss (swap ss a b)
swap-among ss a b la lb x at = elim (swap_got ss a b at.at x la lb at.is) [
  | inl here ↦ behind_more 0 ss x a (omega arith) here.1
  | inr far ↦ elim far.1 [
    | inl first ↦ behind_more 0 ss x b (omega arith) first.1
    | inr other ↦ behind_more 0 ss x at.at (omega arith) other.1
  ]
]

pub among-itself : {S : Type 0} (ss : List (Name × Seat S)) → AreAmong ss ss
among-itself ss x b = b

past_next : (k at : ℕ) → k - 1 ≤ at → at ≢ k - 1 → k ≤ at
past_next k at past other = elim (cases_lt (k - 1) at) [
  | inl less ↦ omega (arith, less)
  | inr more ↦ absurd (other (omega (arith, past, more)))
]

module _ {S : Type 0} (ss : List (Name × Seat S)) (apart : AreApart seat_key ss) (s : Name) where
  not_here : (i : ℕ) → Some i ≡ place_by seat_key s ss → (k : ℕ) (x : Name × Seat S) → slice_get ss k ≡ Some x → k ≢ i → x.0 ≢ s
  not_here i at k x is other same = other (same_Some k i (sym (own-place ss k x apart is) ∙ ap (λ n. place_by seat_key n ss) same ∙ sym at))

  nowhere : None ≡ place_by seat_key s ss → (k : ℕ) (x : Name × Seat S) → slice_get ss k ≡ Some x → x.0 ≢ s
  nowhere none k x is same =
      let clash : None ≡ Some k = none ∙ ap (λ n. place_by seat_key n ss) (sym same) ∙ own-place ss k x apart is in
      absurd (cc)

  -- a server that isn't there, or is asked already
  pub ask-absent : (k : ℕ) → None ≡ place_by seat_key s ss → AreLess s k ss k ss
  ask-absent k none x b = (nowhere none b.at x b.is, b)

  pub ask-asked : (k i : ℕ) → Some i ≡ place_by seat_key s ss → i < k → AreLess s k ss k ss
  ask-asked k i at before x b = (not_here i at b.at x b.is (λ e. omega (arith, e, before, b.past)), b)

  -- one that comes before those that are quiet
  pub ask-moved : (k i : ℕ) → Some i ≡ place_by seat_key s ss → i < length ss → k ≤ i → AreLess s k ss (k + 1) (swap ss k i)
  ask-moved k i at below past x b = elim (swap_got ss k i b.at x (omega (arith, below, past)) below b.is) [
    | inl here ↦ (not_here i at k x here.1 (λ e. omega (arith, e, here.0, b.past)), behind_more k ss x k (omega arith) here.1)
    | inr far ↦ elim far.1 [
      | inl first ↦ absurd (omega (arith, first.0, b.past))
      | inr other ↦ (not_here i at b.at x other.1 far.0, behind_more k ss x b.at (omega (arith, b.past)) other.1)
    ]
  ]

  -- one that is asked comes after those that are asked
  pub last-moved : (k i : ℕ) → Some i ≡ place_by seat_key s ss → i < k → k ≤ length ss → AreBut s k ss (k - 1) (swap ss i (k - 1))
  last-moved k i at before fits x b other = elim (swap_got ss i (k - 1) b.at x (omega (arith, before, fits)) (omega (arith, before, fits)) b.is) [
    | inl here ↦ absurd (other (named-at ss s i x (sym at) here.1))
    | inr far ↦ elim far.1 [
      | inl first ↦ absurd (far.0 (omega (arith, first.0, b.past, before)))
      | inr rest ↦
          behind_more k ss x b.at (past_next k b.at b.past far.0) rest.1
    ]
  ]

-- where one is let go that was asked, those that come after did so before, or are this one
pub go-moved : {X : Type 0} (xs : List X) (k i : ℕ) → i < k → k ≤ length xs → (x : X) → Behind (k - 1) (swap xs i (k - 1)) x → (slice_get xs i ≡ Some x) ⊎ Behind k xs x
go-moved xs k i before fits x b = elim (swap_got xs i (k - 1) b.at x (omega (arith, before, fits)) (omega (arith, before, fits)) b.is) [
  | inl here ↦ inl here.1
  | inr far ↦ elim far.1 [
    | inl first ↦ absurd (far.0 (omega (arith, first.0, b.past, before)))
    | inr other ↦ inr (behind_more k xs x b.at (past_next k b.at b.past far.0) other.1)
  ]
]

-- one that goes, whose place the last takes
pub drop-less : {S : Type 0} (ss : List (Name × Seat S)) → AreApart seat_key ss → (s : Name) (k : ℕ) → AreLess s k ss k (swap_remove_entry (same_name s) ss)
drop-less [] apart s k x b = let none : None ≡ Some x = b.is in absurd (cc)
drop-less (e ∷ es) apart s k x b = by (position (same_name s) (keys_of (e ∷ es))) (sym (place-position s (e ∷ es))) b.is
  where
    by : (o : Option ℕ) → place_by seat_key s (e ∷ es) ≡ o → slice_get (option_map_or (λ i. swap_remove (e ∷ es) i e) o (e ∷ es)) b.at ≡ Some x → (x.0 ≢ s) × Behind k (e ∷ es) x
    by None at is = (nowhere (e ∷ es) apart s (sym at) b.at x is, behind_more k (e ∷ es) x b.at b.past is)
    by (Some i) at is =
        let below = (place-is seat_key (λ (y : Name × Seat _). y) s (e ∷ es) i at).below in
        let r = out_got (e ∷ es) i e b.at x below is in
        let last = length (e ∷ es) - 1 in
        elim r.1 [
          | inl here ↦ (not_here (e ∷ es) apart s i (sym at) last x here.1 (λ same. omega (arith, same, here.0, r.0)), behind_more k (e ∷ es) x last (omega (arith, b.past, r.0)) here.1)
          | inr other ↦ (not_here (e ∷ es) apart s i (sym at) b.at x other.1 other.0, behind_more k (e ∷ es) x b.at b.past other.1)
        ]

-- one that is put, in place of what had its name, or last
pub put_got : {X : Type 0} (es : List (Name × X)) (n : Name) (v : X) (i : ℕ) (x : Name × X) → slice_get (insert_entry same_name es n v) i ≡ Some x → (x ≡ (n, v)) ⊎ (slice_get es i ≡ Some x)
put_got [] n v zero x is = inl (sym (same_Some (n, v) x is))
put_got [] n v (suc i) x is = let none : None ≡ Some x = is in absurd (cc)
put_got (e ∷ es) n v i x is = elim (cases_Bool (same_name n e.0)) [
  | inl same ↦ here (sym (equal_if_same n e.0 same)) i (sym (ap (λ (b : Bool). slice_get (cond b ((e.0, v) ∷ es) (e ∷ insert_entry same_name es n v)) i) same) ∙ is)
  | inr far ↦ there (λ k at. put_got es n v k x at) i (sym (ap (λ (b : Bool). slice_get (cond b ((e.0, v) ∷ es) (e ∷ insert_entry same_name es n v)) i) far) ∙ is)
]
  where
    here : e.0 ≡ n → (k : ℕ) → slice_get ((e.0, v) ∷ es) k ≡ Some x → (x ≡ (n, v)) ⊎ (slice_get (e ∷ es) k ≡ Some x)
    here e_is zero at = inl (sym (same_Some (e.0, v) x at) ∙ ap (λ (q : Name). (q, v)) e_is)
    here e_is (suc k) at = inr at

    there : ((k : ℕ) → slice_get (insert_entry same_name es n v) k ≡ Some x → (x ≡ (n, v)) ⊎ (slice_get es k ≡ Some x)) → (k : ℕ) → slice_get (e ∷ insert_entry same_name es n v) k ≡ Some x → (x ≡ (n, v)) ⊎ (slice_get (e ∷ es) k ≡ Some x)
    there rest zero at = inr at
    there rest (suc k) at = rest k at

-- what is found under a name is there
pub lookup-behind : {X : Type 0} (es : List (Name × X)) (n : Name) (v : X) → lookup (same_name n) es ≡ Some v → Behind 0 es (n, v)
lookup-behind [] n v is = absurd (let none : None ≡ Some v = is in cc)
lookup-behind (e ∷ es) n v is = elim (cases_Bool (same_name n e.0)) [
  | inl same ↦
      let here : e.1 ≡ v = same_Some e.1 v (sym (ap (λ (b : Bool). cond b (Some e.1) (lookup (same_name n) es)) same) ∙ is) in
      record { at = 0; past = omega arith; is = ap₂ (λ (q : Name) (w : _). Some (q, w)) (sym (equal_if_same n e.0 same)) here }
  | inr far ↦
      let b = lookup-behind es n v (sym (ap (λ (b : Bool). cond b (Some e.1) (lookup (same_name n) es)) far) ∙ is) in
      record { at = suc b.at; past = omega arith; is = b.is }
]

pub found-behind : {X : Type 0} (es : List (Name × X)) (n : Name) (o : Option X) → o ≡ lookup (same_name n) es → IfSome o (λ (v : X). Behind 0 es (n, v))
found-behind es n None is = tt
found-behind es n (Some v) is = lookup-behind es n v (sym is)

pub found-seat : {S : Type 0} (ss : List (Name × Seat S)) (n : Name) (o : Option (Seat S)) → o ≡ lookup (same_name n) ss → IfSome o (λ (v : Seat S). fin.get (seats_of ss) n ≡ Some (seat_value v))
unfolding seats_of
found-seat ss n None is = tt
found-seat ss n (Some v) is = row-got seat_value ss n ∙ ap (option_map seat_value) (sym is)

pub found-none : {X : Type 0} (es : List (Name × X)) (n : Name) → lookup (same_name n) es ≡ None → place_by row_key n es ≡ None
found-none [] n none = refl
found-none (e ∷ es) n none = elim (cases_Bool (same_name n e.0)) [
  | inl same ↦ absurd (let clash : Some e.1 ≡ None = sym (ap (λ (b : Bool). cond b (Some e.1) (lookup (same_name n) es)) same) ∙ none in cc)
  | inr far ↦ rw (far, found-none es n (sym (ap (λ (b : Bool). cond b (Some e.1) (lookup (same_name n) es)) far) ∙ none)) refl
]

-- a server without a place has no seat
pub absent-seat : {S : Type 0} (ss : List (Name × Seat S)) (s : Name) → place_by seat_key s ss ≡ None → fin.get (seats_of ss) s ≡ None
unfolding seats_of
absent-seat ss s none = get-absent seat_key seated_in s ss (sym none)

-- a seat that is somewhere is there
pub behind-there : {S : Type 0} (ss : List (Name × Seat S)) → AreApart seat_key ss → (x : Name × Seat S) → Behind 0 ss x → is_some (fin.get (seats_of ss) x.0) ≡ true
unfolding seats_of
behind-there ss apart x b = sym (contains-place seat_key seated_in x.0 ss) ∙ ap (λ (o : Option ℕ). is_some o) (own-place ss b.at x apart b.is)

-- a table of the same rows in another order
module _ {X S : Type 0} (m l : IndexMap Name (Seat X) S) where
  pub seats-same : ((q : Name) → get same_name l q ≡ get same_name m q) → seats_of l.entries ≡ seats_of m.entries
  unfolding seats_of
  seats-same same = same_map_by _ _ (λ q. row-got seat_value l.entries q ∙ ap (option_map seat_value) (same q) ∙ sym (row-got seat_value m.entries q))

-- what comes after after a seat was put
pub put-behind : {X : Type 0} (es : List (Name × X)) (n : Name) (v : X) (k : ℕ) (x : Name × X) → Behind k (insert_entry same_name es n v) x → (x ≡ (n, v)) ⊎ Behind k es x
put-behind es n v k x b = elim (put_got es n v b.at x b.is) [
  | inl new ↦ inl new
  | inr old ↦ inr (behind_more k es x b.at b.past old)
]

pub ruleset put = (put-behind)

-- those that are not a server that is given, if one is

pub given-asked : {S : Type 0} (o : Option Name) (s : Name) (k l : ℕ) (ss ts : List (Name × Seat S)) → o ≡ Some s → AreLess s k ss l ts → AreNot o k ss l ts
given-asked o s k l ss ts at less x b = let r = less x b in (λ is. r.0 (same_Some x.0 s (sym is ∙ at)), r.1)

pub given-none : {S : Type 0} (o : Option Name) (k : ℕ) (ss : List (Name × Seat S)) → o ≡ None → AreNot o k ss k ss
given-none o k ss none x b = (λ is. let clash : None ≡ Some x.0 = sym none ∙ is in absurd (cc), b)

-- seats that change places
pub ruleset asks = (ask-absent, ask-asked, ask-moved, last-moved, swap-among, among-itself, seats-same, distinct-apart)
