-- The list that a seat keeps of its server's nodes.
use Rattle.std.proofs.Common.{◌≡◌, inl, inr, ℕ, zero, suc, Bool, true, false, ◌||◌, ◌&&◌, List, [], ◌∷◌, length, filter, refl, sym, subst, ap, ◌∙◌, true≢false, arith}
use Rattle.std.proofs.lemmas.Bool.{and_from, and_parts, cases_Bool, or_cases, or_left, or_right}
use Rattle.std.specs.Prelude.{Option, Some, None, Result, Ok, Err, OnOk, option_and_then, slice_get}
use Rattle.std.specs.Global.{Vec}
use Rattle.std.specs.Map.{values_of}
use Rattle.std.specs.List.{list_any}
use Rattle.std.specs.FinMap as fin
use Rattle.indexmap.specs.IndexMap.{set_value_at}
use Rattle.hurd_creds.specs.declared.name.Name.{Name}
use Rattle.hurd_creds.specs.Names.{is_one, same_name}
use Rattle.hurd_creds.specs.NameMaps.{NameMap, place_by}
use Rattle.std.proofs.lemmas.Option.{same_Some}
use Rattle.hurd_creds.proofs.NameLaws.{equal_if_same, get_apart, get_here, same_map_by, same_name-itself, same_or_apart}
use Rattle.hurd_trans_iface.specs.Nodes.{is_listed}
use Rattle.hurd_nodes.specs.declared.seat.Seat.{Seat}
use Rattle.hurd_nodes.specs.declared.seat.Site.{Site}
use Rattle.hurd_nodes.specs.Held.{AreApart, active_in, home_in, seat_key, seat_value, sites_of, seats_of}
use Rattle.hurd_nodes.specs.Quiet.{IsTold, Lists}
use Rattle.hurd_nodes.specs.Tables.{AreTables}
use Rattle.hurd_nodes.specs.Settle.{any_in}
use Rattle.hurd_nodes.proofs.GoneLaws.{own_home}
use Rattle.hurd_nodes.proofs.AskedLaws.{named-at, own-place}
use Rattle.hurd_nodes.proofs.SeatLaws.{seat-changed, seat-found}
use Rattle.hurd_nodes.proofs.SeatedLaws.{tables-put, value_got}
use Rattle.hurd_nodes.proofs.PartLaws.{any-more, any_in-found, any_in-here, same_bool}
use Rattle.hurd_nodes.proofs.Sites.{active_by, home_by, seat-site, site-of}

-- what passes stays on the list
pub listed-kept : (p : Name → Bool) (n : Name) (ns : List Name) → p n ≡ true → is_listed n ns ≡ true → is_listed n (filter p ns) ≡ true
listed-kept p n [] passes on = on
listed-kept p n (m ∷ ns) passes on = elim (or_cases (same_name n m) (is_listed n ns) on) [
  | inl here ↦
      let stays : p m ≡ true = ap p (sym (equal_if_same n m here)) ∙ passes in
      rw stays (or_left (same_name n m) _ here)
  | inr later ↦ elim (cases_Bool (p m)) [
    | inl stays ↦ rw stays (or_right (same_name n m) _ (listed-kept p n ns passes later))
    | inr goes ↦ rw goes (listed-kept p n ns passes later)
  ]
]

-- what is active where its seat says is active somewhere, and else nowhere
module _ {S : Type 0} (sites : NameMap Site) (s : Name) (e : Seat S) (t : IsTold sites (s, e)) where
  at_seat : (o : Option Name) → is_one s (option_and_then (active_in sites) o) ≡ true → (n : Name) × (active_in sites n ≡ Some s)
  at_seat None is = absurd (true≢false (sym is))
  at_seat (Some n) is = (n, own_home s (active_in sites n) is)

  pub active-placed : is_one s (option_and_then (active_in sites) e.at) ≡ any_in (λ n (r : Site). is_one s r.active) sites
  active-placed = same_bool _ _
      (λ is.
      let a = at_seat e.at is in
      let r = seat-site sites a.0 s a.1 in
      any_in-here (λ n (r : Site). is_one s r.active) sites a.0 r.0 r.1 (ap (is_one s) r.2 ∙ same_name-itself s))
      (λ some.
      let f = any_in-found (λ n (r : Site). is_one s r.active) sites some in
      let on : active_in sites f.name ≡ Some s = ap active_by f.is ∙ own_home s f.item.active f.holds in
      ap (λ (o : Option Name). is_one s (option_and_then (active_in sites) o)) (t.placed f.name on) ∙ ap (is_one s) on ∙ same_name-itself s)

  -- a node of it that is named is on its list
  module _ (named : Name → Bool) where
    abbrev on_list : Name → Bool
    on_list n = is_one s (home_in sites n) && named n

    abbrev on_site : Name → Site → Bool
    on_site n r = same_name s r.home && named n

    listed_found : (ns : List Name) → list_any on_list ns ≡ true → any_in on_site sites ≡ true
    listed_found [] none = absurd (true≢false (sym none))
    listed_found (n ∷ ns) some = elim (or_cases (on_list n) (list_any on_list ns) some) [
      | inl here ↦
          let both = and_parts (is_one s (home_in sites n)) (named n) here in
          let r = site-of sites n s (own_home s (home_in sites n) both.0) in
          any_in-here on_site sites n r.0 r.1 (and_from (same_name s r.0.home) (named n) (ap (same_name s) r.2 ∙ same_name-itself s) both.1)
      | inr later ↦ listed_found ns later
    ]

    pub held-listed : list_any on_list (e.root ∷ e.own.items) ≡ any_in on_site sites
    held-listed = same_bool _ _
        (listed_found (e.root ∷ e.own.items))
        (λ some.
        let f = any_in-found on_site sites some in
        let both = and_parts (same_name s f.item.home) (named f.name) f.holds in
        let home : home_in sites f.name ≡ Some s = ap home_by f.is ∙ ap Some (sym (equal_if_same s f.item.home both.0)) in
        any-more (same_name f.name) on_list (e.root ∷ e.own.items)
        (λ q same. rw (← equal_if_same f.name q same) (and_from (is_one s (home_in sites f.name)) (named f.name) (ap (is_one s) home ∙ same_name-itself s) both.1))
        (t.listed f.name home))

-- where the first doesn't hold, the second tells
pub or_second : (a b c : Bool) → a ≡ false → c ≡ b → c ≡ (a || b)
or_second a b c off is = is ∙ sym (ap (λ (x : Bool). x || b) off)

-- another list in a server's seat
module _ {S : Type 0} (ss : List (Name × Seat S)) (s : Name) (i : ℕ) (x : Seat S) (at : Some i ≡ place_by seat_key s ss) (read : slice_get (values_of ss) i ≡ Some x) (own : Vec Name) where
  abbrev with_list : Seat S
  with_list = record x { own = own }

  -- is not seen
  pub own-unseen : seats_of (set_value_at ss i with_list) ≡ seats_of ss
  own-unseen = seat-changed ss s i x at read with_list ∙ same_map_by _ _ (λ q. elim (same_or_apart q s) [
    | inl here ↦ ap (fin.get (fin.insert (seats_of ss) s (seat_value x))) here ∙ get_here (seats_of ss) s (seat_value x) ∙ sym (ap (fin.get (seats_of ss)) here ∙ seat-found ss s i x at read)
    | inr apart ↦ get_apart (seats_of ss) s (seat_value x) q apart
  ])

  -- and the tables are what they were, if it lists each node that was listed
  pub own-tables : (rs : List (Name × Site)) (k : ℕ) → ((n : Name) → home_in (sites_of rs) n ≡ Some s → is_listed n x.own.items ≡ true → is_listed n own.items ≡ true) → AreTables rs ss k
      → AreTables rs (set_value_at ss i with_list) k
  own-tables rs k kept t = tables-put rs ss k i x with_list read t refl (λ n p here home on. elim (or_cases (same_name n x.root) (is_listed n x.own.items) on) [
    | inl root ↦ or_left (same_name n x.root) _ root
    | inr later ↦ or_right (same_name n x.root) _ (kept n (home ∙ ap Some (sym (named_there p here))) later)
  ])
    where
      named_there : (p : Name) → slice_get ss i ≡ Some (p, x) → s ≡ p
      named_there p here = sym (named-at ss s i (p, x) (sym at) here)

  -- it lists a node that it has
  pub own-lists : AreApart seat_key ss → (o : Option Name) → o ≡ Some s → (n : Name) → is_listed n own.items ≡ true → Lists (set_value_at ss i with_list) o n
  own-lists apart o is n on z b home =
      let same : s ≡ z.0 = same_Some s z.0 (sym is ∙ home) in
      elim (value_got ss i x with_list read b.at z b.is) [
        | inl here ↦ subst (λ (y : Name × Seat S). is_listed n (y.1.root ∷ y.1.own.items) ≡ true) (sym here.1) (or_right (same_name n x.root) _ on)
        | inr other ↦ absurd (other.0 (same_Some b.at i (sym (own-place ss b.at z apart other.1) ∙ ap (λ (q : Name). place_by seat_key q ss) (sym same) ∙ sym at)))
      ]

-- a list with another value at a place is as long
pub length-kept : {X : Type 0} (es : List (Name × X)) (i : ℕ) (y : X) → length (set_value_at es i y) ≡ length es
length-kept [] i y = refl
length-kept (e ∷ es) zero y = refl
length-kept (e ∷ es) (suc i) y = ap suc (length-kept es i y)

-- what follows from what holds of a success holds of it
pub on-ok : {A E P Q : Type 0} (r : Result A E) → OnOk r P → (P → Q) → OnOk r Q
on-ok (Ok x) holds follows = follows holds
on-ok (Err e) holds follows = tt

-- what a seat lists it lists with another box
pub lists-set : {S : Type 0} (ss : List (Name × Seat S)) (i : ℕ) (x : Seat S) (w : S) → slice_get (values_of ss) i ≡ Some x → (o : Option Name) (n : Name) → Lists ss o n
    → Lists (set_value_at ss i (record x { server = w })) o n
lists-set {S} ss i x w read o n lists z b home = elim (value_got ss i x (record x { server = w }) read b.at z b.is) [
  | inl here ↦ subst (λ (y : Name × Seat S). is_listed n (y.1.root ∷ y.1.own.items) ≡ true) (sym here.1) (lists (z.0, x) (record { at = i; past = omega arith; is = here.2 }) home)
  | inr other ↦ lists z (record { at = b.at; past = b.past; is = other.1 }) home
]
