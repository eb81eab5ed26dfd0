-- Where the box of a node's server has forgotten it: what is shown then, and that boxes hide nothing.
use Rattle.std.proofs.Common.{arith, ◌≡◌, ◌≢◌, inl, inr, Bool, true, false, cond, true≢false, refl, sym, ap, ◌∙◌}
use Rattle.std.proofs.lemmas.Bool.{cases_Bool}
use Rattle.std.proofs.lemmas.Grind.{common_steps}
use Rattle.std.proofs.lemmas.Option.{same_Some}
use Rattle.std.specs.Prelude.{Option, Some, None, is_some}
use Rattle.std.specs.Option.{option_map}
use Rattle.std.specs.FinMap as fin
use Rattle.hurd_creds.specs.declared.name.Name.{Name}
use Rattle.hurd_creds.specs.NameMaps.{NameMap, edit}
use Rattle.hurd_creds.proofs.NameLaws.{same_map_by, same_or_apart, same_name-itself, get_here, get_apart, remove_here, remove_apart, edit_here, edit_apart}
use Rattle.hurd_trans_iface.specs.Nodes.{Node, NodeMap}
use Rattle.hurd_trans_iface.specs.Meaning.{Meaning}
use Rattle.hurd_nodes.specs.declared.seat.Site.{Site}
use Rattle.hurd_nodes.specs.Held.{Seated, box_by, home_in, new_site}
use Rattle.hurd_nodes.specs.Shown.{NodeState, ServerInfo, are_kin, attached, flat, forgotten, forgotten_elsewhere, is_other, node_in, nodes_of, servers_of, without_old, without_sites}
use Rattle.hurd_nodes.proofs.HideLaws.{AreBare, TellsAll, has}
use Rattle.hurd_nodes.proofs.PartLaws.{get-kept, mapped-some}
use Rattle.hurd_nodes.proofs.ShownLaws.{get-nodes, kin-home}
use Rattle.hurd_nodes.proofs.Sites.{home-here}
use Rattle.hurd_nodes.proofs.TakeLaws.{forget, other_by, servers-same}

module _ (sites : NameMap Site) (seats : NameMap (Seated Meaning)) (tells : TellsAll sites seats) (n : Name) where
  -- a box that forgot it has what it had, and another is as it was
  forgot : (b p : Name) (y : Seated Meaning) → fin.get (edit b (forget n) seats) p ≡ Some y → (x : Seated Meaning) × (fin.get seats p ≡ Some x) × ((q : Name) → has y.server.nodes q ≡ true → has x.server.nodes q ≡ true)
  forgot b p y is = elim (same_or_apart p b) [
    | inl here ↦
        let x = mapped-some (forget n) (fin.get seats p) y (sym (edit_at here) ∙ is) in
        (x.0, x.1, λ q there. less x.0 y x.2 q there)
    | inr apart ↦ (y, sym (edit_apart seats b (forget n) p apart) ∙ is, λ q there. there)
  ]
    where
      edit_at : p ≡ b → fin.get (edit b (forget n) seats) p ≡ option_map (forget n) (fin.get seats p)
      edit_at here = ap (fin.get (edit b (forget n) seats)) here ∙ edit_here seats b (forget n) ∙ ap (λ (s : Name). option_map (forget n) (fin.get seats s)) (sym here)

      less : (x z : Seated Meaning) → forget n x ≡ z → (q : Name) → has z.server.nodes q ≡ true → has x.server.nodes q ≡ true
      less x z is q there = elim (same_or_apart q n) [
        | inl here ↦ absurd (true≢false (sym there ∙ ap (λ (e : Seated Meaning). has e.server.nodes q) (sym is) ∙ ap (λ (o : Option Node). is_some o) (ap (fin.get (fin.remove x.server.nodes n)) here ∙ remove_here x.server.nodes n)))
        | inr apart ↦ ap (λ (o : Option Node). is_some o) (sym (remove_apart x.server.nodes n q apart)) ∙ ap (λ (e : Seated Meaning). has e.server.nodes q) is ∙ there
      ]

  pub forgotten-tells : (o : Option Name) → TellsAll sites (forgotten n o seats)
  forgotten-tells None p q y is there = tells p q y is there
  forgotten-tells (Some b) p q y is there = let x = forgot b p y is in tells p q x.0 x.1 (x.2 q there)

  -- no box has it then
  pub forgotten-bare : (o : Option Name) → home_in sites n ≡ o → AreBare n (forgotten n o seats)
  forgotten-bare None home p y is = elim (cases_Bool (has y.server.nodes n)) [
    | inl there ↦ absurd (let clash : None ≡ Some p = sym home ∙ tells p n y is there in cc)
    | inr none ↦ none
  ]
  forgotten-bare (Some b) home p y is = elim (same_or_apart p b) [
    | inl here ↦
        let x = mapped-some (forget n) (fin.get seats p) y (sym (ap (fin.get (edit b (forget n) seats)) here ∙ edit_here seats b (forget n) ∙ ap (λ (s : Name). option_map (forget n) (fin.get seats s)) (sym here)) ∙ is) in
        ap (λ (e : Seated Meaning). has e.server.nodes n) (sym x.2) ∙ ap (λ (u : Option Node). is_some u) (remove_here x.0.server.nodes n)
    | inr apart ↦ elim (cases_Bool (has y.server.nodes n)) [
      | inl there ↦ absurd (apart (same_Some p b (sym (tells p n y (sym (edit_apart seats b (forget n) p apart) ∙ is) there) ∙ home)))
      | inr none ↦ none
    ]
  ]

-- a server comes, whose root has the place of a node that is not shown any more

module _ (s at : Name) (i : ServerInfo) (root : Node) where
  over : (m k : NodeMap) → ((q : Name) → q ≢ i.root → fin.get m q ≡ fin.get k q) → (F : Name → Bool) → (q : Name) → q ≢ i.root → fin.get (fin.retain_keys m F) q ≡ fin.get (fin.retain_keys k F) q
  over m k same F q apart = get-kept m F q ∙ ap (λ (o : Option Node). cond (F q) o None) (same q apart) ∙ sym (get-kept k F q)

  inserted : (m k : NodeMap) → ((q : Name) → q ≢ i.root → fin.get m q ≡ fin.get k q) → fin.insert m i.root root ≡ fin.insert k i.root root
  inserted m k same = same_map_by _ _ (λ q. elim (same_or_apart q i.root) [
    | inl here ↦ rw here (get_here m i.root root ∙ sym (get_here k i.root root))
    | inr apart ↦ get_apart m i.root root q apart ∙ same q apart ∙ sym (get_apart k i.root root q apart)
  ])

  pub attached-over : (o : Option Name) (h : NodeState) (m : NodeMap) → ((q : Name) → q ≢ i.root → fin.get m q ≡ fin.get h.nodes q)
      → attached s at i root (without_old o (let k : NodeState = record h { nodes = m } in k)) ≡ attached s at i root (without_old o h)
  attached-over None h m same = rw (inserted _ _ (over m h.nodes same (is_other s h.sites))) refl
  attached-over (Some q) h m same = rw (inserted _ _ (over _ _ (over m h.nodes same (is_other q h.sites)) (is_other s (without_sites q h.sites)))) refl

  -- of the maps
  pub attached-forgotten : (o u : Option Name) (sites : NameMap Site) (seats : NameMap (Seated Meaning)) → attached s at i root (without_old o (flat sites (forgotten i.root u seats))) ≡ attached s at i root (without_old o (flat sites seats))
  attached-forgotten o u sites seats =
      rw (servers-same sites seats i.root u)
      (attached-over o (flat sites seats) (nodes_of sites (forgotten i.root u seats))
      (λ q apart. get-nodes sites (forgotten i.root u seats) q ∙ other_by sites seats i.root q apart u (home_in sites q) ∙ sym (get-nodes sites seats q)))

-- a node was made by a server under a name that another may have had
module _ (sites : NameMap Site) (seats : NameMap (Seated Meaning)) (s n : Name) where
  abbrev sites_after : NameMap Site
  sites_after = fin.insert sites n (new_site s)

  -- what it has is shown as before
  kept_home : (o : Option Name) → are_kin o (Some s) ≡ false → node_in n (box_by (forgotten n o seats) (Some s)) ≡ node_in n (box_by seats (Some s))
  kept_home o far = grind (arith, common_steps, edit_apart, same_or_apart, same_name-itself)

  pub made-shown : (o : Option Name) → flat sites_after (forgotten_elsewhere n o (Some s) seats) ≡ flat sites_after seats
  made-shown o = elim (cases_Bool (are_kin o (Some s))) [
    | inl near ↦ rw near refl
    | inr far ↦ rw (far, servers-same sites seats n o) (ap (λ (m : NodeMap). let h : NodeState = record { nodes = m; sites = sites_after; servers = servers_of seats } in h)
        (same_map_by _ _ (λ q. get-nodes sites_after (forgotten n o seats) q ∙ elim (same_or_apart q n) [
          | inl here ↦ rw (here, home-here sites n (new_site s)) (kept_home o far)
          | inr apart ↦ other_by sites seats n q apart o (home_in sites_after q)
        ] ∙ sym (get-nodes sites_after seats q))))
  ]

  -- another box doesn't have it, and hides nothing
  module _ (tells : TellsAll sites seats) where
    abbrev o : Option Name
    o = home_in sites n

    pub elsewhere-tells : TellsAll sites (forgotten_elsewhere n o (Some s) seats)
    elsewhere-tells = elim (cases_Bool (are_kin o (Some s))) [
      | inl near ↦ rw near tells
      | inr far ↦ rw far (forgotten-tells sites seats tells n o)
    ]

    pub elsewhere-bare : (p : Name) (x : Seated Meaning) → p ≢ s → fin.get (forgotten_elsewhere n o (Some s) seats) p ≡ Some x → has x.server.nodes n ≡ false
    elsewhere-bare p x other is = elim (cases_Bool (are_kin o (Some s))) [
      | inl near ↦ elim (cases_Bool (has x.server.nodes n)) [
        | inl there ↦ absurd (other (same_Some p s (sym (tells p n x (rw near at is) there) ∙ sym (kin-home o (Some s) near))))
        | inr none ↦ none
      ]
      | inr far ↦ forgotten-bare sites seats tells n o refl p x (rw far at is)
    ]

  pub elsewhere-own : (o : Option Name) → fin.get (forgotten_elsewhere n o (Some s) seats) s ≡ fin.get seats s
  elsewhere-own o = grind (arith, common_steps, edit_apart, same_or_apart, same_name-itself)

  pub elsewhere-put : (o : Option Name) (e : Seated Meaning) → forgotten_elsewhere n o (Some s) (fin.insert seats s e) ≡ fin.insert (forgotten_elsewhere n o (Some s) seats) s e
  elsewhere-put o e = same_map_by _ _ (λ q. grind (arith, common_steps, same_or_apart, get_here, get_apart, edit_here, edit_apart, same_name-itself))
