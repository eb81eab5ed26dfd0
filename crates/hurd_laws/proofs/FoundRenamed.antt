-- What is in a world with other names is in the world itself.
use Rattle.std.proofs.Common.{◌≡◌, inl, inr, ℕ, true, List, [], ◌∷◌, Option, Some, None, map, refl, sym, ap, subst, ◌∙◌}
use Rattle.std.specs.Prelude.{option_and_then}
use Rattle.std.specs.Option.{option_map}
use Rattle.hurd_machine.proofs.Common.{Body, Content, Header, Io, IoRight, IsAmong, Listing, Name, NameMap, Node, Right, Control, Site, Start, Task, World, active_at, body_at, get, header_at, home_at, is_of, lists, lists_at, node_at, rights_of, same_name, site_at, task_at}
use Rattle.hurd_creds.proofs.NameLaws.{equal_if_same, same_name-itself}
use Rattle.hurd_nodes.proofs.PartLaws.{mapped-some}
use Rattle.hurd_trans_iface.specs.Nodes.{Entry}
use Rattle.hurd_machine.specs.Renamed.{OtherNames, body_renamed, entry_renamed, header_renamed, io_renamed, map_renamed, node_renamed, renamed, right_renamed, site_renamed, task_renamed}
use Rattle.hurd_machine.proofs.Holders.{any_among, any_of}
use Rattle.hurd_machine.proofs.RenamedMaps.{get-renamed, origin}
use Rattle.hurd_machine.proofs.RenamedTasks.{rights_of-renamed, task_at-renamed}

module _ {A B : Type 0} (g : A → B) where
  -- what holds of all that could have been made of what is there holds of what is made of it
  pub of_mapped : {p : Option B} (o : Option A) → p ≡ option_map g o → (P : B → Type 0) → ((x : A) → o ≡ Some x → P (g x)) → (y : B) → p ≡ Some y → P y
  of_mapped o same P holds y is = let m = mapped-some g o y (sym same ∙ is) in subst P m.2 (holds m.0 m.1)

  -- and of what is made of one of a list
  pub of_among : (xs : List A) (P : B → Type 0) → ((x : A) → IsAmong x xs → P (g x)) → (y : B) → IsAmong y (map g xs) → P y
  of_among [] P holds y at = absurd at
  of_among (x ∷ xs) P holds y (inl e) = subst P e (holds x (inl refl))
  of_among (x ∷ xs) P holds y (inr at) = of_among xs P (λ z in_rest. holds z (inr in_rest)) y at

module _ (f : OtherNames) where
  -- what holds of all that is in a map holds of what is there with other names
  module _ {X Y : Type 0} (g : X → Y) where
    pub of_found : (m : NameMap X) (P : Name → Y → Type 0) → ((n : Name) (x : X) → get m n ≡ Some x → P (f.to n) (g x)) → (q : Name) (y : Y) → get (map_renamed f.to g m) q ≡ Some y → P q y
    of_found m P holds q y is =
        let n = origin f g m q y is in
        let at : get (map_renamed f.to g m) (f.to n.0) ≡ Some y = rw (n.1) is in
        subst (λ (z : Name). P z y) n.1 (of_mapped g (get m n.0) (get-renamed f g m n.0) (P (f.to n.0)) (holds n.0) y at)

  of_listed : (b : Body) (P : Name → Type 0) → ((n : Name) → lists n b ≡ true → P (f.to n)) → (m : Name) → lists m (body_renamed f.to b) ≡ true → P m
  of_listed (Content bs) P holds m listed = absurd (cc)
  of_listed (Listing es) P holds m listed =
      let one = any_of (is_of m) (map (entry_renamed f.to) es) listed in
      of_among (entry_renamed f.to) es (λ (e : Entry). same_name e.node m ≡ true → P m)
      (λ e at same. subst P (equal_if_same (f.to e.node) m same) (holds e.node (any_among (is_of e.node) e es at (same_name-itself e.node))))
      one.0 one.1 one.2

  there : (m : Name) (o : Option Body) → lists_at m o ≡ true → (b : Body) × (o ≡ Some b) × (lists m b ≡ true)
  there m None listed = absurd (cc)
  there m (Some b) listed = (b, refl, listed)

  sits : (o : Option Site) (s : Name) → option_and_then (λ (r : Site). r.active) o ≡ Some s → (r : Site) × (o ≡ Some r) × (r.active ≡ Some s)
  sits None s is = absurd (cc)
  sits (Some r) s is = (r, refl, is)

  abbrev ForIo : (IoRight → Type 0) → Right → Type 0
  ForIo P (Io r) = P r
  ForIo P (Control s) = Unit {0}
  ForIo P (Start n) = Unit {0}

  module _ (w : World) where
    -- the same of headers, of entries, of homes, and of servers that are active

    pub of_headers : (P : Name → Header → Type 0) → ((n : Name) (k : Header) → header_at w n ≡ Some k → P (f.to n) (header_renamed f.to k))
        → (q : Name) (k : Header) → header_at (renamed f w) q ≡ Some k → P q k
    of_headers P holds q k is =
        let x = mapped-some (λ (x : Node). x.header) (node_at (renamed f w) q) k is in
        subst (P q) x.2 (of_found (node_renamed f.to) w.nodes (λ (m : Name) (z : Node). P m z.header) (λ n z at. holds n z.header (ap (option_map (λ (z : Node). z.header)) at)) q x.0 x.1)

    pub of_entries : (P : Name → Name → Type 0) → ((d n : Name) → lists_at n (body_at w d) ≡ true → P (f.to d) (f.to n))
        → (q m : Name) → lists_at m (body_at (renamed f w) q) ≡ true → P q m
    of_entries P holds q m listed =
        let b = there m (body_at (renamed f w) q) listed in
        let x = mapped-some (λ (x : Node). x.body) (node_at (renamed f w) q) b.0 b.1 in
        of_found (node_renamed f.to) w.nodes (λ (d : Name) (z : Node). lists m z.body ≡ true → P d m)
        (λ d z at. of_listed z.body (P (f.to d)) (λ n among. holds d n (ap (λ (o : Option Node). lists_at n (option_map (λ (z : Node). z.body) o)) at ∙ among)) m)
        q x.0 x.1 (ap (lists m) x.2 ∙ b.2)

    pub of_homes : (P : Name → Name → Type 0) → ((n s : Name) → home_at w n ≡ Some s → P (f.to n) (f.to s)) → (q s : Name) → home_at (renamed f w) q ≡ Some s → P q s
    of_homes P holds q s is =
        let r = mapped-some (λ (r : Site). r.home) (site_at (renamed f w) q) s is in
        subst (P q) r.2 (of_found (site_renamed f.to) w.sites (λ (m : Name) (z : Site). P m z.home) (λ n z at. holds n z.home (ap (option_map (λ (z : Site). z.home)) at)) q r.0 r.1)

    pub of_actives : (P : Name → Name → Type 0) → ((n s : Name) → active_at w n ≡ Some s → P (f.to n) (f.to s)) → (q s : Name) → active_at (renamed f w) q ≡ Some s → P q s
    of_actives P holds q s is =
        let r = sits (site_at (renamed f w) q) s is in
        of_found (site_renamed f.to) w.sites (λ (m : Name) (z : Site). z.active ≡ Some s → P m s)
        (λ n z at. of_mapped f.to z.active refl (P (f.to n)) (λ a active. holds n a (ap (option_and_then (λ (z : Site). z.active)) at ∙ active)) s)
        q r.0 r.1 r.2

    -- of a task's rights, and of those to use nodes

    pub of_rights : (t : ℕ) (P : Right → Type 0) → ((x : Task) (r : Right) → task_at w t ≡ Some x → IsAmong r (rights_of x) → P (right_renamed f.to r))
        → (x : Task) (r : Right) → task_at (renamed f w) t ≡ Some x → IsAmong r (rights_of x) → P r
    of_rights t P holds x r is among =
        of_mapped (task_renamed f.to (f.more t)) (task_at w t) (task_at-renamed f w t) (λ (x : Task). (r : Right) → IsAmong r (rights_of x) → P r)
        (λ z at q here. of_among (right_renamed f.to) (rights_of z) P (λ s in_old. holds z s at in_old) q (subst (IsAmong q) (rights_of-renamed f (f.more t) z) here))
        x is r among

    pub of_ios : (t : ℕ) (P : IoRight → Type 0) → ((x : Task) (r : IoRight) → task_at w t ≡ Some x → IsAmong (Io r) (rights_of x) → P (io_renamed f.to r))
        → (x : Task) (r : IoRight) → task_at (renamed f w) t ≡ Some x → IsAmong (Io r) (rights_of x) → P r
    of_ios t P holds x r is among = of_rights t (ForIo P) each x (Io r) is among
      where
        each : (x : Task) (r : Right) → task_at w t ≡ Some x → IsAmong r (rights_of x) → ForIo P (right_renamed f.to r)
        each x (Io r) is at = holds x r is at
        each x (Control s) is at = tt
        each x (Start n) is at = tt
