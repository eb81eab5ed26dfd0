-- What each part of a world is after a server came or went, or lost its seat.
use Rattle.std.proofs.Common.{◌≡◌, ◌≢◌, ◌⊎◌, ℕ, not, Bool, true, false, cond, List, [], ◌∷◌, Option, Some, None, slice_get, sym, refl, ◌∙◌, ap, ap₂, subst, inl, inr, arith, ◌+◌}
use Rattle.hurd_machine.proofs.Common.{ABody, ATask, AUsers, AnEmpty, AnOpen, AnOptions, AttrOf, Below, BodyOf, Coherent, DropServer, EmptyOf, Io, IoRight, IsAmong, Name, Node, OpenOf, OptionsOf, Part, Right, ServerInfo, Task, TaskOf, TextOf, AText, Unseat, UsersOf, World, active_at, apply, count_list, count_rights, edit_task, get, holders, home_at, insert, is_one, is_on, is_other, names_open, new_site, open_at, part, rights_of, server_at, site_at, users, vacated, with_active, ends_at, ends_of, info_at, counts_by, info_in, EndsOf, AnEnds, ATotal, TotalOf, NameMap, Site, counts_for, total_if, total_at, tree_by, edit}
use Rattle.std.specs.Option.{option_map}
use Rattle.hurd_machine.proofs.Faces.{face_in, text_in}
use Rattle.hurd_nodes.proofs.Sites.{home-here, home-was, home-stays, home-edited, none-left, site-left, home_by}
use Rattle.hurd_machine.proofs.Sites.{idle_site, home_is, not_home}
use Rattle.hurd_nodes.proofs.PartLaws.{same_bool}
use Rattle.hurd_creds.proofs.NameLaws.{same_name-itself, same_or_apart, edit_apart, get_apart, get_here, remove_apart, remove_here}
use Rattle.hurd_ports.specs.Steps.{named}
use Rattle.hurd_ports.proofs.TaskLaws.{edit-apart}
use Rattle.hurd_machine.specs.Touched.{Goes}
use Rattle.hurd_machine.proofs.Nodes.{attr_same, header_in, body_in, empty_in, edit_alike, insert_alike}
use Rattle.hurd_creds.proofs.Retained.{get-retained}
use Rattle.hurd_machine.proofs.Tasks.{count_named, count_alike, edit_same}
use Rattle.hurd_machine.proofs.Coherence.{IsNext, Comes, none_if}
use Rattle.hurd_machine.proofs.Naming.{unnoded}
use Rattle.hurd_machine.proofs.Comes.{come_world, info_same, root_new, come_home, no_root, come_new, none_served}
use Rattle.hurd_machine.proofs.Ends.{ends_by, ends_fresh, ends_gone, ends_same}
use Rattle.hurd_machine.proofs.Totals.{total_homes, total_made, total_unmade, total_left, total_empty, own_total}

-- a part that says what is in a node, or who has it open
abbrev pub IsInside : Name → Part → Type 0
IsInside n k = (k ≡ EmptyOf n) ⊎ ((k ≡ BodyOf n) ⊎ (k ≡ EndsOf n))

-- a server has the same users where the nodes of rights have servers as they had
pub users_by : (w y : World) (s : Name) (ts : List Task) → ((t : ℕ) (x : Task) (r : IoRight) → slice_get ts t ≡ Some x → IsAmong (Io r) (rights_of x) → is_one s (home_at y r.node) ≡ is_one s (home_at w r.node))
    → count_rights (is_on y s) ts ≡ count_rights (is_on w s) ts
users_by w y s ts same = count_alike (is_on y s) (is_on w s) ts on
  where
    on : (t : ℕ) (x : Task) (r : Right) → slice_get ts t ≡ Some x → IsAmong r (rights_of x) → is_on y s r ≡ is_on w s r
    on t x (Io r) at i = same t x r at i
    on t x r at i = refl

-- where a task named a thing and a node got a site under a name that was not given, each server has as many users
pub users_named : (w y : World) (c : Coherent w) (n : Name) (next : IsNext w n) (k : ℕ) (m : Name) → (Below w m → ⊥) → ((q : Name) → q ≢ m → home_at y q ≡ home_at w q) → y.tasks ≡ edit_task n.task.0 (named k) w.tasks → (q : Name) → users y q ≡ users w q
users_named w y c n next k m new homes tasks q =
    ap (count_rights (is_on y q)) tasks
    ∙ users_by w y q (edit_task n.task.0 (named k) w.tasks) (λ t x r at i. ap (is_one q) (homes r.node (unnoded w c n next k m new t x (Io r) r.node at i (inl refl))))
    ∙ count_named (is_on w q) n.task.0 k w.tasks

-- nothing is counted that passes no test
pub none_counted : (ts : List Task) → count_rights (λ r. false) ts ≡ 0
none_counted [] = refl
none_counted (t ∷ ts) = omega (arith, none (rights_of t), none_counted ts)
  where
    none : (rs : List Right) → count_list (λ r. false) rs ≡ 0
    none [] = refl
    none (r ∷ rs) = omega (arith, none rs)

-- a server that has no nodes has no users
pub unused : (w : World) (s : Name) → ((n : Name) → home_at w n ≡ Some s → ⊥) → users w s ≡ 0
unused w s none = count_alike (is_on w s) (λ r. false) w.tasks (λ t x r at i. on r) ∙ none_counted w.tasks
  where
    on : (r : Right) → is_on w s r ≡ false
    on (Io r) = not_home s (home_at w r.node) (none r.node)
    on r = refl

-- nodes of a server that has none count for nothing
total_nothing : (w : World) → Coherent w → (s : Name) → (Below w s → ⊥) → own_total w.nodes w.sites s ≡ 0
total_nothing w c s new = total_empty w.nodes w.sites s (λ n e. none_served w c s new n s e refl)

-- a server that came

module _ (w : World) (c : Coherent w) (s at : Name) (i : ServerInfo) (node : Node) (p : Comes w s at i node) where
  abbrev come : World
  come = come_world w s at i node

  come_holders : (o : Name) → holders come o ≡ holders w o
  come_holders o = count_named (names_open o) s.task.0 2 w.tasks

  come_users : (q : Name) → users come q ≡ users w q
  come_users q = users_named w come c s p.next 2 i.root (root_new w c s at i node p) (come_home w c s at i node p) refl q

  -- its seat has the home that it had, and only its root is new
  abbrev come_sites : NameMap Site
  come_sites = insert w.sites i.root (new_site s)

  come_sum : (q : Name) → own_total come.nodes come.sites q ≡ own_total (insert w.nodes i.root node) come_sites q
  come_sum q = total_homes (insert w.nodes i.root node) come_sites q come.sites (λ n. home-edited come_sites at (Some s) n)

  come_total : (q : Name) → q ≢ s → own_total come.nodes come.sites q ≡ own_total w.nodes w.sites q
  come_total q apart = come_sum q ∙ total_unmade w.nodes w.sites q i.root s node (no_root w c s at i node p) apart

  come_own : own_total come.nodes come.sites s ≡ own_total w.nodes w.sites s + counts_for node.header
  come_own = come_sum s ∙ total_made w.nodes w.sites s i.root s node (no_root w c s at i node p) refl

  -- it leaves all parts but those that are its own, and its seat's
  pub come_parts : (k : Part) → k ≢ TaskOf s.task.0 → k ≢ AttrOf i.root → k ≢ EmptyOf i.root → k ≢ BodyOf i.root → k ≢ EndsOf i.root → k ≢ AttrOf at → k ≢ OptionsOf s → k ≢ TextOf s → k ≢ TotalOf s → part come k ≡ part w k
  come_parts (AttrOf n) task attr emptiness body ends seat options text total =
      let apart : n ≢ i.root = λ e. attr (ap AttrOf e) in
      attr_same (ap header_in (get_apart w.nodes i.root node n apart))
      (edit_apart (insert w.sites i.root (new_site s)) at (with_active (Some s)) n (λ e. seat (ap AttrOf e)) ∙ get_apart w.sites i.root (new_site s) n apart)
  come_parts (EmptyOf n) task attr emptiness body ends seat options text total = ap (λ (o : Option Node). AnEmpty (empty_in o)) (get_apart w.nodes i.root node n (λ e. emptiness (ap EmptyOf e)))
  come_parts (BodyOf n) task attr emptiness body ends seat options text total = ap (λ (o : Option Node). ABody (body_in o)) (get_apart w.nodes i.root node n (λ e. body (ap BodyOf e)))
  come_parts (EndsOf n) task attr emptiness body ends seat options text total = ap AnEnds (ends_same w come n (info_same w c s at i node p n (λ e. ends (ap EndsOf e))) refl)
  come_parts (OpenOf o) task attr emptiness body ends seat options text total = ap (AnOpen (open_at w o)) (come_holders o)
  come_parts (OptionsOf q) task attr emptiness body ends seat options text total = ap (λ o. AnOptions (face_in o)) (get_apart w.servers s i q (λ e. options (ap OptionsOf e)))
  come_parts (TextOf q) task attr emptiness body ends seat options text total = ap (λ o. AText (text_in o)) (get_apart w.servers s i q (λ e. text (ap TextOf e)))
  come_parts (UsersOf q) task attr emptiness body ends seat options text total = ap AUsers (come_users q)
  come_parts (TotalOf q) task attr emptiness body ends seat options text total =
      let apart : q ≢ s = λ e. total (ap TotalOf e) in
      ap ATotal (ap₂ (λ o k. total_if (tree_by o) k) (get_apart w.servers s i q apart) (come_total q apart))
  come_parts (TaskOf t) task attr emptiness body ends seat options text total = ap ATask (edit-apart s.task.0 (named 2) w.tasks t (λ e. task (ap TaskOf e)))

  -- its root is its own, and has never been opened

  come_info : info_at come i.root ≡ Some i
  come_info = ap (info_in come.servers) (home-edited (insert w.sites i.root (new_site s)) at (Some s) i.root ∙ home-here w.sites i.root (new_site s)) ∙ get_here w.servers s i

  come_unopened : ends_of w.opens i.root ≡ record { readers = 0; writers = 0 }
  come_unopened = ends_fresh w.opens i.root (λ o z is e. root_new w c s at i node p (subst (Below w) e (c.given.opens o z is).1))

-- and what is alike before it came is so after
module _ (x y : World) (cx : Coherent x) (cy : Coherent y) (s at : Name) (i : ServerInfo) (node : Node) (px : Comes x s at i node) (py : Comes y s at i node) where
  come_ends : (n : Name) → ends_at y n ≡ ends_at x n → ends_at (come_world y s at i node) n ≡ ends_at (come_world x s at i node) n
  come_ends n e = elim (same_or_apart n i.root) [
    | inl same ↦ rw same (ends_by (come_world x s at i node) (come_world y s at i node) i.root (ap counts_by (come_info y cy s at i node py ∙ sym (come_info x cx s at i node px)))
        (λ counts. come_unopened y cy s at i node py ∙ sym (come_unopened x cx s at i node px)))
    | inr apart ↦ ends_same y (come_world y s at i node) n (info_same y cy s at i node py n apart) refl ∙ e
        ∙ sym (ends_same x (come_world x s at i node) n (info_same x cx s at i node px n apart) refl)
  ]

  pub come_alike : (k : Part) → part y k ≡ part x k → part (come_world y s at i node) k ≡ part (come_world x s at i node) k
  come_alike (AttrOf n) e =
      attr_same (insert_alike header_in x.nodes y.nodes i.root n node (cc))
      (edit_alike (λ z. z) (option_map (with_active (Some s))) (with_active (Some s)) (λ o. refl) (insert x.sites i.root (new_site s)) (insert y.sites i.root (new_site s)) at n
      (insert_alike (λ z. z) x.sites y.sites i.root n (new_site s) (cc)))
  come_alike (EmptyOf n) e = ap AnEmpty (insert_alike empty_in x.nodes y.nodes i.root n node (cc))
  come_alike (BodyOf n) e = ap ABody (insert_alike body_in x.nodes y.nodes i.root n node (cc))
  come_alike (EndsOf n) e = ap AnEnds (come_ends n (cc))
  come_alike (OpenOf o) e =
      let held : holders y o ≡ holders x o = cc in
      ap₂ AnOpen (cc) (come_holders y cy s at i node py o ∙ held ∙ sym (come_holders x cx s at i node px o))
  come_alike (OptionsOf q) e = ap AnOptions (insert_alike face_in x.servers y.servers s q i (cc))
  come_alike (TextOf q) e = ap AText (insert_alike text_in x.servers y.servers s q i (cc))
  come_alike (UsersOf q) e = let used : users y q ≡ users x q = cc in ap AUsers (come_users y cy s at i node py q ∙ used ∙ sym (come_users x cx s at i node px q))
  come_alike (TotalOf q) e = ap ATotal (elim (same_or_apart q s) [
    | inl same ↦ rw same (ap₂ (λ o k. total_if (tree_by o) k) (get_here y.servers s i ∙ sym (get_here x.servers s i))
        (come_own y cy s at i node py ∙ ap (λ k. k + counts_for node.header) (total_nothing y cy s (come_new y cy s at i node py) ∙ sym (total_nothing x cx s (come_new x cx s at i node px))) ∙ sym (come_own x cx s at i node px)))
    | inr apart ↦
        let before : total_at y q ≡ total_at x q = cc (e) in
        ap₂ (λ o k. total_if (tree_by o) k) (get_apart y.servers s i q apart) (come_total y cy s at i node py q apart) ∙ before
        ∙ sym (ap₂ (λ o k. total_if (tree_by o) k) (get_apart x.servers s i q apart) (come_total x cx s at i node px q apart))
  ])
  come_alike (TaskOf t) e = ap ATask (edit_same s.task.0 (named 2) x.tasks y.tasks t (cc))

-- a server that went

module _ (w : World) (s : Name) where
  abbrev dropped : World
  dropped = apply (DropServer s) w

  abbrev other_at : Name → Bool
  other_at n = not (is_one s (home_at w n))

  node_after : (n : Name) → get dropped.nodes n ≡ cond (other_at n) (get w.nodes n) None
  node_after n = get-retained w.nodes (is_other s w.sites) n

  site_after : (n : Name) → site_at dropped n ≡ cond (other_at n) (option_map (vacated s) (site_at w n)) None
  site_after n = site-left w.sites s n

  server_apart : (q : Name) → q ≢ s → server_at dropped q ≡ server_at w q
  server_apart q apart = remove_apart w.servers s q apart

  -- the server of a node is as it was, but of its own nodes, which have none

  pub info_left : (n : Name) → (home_at w n ≡ Some s → ⊥) → info_at dropped n ≡ info_at w n
  info_left n out = go (home_at w n) refl
    where
      go : (o : Option Name) → home_at w n ≡ o → info_at dropped n ≡ info_at w n
      go None e = ap (info_in dropped.servers) (none_if (home_at dropped n) (λ q f. let was = home-was w.sites s n q f in absurd (cc))) ∙ sym (ap (info_in w.servers) e)
      go (Some q) e =
          let apart : q ≢ s = λ same. out (e ∙ ap Some same) in
          ap (info_in dropped.servers) (home-stays w.sites s n q apart e) ∙ server_apart q apart ∙ sym (ap (info_in w.servers) e)

  pub home_gone : (n : Name) → home_at w n ≡ Some s → home_at dropped n ≡ None
  home_gone n e = ap home_by (site_after n ∙ ap (λ b. cond (not b) (option_map (vacated s) (site_at w n)) None) (ap (is_one s) e ∙ same_name-itself s))

  -- a node is of another server as it was
  pub users_apart : (q : Name) → q ≢ s → users dropped q ≡ users w q
  users_apart q apart = users_by w dropped q w.tasks (λ t x r at i. same_bool _ _ (λ h. ap (is_one q) (home-was w.sites s r.node q (home_is q _ h)) ∙ same_name-itself q)
      (λ h. ap (is_one q) (home-stays w.sites s r.node q apart (home_is q _ h)) ∙ same_name-itself q))

  -- what doesn't go is as it was
  pub drop_parts : (k : Part) → (Goes w s k → ⊥) → part dropped k ≡ part w k
  drop_parts (AttrOf n) out =
      let home : is_one s (home_at w n) ≡ false = not_home s (home_at w n) (λ e. out (inl e)) in
      let seat : is_one s (active_at w n) ≡ false = not_home s (active_at w n) (λ e. out (inr e)) in
      attr_same (ap header_in (node_after n ∙ ap (λ b. cond (not b) (get w.nodes n) None) home)) (site_after n ∙ ap (λ b. cond (not b) (option_map (vacated s) (site_at w n)) None) home ∙ idle_site s (site_at w n) seat)
  drop_parts (EmptyOf n) out = ap (λ (o : Option Node). AnEmpty (empty_in o)) (node_after n ∙ ap (λ b. cond (not b) (get w.nodes n) None) (not_home s (home_at w n) out))
  drop_parts (BodyOf n) out = ap (λ (o : Option Node). ABody (body_in o)) (node_after n ∙ ap (λ b. cond (not b) (get w.nodes n) None) (not_home s (home_at w n) out))
  drop_parts (EndsOf n) out = ap AnEnds (ends_same w dropped n (info_left n out) refl)
  drop_parts (OpenOf o) out = refl
  drop_parts (OptionsOf q) out = ap (λ o. AnOptions (face_in o)) (server_apart q out)
  drop_parts (TextOf q) out = ap (λ o. AText (text_in o)) (server_apart q out)
  drop_parts (UsersOf q) out = ap AUsers (users_apart q out)
  drop_parts (TotalOf q) out = ap ATotal (ap₂ (λ o k. total_if (tree_by o) k) (server_apart q out) (total_left w.nodes w.sites q s out))
  drop_parts (TaskOf t) out = refl

  -- a server that went has no users
  pub users_gone : users dropped s ≡ 0
  users_gone = unused dropped s (λ n. none-left w.sites s n)

-- and what is alike before it went is so after, where its node is
module _ (x y : World) (s : Name) where
  abbrev left_x : World
  left_x = apply (DropServer s) x

  abbrev left_y : World
  left_y = apply (DropServer s) y

  none_map : {A B : Type 0} (f : Option A → B) (b : Bool) (o u : Option A) → f o ≡ f u → f (cond b o None) ≡ f (cond b u None)
  none_map f true o u e = e
  none_map f false o u e = refl

  read : {B : Type 0} (f : Option Node → B) (n : Name) → home_at y n ≡ home_at x n → f (get y.nodes n) ≡ f (get x.nodes n) → f (get left_y.nodes n) ≡ f (get left_x.nodes n)
  read f n home e =
      ap f (node_after y s n) ∙ ap (λ o. f (cond (not (is_one s o)) (get y.nodes n) None)) home
      ∙ none_map f (not (is_one s (home_at x n))) (get y.nodes n) (get x.nodes n) e ∙ sym (ap f (node_after x s n))

  server_read : {B : Type 0} (f : Option ServerInfo → B) (q : Name) → f (server_at y q) ≡ f (server_at x q) → f (server_at left_y q) ≡ f (server_at left_x q)
  server_read f q e = elim (same_or_apart q s) [
    | inl same ↦ ap f (rw same (remove_here y.servers s ∙ sym (remove_here x.servers s)))
    | inr apart ↦ ap f (server_apart y s q apart) ∙ e ∙ sym (ap f (server_apart x s q apart))
  ]

  drop_ends : (n : Name) → home_at y n ≡ home_at x n → ends_at y n ≡ ends_at x n → ends_at left_y n ≡ ends_at left_x n
  drop_ends n home e = go (home_at x n) refl
    where
      left : (home_at x n ≡ Some s → ⊥) → ends_at left_y n ≡ ends_at left_x n
      left out = ends_same y left_y n (info_left y s n (λ f. out (sym home ∙ f))) refl ∙ e ∙ sym (ends_same x left_x n (info_left x s n out) refl)

      go : (o : Option Name) → home_at x n ≡ o → ends_at left_y n ≡ ends_at left_x n
      go None is = left (λ f. absurd (cc))
      go (Some q) is = elim (same_or_apart q s) [
        | inl same ↦ let here : home_at x n ≡ Some s = is ∙ ap Some same in ends_gone left_y n (home_gone y s n (home ∙ here)) ∙ sym (ends_gone left_x n (home_gone x s n here))
        | inr apart ↦ left (λ f. let both : q ≡ s = cc (is, f) in apart both)
      ]

  -- (the home is that of the part's node)
  pub drop_alike : (k : Part) → ((n : Name) → IsInside n k → home_at y n ≡ home_at x n) → part y k ≡ part x k → part left_y k ≡ part left_x k
  drop_alike (AttrOf n) homes e =
      let site : site_at y n ≡ site_at x n = cc in
      attr_same (read header_in n (ap home_by site) (cc)) (site_after y s n ∙ ap (λ o. cond (not (is_one s (home_by o))) (option_map (vacated s) o) None) site ∙ sym (site_after x s n))
  drop_alike (EmptyOf n) homes e = ap AnEmpty (read empty_in n (homes n (inl refl)) (cc))
  drop_alike (BodyOf n) homes e = ap ABody (read body_in n (homes n (inr (inl refl))) (cc))
  drop_alike (EndsOf n) homes e = ap AnEnds (drop_ends n (homes n (inr (inr refl))) (cc))
  drop_alike (OpenOf o) homes e = e
  drop_alike (OptionsOf q) homes e = ap AnOptions (server_read face_in q (cc))
  drop_alike (TextOf q) homes e = ap AText (server_read text_in q (cc))
  drop_alike (UsersOf q) homes e = ap AUsers (elim (same_or_apart q s) [
    | inl same ↦ rw same (users_gone y s ∙ sym (users_gone x s))
    | inr apart ↦ let used : users y q ≡ users x q = cc (e) in users_apart y s q apart ∙ used ∙ sym (users_apart x s q apart)
  ])
  drop_alike (TotalOf q) homes e = ap ATotal (elim (same_or_apart q s) [
    | inl same ↦ rw same (ap (λ o. total_if (tree_by o) (own_total left_y.nodes left_y.sites s)) (remove_here y.servers s) ∙ sym (ap (λ o. total_if (tree_by o) (own_total left_x.nodes left_x.sites s)) (remove_here x.servers s)))
    | inr apart ↦
        let before : total_at y q ≡ total_at x q = cc (e) in
        ap₂ (λ o k. total_if (tree_by o) k) (server_apart y s q apart) (total_left y.nodes y.sites q s apart) ∙ before
        ∙ sym (ap₂ (λ o k. total_if (tree_by o) k) (server_apart x s q apart) (total_left x.nodes x.sites q s apart))
  ])
  drop_alike (TaskOf t) homes e = e

-- a server that lost its seat

unseated_users : (w : World) (n s : Name) → users (apply (Unseat n) w) s ≡ users w s
unseated_users w n s = users_by w (apply (Unseat n) w) s w.tasks (λ t x r at i. ap (is_one s) (home-edited w.sites n None r.node))

unseated_ends : (w : World) (n m : Name) → ends_at (apply (Unseat n) w) m ≡ ends_at w m
unseated_ends w n m = ends_same w (apply (Unseat n) w) m (ap (info_in w.servers) (home-edited w.sites n None m)) refl

unseated_total : (w : World) (n s : Name) → total_at (apply (Unseat n) w) s ≡ total_at w s
unseated_total w n s = ap (total_if (tree_by (server_at w s))) (total_homes w.nodes w.sites s (edit n (with_active None) w.sites) (home-edited w.sites n None))

pub unseated_parts : (w : World) (n : Name) (k : Part) → k ≢ AttrOf n → part (apply (Unseat n) w) k ≡ part w k
unseated_parts w n (AttrOf m) out = attr_same refl (edit_apart w.sites n (with_active None) m (λ e. out (ap AttrOf e)))
unseated_parts w n (EndsOf m) out = ap AnEnds (unseated_ends w n m)
unseated_parts w n (UsersOf s) out = ap AUsers (unseated_users w n s)
unseated_parts w n (TotalOf s) out = ap ATotal (unseated_total w n s)
unseated_parts w n k out = refl

pub unseated_alike : (x y : World) (n : Name) (k : Part) → part y k ≡ part x k → part (apply (Unseat n) y) k ≡ part (apply (Unseat n) x) k
unseated_alike x y n (AttrOf m) e = attr_same (cc) (edit_alike (λ z. z) (option_map (with_active None)) (with_active None) (λ o. refl) x.sites y.sites n m (cc))
unseated_alike x y n (EndsOf m) e = let same : ends_at y m ≡ ends_at x m = cc in ap AnEnds (unseated_ends y n m ∙ same ∙ sym (unseated_ends x n m))
unseated_alike x y n (UsersOf s) e = let used : users y s ≡ users x s = cc in ap AUsers (unseated_users y n s ∙ used ∙ sym (unseated_users x n s))
unseated_alike x y n (TotalOf s) e = let before : total_at y s ≡ total_at x s = cc (e) in ap ATotal (unseated_total y n s ∙ before ∙ sym (unseated_total x n s))
unseated_alike x y n k e = e
