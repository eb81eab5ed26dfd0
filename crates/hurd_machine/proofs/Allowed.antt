-- The changes that a task of S may make: each keeps a world inside what S saw.
use Rattle.std.proofs.Common.{◌≡◌, ◌≢◌, ◌⊎◌, ℕ, ◌<◌, ◌≤◌, Bool, true, List, [], Option, Some, None, sym, refl, ◌∙◌, ◌||◌, ◌&&◌, ap, ap₂, subst, inl, inr, arith}
use Rattle.std.specs.Option.{option_map}
use Rattle.hurd_machine.proofs.Common.{Attach, Body, BodyOf, Change, Coherent, Content, Control, DropServer, EditBody, EditHeader, EditOpen, EditTask, HasUid, Header, Holds, Io, IoRight, IsAmong, LetGo, Listing, MakeNode, MakeOpen, Name, Node, Opened, OpenOf, OptionsOf, Right, SeesBody, Send, ServerInfo, SetText, Settle, Start, Taken, Task, Unseat, World, active_at, apply, body_at, counts_at, edit, edit_task, entry_in, entry_of, get, header_at, home_at, is_other, new_site, open_at, rights_of, server_at, task_at, tells, with_body, with_header, with_sent, with_text, counts_for}
use Rattle.hurd_machine.proofs.Sites.{active_out_was, active_put}
use Rattle.hurd_nodes.proofs.Sites.{home-inserted, home-edited, home-was}
use Rattle.hurd_creds.proofs.NameLaws.{same_or_apart, get_here, get_apart, edit_apart}
use Rattle.hurd_ports.specs.Steps.{named}
use Rattle.hurd_machine.proofs.Nodes.{header_in, body_in, header-with_header, header-with_body, body-with_header, body-with_body, edit_reads, edit_keeps, edited_from, ByEmptiness, was_edited}
use Rattle.hurd_machine.proofs.Tasks.{edit_cases, sent_cases}
use Rattle.hurd_machine.proofs.Coherence.{right_old, HasNoEntries, IsNext, Comes, next_not, next_apart, was, header_was, was_settled, KeepsEnds, Proper, lister, entry_lists}
use Rattle.hurd_machine.proofs.Comes.{attach_is, come_world, come_home_is, come_seat_was}
use Rattle.hurd_machine.proofs.Drop.{drop_left, server_was as dropped_was}
use Rattle.hurd_machine.proofs.Left as left
use Rattle.hurd_machine.proofs.Unseated.{still_active}
use Rattle.hurd_machine.proofs.Texts.{server_was}
use Rattle.hurd_machine.proofs.Frame.{IsExact}
use Rattle.hurd_machine.proofs.Confine.{NewTo, SeenOrNew, Known, Less, Less-refl, Less-trans, IoInside, RightInside, Commands, TakesLess, ServerInside, Inside}
use Rattle.hurd_creds.proofs.Retained.{was_retained}

-- a right to use a node that a task of S may get, except for its ids: where its open is to read, S sees the body
pub record IoMay (S : ℕ → Bool) (v x : World) (r : IoRight) : Type 0 where
  pub inside : IoInside S v r
  pub reads : (o : Opened) → open_at x r.open_name ≡ Some o → tells (counts_at v r.node) o.modes ≡ true → (h : Header) → header_at v r.node ≡ Some h → SeesBody S v r.node h

-- of each kind
abbrev pub RightMay : (ℕ → Bool) → World → World → Right → Type 0
RightMay S v x (Io r) = IoMay S v x r
RightMay S v x (Control s) = Commands S v s
RightMay S v x (Start n) = SeenOrNew S v n

pub may_inside : (S : ℕ → Bool) (v x : World) (r : Right) → RightMay S v x r → RightInside S v r
may_inside S v x (Io r) m = m.inside
may_inside S v x (Control s) m = inl m
may_inside S v x (Start n) m = m

-- the ids of a right that S may get
abbrev pub IdsMay : (ℕ → Bool) → World → Right → Type 0
IdsMay S v (Io r) = Taken S v r.ids
IdsMay S v r = Unit {0}

-- the rights of a task z of S in place of a
abbrev pub OwnMay : (ℕ → Bool) → World → World → Task → Task → Type 0
OwnMay S v x a z = (r : Right) → IsAmong r (rights_of z) → IsAmong r (rights_of a) ⊎ RightMay S v x r

-- the ids of it, and of its rights
pub record OwnTaken (S : ℕ → Bool) (v : World) (a z : Task) : Type 0 where
  pub ids : (z.ids ≡ a.ids) ⊎ Taken S v z.ids
  pub rights : (r : Right) → IsAmong r (rights_of z) → IsAmong r (rights_of a) ⊎ IdsMay S v r

-- of a task z that has one right r more than a
pub gained_may : (S : ℕ → Bool) (v x : World) (r : Right) (a z : Task) → z.ids ≡ a.ids → ((q : Right) → IsAmong q (rights_of z) → IsAmong q (rights_of a) ⊎ (r ≡ q)) → RightMay S v x r × (HasUid S v 0 ⊎ IdsMay S v r)
    → OwnMay S v x a z × (HasUid S v 0 ⊎ OwnTaken S v a z)
gained_may S v x r a z ids gains m = (among (RightMay S v x) m.0, elim m.1 [ inl all ↦ inl all | inr taken ↦ inr (record { ids = inl ids; rights = among (IdsMay S v) taken }) ])
  where
    among : (B : Right → Type 0) → B r → (q : Right) → IsAmong q (rights_of z) → IsAmong q (rights_of a) ⊎ B q
    among B b q h = elim (gains q h) [ inl old ↦ inl old | inr e ↦ inr (subst B e b) ]

-- a header function that leaves what a node counts for
abbrev pub KeepsCount : (Header → Header) → Type 0
KeepsCount f = (h : Header) → counts_for (f h) ≡ counts_for h

-- what S saw, its ids among it, is of the world v before the call; what is there is of the world x, in which the change is made
abbrev pub May : (ℕ → Bool) → World → World → Change → Type 0
May S v x (EditHeader n f) = ((h : Header) → header_at x n ≡ Some h → Less S v n (f h) h) × (KeepsCount f ⊎ SeenOrNew S v n)
May S v x (EditBody n g) =
    (ByEmptiness g ⊎ Known S v (BodyOf n)) × ((b : Body) (name : List ℕ) (m : Name) → body_at x n ≡ Some b → entry_of name (Some (g b)) ≡ Some m → (entry_of name (Some b) ≡ Some m) ⊎ SeenOrNew S v m)
May S v x (MakeNode n s node) = (S n.task.0 ≡ true) × Known S v (OptionsOf s) × ((p : Name) → node.header.parent ≡ Some p → SeenOrNew S v p)
May S v x (EditOpen o f) = Unit {0}
May S v x (MakeOpen o z) = S o.task.0 ≡ true
May S v x (LetGo o) = Known S v (OpenOf o)
May S v x (EditTask q f) = (S q ≡ true) × ((a : Task) → task_at x q ≡ Some a → OwnMay S v x a (f a) × (HasUid S v 0 ⊎ OwnTaken S v a (f a)))
May S v x (Send r q) = RightMay S v x r × (HasUid S v 0 ⊎ IdsMay S v r)  -- to any task
May S v x (Attach s at i node) = (S s.task.0 ≡ true) × ((n : Name) → IsAmong n i.targets → SeenOrNew S v n)
May S v x (DropServer s) = Unit {0}
May S v x (Unseat n) = Unit {0}
May S v x (SetText s text) = Commands S v s
May S v x Settle = Unit {0}

module _ (S : ℕ → Bool) (v x : World) (coherent : Coherent x) (i : Inside S v x) where
  -- a name that a task of S has not given in x is new
  newer : (m : Name) (y : Task) → S m.task.0 ≡ true → task_at x m.task.0 ≡ Some y → y.made ≤ m.count → NewTo S v m
  newer m y ours is up = (
    ours,
    λ b.
        let u = i.made m.task.0 y is in
        let low : m.count < u.0.made = b u.0 u.1 in
        let more : u.0.made ≤ y.made = u.2 in
        absurd (omega arith),
  )

  next_new : (n : Name) → IsNext x n → S n.task.0 ≡ true → NewTo S v n
  next_new n next ours = let e = next.next in newer n next.seat ours next.is_task (omega arith)

  -- so is the one after it
  root_new : (s at : Name) (j : ServerInfo) (node : Node) → Comes x s at j node → S s.task.0 ≡ true → NewTo S v j.root
  root_new s at j node p ours =
      let task = ap (λ t. t.0) p.task in
      let e = p.next.next in
      let k = p.count in
      newer j.root p.next.seat (ap S task ∙ ours) (ap (task_at x) task ∙ p.next.is_task) (omega arith)

  -- the world with the server that comes
  come_is : (s at : Name) (j : ServerInfo) (node : Node) → Comes x s at j node → apply (Attach s at j node) x ≡ come_world x s at j node
  come_is s at j node p = attach_is x s at j node coherent (next_not x s p.next)

  -- each task of y was in x, and what it has more S may have
  record Stepped (y : World) : Type 0 where
    back : (q : ℕ) (z : Task) → task_at y q ≡ Some z → (u : Task) × (task_at x q ≡ Some u) × (u.made ≤ z.made) × (S q ≡ true → OwnMay S v x u z)
    power : HasUid S v 0 ⊎ TakesLess S v y

  at_tasks : (y : World) (ts : List Task) → y.tasks ≡ ts → (q : ℕ) (z : Task) → task_at y q ≡ Some z → task_at (record x { tasks = ts }) q ≡ Some z
  at_tasks y ts e q z at = ap (λ (us : List Task). task_at (record x { tasks = us }) q) (sym e) ∙ at

  stepped_same : (y : World) → y.tasks ≡ x.tasks → Stepped y
  stepped_same y e = record {
    back = λ q z at. (z, at_tasks y x.tasks e q z at, omega arith, λ ours r h. inl h);
    power = elim i.power [
      | inl all ↦ inl all
      | inr less ↦ inr (record {
        tasks = λ q z ours at. less.tasks q z ours (at_tasks y x.tasks e q z at);
        rights = λ r h. less.rights r (record { task = h.task; ours = h.ours; seat = h.seat; is_task = at_tasks y x.tasks e h.task h.seat h.is_task; here = h.here });
      })
    ];
  }

  module _ (y : World) (q : ℕ) (f : Task → Task) (a : Task) (is : task_at x q ≡ Some a) (tasks : y.tasks ≡ edit_task q f x.tasks) where
    cases : (p : ℕ) (z : Task) → task_at y p ≡ Some z → ((p ≡ q) × (z ≡ f a)) ⊎ (task_at x p ≡ Some z)
    cases p z at = edit_cases q f x.tasks a is p z (at_tasks y (edit_task q f x.tasks) tasks p z at)

    less_edit : OwnTaken S v a (f a) → TakesLess S v x → TakesLess S v y
    less_edit own less = record {
      tasks = λ p z ours at. elim (cases p z at) [
        | inl k ↦
            let mine : S q ≡ true = ap S (sym k.0) ∙ ours in
            elim own.ids [
              | inl e ↦ subst (Taken S v) (sym (ap (λ (t : Task). t.ids) k.1 ∙ e)) (less.tasks q a mine is)
              | inr t ↦ subst (Taken S v) (ap (λ (t : Task). t.ids) (sym k.1)) t
            ]
        | inr old ↦ less.tasks p z ours old
      ];
      rights = λ r h. elim (cases h.task h.seat h.is_task) [
        | inl k ↦
            let mine : S q ≡ true = ap S (sym k.0) ∙ h.ours in
            elim (own.rights (Io r) (subst (λ (t : Task). IsAmong (Io r) (rights_of t)) k.1 h.here)) [
              | inl old ↦ less.rights r (record { task = q; ours = mine; seat = a; is_task = is; here = old })
              | inr t ↦ t
            ]
        | inr old ↦ less.rights r (record { task = h.task; ours = h.ours; seat = h.seat; is_task = old; here = h.here })
      ];
    }

    stepped_edit : a.made ≤ (f a).made → OwnMay S v x a (f a) → HasUid S v 0 ⊎ OwnTaken S v a (f a) → Stepped y
    stepped_edit up own taken = record {
      back = λ p z at. elim (cases p z at) [
        | inl k ↦ (a, ap (task_at x) k.0 ∙ is, subst (λ (t : Task). a.made ≤ t.made) (sym k.1) up, λ ours. subst (OwnMay S v x a) (sym k.1) own)
        | inr old ↦ (z, old, omega arith, λ ours r h. inl h)
      ];
      power = elim i.power [
        | inl all ↦ inl all
        | inr less ↦ elim taken [ inl all ↦ inl all | inr t ↦ inr (less_edit t less) ]
      ];
    }

  -- a task that named things has the rights that it had
  stepped_named : (y : World) (n : Name) (k : ℕ) → IsNext x n → y.tasks ≡ edit_task n.task.0 (named k) x.tasks → Stepped y
  stepped_named y n k next e =
      stepped_edit y n.task.0 (named k) next.seat next.is_task e (omega arith) (λ r h. inl h) (inr (record { ids = inl refl; rights = λ r h. inl h }))

  stepped : (c : Change) → IsExact c → Proper x c → May S v x c → Stepped (apply c x)
  stepped (MakeNode n s node) ex p m = stepped_named (apply (MakeNode n s node) x) n 1 p.0 refl
  stepped (MakeOpen o z) ex p m = stepped_named (apply (MakeOpen o z) x) o 1 p.0 refl
  stepped (EditTask q f) ex p m = let o = m.1 p.1 p.2 in stepped_edit (apply (EditTask q f) x) q f p.1 p.2 refl (p.0 p.1) o.0 o.1
  stepped (Send r q) ex p m = let o = gained_may S v x r p.0 (with_sent r p.0) refl (sent_cases r p.0) m in stepped_edit (apply (Send r q) x) q (with_sent r) p.0 p.1 refl (omega arith) o.0 o.1
  stepped (Attach s at j node) ex p m = stepped_named (apply (Attach s at j node) x) s 2 p.next refl
  stepped Settle ex p m = absurd ex
  stepped c ex p m = stepped_same (apply c x) refl

  -- a right that S holds afterwards it held, or it is one that it may get
  holder : (y : World) → Stepped y → (r : Right) → Holds S y r → Holds S x r ⊎ RightMay S v x r
  holder y st r h =
      let b = st.back h.task h.seat h.is_task in
      elim (b.3 h.ours r h.here) [
        | inl old ↦ inl (record { task = h.task; ours = h.ours; seat = b.0; is_task = b.1; here = old })
        | inr new ↦ inr new
      ]

  -- where things were named, it held it
  named_holder : (y : World) (n : Name) → IsNext x n → y.tasks ≡ edit_task n.task.0 (named 1) x.tasks → (r : Right) → Holds S y r → Holds S x r
  named_holder y n next e r h = elim (cases y n.task.0 (named 1) next.seat next.is_task e h.task h.seat h.is_task) [
    | inl k ↦ record { task = h.task; ours = h.ours; seat = next.seat; is_task = ap (task_at x) k.0 ∙ next.is_task; here = subst (λ (t : Task). IsAmong r (rights_of t)) k.1 h.here }
    | inr old ↦ record { task = h.task; ours = h.ours; seat = h.seat; is_task = old; here = h.here }
  ]

  -- a right that is held afterwards and open to read shows its body
  reads_by : (y : World) → Stepped y → (r : IoRight) (o : Opened) → Holds S y (Io r) → (z : Opened) × (open_at x r.open_name ≡ Some z) × ((counts : Bool) → tells counts o.modes ≡ true → tells counts z.modes ≡ true)
      → tells (counts_at v r.node) o.modes ≡ true → (h : Header) → header_at v r.node ≡ Some h → SeesBody S v r.node h
  reads_by y st r o held l modes = elim (holder y st (Io r) held) [
    | inl old ↦ i.reads r l.0 old l.1 (l.2 (counts_at v r.node) modes)
    | inr new ↦ new.reads l.0 l.1 (l.2 (counts_at v r.node) modes)
  ]

  open_before : (k : Name) (f : Opened → Opened) → KeepsEnds f → (q : Name) (o : Opened) → get (edit k f x.opens) q ≡ Some o
      → (z : Opened) × (open_at x q ≡ Some z) × ((counts : Bool) → tells counts o.modes ≡ true → tells counts z.modes ≡ true)
  open_before k f m q o e = elim (was_edited x.opens k q f o e) [
    | inl l ↦ (l.1, ap (open_at x) l.0 ∙ l.2, λ counts modes. sym (ap₂ (λ (r w : Bool). r || (counts && w)) (m l.1).1 (m l.1).2) ∙ ap (λ (u : Opened). tells counts u.modes) l.3 ∙ modes)
    | inr h ↦ (o, h, λ counts modes. modes)
  ]

  abbrev Reads : World → Type 0
  Reads y = (r : IoRight) (o : Opened) → Holds S y (Io r) → open_at y r.open_name ≡ Some o → tells (counts_at v r.node) o.modes ≡ true → (h : Header) → header_at v r.node ≡ Some h → SeesBody S v r.node h

  reads_next : (c : Change) → IsExact c → Proper x c → May S v x c → Stepped (apply c x) → Reads (apply c x)
  reads_next (EditOpen k f) ex p m st r o held e modes = reads_by (apply (EditOpen k f) x) st r o held (open_before k f p r.open_name o e) modes
  reads_next (MakeOpen k z) ex p m st r o held e modes =
      let old : Holds S x (Io r) = named_holder (apply (MakeOpen k z) x) k p.0 refl (Io r) held in
      let apart : r.open_name ≢ k = next_apart x k r.open_name p.0 (right_old coherent old.task old.seat r old.is_task old.here).1 in
      i.reads r o old (sym (get_apart x.opens k z r.open_name apart) ∙ e) modes
  reads_next (LetGo k) ex p m st r o held e modes = reads_by (apply (LetGo k) x) st r o held (o, was_settled x.tasks x.opens k r.open_name o e, λ counts h. h) modes
  reads_next Settle ex p m st r o held e modes = absurd ex
  reads_next c ex p m st r o held e modes = reads_by (apply c x) st r o held (o, e, λ counts k. k) modes

  -- a header afterwards is one that stood there, with less, or a new node's
  abbrev Headers : World → Type 0
  Headers y = (n : Name) (h : Header) → header_at y n ≡ Some h → ((k : Header) × (header_at x n ≡ Some k) × Less S v n h k) ⊎ (NewTo S v n × ((p : Name) → h.parent ≡ Some p → SeenOrNew S v p))

  headers_next : (c : Change) → IsExact c → Proper x c → May S v x c → Headers (apply c x)
  headers_next (EditHeader k f) ex p m n h e = elim (same_or_apart n k) [
    | inl s ↦
        let l = edited_from f (header_at x k) h (sym (edit_reads header_in (option_map f) (with_header f) (header-with_header f) x.nodes k) ∙ rw s at e) in
        inl (l.0, rw s l.1, subst (λ (z : Header). Less S v n z l.0) l.2 (rw s (m.0 l.0 l.1)))
    | inr a ↦ inl (h, sym (ap header_in (edit_apart x.nodes k (with_header f) n a)) ∙ e, Less-refl S v n h)
  ]
  headers_next (EditBody k g) ex p m n h e = inl (h, sym (edit_keeps header_in (with_body g) (header-with_body g) x.nodes k n) ∙ e, Less-refl S v n h)
  headers_next (MakeNode a s node) ex p m n h e = elim (header_was x.nodes a n node h e) [
    | inl k ↦ inr (subst (NewTo S v) (sym k.0) (next_new a p.0 m.0), λ q eq. m.2 q (ap (λ (z : Header). z.parent) k.1 ∙ eq))
    | inr k ↦ inl (h, k, Less-refl S v n h)
  ]
  headers_next (Attach s at j node) ex p m n h e = elim (header_was x.nodes j.root n node h (subst (λ (z : World). header_at z n ≡ Some h) (come_is s at j node p) e)) [
    | inl k ↦ inr (subst (NewTo S v) (sym k.0) (root_new s at j node p m.0), λ q eq. let none : None ≡ Some q = sym p.parent ∙ ap (λ (z : Header). z.parent) k.1 ∙ eq in absurd (cc))
    | inr k ↦ inl (h, k, Less-refl S v n h)
  ]
  headers_next (DropServer s) ex p m n h e = inl (h, (left.header_was x coherent _ _ (drop_left x s coherent p) n h e).0, Less-refl S v n h)
  headers_next Settle ex p m n h e = absurd ex
  headers_next c ex p m n h e = inl (h, e, Less-refl S v n h)

  abbrev Entries : World → Type 0
  Entries y = (d n : Name) (name : List ℕ) → entry_of name (body_at y d) ≡ Some n → (entry_of name (body_at x d) ≡ Some n) ⊎ SeenOrNew S v n

  no_entry : (b : Body) → HasNoEntries b → (name : List ℕ) (m : Name) → entry_of name (Some b) ≡ Some m → ⊥
  no_entry (Content bs) none name m e = cc
  no_entry (Listing es) none name m e = let gone : entry_in name [] ≡ Some m = ap (entry_in name) (sym none) ∙ e in cc

  entries_next : (c : Change) → IsExact c → Proper x c → May S v x c → Entries (apply c x)
  entries_next (EditHeader k f) ex p m d n name e = inl (sym (ap (entry_of name) (edit_keeps body_in (with_header f) (body-with_header f) x.nodes k d)) ∙ e)
  entries_next (EditBody k g) ex p m d n name e = elim (same_or_apart d k) [
    | inl s ↦ edited (body_at x k) refl (sym (ap (entry_of name) (edit_reads body_in (option_map g) (with_body g) (body-with_body g) x.nodes k)) ∙ rw s at e) s
    | inr a ↦ inl (sym (ap (entry_of name) (ap body_in (edit_apart x.nodes k (with_body g) d a))) ∙ e)
  ]
    where
      edited : (o : Option Body) → body_at x k ≡ o → entry_of name (option_map g (body_at x k)) ≡ Some n → d ≡ k → (entry_of name (body_at x d) ≡ Some n) ⊎ SeenOrNew S v n
      edited None eo h s = let none : entry_of name None ≡ Some n = rw eo at h in absurd (cc)
      edited (Some b) eo h s =
          let there : entry_of name (Some (g b)) ≡ Some n = rw eo at h in
          elim (m.1 b name n eo there) [ inl l ↦ inl (rw (s, eo) l) | inr known ↦ inr known ]
  entries_next (MakeNode a s node) ex p m d n name e = elim (same_or_apart d a) [
    | inl k ↦ absurd (no_entry node.body p.1.empty name n (sym (ap (entry_of name) (ap body_in (get_here x.nodes a node))) ∙ rw k at e))
    | inr k ↦ inl (sym (ap (entry_of name) (ap body_in (get_apart x.nodes a node d k))) ∙ e)
  ]
  entries_next (Attach s at j node) ex p m d n name e =
      let now : entry_of name (body_at (come_world x s at j node) d) ≡ Some n = subst (λ (z : World). entry_of name (body_at z d) ≡ Some n) (come_is s at j node p) e in
      elim (same_or_apart d j.root) [
        | inl k ↦ absurd (no_entry node.body p.empty name n (sym (ap (entry_of name) (ap body_in (get_here x.nodes j.root node))) ∙ rw k at now))
        | inr k ↦ inl (sym (ap (entry_of name) (ap body_in (get_apart x.nodes j.root node d k))) ∙ now)
      ]
  entries_next (DropServer s) ex p m d n name e =
      let y = lister (get (apply (DropServer s) x).nodes d) n (entry_lists name (body_at (apply (DropServer s) x) d) n e) in
      inl (ap (λ o. entry_of name (body_in o)) (was_retained x.nodes (is_other s x.sites) d y.0 y.1).0 ∙ sym (ap (λ o. entry_of name (body_in o)) y.1) ∙ e)
  entries_next Settle ex p m d n name e = absurd ex
  entries_next c ex p m d n name e = inl e

  homes_next : (c : Change) → IsExact c → Proper x c → May S v x c → (n s : Name) → home_at (apply c x) n ≡ Some s → (home_at x n ≡ Some s) ⊎ (NewTo S v n × Known S v (OptionsOf s))
  homes_next (MakeNode a q node) ex p m n s e = elim (home-inserted x.sites a (new_site q) n s e) [ inl k ↦ inr (subst (NewTo S v) (sym k.0) (next_new a p.0 m.0), subst (λ z. Known S v (OptionsOf z)) k.1 m.1) | inr k ↦ inl k.1 ]
  homes_next (Attach q at j node) ex p m n s e = elim (come_home_is x coherent q at j node p n s (subst (λ (z : World). home_at z n ≡ Some s) (come_is q at j node p) e)) [
    | inl k ↦ inr (subst (NewTo S v) (sym k.0) (root_new q at j node p m.0), inr (subst (NewTo S v) k.1 (next_new q p.next m.0)))
    | inr k ↦ inl k.1
  ]
  homes_next (DropServer q) ex p m n s e = inl (home-was x.sites q n s e)
  homes_next (Unseat k) ex p m n s e = inl (sym (home-edited x.sites k None n) ∙ e)
  homes_next Settle ex p m n s e = absurd ex
  homes_next c ex p m n s e = inl e

  servers_next : (c : Change) → IsExact c → Proper x c → May S v x c → (s : Name) (k : ServerInfo) → server_at (apply c x) s ≡ Some k → ServerInside S v s k
  servers_next (Attach q at j node) ex p m s k e = elim (was x.servers q s j k (subst (λ (z : World). server_at z s ≡ Some k) (come_is q at j node p) e)) [
    | inl a ↦ inr (subst (NewTo S v) (sym a.0) (next_new q p.next m.0), subst (λ (z : ServerInfo). NewTo S v z.root) a.1 (root_new q at j node p m.0), subst (λ (z : ServerInfo). (t : Name) → IsAmong t z.targets → SeenOrNew S v t) a.1 m.1)
    | inr a ↦ i.servers s k a.1
  ]
  servers_next (SetText q text) ex p m s k e = elim (same_or_apart s q) [
    | inl same ↦
        let l = server_was x q text s k e in
        elim (i.servers s (with_text l.0 k) l.1) [ inl old ↦ inl (old.0, old.1, inr (subst (Commands S v) (sym same) m)) | inr new ↦ inr new ]
    | inr apart ↦ i.servers s k (sym (edit_apart x.servers q (with_text text) s apart) ∙ e)
  ]
  servers_next (DropServer q) ex p m s k e = i.servers s k (dropped_was x q s k e).0
  servers_next Settle ex p m s k e = absurd ex
  servers_next c ex p m s k e = i.servers s k e

  actives_next : (c : Change) → IsExact c → Proper x c → May S v x c → (n s : Name) → active_at (apply c x) n ≡ Some s → (active_at v n ≡ Some s) ⊎ NewTo S v s
  actives_next (Attach q at j node) ex p m n s e = elim (come_seat_was x coherent q at j node p n s (subst (λ (z : World). active_at z n ≡ Some s) (come_is q at j node p) e)) [
    | inl a ↦ inr (subst (NewTo S v) a.1 (next_new q p.next m.0))
    | inr a ↦ i.actives n s a
  ]
  actives_next (MakeNode a q node) ex p m n s e = i.actives n s (active_put x.sites a q n s e).1
  actives_next (DropServer q) ex p m n s e = i.actives n s (active_out_was q x.sites n s e).0
  actives_next (Unseat k) ex p m n s e = i.actives n s (still_active x k n s e)
  actives_next Settle ex p m n s e = absurd ex
  actives_next c ex p m n s e = i.actives n s e

  pub inside_one : (c : Change) → IsExact c → Proper x c → May S v x c → Inside S v (apply c x)
  inside_one c ex p m =
      let st = stepped c ex p m in
      record {
        servers = servers_next c ex p m;
        actives = actives_next c ex p m;
        made = λ q z at.
            let b = st.back q z at in
            let u = i.made q b.0 b.1 in
            let low : u.0.made ≤ b.0.made = u.2 in
            let up : b.0.made ≤ z.made = b.2 in
            (u.0, u.1, omega arith);
        power = st.power;
        held = λ r h. elim (holder (apply c x) st r h) [ inl old ↦ i.held r old | inr new ↦ may_inside S v x r new ];
        reads = reads_next c ex p m st;
        headers = λ n h e. elim (headers_next c ex p m n h e) [
          | inl l ↦ elim (i.headers n l.0 l.1) [
            | inl k ↦ inl (k.0, k.1, Less-trans n h l.0 k.0 l.2 k.2)
            | inr new ↦ inr (new.0, λ q eq. elim (l.2.parent q eq) [ inl e ↦ new.1 q e | inr known ↦ known.0 ])
          ]
          | inr new ↦ inr new
        ];
        entries = λ d n name e. elim (entries_next c ex p m d n name e) [ inl k ↦ i.entries d n name k | inr new ↦ inr new ];
        homes = λ n s e. elim (homes_next c ex p m n s e) [ inl k ↦ i.homes n s k | inr new ↦ inr new ];
      }
