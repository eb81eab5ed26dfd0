-- What S sees in a world that stays inside what it saw: parts that it saw, and new things of its own tasks.
use Rattle.std.proofs.Common.{true≢false, ◌≡◌, ◌⊎◌, ℕ, ◌≤◌, Bool, true, List, Some, sym, refl, ◌∙◌, subst, inl, inr, arith, false, Option, None, is_some, ap}
use Rattle.hurd_machine.proofs.Common.{Active, Allowed, AttrOf, Below, BodyOf, ByBody, ByControl, ByNode, ByParent, BySeat, Child, Coherent, Control, Could, CouldServe, Dir, EmptyOf, Exec, GidOfRight, GidOfTask, HasGid, HasUid, Header, Holds, Io, IoRight, IsAmong, IsOpen, Knows, MaySend, Name, OfControl, OfNode, OfSeat, OpenFlags, OpenOf, Opened, OptionsOf, Owns, OwnsIt, Part, Pending, READ, Read, Right, Seen, Sees, SeesBody, SeesEmpty, Sends, ServerInfo, ServerRoot, Start, Taken, Target, Task, TaskOf, TextOf, SeesText, ToControl, InRoot, ToPut, ToRead, ToSearch, UidOfRight, UidOfTask, UsersOf, WRITE, Want, Way, World, Write, active_at, asks, body_at, boot_root, counts_at, counts_by, counts_opens, entry_of, header_at, home_at, info_in, open_at, server_at, task_at, tells, with_text, EndsOf, TotalOf, SeesTotal, limit_of}
use Rattle.hurd_ports.specs.Tables.{nodes_of as nodes_named}
use Rattle.hurd_machine.specs.Sight.{Root, Held, Controlled, Parent}
use Rattle.hurd_machine.proofs.Coherence.{header_old, entry_old, home_old, right_old, entry_lists, home_server, seat_there}
use Rattle.hurd_machine.proofs.Stays.{way_at, way_parent, way_with}
use Rattle.hurd_machine.proofs.Faces.{reads_same}
use Rattle.hurd_machine.proofs.Views.{knows_of}
use Rattle.std.proofs.lemmas.Bool.{or_cases, or_left}

-- what is seen has a name that was given
pub seen_old : {S : ℕ → Bool} {w : World} → Coherent w → (n : Name) → Seen S w n → Below w n
seen_old {S} {w} c n (Root e) = let root = c.tree.root in subst (Below w) (sym e) (header_old c boot_root root.0 root.1)
seen_old {S} {w} c n (Held r h e) = subst (Below w) (sym e) (right_old c h.task h.seat r h.is_task h.here).0
seen_old {S} {w} c n (Way r p h i e) =
    let given = (c.given.rights h.task h.seat (Io r) h.is_task h.here).0 in
    elim e [ inl at ↦ subst (Below w) (sym at) (given p.at (inr (way_at p r.parents i))) | inr up ↦ subst (Below w) (sym up) (given p.parent (inr (way_parent p r.parents i))) ]
seen_old {S} {w} c n (Controlled s i h es e) = subst (Below w) (sym e) (home_old c i.root s (c.housing.roots s i es))
seen_old {S} {w} c n (Pending h) = c.given.rights h.task h.seat (Start n) h.is_task h.here
seen_old {S} {w} c n (Child d h name s eh k could en) = c.given.entries d n (entry_lists name (body_at w d) n en)
seen_old c n (Parent d h s eh ep) = c.given.parents d n h eh ep
seen_old {S} {w} c n (Active m s i sm em es e) = subst (Below w) (sym e) (home_old c i.root s (c.housing.roots s i es))
seen_old {S} {w} c n (ServerRoot m s i sm em es could e) = subst (Below w) (sym e) (home_old c i.root s (c.housing.roots s i es))
seen_old c n (Target m s i sm em es aim) = c.given.targets s n i es aim

-- a name that a task of S had not given yet
abbrev pub NewTo : (ℕ → Bool) → World → Name → Type 0
NewTo S v n = (S n.task.0 ≡ true) × (Below v n → ⊥)

abbrev pub NewPart : (ℕ → Bool) → World → Part → Type 0
NewPart S v (AttrOf n) = NewTo S v n
NewPart S v (EmptyOf n) = NewTo S v n
NewPart S v (BodyOf n) = NewTo S v n
NewPart S v (EndsOf n) = NewTo S v n
NewPart S v (OpenOf o) = NewTo S v o
NewPart S v (OptionsOf s) = NewTo S v s
NewPart S v (TextOf s) = NewTo S v s
NewPart S v (UsersOf s) = NewTo S v s
NewPart S v (TotalOf s) = NewTo S v s
NewPart S v (TaskOf t) = ⊥

-- a node that S saw, or a new one of its own; and a part likewise
abbrev pub SeenOrNew : (ℕ → Bool) → World → Name → Type 0
SeenOrNew S v n = Seen S v n ⊎ NewTo S v n

abbrev pub Known : (ℕ → Bool) → World → Part → Type 0
Known S v p = Sees S v p ⊎ NewPart S v p

-- a header of a node that opens nothing that another kept shut; a new parent is one that S saw or made, and with it S knew whether the node is empty
pub record Less (S : ℕ → Bool) (v : World) (n : Name) (h before : Header) : Type 0 where
  pub kind : h.kind ≡ before.kind
  pub parent : (p : Name) → h.parent ≡ Some p → (before.parent ≡ Some p) ⊎ (SeenOrNew S v p × Known S v (EmptyOf n))
  pub could : (want : Want) → Could S v h want → Could S v before want
  pub owns : OwnsIt S v h → OwnsIt S v before

pub Less-refl : (S : ℕ → Bool) (v : World) (n : Name) (h : Header) → Less S v n h h
Less-refl S v n h = record { kind = refl; parent = λ p e. inl e; could = λ want c. c; owns = λ o. o }

-- a header with the same owner, group and mode opens nothing
pub less_same : (S : ℕ → Bool) (v : World) (n : Name) (h before : Header) → h.kind ≡ before.kind → h.owner ≡ before.owner → h.group ≡ before.group → h.mode ≡ before.mode
    → ((p : Name) → h.parent ≡ Some p → (before.parent ≡ Some p) ⊎ (SeenOrNew S v p × Known S v (EmptyOf n))) → Less S v n h before
less_same S v n h before kind owner group mode parent = record { kind = kind; parent = parent; could = could; owns = λ o. (o.0, o.1, elim o.2 [ inl e ↦ inl (e ∙ owner) | inr zero ↦ inr zero ]) }
  where
    could : (want : Want) → Could S v h want → Could S v before want
    could want (Owns u has is) = Owns u has (elim is [ inl e ↦ inl (e ∙ owner) | inr zero ↦ inr zero ])
    could want (Allowed ids taken allows) = Allowed ids taken (cc)

pub Less-trans : {S : ℕ → Bool} {v : World} (n : Name) (h k l : Header) → Less S v n h k → Less S v n k l → Less S v n h l
Less-trans n h k l a b = record {
  kind = a.kind ∙ b.kind;
  parent = λ p e. elim (a.parent p e) [ inl i ↦ b.parent p i | inr new ↦ inr new ];
  could = λ want c. b.could want (a.could want c);
  owns = λ o. b.owns (a.owns o);
}

-- a header of x at a node: one that stood there in v, with less; or a new node's, below a parent that S saw or made
abbrev pub HeaderInside : (ℕ → Bool) → World → Name → Header → Type 0
HeaderInside S v n h = ((before : Header) × (header_at v n ≡ Some before) × Less S v n h before) ⊎ (NewTo S v n × ((p : Name) → h.parent ≡ Some p → SeenOrNew S v p))

-- a right to use a node that S may hold, except for its ids: it names nodes that S saw or made, and an open that it had or made
pub record IoInside (S : ℕ → Bool) (v : World) (r : IoRight) : Type 0 where
  pub nodes : (n : Name) → IsAmong n (nodes_named (Io r)) → SeenOrNew S v n
  pub opened : Known S v (OpenOf r.open_name)

-- a server that S controls, or could send away
abbrev pub Commands : (ℕ → Bool) → World → Name → Type 0
Commands S v s = Holds S v (Control s) ⊎ ((i : ServerInfo) × (server_at v s ≡ Some i) × Sends S v s i)

-- a right that S may hold, except for its ids
abbrev pub RightInside : (ℕ → Bool) → World → Right → Type 0
RightInside S v (Io r) = IoInside S v r
RightInside S v (Control s) = Commands S v s ⊎ NewTo S v s
RightInside S v (Start n) = SeenOrNew S v n

-- the nodes that a right of S names are seen
pub named_seen : (S : ℕ → Bool) (v : World) (r : IoRight) → Holds S v (Io r) → (n : Name) → IsAmong n (nodes_named (Io r)) → Seen S v n
named_seen S v r h n (inl e) = Held r h (sym e)
named_seen S v r h n (inr i) = let p = way_with n r.parents i in Way r p.0 h p.1 p.2

-- what S controls it commands, and what it commands it knows and could send away
pub commands_known : (S : ℕ → Bool) (v : World) (s : Name) → Commands S v s → Knows S v s
commands_known S v s (inl h) = OfControl h
commands_known S v s (inr c) = knows_of S v s c.0 c.2

pub commands_send : (S : ℕ → Bool) (v : World) (s : Name) (i : ServerInfo) → server_at v s ≡ Some i → Commands S v s → Sends S v s i
commands_send S v s i is (inl h) = ByControl h
commands_send S v s i is (inr c) = let same : c.0 ≡ i = cc (is, c.1) in subst (Sends S v s) same c.2

-- the root of a server that S could send away is seen
pub sends_root : (S : ℕ → Bool) (v : World) (s : Name) (i : ServerInfo) → server_at v s ≡ Some i → Sends S v s i → Seen S v i.root
sends_root S v s i is (ByControl h) = Controlled s i h is refl
sends_root S v s i is (ByNode n sn en could) = ServerRoot n s i sn en is could refl
sends_root S v s i is (BySeat n h sn en eh owns) = Active n s i sn en is refl

-- all ids that S holds in x it held in v
pub record TakesLess (S : ℕ → Bool) (v x : World) : Type 0 where
  pub tasks : (q : ℕ) (y : Task) → S q ≡ true → task_at x q ≡ Some y → Taken S v y.ids
  pub rights : (r : IoRight) → Holds S x (Io r) → Taken S v r.ids

-- a server that was, except for its text, which is another only where S commands it. Or it is a new one of S, with its root, and aims at nothing beyond what S saw or made
abbrev pub ServerInside : (ℕ → Bool) → World → Name → ServerInfo → Type 0
ServerInside S v s i = ((text : List ℕ) × (server_at v s ≡ Some (with_text text i)) × ((text ≡ i.text) ⊎ Commands S v s)) ⊎ (NewTo S v s × NewTo S v i.root × ((n : Name) → IsAmong n i.targets → SeenOrNew S v n))

-- the server of a node that was its server, or the node is a new one of S, of a server that S knew or made
abbrev pub HomeInside : (ℕ → Bool) → World → Name → Name → Type 0
HomeInside S v n s = (home_at v n ≡ Some s) ⊎ (NewTo S v n × Known S v (OptionsOf s))

-- the world x holds nothing for S beyond what S saw in v
pub record Inside (S : ℕ → Bool) (v x : World) : Type 0 where
  pub servers : (s : Name) (i : ServerInfo) → server_at x s ≡ Some i → ServerInside S v s i
  pub actives : (n s : Name) → active_at x n ≡ Some s → (active_at v n ≡ Some s) ⊎ NewTo S v s
  pub made : (q : ℕ) (y : Task) → task_at x q ≡ Some y → (z : Task) × (task_at v q ≡ Some z) × (z.made ≤ y.made)
  -- S held uid 0, and so could do all, or has no more ids
  pub power : HasUid S v 0 ⊎ TakesLess S v x
  pub held : (r : Right) → Holds S x r → RightInside S v r
  pub reads : (r : IoRight) (o : Opened) → Holds S x (Io r) → open_at x r.open_name ≡ Some o → tells (counts_at v r.node) o.modes ≡ true → (h : Header) → header_at v r.node ≡ Some h → SeesBody S v r.node h
  pub headers : (n : Name) (h : Header) → header_at x n ≡ Some h → HeaderInside S v n h
  pub entries : (d n : Name) (name : List ℕ) → entry_of name (body_at x d) ≡ Some n → (entry_of name (body_at v d) ≡ Some n) ⊎ SeenOrNew S v n
  pub homes : (n s : Name) → home_at x n ≡ Some s → HomeInside S v n s

held_inside : (S : ℕ → Bool) (v : World) (r : Right) → Holds S v r → RightInside S v r
held_inside S v (Io r) h = record { nodes = λ n i. inl (named_seen S v r h n i); opened = inl (r, h, refl) }
held_inside S v (Control s) h = inl (inl h)
held_inside S v (Start n) h = inl (Pending h)

pub Inside-refl : (S : ℕ → Bool) (v : World) → Inside S v v
Inside-refl S v = record {
  servers = λ s i e. inl (i.text, e, inl refl);
  actives = λ n s e. inl e;
  made = λ q y e. (y, e, omega arith);
  power = inr (record {
    tasks = λ q y ours e. record { uids = λ u h. UidOfTask q ours y e h; gids = λ g h. GidOfTask q ours y e h };
    rights = λ r h. record { uids = λ u k. UidOfRight r h k; gids = λ g k. GidOfRight r h k };
  });
  held = held_inside S v;
  reads = λ r o h e modes k is. IsOpen r h refl o e modes;
  headers = λ n h e. inl (h, e, Less-refl S v n h);
  entries = λ d n name e. inl e;
  homes = λ n s e. inl e;
}

module _ {S : ℕ → Bool} {v x : World} (less : TakesLess S v x) where
  uid_back : (u : ℕ) → HasUid S x u → HasUid S v u
  uid_back u (UidOfTask t ours y is h) = (less.tasks t y ours is).uids u h
  uid_back u (UidOfRight r h has) = (less.rights r h).uids u has

  gid_back : (g : ℕ) → HasGid S x g → HasGid S v g
  gid_back g (GidOfTask t ours y is h) = (less.tasks t y ours is).gids g h
  gid_back g (GidOfRight r h has) = (less.rights r h).gids g has

  could_less : (h : Header) (want : Want) → Could S x h want → Could S v h want
  could_less h want (Owns u has is) = Owns u (uid_back u has) is
  could_less h want (Allowed ids taken may) =
      Allowed ids (record { uids = λ u k. uid_back u (taken.uids u k); gids = λ g k. gid_back g (taken.gids g k) }) may

-- an open tells of a body where the server counts, if it does where that doesn't
tells_more : (b c : Bool) (modes : OpenFlags) → (b ≡ true → c ≡ true) → tells b modes ≡ true → tells c modes ≡ true
tells_more true c modes more told = rw (more refl) told
tells_more false true modes more told = elim (or_cases (asks modes READ) false told) [ inl reads ↦ or_left (asks modes READ) (asks modes WRITE) reads | inr never ↦ absurd (true≢false (sym never)) ]
tells_more false false modes more told = told

module _ {S : ℕ → Bool} {v x : World} (coherent : Coherent v) (i : Inside S v x) where
  could_back : (h : Header) (want : Want) → Could S x h want → Could S v h want
  could_back h want c = elim i.power [ inl all ↦ Owns 0 all (inr refl) | inr less ↦ could_less less h want c ]

  owns_back : (h : Header) → OwnsIt S x h → OwnsIt S v h
  owns_back h o = elim i.power [ inl all ↦ (0, all, inr refl) | inr less ↦ (o.0, uid_back less o.0 o.1, o.2) ]

  serve_back : (info : ServerInfo) → CouldServe S x info → CouldServe S v info
  serve_back info c = elim i.power [ inl all ↦ (0, all, inr refl) | inr less ↦ (c.0, uid_back less c.0 c.1, c.2) ]

  -- the header that a node which S saw had
  header_before : (n : Name) (h : Header) → header_at x n ≡ Some h → Seen S v n → (before : Header) × (header_at v n ≡ Some before) × Less S v n h before
  header_before n h e s = elim (i.headers n h e) [ inl l ↦ l | inr new ↦ absurd (new.0.1 (seen_old coherent n s)) ]

  child_inside : (d n : Name) (h : Header) (name : List ℕ) → header_at x d ≡ Some h → h.kind ≡ Dir → Could S x h Exec → SeenOrNew S v d → (entry_of name (body_at v d) ≡ Some n) ⊎ SeenOrNew S v n → SeenOrNew S v n
  child_inside d n h name eh k c ok (inr r) = r
  child_inside d n h name eh k c (inl sd) (inl e) =
      let l = header_before d h eh sd in
      inl (Child d l.0 name sd l.1 (sym l.2.kind ∙ k) (l.2.could Exec (could_back h Exec c)) e)
  child_inside d n h name eh k c (inr new) (inl e) = absurd (new.1 (entry_old coherent d n (entry_lists name (body_at v d) n e)))

  parent_inside : (d n : Name) (h : Header) → header_at x d ≡ Some h → h.parent ≡ Some n → SeenOrNew S v d → HeaderInside S v d h → SeenOrNew S v n
  parent_inside d n h eh ep ok (inr new) = new.1 n ep
  parent_inside d n h eh ep (inl sd) (inl l) = elim (l.2.parent n ep) [ inl e ↦ inl (Parent d l.0 sd l.1 e) | inr new ↦ new.0 ]
  parent_inside d n h eh ep (inr new) (inl l) = absurd (new.1 (header_old coherent d l.0 l.1))

  -- the server of a node, and the one that is active on it, is known where the node is
  server_inside : (n s : Name) → SeenOrNew S v n → HomeInside S v n s → Known S v (OptionsOf s)
  server_inside n s ok (inr new) = new.1
  server_inside n s (inl sn) (inl e) = inl (OfNode n sn e)
  server_inside n s (inr new) (inl e) = absurd (new.1 (home_old coherent n s e))

  seat_inside : (n s : Name) → SeenOrNew S v n → (active_at v n ≡ Some s) ⊎ NewTo S v s → (Seen S v n × (active_at v n ≡ Some s)) ⊎ NewTo S v s
  seat_inside n s ok (inr new) = inr new
  seat_inside n s (inl sn) (inl e) = inl (sn, e)
  seat_inside n s (inr new) (inl e) = let h = seat_there coherent n s e in absurd (new.1 (header_old coherent n h.0 h.1))

  -- the root of a server was seen where that was known, and is new where that is
  by_server : (s : Name) (info : ServerInfo) (P : Type 0) → P ⊎ NewTo S v s → ServerInside S v s info → (P → (text : List ℕ) → server_at v s ≡ Some (with_text text info) → Seen S v info.root) → SeenOrNew S v info.root
  by_server s info P ok (inr new) root = inr new.1
  by_server s info P (inl p) (inl e) root = inl (root p e.0 e.1)
  by_server s info P (inr new) (inl e) root = absurd (new.1 (coherent.given.servers s (with_text e.0 info) e.1))

  -- the root of a server that S knows and could serve
  known_root : (s : Name) (info : ServerInfo) → server_at v s ≡ Some info → CouldServe S v info → Knows S v s → Seen S v info.root
  known_root s info is could (OfNode n sn en) = ServerRoot n s info sn en is could refl
  known_root s info is could (OfSeat n sn en) = Active n s info sn en is refl
  known_root s info is could (OfControl h) = Controlled s info h is refl

  -- S could send it away
  known_sends : (s : Name) (info : ServerInfo) → server_at v s ≡ Some info → CouldServe S v info → Knows S v s → Sends S v s info
  known_sends s info is could (OfNode n sn en) = ByNode n sn en could
  known_sends s info is could (OfSeat n sn en) = ByNode info.root (Active n s info sn en is refl) (coherent.housing.roots s info is) could
  known_sends s info is could (OfControl h) = ByControl h

  -- what a server aims at that S knows
  known_target : (s n : Name) (info : ServerInfo) → server_at v s ≡ Some info → Knows S v s → IsAmong n info.targets → Seen S v n
  known_target s n info is (OfNode m sm em) aim = Target m s info sm (inl em) is aim
  known_target s n info is (OfSeat m sm em) aim = Target m s info sm (inr em) is aim
  known_target s n info is (OfControl h) aim = Target info.root s info (Controlled s info h is refl) (inl (coherent.housing.roots s info is)) is aim

  target_by : (s n : Name) (info : ServerInfo) → IsAmong n info.targets → Known S v (OptionsOf s) → ServerInside S v s info → SeenOrNew S v n
  target_by s n info aim known (inr new) = new.2 n aim
  target_by s n info aim (inl knows) (inl e) = inl (known_target s n (with_text e.0 info) e.1 knows aim)
  target_by s n info aim (inr new) (inl e) = absurd (new.1 (coherent.given.servers s (with_text e.0 info) e.1))

  known_by : (m s : Name) → SeenOrNew S v m → (home_at x m ≡ Some s) ⊎ (active_at x m ≡ Some s) → Known S v (OptionsOf s)
  known_by m s ok (inl e) = server_inside m s ok (i.homes m s e)
  known_by m s ok (inr e) = elim (seat_inside m s ok (i.actives m s e)) [ inl k ↦ inl (OfSeat m k.0 k.1) | inr new ↦ inr new ]

  -- what is seen was seen, or is new
  pub seen_inside : (n : Name) → Seen S x n → SeenOrNew S v n
  seen_inside n (Root e) = inl (Root e)
  seen_inside n (Held r h e) = subst (SeenOrNew S v) (sym e) ((i.held (Io r) h).nodes r.node (inl refl))
  seen_inside n (Way r p h a e) =
      let known = (i.held (Io r) h).nodes in
      elim e [ inl at ↦ subst (SeenOrNew S v) (sym at) (known p.at (inr (way_at p r.parents a))) | inr up ↦ subst (SeenOrNew S v) (sym up) (known p.parent (inr (way_parent p r.parents a))) ]
  seen_inside n (Controlled s info h es e) =
      subst (SeenOrNew S v) (sym e) (by_server s info (Commands S v s) (i.held (Control s) h) (i.servers s info es)
      (λ k text is. sends_root S v s (with_text text info) is (commands_send S v s (with_text text info) is k)))
  seen_inside n (Pending h) = i.held (Start n) h
  seen_inside n (Child d h name s eh k c en) = child_inside d n h name eh k c (seen_inside d s) (i.entries d n name en)
  seen_inside n (Parent d h s eh ep) = parent_inside d n h eh ep (seen_inside d s) (i.headers d h eh)
  seen_inside n (Active m s info sm em es e) =
      subst (SeenOrNew S v) (sym e) (by_server s info (Seen S v m × (active_at v m ≡ Some s)) (seat_inside m s (seen_inside m sm) (i.actives m s em)) (i.servers s info es)
      (λ k text is. Active m s (with_text text info) k.0 k.1 is refl))
  seen_inside n (ServerRoot m s info sm em es c e) =
      subst (SeenOrNew S v) (sym e) (by_server s info (Knows S v s) (server_inside m s (seen_inside m sm) (i.homes m s em)) (i.servers s info es)
      (λ k text is. known_root s (with_text text info) is (serve_back info c) k))
  seen_inside n (Target m s info sm em es aim) = target_by s n info aim (known_by m s (seen_inside m sm) em) (i.servers s info es)

  -- where the server of a node that was there counts who reads, it did
  counts_by_server : (n s : Name) (info : ServerInfo) → counts_opens info.kind ≡ true → home_at v n ≡ Some s → ServerInside S v s info → counts_at v n ≡ true
  counts_by_server n s info counts home (inl was) = rw (home, was.1) counts
  counts_by_server n s info counts home (inr new) = let j = home_server coherent n s home in absurd (new.0.1 (coherent.given.servers s j.0 j.1))

  counts_inside : (n : Name) (before : Header) → header_at v n ≡ Some before → counts_at x n ≡ true → counts_at v n ≡ true
  counts_inside n before was = by_home (home_at x n) refl
    where
      by_info : (s : Name) (o : Option ServerInfo) → server_at x s ≡ o → home_at v n ≡ Some s → counts_by o ≡ true → counts_at v n ≡ true
      by_info s None e home counts = absurd (cc)
      by_info s (Some info) e home counts = counts_by_server n s info counts home (i.servers s info e)

      by_home : (o : Option Name) → home_at x n ≡ o → counts_by (info_in x.servers o) ≡ true → counts_at v n ≡ true
      by_home None e counts = absurd (cc)
      by_home (Some s) e counts = elim (i.homes n s e) [ inl home ↦ by_info s (server_at x s) refl home counts | inr new ↦ absurd (new.0.1 (header_old coherent n before was)) ]

  body_inside : (n : Name) (h before : Header) → header_at v n ≡ Some before → Less S v n h before → SeesBody S x n h → SeesBody S v n before
  body_inside n h before is less (ToRead c) = ToRead (less.could Read (could_back h Read c))
  body_inside n h before is less (ToSearch k c) = ToSearch (sym less.kind ∙ k) (less.could Exec (could_back h Exec c))
  body_inside n h before is less (ToPut counts c) = ToPut (counts_inside n before is counts) (less.could Write (could_back h Write c))
  body_inside n h before is less (IsOpen r held e o at modes) =
      let told : tells (counts_at v n) o.modes ≡ true = tells_more (counts_at x n) (counts_at v n) o.modes (counts_inside n before is) modes in
      subst (λ z. SeesBody S v z before) (sym e) (i.reads r o held at (subst (λ z. tells (counts_at v z) o.modes ≡ true) e told) before (subst (λ z. header_at v z ≡ Some before) e is))

  empty_inside : (n : Name) (h before : Header) → Seen S v n → header_at v n ≡ Some before → Less S v n h before → SeesEmpty S x n h → SeesEmpty S v n before ⊎ Known S v (EmptyOf n)
  empty_inside n h before s is less (ByBody b) = inl (ByBody (body_inside n h before is less b))
  empty_inside n h before s is less (ByParent p a ep ea c) = elim (less.parent p ep) [
    | inl e ↦ let l = header_before p a ea (Parent n before s is e) in inl (ByParent p l.0 e l.1 (l.2.could Write (could_back a Write c)))
    | inr new ↦ inr new.1
  ]

  knows_inside : (q : Name) → Knows S x q → Known S v (OptionsOf q)
  knows_inside q (OfNode n sn en) = known_by n q (seen_inside n sn) (inl en)
  knows_inside q (OfSeat n sn en) = known_by n q (seen_inside n sn) (inr en)
  knows_inside q (OfControl h) = elim (i.held (Control q) h) [ inl k ↦ inl (commands_known S v q k) | inr new ↦ inr new ]

  sends_inside : (q : Name) (info : ServerInfo) (text : List ℕ) → server_at v q ≡ Some (with_text text info) → Sends S x q info → Sends S v q (with_text text info) ⊎ NewTo S v q
  sends_inside q info text is (ByControl h) = elim (i.held (Control q) h) [ inl k ↦ inl (commands_send S v q (with_text text info) is k) | inr new ↦ inr new ]
  sends_inside q info text is (ByNode n sn en could) = elim (server_inside n q (seen_inside n sn) (i.homes n q en)) [ inl k ↦ inl (known_sends q (with_text text info) is (serve_back info could) k) | inr new ↦ inr new ]
  sends_inside q info text is (BySeat n h sn en eh owns) = elim (seat_inside n q (seen_inside n sn) (i.actives n q en)) [
    | inl k ↦ let l = header_before n h eh k.0 in inl (BySeat n l.0 k.0 k.1 l.1 (l.2.owns (owns_back h owns)))
    | inr new ↦ inr new
  ]

  users_inside : (q : Name) (m : MaySend S x q) → ServerInside S v q m.info → Known S v (UsersOf q)
  users_inside q m (inr new) = inr new.0
  users_inside q m (inl is) = elim (sends_inside q m.info is.0 is.1 m.why) [ inl k ↦ inl (record { info = with_text is.0 m.info; is_server = is.1; other = m.other; why = k }) | inr new ↦ inr new ]

  text_inside : (q : Name) (info : ServerInfo) → SeesText S x q info → ServerInside S v q info → Known S v (TextOf q)
  text_inside q info why (inr new) = inr new.0
  text_inside q info (ToControl sends) (inl is) = elim (sends_inside q info is.0 is.1 sends) [ inl k ↦ inl (with_text is.0 info, is.1, ToControl k) | inr new ↦ inr new ]
  text_inside q info (InRoot reads sn en h eh body) (inl is) = elim (seen_inside info.root sn) [
    | inl sr ↦ let l = header_before info.root h eh sr in inl (with_text is.0 info, is.1, InRoot (reads_same info.kind info.text is.0 ∙ reads) sr root l.0 l.1 (body_inside info.root h l.0 l.1 l.2 body))
    | inr new ↦ absurd (new.1 (home_old coherent info.root q root))
  ]
    where
      root : home_at v info.root ≡ Some q
      root = coherent.housing.roots q (with_text is.0 info) is.1

  -- a limit that is there was there, or S could set it
  limit_before : (q : Name) (info : ServerInfo) (text : List ℕ) → server_at v q ≡ Some (with_text text info) → (text ≡ info.text) ⊎ Commands S v q → is_some (limit_of info.kind info.text) ≡ true
      → (is_some (limit_of info.kind text) ≡ true) ⊎ Sends S v q (with_text text info)
  limit_before q info text is (inl same) limited = inl (ap (λ (t : List ℕ). is_some (limit_of info.kind t)) same ∙ limited)
  limit_before q info text is (inr commands) limited = inr (commands_send S v q (with_text text info) is commands)

  total_inside : (q : Name) (t : SeesTotal S x q) → ServerInside S v q t.info → Known S v (TotalOf q)
  total_inside q t (inr new) = inr new.0
  total_inside q t (inl is) = elim (knows_inside q t.knows) [
    | inl knows ↦ elim (why_inside t.why) [
      | inl why ↦ inl (record { info = with_text is.0 t.info; is_server = is.1; knows = knows; tree = t.tree; why = why })
      | inr new ↦ inr new
    ]
    | inr new ↦ inr new
  ]
    where
      why_inside : (is_some (limit_of t.info.kind t.info.text) ≡ true) ⊎ Sends S x q t.info → ((is_some (limit_of t.info.kind is.0) ≡ true) ⊎ Sends S v q (with_text is.0 t.info)) ⊎ NewTo S v q
      why_inside (inl limited) = inl (limit_before q t.info is.0 is.1 is.2 limited)
      why_inside (inr sends) = elim (sends_inside q t.info is.0 is.1 sends) [ inl k ↦ inl (inr k) | inr new ↦ inr new ]

  -- a part that is seen was seen, or is new
  pub sees_inside : (p : Part) → Sees S x p → Known S v p
  sees_inside (AttrOf n) s = seen_inside n s
  sees_inside (EmptyOf n) s = elim (seen_inside n s.0) [
    | inl sn ↦
        let l = header_before n s.1 s.2 sn in
        elim (empty_inside n s.1 l.0 sn l.1 l.2 s.4) [ inl sees ↦ inl (sn, l.0, l.1, sym l.2.kind ∙ s.3, sees) | inr known ↦ known ]
    | inr new ↦ inr new
  ]
  sees_inside (BodyOf n) s = elim (seen_inside n s.0) [
    | inl sn ↦ let l = header_before n s.1 s.2 sn in inl (sn, l.0, l.1, body_inside n s.1 l.0 l.1 l.2 s.3)
    | inr new ↦ inr new
  ]
  sees_inside (EndsOf n) s = elim (seen_inside n s.1.0) [
    | inl sn ↦ let l = header_before n s.1.1 s.1.2 sn in inl (counts_inside n l.0 l.1 s.0, (sn, l.0, l.1, body_inside n s.1.1 l.0 l.1 l.2 s.1.3))
    | inr new ↦ inr new
  ]
  sees_inside (OpenOf o) s = elim (i.held (Io s.0) s.1).opened [
    | inl q ↦ inl (q.0, q.1, q.2 ∙ s.2)
    | inr new ↦ inr (subst (NewTo S v) s.2 new)
  ]
  sees_inside (OptionsOf q) s = knows_inside q s
  sees_inside (TextOf q) s = text_inside q s.0 s.2 (i.servers q s.0 s.1)
  sees_inside (UsersOf q) s = users_inside q s (i.servers q s.info s.is_server)
  sees_inside (TotalOf q) s = total_inside q s (i.servers q s.info s.is_server)
  sees_inside (TaskOf t) s = inl s
