-- Each change of a node has its reason, and what a node has become by some changes goes by theirs.
use Rattle.std.proofs.Common.{◌≡◌, ◌≢◌, ◌∙◌, ◌<◌, ◌++◌, ℕ, Bool, true, false, cond, if◌then◌else◌, List, [], ◌∷◌, Option, Some, None, refl, sym, ap, subst, inl, inr, arith}
use Rattle.std.specs.Str.{bytes_eq}
use Rattle.std.proofs.lemmas.Slice.Eq.{bytes_eq-Decides}
use Rattle.hurd_creds.proofs.NameLaws.{get_apart}
use Rattle.hurd_creds.specs.declared.mode.Mode.{Mode}
use Rattle.hurd_trans_iface.specs.Answers.{entry_in, entry_of}
use Rattle.hurd_trans_iface.specs.Nodes.{Body, Content, Entry, Listing, less_entry, linked, moved_to, on_bytes, unlinked, with_attrs, with_body, with_entry, with_header, with_passive, with_size, without_entry}
use Rattle.hurd_nodes.proofs.Sites.{active-apart, active-edited_apart, active-kept, active-left, less_active}
use Rattle.hurd_nodes.specs.Held.{new_site}
use Rattle.hurd_nodes.specs.Shown.{is_other}
use Rattle.hurd_ports.specs.Steps.{named, with_sent}
use Rattle.hurd_machine.proofs.Common.{Attach, Change, Coherent, DropServer, EditBody, EditHeader, EditTask, Header, Linked, MakeNode, MakeOpen, Name, Node, Send, ServerInfo, Settle, Unseat, World, active_at, apply, apply_all, body_at, get, insert, task_at}
use Rattle.hurd_machine.specs.Change.{stays}
use Rattle.hurd_machine.specs.World.{nodes_of}
use Rattle.hurd_machine.specs.Sound.{Below}
use Rattle.hurd_machine.proofs.Nodes.{was_edited}
use Rattle.hurd_machine.proofs.Sites.{not_home}
use Rattle.hurd_creds.proofs.Retained.{kept_was}
use Rattle.hurd_machine.proofs.Tasks.{below_edit}
use Rattle.hurd_machine.proofs.Coherence.{AllProper, Comes, Proper, next_apart, next_not}
use Rattle.hurd_machine.proofs.Keeping.{coherent_one}
use Rattle.hurd_machine.proofs.Comes.{attach_is, come_world}
use Rattle.hurd_machine.proofs.Drop.{drop_left}
use Rattle.hurd_machine.proofs.Stays.{sweep}
use Rattle.hurd_machine.proofs.Swept.{settle_keeps, sweep_left}
use Rattle.hurd_laws.specs.Integrity.{ByReason, Enters, MayLink, MaySeat, MaySize, Owns, SameOwned, TakenOut, Takes, TakesEntry}

-- headers that differ by reasons

pub same_owned : (h : Header) → SameOwned h h
same_owned h = record { kind = refl; owner = refl; group = refl; mode = refl; words = refl }

pub both_owned : {h k l : Header} → SameOwned h k → SameOwned k l → SameOwned h l
both_owned a b = record { kind = b.kind ∙ a.kind; owner = b.owner ∙ a.owner; group = b.group ∙ a.group; mode = b.mode ∙ a.mode; words = b.words ∙ a.words }

module _ {S : ℕ → Bool} {w : World} {n : Name} where
  pub same_header : (h : Header) → ByReason S w n h h
  same_header h = record { owned = λ out. same_owned h; size = λ out. refl; links = λ out. refl; parent = λ out. refl }

  both_headers : {h k l : Header} → ByReason S w n h k → ByReason S w n k l → ByReason S w n h l
  both_headers a b = record {
    owned = λ out. both_owned (a.owned out) (b.owned out);
    size = λ out. b.size out ∙ a.size out;
    links = λ out. b.links out ∙ a.links out;
    parent = λ out. b.parent out ∙ a.parent out;
  }

  -- each edit of a header

  pub attrs_by : Owns S w n → (owner group : ℕ) (mode : Mode) (h : Header) → ByReason S w n h (with_attrs owner group mode h)
  attrs_by own owner group mode h = record { owned = λ out. absurd (out own); size = λ out. refl; links = λ out. refl; parent = λ out. refl }

  pub words_by : Owns S w n → (words : List (List ℕ)) (h : Header) → ByReason S w n h (with_passive words h)
  words_by own words h = record { owned = λ out. absurd (out own); size = λ out. refl; links = λ out. refl; parent = λ out. refl }

  pub size_by : MaySize S w n → (k : ℕ) (h : Header) → ByReason S w n h (with_size k h)
  size_by may k h = record {
    owned = λ out. record { kind = refl; owner = refl; group = refl; mode = refl; words = refl };
    size = λ out. absurd (out may);
    links = λ out. refl;
    parent = λ out. refl;
  }

  pub link_by : MayLink S w n → (h : Header) → ByReason S w n h (linked h)
  link_by may h = record {
    owned = λ out. record { kind = refl; owner = refl; group = refl; mode = refl; words = refl };
    size = λ out. refl;
    links = λ out. absurd (out may);
    parent = λ out. refl;
  }

  pub unlink_by : Takes S w n → (h : Header) → ByReason S w n h (unlinked h)
  unlink_by takes h = record {
    owned = λ out. record { kind = refl; owner = refl; group = refl; mode = refl; words = refl };
    size = λ out. refl;
    links = λ out. absurd (out (TakenOut takes));
    parent = λ out. absurd (out takes);
  }

  pub move_by : Takes S w n → (dir : Name) (h : Header) → ByReason S w n h (moved_to dir h)
  move_by takes dir h = record {
    owned = λ out. record { kind = refl; owner = refl; group = refl; mode = refl; words = refl };
    size = λ out. refl;
    links = λ out. refl;
    parent = λ out. absurd (out takes);
  }

-- what is under a name in a body, and does so in another, by reasons
pub record EntryKept (S : ℕ → Bool) (w : World) (d : Name) (name : List ℕ) (b e : Body) : Type 0 where
  pub stays : (n : Name) → entry_of name (body_at w d) ≡ Some n → (TakesEntry S w d name n → ⊥) → entry_of name (Some b) ≡ Some n → entry_of name (Some e) ≡ Some n
  pub free : entry_of name (body_at w d) ≡ None → (Enters S w d → ⊥) → entry_of name (Some b) ≡ None → entry_of name (Some e) ≡ None

-- an entry that was added comes after all others

added_stays : (name new : List ℕ) (n m : Name) (es : List Entry) → entry_in name es ≡ Some n → entry_in name (es ++ record { name = new; node = m } ∷ []) ≡ Some n
added_stays name new n m [] is = absurd (cc)
added_stays name new n m (e ∷ es) is = go (bytes_eq e.name name) is (added_stays name new n m es)
  where
    go : (b : Bool) → cond b (Some e.node) (entry_in name es) ≡ Some n → (entry_in name es ≡ Some n → entry_in name (es ++ record { name = new; node = m } ∷ []) ≡ Some n)
        → cond b (Some e.node) (entry_in name (es ++ record { name = new; node = m } ∷ [])) ≡ Some n
    go true h later = h
    go false h later = later h

-- an entry that was taken out is no other

less_other : (name old : List ℕ) → bytes_eq old name ≡ false → (es : List Entry) → entry_in name (less_entry old es) ≡ entry_in name es
less_other name old other [] = refl
less_other name old other (e ∷ es) = go (bytes_eq e.name old) refl (less_other name old other es)
  where
    go : (b : Bool) → bytes_eq e.name old ≡ b → entry_in name (less_entry old es) ≡ entry_in name es → entry_in name (if b then es else e ∷ less_entry old es) ≡ cond (bytes_eq e.name name) (Some e.node) (entry_in name es)
    go true is later =
        let same : e.name ≡ old = (bytes_eq-Decides e.name old).0 is in
        sym (ap (λ (b : Bool). cond b (Some e.node) (entry_in name es)) (ap (λ (v : List ℕ). bytes_eq v name) same ∙ other))
    go false is later = ap (λ (o : Option Name). cond (bytes_eq e.name name) (Some e.node) o) later

module _ {S : ℕ → Bool} {w : World} {d : Name} where
  same_entry : (name : List ℕ) (b : Body) → EntryKept S w d name b b
  same_entry name b = record { stays = λ n is out e. e; free = λ is out e. e }

  both_entries : {name : List ℕ} {b c e : Body} → EntryKept S w d name b c → EntryKept S w d name c e → EntryKept S w d name b e
  both_entries a b = record { stays = λ n is out e. b.stays n is out (a.stays n is out e); free = λ is out e. b.free is out (a.free is out e) }

  -- each edit of a body

  pub bytes_by : (f : List ℕ → List ℕ) (name : List ℕ) (b : Body) → EntryKept S w d name b (on_bytes f b)
  bytes_by f name (Content bs) = record { stays = λ n is out e. e; free = λ is out e. e }
  bytes_by f name (Listing es) = same_entry name (Listing es)

  pub enter_by : Enters S w d → (new : List ℕ) (m : Name) (name : List ℕ) (b : Body) → EntryKept S w d name b (with_entry new m b)
  enter_by enters new m name (Content bs) = same_entry name (Content bs)
  enter_by enters new m name (Listing es) = record { stays = λ n is out e. added_stays name new n m es e; free = λ is out e. absurd (out enters) }

  pub take_by : (old : List ℕ) (m : Name) → TakesEntry S w d old m → (name : List ℕ) (b : Body) → EntryKept S w d name b (without_entry old b)
  take_by old m takes name (Content bs) = same_entry name (Content bs)
  take_by old m takes name (Listing es) = go (bytes_eq old name) refl
    where
      go : (b : Bool) → bytes_eq old name ≡ b → EntryKept S w d name (Listing es) (Listing (less_entry old es))
      go false other = record { stays = λ n is out e. less_other name old other es ∙ e; free = λ is out e. less_other name old other es ∙ e }
      go true same =
          let one : entry_of name (body_at w d) ≡ Some m = ap (λ (v : List ℕ). entry_of v (body_at w d)) (sym ((bytes_eq-Decides old name).0 same)) ∙ takes.names in
          record {
            stays = λ n is out e. let node : m ≡ n = cc (one, is) in absurd (out (subst (TakesEntry S w d name) node (subst (λ (v : List ℕ). TakesEntry S w d v m) ((bytes_eq-Decides old name).0 same) takes)));
            free = λ is out e. absurd (cc (one, is));
          }

-- a change has its reason in w, by what S may do there

abbrev pub Reasoned : (ℕ → Bool) → World → Change → Type 0
Reasoned S w (EditHeader m f) = (h : Header) → ByReason S w m h (f h)
Reasoned S w (EditBody m g) = (name : List ℕ) (b : Body) → EntryKept S w m name b (g b)
Reasoned S w (Attach s at i node) = MaySeat S w at
Reasoned S w (Unseat m) = MaySeat S w m
Reasoned S w (DropServer s) = (m : Name) → active_at w m ≡ Some s → MaySeat S w m
Reasoned S w c = Unit {0}

-- each of these changes has its reason, and they settle at their end alone; or nowhere, where they may not
abbrev pub AllReasoned : Bool → (ℕ → Bool) → World → List Change → Type 0
AllReasoned may S w [] = Unit {0}
AllReasoned may S w (Settle ∷ cs) = (may ≡ true) × (cs ≡ [])
AllReasoned may S w (c ∷ cs) = Reasoned S w c × AllReasoned may S w cs

first_reasoned : (may : Bool) (S : ℕ → Bool) (w : World) (d : Change) (ds : List Change) → AllReasoned may S w (d ∷ ds) → Reasoned S w d × AllReasoned may S w ds
first_reasoned may S w Settle ds r = (tt, subst (AllReasoned may S w) (sym r.1) tt)
first_reasoned may S w d ds r = r

-- a name that was given is no new one, and stays given

root_not : (x : World) (s at : Name) (i : ServerInfo) (node : Node) → Comes x s at i node → Below x i.root → ⊥
root_not x s at i node p b =
    let low : i.root.count < p.next.seat.made = b p.next.seat (ap (λ u. task_at x u.0) p.task ∙ p.next.is_task) in
    let e = p.count in
    let f = p.next.next in
    absurd (omega (arith, low, e, f))

below_one : (x : World) (c : Change) → Proper x c → (n : Name) → Below x n → Below (apply c x) n
below_one x (MakeNode m s node) p n b = below_edit x (apply (MakeNode m s node) x) m.task.0 (named 1) (λ y. omega arith) refl n b
below_one x (MakeOpen o z) p n b = below_edit x (apply (MakeOpen o z) x) o.task.0 (named 1) (λ y. omega arith) refl n b
below_one x (EditTask q f) p n b = below_edit x (apply (EditTask q f) x) q f p.0 refl n b
below_one x (Send r q) p n b = below_edit x (apply (Send r q) x) q (with_sent r) (λ y. omega arith) refl n b
below_one x (Attach s at i node) p n b = below_edit x (apply (Attach s at i node) x) s.task.0 (named 2) (λ y. omega arith) refl n b
below_one x c p n b = b

pub below_all : (cs : List Change) (x : World) → Coherent x → AllProper x cs → (n : Name) → Below x n → Below (apply_all cs x) n
below_all [] x c p n b = b
below_all (d ∷ ds) x c p n b = let next = coherent_one d x c p.0 in below_all ds (apply d x) next (p.1 next) n (below_one x d p.0 n b)

-- one change: what a node was before it, and that the change has altered it by its reason

module _ (S : ℕ → Bool) (w : World) where
  record Before (x y : World) (n : Name) (z : Node) : Type 0 where
    node : Node
    is_node : get x.nodes n ≡ Some node
    header : ByReason S w n node.header z.header
    entry : (name : List ℕ) → EntryKept S w n name node.body z.body
    seat : (MaySeat S w n → ⊥) → active_at x n ≡ active_at w n → active_at y n ≡ active_at x n

  -- the same node, with the same server active on it
  unchanged : {x y : World} {n : Name} {z : Node} → get x.nodes n ≡ Some z → ((MaySeat S w n → ⊥) → active_at x n ≡ active_at w n → active_at y n ≡ active_at x n) → Before x y n z
  unchanged {z = z} is seat = record { node = z; is_node = is; header = same_header z.header; entry = λ name. same_entry name z.body; seat = seat }

  before : (x : World) (c : Change) → Coherent x → Proper x c → (n : Name) → Below x n → Reasoned S w c → (z : Node) → get (apply c x).nodes n ≡ Some z → Before x (apply c x) n z
  before x (EditHeader m f) c p n b reason z e = elim (was_edited x.nodes m n (with_header f) z e) [
    | inl k ↦ record {
      node = k.1;
      is_node = ap (get x.nodes) k.0 ∙ k.2;
      header = subst (λ (q : Node). ByReason S w n k.1.header q.header) k.3 (subst (λ (o : Name). ByReason S w o k.1.header (f k.1.header)) (sym k.0) (reason k.1.header));
      entry = λ name. subst (λ (q : Node). EntryKept S w n name k.1.body q.body) k.3 (same_entry name k.1.body);
      seat = λ out same. refl;
    }
    | inr old ↦ unchanged old (λ out same. refl)
  ]
  before x (EditBody m g) c p n b reason z e = elim (was_edited x.nodes m n (with_body g) z e) [
    | inl k ↦ record {
      node = k.1;
      is_node = ap (get x.nodes) k.0 ∙ k.2;
      header = subst (λ (q : Node). ByReason S w n k.1.header q.header) k.3 (same_header k.1.header);
      entry = λ name. subst (λ (q : Node). EntryKept S w n name k.1.body q.body) k.3 (subst (λ (o : Name). EntryKept S w o name k.1.body (g k.1.body)) (sym k.0) (reason name k.1.body));
      seat = λ out same. refl;
    }
    | inr old ↦ unchanged old (λ out same. refl)
  ]
  before x (MakeNode m s node) c p n b reason z e =
      let apart : n ≢ m = next_apart x m n p.0 b in
      unchanged (sym (get_apart x.nodes m node n apart) ∙ e) (λ out same. active-apart x.sites m (new_site s) n apart)
  before x (Attach s at i node) c p n b reason z e = come (subst (λ (y : World). get y.nodes n ≡ Some z) is e)
    where
      is : apply (Attach s at i node) x ≡ come_world x s at i node
      is = attach_is x s at i node c (next_not x s p.next)

      apart : n ≢ i.root
      apart same = root_not x s at i node p (subst (Below x) same b)

      come : get (come_world x s at i node).nodes n ≡ Some z → Before x (apply (Attach s at i node) x) n z
      come k = unchanged (sym (get_apart x.nodes i.root node n apart) ∙ k) (λ out same.
          ap (λ (y : World). active_at y n) is
          ∙ active-edited_apart (insert x.sites i.root (new_site s)) at (Some s) n (λ here. out (subst (MaySeat S w) (sym here) reason))
          ∙ active-apart x.sites i.root (new_site s) n apart)
  before x (DropServer s) c p n b reason z e =
      let was = kept_was (is_other s x.sites n) (get x.nodes n) z (sym ((drop_left x s c p).nodes n) ∙ e) in
      unchanged was.0 (λ out same.
      active-left x.sites s n
      ∙ ap (λ (k : Bool). cond k (less_active x.sites s (active_at x n)) None) was.1
      ∙ ap (λ (k : Bool). let o : Option Name = if k then None else active_at x n in o) (not_home s (active_at x n) (λ at. out (reason n (sym same ∙ at)))))
  before x (Unseat m) c p n b reason z e = unchanged e (λ out same. active-edited_apart x.sites m None n (λ here. out (subst (MaySeat S w) (sym here) reason)))
  before x Settle c p n b reason z e =
      let was = settle_keeps (λ y. (q : Node) → get y.nodes n ≡ Some q → (get x.nodes n ≡ Some q) × (active_at y n ≡ active_at x n)) swept x c p (λ q f. (f, refl)) in
      let k = was z e in
      unchanged k.0 (λ out same. k.1)
    where
      swept : (y : World) → Coherent y → Linked (nodes_of y) → ((q : Node) → get y.nodes n ≡ Some q → (get x.nodes n ≡ Some q) × (active_at y n ≡ active_at x n))
          → (q : Node) → get (sweep y).nodes n ≡ Some q → (get x.nodes n ≡ Some q) × (active_at (sweep y) n ≡ active_at x n)
      swept y cy ly old q f =
          let here = kept_was (stays y n) (get y.nodes n) q (sym ((sweep_left y cy ly).nodes n) ∙ f) in
          let k = old q here.0 in
          (k.0, active-kept y.sites (stays y) n ∙ ap (λ (o : Bool). cond o (active_at y n) None) here.1 ∙ k.1)
  before x k c p n b reason z e = unchanged e (λ out same. refl)

  -- all of them

  pub record Since (x : World) (n : Name) (z : Node) : Type 0 where
    pub node : Node
    pub is_node : get w.nodes n ≡ Some node
    pub header : ByReason S w n node.header z.header
    pub entry : (name : List ℕ) → EntryKept S w n name node.body z.body
    pub seat : (MaySeat S w n → ⊥) → active_at x n ≡ active_at w n

  all_since : (may : Bool) (cs : List Change) (x : World) → Coherent x → AllProper x cs → (n : Name) → Below x n → AllReasoned may S w cs → ((y : Node) → get x.nodes n ≡ Some y → Since x n y)
      → (z : Node) → get (apply_all cs x).nodes n ≡ Some z → Since (apply_all cs x) n z
  all_since may [] x c p n b reasons since z e = since z e
  all_since may (d ∷ ds) x c p n b reasons since z e =
      all_since may ds (apply d x) (coherent_one d x c p.0) (p.1 (coherent_one d x c p.0)) n (below_one x d p.0 n b) (first_reasoned may S w d ds reasons).1 next z e
    where
      next : (y : Node) → get (apply d x).nodes n ≡ Some y → Since (apply d x) n y
      next y f =
          let k = before x d c p.0 n b (first_reasoned may S w d ds reasons).0 y f in
          let s = since k.node k.is_node in
          record {
            node = s.node;
            is_node = s.is_node;
            header = both_headers s.header k.header;
            entry = λ name. both_entries (s.entry name) (k.entry name);
            seat = λ out. k.seat out (s.seat out) ∙ s.seat out;
          }

  pub since_all : (may : Bool) (cs : List Change) → Coherent w → AllProper w cs → AllReasoned may S w cs → (n : Name) → Below w n → (z : Node) → get (apply_all cs w).nodes n ≡ Some z → Since (apply_all cs w) n z
  since_all may cs c p reasons n b = all_since may cs w c p n b reasons (λ y e. record { node = y; is_node = e; header = same_header y.header; entry = λ name. same_entry name y.body; seat = λ out. refl })
