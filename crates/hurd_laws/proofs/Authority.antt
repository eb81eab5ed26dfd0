-- What each call touches, its caller may change.
use Rattle.std.proofs.Common.{◌≡◌, ◌≢◌, ◌⊎◌, ◌∙◌, ◌||◌, ◌&&◌, ◌==◌, ◌<◌, ℕ, ℤ, Bool, true, false, true≢false, if◌then◌else◌, nat_lt, List, [], ◌∷◌, Option, Some, None, refl, sym, ap, subst, inl, inr, arith}
use Rattle.std.proofs.lemmas.Bool.Decides.{nat_tests}
use Rattle.std.specs.Prelude.{Result, Ok, Err}
use Rattle.hurd_creds.specs.declared.attrs.Attrs.{Attrs}
use Rattle.hurd_creds.specs.Access.{is_root, holds_uid, holds_gid}
use Rattle.hurd_trans_iface.specs.Nodes.{Header, Node, is_dir}
use Rattle.hurd_trans_iface.specs.Behaviour.{reading, size_left}
use Rattle.hurd_trans_iface.specs.Totals.{counts_for}
use Rattle.hurd_trans_iface.specs.Kinds.{behaviour_of}
use Rattle.hurd_trans_iface.specs.declared.begun.ServerKind.{ServerKind}
use Rattle.hurd_trans_iface.specs.declared.begun.ServerKind.TheVariants.{Tmpfs}
use Rattle.hurd_trans_iface.specs.Meaning.{keeps_tree, root_of}
use Rattle.hurd_trans_iface.proofs.Goods.{good}
use Rattle.hurd_nodes.specs.Needs.{streams_by}
use Rattle.hurd_nodes.specs.Shown.{ServerInfo, asked_of, tree_by}
use Rattle.hurd_machine.proofs.Common.{AttrOf, BodyOf, Control, Did, EndsOf, Errno, Holds, IdSets, Io, Mode, Name, Named, OnDid, OnDrop, OnRight, OpenFlags, OpenOf, Part, Plan, Question, READ, Right, Seen, Send, Sound, Start, TaskOf, TotalOf, UsersOf, WRITE, World, after_plan, answered, apply, asked_at, asked_parts, bare, handle_asks, info_at, owns, port_asks, ports_of, space_at, stream_at, with_sent}
use Rattle.hurd_machine.specs.declared.call.Reply.TheVariants.{Done}
use Rattle.hurd_ports.proofs.TaskLaws.{edit-here, one_or_other}
use Rattle.hurd_machine.specs.World.{node_at}
use Rattle.hurd_machine.specs.declared.handle.Handle.{Handle}
use Rattle.hurd_machine.specs.declared.call.Whence.{Whence}
use Rattle.hurd_machine.specs.Touched.{Changes, OnNode, OnTotal, Resizes}
use Rattle.hurd_machine.specs.Handle.{any_mode}
use Rattle.hurd_machine.specs.Sight.{Held}
use Rattle.hurd_ports.specs.Tables.{right_of}
use Rattle.hurd_machine.proofs.Spaces.{effect_fits}
use Rattle.hurd_machine.proofs.Asks.{first_ok, given_ok, holds_right, handled, is_named, IsNamed}
use Rattle.hurd_rights.specs.Rights.{plan_send, touches_deallocate, touches_send}
use Rattle.hurd_core.specs.Core.{send_asks}
use Rattle.hurd_io.specs.Io.{reads, writes, touches_read, touches_write}
use Rattle.hurd_io.specs.Opens.{seek_asks, touches_seek, touches_set_openmodes}
use Rattle.hurd_io.specs.Sharing.{share_asks, touches_share}
use Rattle.hurd_io.proofs.Touching.{Touches, read_touches, write_touches}
use Rattle.hurd_files.specs.Files.{set_size_asks, touches_set_size}
use Rattle.hurd_files.specs.Access.{gives, setting_asks, touches_chmod, touches_chown}
use Rattle.hurd_files.proofs.AccessLaws.{may_set}
use Rattle.hurd_laws.specs.Integrity.{HasOpen, IsDelivered, Owns, Owned, MayChange, ByOpens, BySize, Sized, Written, Drained, ToWrite, ToDrain}

-- of a call of task t: what it touches, whoever has the task may change
abbrev pub Allowed : ℕ → (World → Part → Type 0) → Type 0
Allowed t touches = (S : ℕ → Bool) (w : World) → Sound w → S t ≡ true → (p : Part) → touches w p → MayChange S w p

-- of such a call: what they may not change it doesn't touch, or it sends a right there
abbrev pub Spares : ℕ → (World → Plan) → (World → Part → Type 0) → Type 0
Spares t plan touches = (S : ℕ → Bool) (w : World) → Sound w → S t ≡ true → (p : Part) → (MayChange S w p → ⊥) → (touches w p → ⊥) ⊎ IsDelivered S w (after_plan w (plan w)) p

-- two good answers that are the same answer the same
pub ok_is : {A : Type 0} {a b : A} → ◌≡◌ {A = Result A Errno} (Ok a) (Ok b) → a ≡ b
ok_is e = cc (e)

pub parts_may : {A P : Type 0} (x : Result A Errno) (k : A → Part → Type 0) (p : Part) → ((a : A) → x ≡ Ok a → k a p → P) → asked_parts x k p → P
unfolding asked_parts
parts_may (Err e) k p h on = absurd on
parts_may (Ok a) k p h on = h a refl on

pub may_at : (S : ℕ → Bool) (w : World) (p q : Part) → p ≡ q → MayChange S w q → MayChange S w p
may_at S w p q e m = subst (MayChange S w) (sym e) m

module _ {S : ℕ → Bool} {w : World} where
  pub node_may : (n : Name) → Seen S w n → (p : Part) → OnNode w n p → MayChange S w p
  node_may n seen p on = may_at S w p (UsersOf on.0) on.2 (inl (n, seen, on.1))

  pub right_may : (r : Right) → Holds S w r → (p : Part) → OnRight w r p → MayChange S w p
  right_may (Io r) h p (inl e) = may_at S w p (OpenOf r.open_name) e (r, h, refl)
  right_may (Io r) h p (inr on) = node_may r.node (Held r h refl) p on
  right_may (Control s) h p on = absurd on
  right_may (Start n) h p on = absurd on

  drop_may : (r : Right) → Holds S w r → (p : Part) → OnDrop w r p → MayChange S w p
  drop_may (Io r) h p (inl on) = right_may (Io r) h p on
  drop_may (Io r) h p (inr on) = may_at S w p (EndsOf r.node) on.1 (ByOpens (record { counts = on.0; seen = Held r h refl }))
  drop_may (Control s) h p on = absurd on
  drop_may (Start n) h p on = absurd on

-- rights

pub deallocate_may : (t p : ℕ) → Allowed t (λ w. touches_deallocate w t p)
deallocate_may t p S w s ours q = parts_may _ _ q (λ r is on. drop_may r (holds_right t ours p r is) q on)

sent_right : (w : World) (t p q : ℕ) (r : Right) → send_asks w t p q ≡ Ok r → right_of (ports_of w) t p ≡ Ok r
sent_right w t p q r is =
    let n = first_ok (right_of (ports_of w) t p) _ r is in
    let g = given_ok _ _ _ r n.2 in
    let same : n.0 ≡ r = cc (g.1) in
    n.1 ∙ ap Ok same

pub sent_held : {S : ℕ → Bool} {w : World} (t : ℕ) → S t ≡ true → (p q : ℕ) (r : Right) → send_asks w t p q ≡ Ok r → Holds S w r
sent_held {S} {w} t ours p q r is = holds_right t ours p r (sent_right w t p q r is)

is_task : (k : Part) (q : ℕ) → (k ≡ TaskOf q) ⊎ (k ≢ TaskOf q)
is_task (TaskOf m) q = elim (one_or_other m q) [ inl e ↦ inl (ap TaskOf e) | inr a ↦ inr (λ e. a (cc (e))) ]
is_task k q = inr (λ e. absurd (cc (e)))

pub send_may : (t p q : ℕ) → Spares t (λ w. plan_send w t p q) (λ w. touches_send w t p q)
unfolding answered asked_parts
send_may t p q S w s ours k out = by (send_asks w t p q) refl
  where
    by : (x : Result Right Errno) → send_asks w t p q ≡ x
        → (asked_parts x (λ r k. OnRight w r k ⊎ (k ≡ TaskOf q)) k → ⊥) ⊎ IsDelivered S w (after_plan w (answered x (λ r. record { reply = Done; changes = Send r q ∷ [] }))) k
    by (Err e) is = inl (λ on. on)
    by (Ok r) is = elim (is_task k q) [
      | inl e ↦ inr (subst (IsDelivered S w (apply (Send r q) w)) (sym e) (record { right = r; held = sent_held t ours p q r is; is_last = edit-here q (with_sent r) w.tasks }))
      | inr apart ↦ inl (λ on. elim on [ inl a ↦ out (right_may r (sent_held t ours p q r is) k a) | inr e ↦ apart e ])
    ]

-- what is open

module _ {S : ℕ → Bool} {w : World} (t : ℕ) (ours : S t ≡ true) (p mode : ℕ) (a : Handle) (is : handle_asks w t p mode ≡ Ok a) where
  pub has_open : HasOpen S w a.node mode
  has_open = let by = handled w t p mode a is in record { right = by.right; held = holds_right t ours p (Io by.right) by.is_right; node = by.node; opened = a.opened; is_open = by.opened; modes = by.modes }

  open_may : MayChange S w (OpenOf a.open_name)
  open_may = let by = handled w t p mode a is in (by.right, holds_right t ours p (Io by.right) by.is_right, sym by.open_name)

-- what comes to count for more or for less by its size is a file that an entry names
resized_named : (size : Option ℕ) (h : Header) → counts_for (size_left size h) ≢ counts_for h → (is_dir h.kind ≡ false) × (0 < h.links)
resized_named None h apart = absurd (apart refl)
resized_named (Some k) h apart = by (is_dir h.kind) (nat_lt 0 h.links) refl refl apart
  where
    by : (b c : Bool) → is_dir h.kind ≡ b → nat_lt 0 h.links ≡ c → (if b then 0 else if c then k else 0) ≢ (if b then 0 else if c then h.size else 0) → (is_dir h.kind ≡ false) × (0 < h.links)
    by true c dir some apart = absurd (apart refl)
    by false false file none apart = absurd (apart refl)
    by false true file some apart = (file, grind (arith, nat_tests))

-- which S may write
total_may : {S : ℕ → Bool} {w : World} (n : Name) (size : Option ℕ) → HasOpen S w n WRITE → (p : Part) → Resizes w n (size_left size) → OnTotal w n p → MayChange S w p
total_may {S} {w} n size h p resizes on =
    let named = resized_named size resizes.0 resizes.2 in
    may_at S w p (TotalOf on.0) on.3 (BySize n resizes.0 (record { home = on.1; is_header = resizes.1; file = named.0 }) named.1 h)

wrote_may : {S : ℕ → Bool} {w : World} {T : Type 0} (n : Name) (d : Did T) → HasOpen S w n WRITE → (p : Part) → OnDid w n d p → MayChange S w p
wrote_may {S} {w} n d h p (inl on) = may_at S w p (BodyOf n) on.1 (ToWrite h)
wrote_may {S} {w} n d h p (inr (inl on)) = may_at S w p (AttrOf n) on.1 (Sized (Written h))
wrote_may {S} {w} n d h p (inr (inr on)) = total_may n d.size h p on.0 on.1

-- what the server does to a node, or the cursor of its open
io_may : {S : ℕ → Bool} {w : World} {T : Type 0} (t : ℕ) → S t ≡ true → (p mode : ℕ) (q : _ → Question T) (k : Part) → (u : Touches w t p mode q k)
    → ((d : Did T) → HasOpen S w u.handle.node mode → (a : _) → asked_at (q a) u.handle.node w ≡ Ok d → OnDid w u.handle.node d k → MayChange S w k) → MayChange S w k
io_may {S} {w} t ours p mode q k u did = elim u.on [
  | inl on ↦ did on.1 (has_open t ours p mode u.handle u.is_handle) on.0 on.2 on.3
  | inr e ↦ may_at S w k (OpenOf u.handle.open_name) e (open_may t ours p mode u.handle u.is_handle)
]

pub write_may : (t p : ℕ) (bytes : List ℕ) (offset : ℤ) → Allowed t (λ w. touches_write w t p bytes offset)
write_may t p bytes offset S w s ours k on =
    let u = write_touches w t p bytes offset k on in
    io_may t ours p WRITE (writes bytes w) k u (λ d h a told did. wrote_may u.handle.node d h k did)

-- a read changes a stream alone

asked_keeps : (w : World) (n : Name) (at amount writers : ℕ) (d : Did (List ℕ)) → asked_at (reading at amount writers) n w ≡ Ok d → stream_at w n ≡ false → (d.bytes ≡ None) × (d.size ≡ None)
asked_keeps w n at amount writers d is lone = by (info_at w n) (node_at w n) is lone
  where
    by : (i : Option ServerInfo) (x : Option Node) → asked_of (reading at amount writers) i (space_at w n) x ≡ Ok d → streams_by i ≡ false → (d.bytes ≡ None) × (d.size ≡ None)
    by None x e l = absurd (cc (e))
    by (Some i) None e l = absurd (cc (e))
    by (Some i) (Some x) e l = (good i.kind).read_keeps i.text l x at amount writers d (effect_fits (space_at w n) x.header ((behaviour_of i.kind).read i.text x at amount writers) d e)

-- what it changes was open to read, of a stream
pub read_drains : {S : ℕ → Bool} {w : World} (n : Name) (at amount writers : ℕ) (d : Did (List ℕ)) → HasOpen S w n READ → asked_at (reading at amount writers) n w ≡ Ok d → Changes d.bytes ⊎ Changes d.size → stream_at w n ≡ true
read_drains {S} {w} n at amount writers d h told changes = by (stream_at w n) refl
  where
    by : (b : Bool) → stream_at w n ≡ b → stream_at w n ≡ true
    by true is = is
    by false is = let k = asked_keeps w n at amount writers d told is in elim changes [ inl c ↦ absurd (subst Changes k.0 c) | inr c ↦ absurd (subst Changes k.1 c) ]

-- no tree is a stream

tree_still : (k : ServerKind) (text : List ℕ) → keeps_tree k ≡ true → (root_of k text).is_stream ≡ false
tree_still Tmpfs text tree = refl
tree_still k text tree = absurd (true≢false (sym tree))

tree_keeps : (i : Option ServerInfo) → tree_by i ≡ true → streams_by i ≡ false
tree_keeps None tree = refl
tree_keeps (Some i) tree = tree_still i.kind i.text tree

-- so a read leaves what its files have in all
read_counts : (w : World) (n : Name) (at amount writers : ℕ) (d : Did (List ℕ)) → asked_at (reading at amount writers) n w ≡ Ok d → (k : Part) → Resizes w n (size_left d.size) → OnTotal w n k → ⊥
read_counts w n at amount writers d told k resizes on =
    let kept = asked_keeps w n at amount writers d told (tree_keeps (info_at w n) on.2) in
    resizes.2 (ap (λ z. counts_for (size_left z resizes.0)) kept.1)

pub read_may : (t p amount : ℕ) (offset : ℤ) → Allowed t (λ w. touches_read w t p amount offset)
read_may t p amount offset S w s ours k on =
    let u = read_touches w t p amount offset k on in
    io_may t ours p READ (reads amount w) k u (λ d h a told did. drained u.handle.node d h a told did)
  where
    drained : (n : Name) (d : Did (List ℕ)) → HasOpen S w n READ → (a : _) → asked_at (reads amount w a) n w ≡ Ok d → OnDid w n d k → MayChange S w k
    drained n d h a told (inl on) = may_at S w k (BodyOf n) on.1 (ToDrain h (read_drains n a.at _ _ d h told (inl on.0)))
    drained n d h a told (inr (inl on)) = may_at S w k (AttrOf n) on.1 (Sized (Drained h (read_drains n a.at _ _ d h told (inr on.0))))
    drained n d h a told (inr (inr on)) = absurd (read_counts w n a.at _ _ d told k on.0 on.1)

pub seek_may : (t p : ℕ) (offset : ℤ) (whence : Whence) → Allowed t (λ w. touches_seek w t p offset whence)
seek_may t p offset whence S w s ours q = parts_may (seek_asks w t p offset whence) _ q (λ a is on.
    let h = first_ok (handle_asks w t p any_mode) _ a is in
    let k = first_ok _ _ a h.2 in
    let same : (h.0.open_name, k.0) ≡ a = cc (k.2) in
    may_at S w q (OpenOf a.0) on (subst (λ o. MayChange S w (OpenOf o)) (ap (λ z. z.0) same) (open_may t ours p any_mode h.0 h.1)))

pub set_openmodes_may : (t p : ℕ) (flags : OpenFlags) → Allowed t (λ w. touches_set_openmodes w t p flags)
set_openmodes_may t p flags S w s ours q = parts_may (handle_asks w t p any_mode) _ q (λ a is on. may_at S w q (OpenOf a.open_name) on (open_may t ours p any_mode a is))

pub share_may : (t p : ℕ) → Allowed t (λ w. touches_share w t p)
share_may t p S w s ours q = parts_may (share_asks w t p) _ q (λ a is on.
    let n = first_ok (port_asks w t p) _ a is in
    let x = first_ok _ _ a n.2 in
    let same : (n.0.right, x.0) ≡ a = cc (x.2) in
    let k = is_named w t p n.0 n.1 in
    right_may (Io a.0) (subst (λ r. Holds S w (Io r)) (ap (λ z. z.0) same) (holds_right t ours p (Io n.0.right) k.is_right)) q on)

-- files

pub set_size_open : {S : ℕ → Bool} {w : World} (t : ℕ) → S t ≡ true → (p : ℕ) (n : Name) → set_size_asks w t p ≡ Ok n → HasOpen S w n WRITE
set_size_open {S} {w} t ours p n is =
    let h = first_ok (handle_asks w t p WRITE) _ n is in
    let node : h.0.node ≡ n = cc (h.2) in
    subst (λ m. HasOpen S w m WRITE) node (has_open t ours p WRITE h.0 h.1)

pub set_size_may : (t p size : ℕ) → Allowed t (λ w. touches_set_size w t p size)
set_size_may t p size S w s ours q = parts_may (set_size_asks w t p) _ q (λ n is. parts_may _ _ q (λ d told on. wrote_may n d (set_size_open t ours p n is) q on))

module _ {S : ℕ → Bool} {w : World} (t : ℕ) (ours : S t ≡ true) (p : ℕ) (n : Named) (k : IsNamed w t p n) where
  pub owner_may : owns n.right.ids (bare n.header) ≡ true → Owns S w n.right.node
  owner_may o = record { right = n.right; held = holds_right t ours p (Io n.right) k.is_right; node = refl; header = n.header; is_header = k.is_header; owned = o }

pub chmod_owns : {S : ℕ → Bool} {w : World} (t : ℕ) → S t ≡ true → (p : ℕ) (can : IdSets → Attrs → Bool) → ((ids : IdSets) (a : Attrs) → can ids a ≡ true → owns ids a ≡ true) → (n : Named) → setting_asks w t p can ≡ Ok n → Owns S w n.right.node
chmod_owns {S} {w} t ours p can own n is = let k = may_set w t p can n is in owner_may t ours p n k.is_named (own n.right.ids (bare n.header) k.may)

pub chmod_may : (t p : ℕ) (mode : Mode) → Allowed t (λ w. touches_chmod w t p mode)
chmod_may t p mode S w s ours q = parts_may (setting_asks w t p owns) _ q (λ n is on. may_at S w q (AttrOf n.right.node) on (Owned (chmod_owns t ours p owns (λ ids a h. h) n is)))

pub giver_owns : (owner group : ℕ) (ids : IdSets) (a : Attrs) → gives owner group ids a ≡ true → owns ids a ≡ true
giver_owns owner group ids a h = by (is_root ids) (holds_uid ids a.owner) h
  where
    by : (root held : Bool) → (root || ((held && owner == a.owner) && (group == a.group || holds_gid ids group))) ≡ true → (held || root) ≡ true
    by root true e = refl
    by true false e = refl
    by false false e = absurd (true≢false (sym e))

pub chown_may : (t p owner group : ℕ) → Allowed t (λ w. touches_chown w t p owner group)
chown_may t p owner group S w s ours q = parts_may (setting_asks w t p (gives owner group)) _ q (λ n is on. may_at S w q (AttrOf n.right.node) on (Owned (chmod_owns t ours p (gives owner group) (giver_owns owner group) n is)))
