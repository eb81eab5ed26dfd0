-- What a call asks: the same in worlds that answer the same, what an answer shows, and that no answer is ENOMEM.
use Rattle.std.proofs.Common.{List, ◌≡◌, ℕ, Bool, true, false, Option, Some, None, refl, sym, ◌∙◌, ap, ap₂, subst, true≢false, ◌&&◌}
use Rattle.std.specs.Prelude.{if◌then◌else◌, not, is_some, nat_lt, Result, Ok, Err}
use Rattle.hurd_machine.proofs.Common.{Body, BodyOf, Coherent, InRoot, faced, known_text, reads_text, server_at, with_text, EBADF, EDIED, EEXIST, EISDIR, ENOSPC, ENOTDIR, EOPNOTSUPP, EOVERFLOW, EROFS, ESRCH, EXDEV, Errno, Header, Holds, Io, IoRight, IsAmong, IsOpen, Kind, Name, Named, Node, OpenFlags, Plan, Question, READ, Reply, Right, Seen, Sees, ServerInfo, Task, WRITE, World, answered, are_kin, asked_at, asked_of, asks, counts_at, counts_by, edit_by, ends_at, entry_of, first, get, given, handle_asks, header_at, home_at, info_at, info_in, io_right_of, is_dir, is_made, is_no_memory, is_refused, is_root_at, is_server_root, is_taken, keeps_tree, link_by, link_in, links_at, makes_at, most_links, on, open_at, or_refuse, port_asks, ports_of, refuse, right_at, right_in, rights_of, sets_attrs_at, stream_at, task_at, task_of, tells, writing, EndsOf, counts_for, fitting, overfills, space_at}
use Rattle.hurd_trans_iface.specs.Kinds.{behaviour_of}
use Rattle.hurd_trans_iface.specs.declared.begun.ServerKind.{ServerKind}
use Rattle.hurd_trans_iface.specs.Behaviour.{Effect, resizing, size_left}
use Rattle.hurd_trans_iface.specs.Nodes.{linked}
use Rattle.hurd_trans_iface.specs.Meaning.{root_of}
use Rattle.hurd_trans_iface.specs.Good.{IsPlain as IsPlainAnswer, IsUntold}
use Rattle.hurd_nodes.specs.Shown.{readable_by, made_by}
use Rattle.hurd_ports.specs.Tables.{right_of, io_right_in}
use Rattle.hurd_machine.specs.Calls.{lacks_memory}
use Rattle.hurd_machine.specs.declared.call.Reply.TheVariants.{Refused, Back}
use Rattle.hurd_nodes.specs.Needs.{streams_by}
use Rattle.hurd_machine.proofs.Ends.{ends_by}
use Rattle.hurd_machine.specs.World.{count_in, readable_at, nodes_of}
use Rattle.hurd_machine.specs.declared.handle.Handle.{Handle}
use Rattle.hurd_machine.specs.Sight.{Held}
use Rattle.hurd_machine.proofs.Nodes.{header_in, body_in, root_info}
use Rattle.hurd_machine.proofs.Rights.{right_under}
use Rattle.hurd_machine.proofs.Views.{Agree, same_tasks, header_same, body_same, home_same, face_same, server_known, open_same}
use Rattle.hurd_machine.proofs.Faces.{face_in, face_reads, none_faced, of_face, root_told}
use Rattle.hurd_machine.proofs.Spaces.{space_same}
use Rattle.hurd_machine.proofs.Coherence.{home_server}
use Rattle.hurd_trans_iface.proofs.Goods.{good, reads_lone}
use Rattle.std.proofs.lemmas.Bool.{or_left, or_right}

-- asked of two worlds, y of the second

pub on_same : {A B : Type 0} (e : Errno) (x y : Option A) (j k : A → Result B Errno) → y ≡ x → ((a : A) → x ≡ Some a → k a ≡ j a) → on e y k ≡ on e x j
unfolding on
on_same e None y j k h s = rw h refl
on_same e (Some a) y j k h s = rw h (s a refl)

pub given_same : {B : Type 0} (e : Errno) (b c : Bool) (p q : Result B Errno) → c ≡ b → (b ≡ true → q ≡ p) → given e c q ≡ given e b p
unfolding given
given_same e true c p q h s = rw h (s refl)
given_same e false c p q h s = rw h refl

pub first_same : {A B : Type 0} (x y : Result A Errno) (j k : A → Result B Errno) → y ≡ x → ((a : A) → x ≡ Ok a → k a ≡ j a) → first y k ≡ first x j
unfolding first
first_same (Err e) y j k h s = rw h refl
first_same (Ok a) y j k h s = rw h (s a refl)

pub answered_same : {A : Type 0} (x y : Result A Errno) (j k : A → Plan) → y ≡ x → ((a : A) → x ≡ Ok a → k a ≡ j a) → answered y k ≡ answered x j
unfolding answered
answered_same (Err e) y j k h s = rw h refl
answered_same (Ok a) y j k h s = rw h (s a refl)

-- what it takes to be answered

pub on_ok : {A B : Type 0} (e : Errno) (x : Option A) (k : A → Result B Errno) (b : B) → on e x k ≡ Ok b → (a : A) × (x ≡ Some a) × (k a ≡ Ok b)
unfolding on
on_ok e None k b h = absurd (cc)
on_ok e (Some a) k b h = (a, refl, h)

pub given_ok : {B : Type 0} (e : Errno) (c : Bool) (k : Result B Errno) (b : B) → given e c k ≡ Ok b → (c ≡ true) × (k ≡ Ok b)
unfolding given
given_ok e true k b h = (refl, h)
given_ok e false k b h = absurd (cc)

pub first_ok : {A B : Type 0} (x : Result A Errno) (k : A → Result B Errno) (b : B) → first x k ≡ Ok b → (a : A) × (x ≡ Ok a) × (k a ≡ Ok b)
unfolding first
first_ok (Err e) k b h = absurd (cc)
first_ok (Ok a) k b h = (a, refl, h)

-- what holds of refusals and of what follows from answers holds of the plan
pub answered_all : {A : Type 0} (P : Plan → Type 0) → ((e : Errno) → P (refuse e)) → (x : Result A Errno) (k : A → Plan) → ((a : A) → x ≡ Ok a → P (k a)) → P (answered x k)
unfolding answered
answered_all P refused (Err e) k h = refused e
answered_all P refused (Ok a) k h = h a refl

-- a refusal, if it is one, is not ENOMEM
abbrev pub IsPlain : {A : Type 0} → Result A Errno → Type 0
IsPlain r = (e : Errno) → r ≡ Err e → is_no_memory e ≡ false

pub ok_plain : {A : Type 0} (a : A) → IsPlain (Ok a)
ok_plain a e h = absurd (cc)

pub err_plain : {A : Type 0} (e : Errno) → is_no_memory e ≡ false → IsPlain {A = A} (Err e)
err_plain e out d h = let same : e ≡ d = cc in ap is_no_memory (sym same) ∙ out

pub on_plain : {A B : Type 0} (e : Errno) (x : Option A) (k : A → Result B Errno) → is_no_memory e ≡ false → ((a : A) → x ≡ Some a → IsPlain (k a)) → IsPlain (on e x k)
unfolding on
on_plain e None k out h = err_plain e out
on_plain e (Some a) k out h = h a refl

pub given_plain : {B : Type 0} (e : Errno) (c : Bool) (k : Result B Errno) → is_no_memory e ≡ false → (c ≡ true → IsPlain k) → IsPlain (given e c k)
unfolding given
given_plain e true k out h = h refl
given_plain e false k out h = err_plain e out

pub first_plain : {A B : Type 0} (x : Result A Errno) (k : A → Result B Errno) → IsPlain x → ((a : A) → x ≡ Ok a → IsPlain (k a)) → IsPlain (first x k)
unfolding first
first_plain (Err e) k out h = err_plain e (out e refl)
first_plain (Ok a) k out h = h a refl

-- a reply that is not ENOMEM
abbrev pub IsPlainReply : Reply → Type 0
IsPlainReply r = lacks_memory r ≡ false

pub refused_plain : (e : Errno) → is_no_memory e ≡ false → IsPlainReply (Refused e)
refused_plain e out = out

-- what is no refusal is none for lack of memory
pub done_plain : (r : Reply) → is_refused r ≡ false → IsPlainReply r
done_plain (Refused e) out = absurd (true≢false out)
done_plain (Back e m) out = absurd (true≢false out)
done_plain _ out = refl

pub answered_plain : {A : Type 0} (x : Result A Errno) (k : A → Plan) → IsPlain x → ((a : A) → x ≡ Ok a → IsPlainReply (k a).reply) → IsPlainReply (answered x k).reply
unfolding answered
answered_plain (Err e) k out h = refused_plain e (out e refl)
answered_plain (Ok a) k out h = h a refl

-- a right of the caller's

module _ {S : ℕ → Bool} {v w : World} (a : Agree S v w) (t : ℕ) (ours : S t ≡ true) where
  pub right_same : (q : ℕ) → right_of (ports_of w) t q ≡ right_of (ports_of v) t q
  right_same q = ap (right_at q) (same_tasks a t ours)

  pub io_right_same : (q : ℕ) → io_right_of (ports_of w) t q ≡ io_right_of (ports_of v) t q
  io_right_same q = ap io_right_in (right_same q)

  -- and the task itself
  pub task_same : task_of (ports_of w) t ≡ task_of (ports_of v) t
  task_same = ap (or_refuse ESRCH) (same_tasks a t ours)

was_there : {A : Type 0} (e : Errno) (o : Option A) (a : A) → or_refuse e o ≡ Ok a → o ≡ Some a
was_there e (Some b) a h = cc
was_there e None a h = absurd (cc)

or_plain : {A : Type 0} (e : Errno) (o : Option A) → is_no_memory e ≡ false → IsPlain (or_refuse e o)
or_plain e None out = err_plain e out
or_plain e (Some a) out = ok_plain a

pub has_task : (w : World) (t : ℕ) (x : Task) → task_of (ports_of w) t ≡ Ok x → task_at w t ≡ Some x
has_task w t x h = was_there ESRCH (task_at w t) x h

pub task_plain : (w : World) (t : ℕ) → IsPlain (task_of (ports_of w) t)
task_plain w t = or_plain ESRCH (task_at w t) refl

-- the task whose right it is, under that number
pub record HasRight (w : World) (t q : ℕ) (r : Right) : Type 0 where
  pub seat : Task
  pub is_task : task_at w t ≡ Some seat
  pub under : right_in q seat.ports ≡ Some r
  pub here : IsAmong r (rights_of seat)

pub has_right : (w : World) (t q : ℕ) (r : Right) → right_of (ports_of w) t q ≡ Ok r → HasRight w t q r
has_right w t q r h = go (task_at w t) refl h
  where
    go : (o : Option Task) → task_at w t ≡ o → right_at q o ≡ Ok r → HasRight w t q r
    go None e k = absurd (cc)
    go (Some x) e k =
        let u : right_in q x.ports ≡ Some r = was_there EBADF (right_in q x.ports) r k in
        record { seat = x; is_task = e; under = u; here = right_under q x r u }

pub holds_right : {S : ℕ → Bool} {v : World} (t : ℕ) → S t ≡ true → (q : ℕ) (r : Right) → right_of (ports_of v) t q ≡ Ok r → Holds S v r
holds_right {S} {v} t ours q r is = let h = has_right v t q r is in record { task = t; ours = ours; seat = h.seat; is_task = h.is_task; here = h.here }

-- a right to use a node is a right
pub io_right_is : (w : World) (t q : ℕ) (r : IoRight) → io_right_of (ports_of w) t q ≡ Ok r → right_of (ports_of w) t q ≡ Ok (Io r)
io_right_is w t q r h = go (right_of (ports_of w) t q) h
  where
    go : (o : Result Right Errno) → io_right_in o ≡ Ok r → o ≡ Ok (Io r)
    go (Ok (Io p)) k = let same : p ≡ r = cc in rw same refl
    go o k = absurd (cc)

pub holds_io : {S : ℕ → Bool} {v : World} (t : ℕ) → S t ≡ true → (q : ℕ) (r : IoRight) → io_right_of (ports_of v) t q ≡ Ok r → Holds S v (Io r)
holds_io {S} {v} t ours q r is = holds_right t ours q (Io r) (io_right_is v t q r is)

pub right_plain : (w : World) (t q : ℕ) → IsPlain (right_of (ports_of w) t q)
right_plain w t q = go (task_at w t)
  where
    go : (o : Option Task) → IsPlain (right_at q o)
    go None = err_plain ESRCH refl
    go (Some x) = or_plain EBADF (right_in q x.ports) refl

pub io_right_plain : (w : World) (t q : ℕ) → IsPlain (io_right_of (ports_of w) t q)
io_right_plain w t q = go (right_of (ports_of w) t q) (right_plain w t q)
  where
    go : (o : Result Right Errno) → IsPlain o → IsPlain (io_right_in o)
    go (Err e) out = err_plain e (out e refl)
    go (Ok (Io r)) out = ok_plain r
    go o out = err_plain EBADF refl

-- a port on a node that is there

pub record IsNamed (w : World) (t q : ℕ) (n : Named) : Type 0 where
  pub is_right : right_of (ports_of w) t q ≡ Ok (Io n.right)
  pub is_header : header_at w n.right.node ≡ Some n.header

pub is_named : (w : World) (t q : ℕ) (n : Named) → port_asks w t q ≡ Ok n → IsNamed w t q n
is_named w t q n h =
    let r = first_ok _ _ n h in
    let x = on_ok EDIED (header_at w r.0.node) _ n r.2 in
    let is : record { right = r.0; header = x.0 } ≡ n = cc in
    subst (IsNamed w t q) is (record { is_right = io_right_is w t q r.0 r.1; is_header = x.1 })

module _ {S : ℕ → Bool} {v w : World} (a : Agree S v w) (t : ℕ) (ours : S t ≡ true) where
  pub port_same : (q : ℕ) → port_asks w t q ≡ port_asks v t q
  port_same q =
      first_same _ _ _ _ (io_right_same a t ours q) (λ r is.
      on_same _ _ _ _ _ (header_same a r.node (Held r (holds_io t ours q r is) refl)) (λ h eh. refl))

-- S sees a node that it has a port on
pub port_seen : {S : ℕ → Bool} {v : World} (t : ℕ) → S t ≡ true → (q : ℕ) (n : Named) → port_asks v t q ≡ Ok n → Seen S v n.right.node
port_seen {S} {v} t ours q n is = Held n.right (holds_right t ours q (Io n.right) (is_named v t q n is).is_right) refl

pub port_plain : (w : World) (t q : ℕ) → IsPlain (port_asks w t q)
port_plain w t q = first_plain _ _ (io_right_plain w t q) (λ r is. on_plain _ _ _ refl (λ h eh. ok_plain _))

-- what a port has open

pub record Handled (w : World) (t q mode : ℕ) (a : Handle) : Type 0 where
  pub right : IoRight
  pub is_right : right_of (ports_of w) t q ≡ Ok (Io right)
  pub node : a.node ≡ right.node
  pub open_name : a.open_name ≡ right.open_name
  pub opened : open_at w right.open_name ≡ Some a.opened
  pub modes : asks a.opened.modes mode ≡ true
  pub header : Header
  pub is_header : header_at w right.node ≡ Some header
  pub kind : a.kind ≡ header.kind
  pub size : a.size ≡ header.size

pub handled : (w : World) (t q mode : ℕ) (a : Handle) → handle_asks w t q mode ≡ Ok a → Handled w t q mode a
handled w t q mode a h =
    let r = first_ok _ _ a h in
    let o = on_ok EBADF (open_at w r.0.open_name) _ a r.2 in
    let m = given_ok EBADF (asks o.0.modes mode) _ a o.2 in
    let x = on_ok EDIED (header_at w r.0.node) _ a m.1 in
    let is : record { node = r.0.node; open_name = r.0.open_name; opened = o.0; kind = x.0.kind; size = x.0.size } ≡ a = cc in
    subst (Handled w t q mode) is
    (record { right = r.0; is_right = io_right_is w t q r.0 r.1; node = refl; open_name = refl; opened = o.1; modes = m.0; header = x.0; is_header = x.1; kind = refl; size = refl })

module _ {S : ℕ → Bool} {v w : World} (a : Agree S v w) (t : ℕ) (ours : S t ≡ true) where
  pub handle_same : (q mode : ℕ) → handle_asks w t q mode ≡ handle_asks v t q mode
  handle_same q mode =
      first_same _ _ _ _ (io_right_same a t ours q) (λ r is.
      let held : Holds S v (Io r) = holds_io t ours q r is in
      on_same _ _ _ _ _ (open_same a r held) (λ o eo. given_same _ _ _ _ _ refl (λ m.
      on_same _ _ _ _ _ (header_same a r.node (Held r held refl)) (λ h eh. refl))))

module _ {S : ℕ → Bool} {v : World} (t : ℕ) (ours : S t ≡ true) where
  -- S sees a node that it has open
  pub handle_seen : (q mode : ℕ) (a : Handle) → handle_asks v t q mode ≡ Ok a → Seen S v a.node
  handle_seen q mode a is = let h = handled v t q mode a is in Held h.right (holds_right t ours q (Io h.right) h.is_right) h.node

  -- and its body, where it has it open to read, or to write and its server counts who reads
  handle_told : (q mode : ℕ) (a : Handle) → handle_asks v t q mode ≡ Ok a → ((n : Name) (modes : OpenFlags) → n ≡ a.node → asks modes mode ≡ true → tells (counts_at v n) modes ≡ true) → Sees S v (BodyOf a.node)
  handle_told q mode a is told =
      let h = handled v t q mode a is in
      let held : Holds S v (Io h.right) = holds_right t ours q (Io h.right) h.is_right in
      (Held h.right held h.node, h.header, ap (header_at v) h.node ∙ h.is_header, IsOpen h.right held h.node a.opened h.opened (told a.node a.opened.modes refl h.modes))

  pub handle_put : (q : ℕ) (a : Handle) → handle_asks v t q WRITE ≡ Ok a → counts_at v a.node ≡ true → Sees S v (BodyOf a.node)
  handle_put q a is counts = handle_told q WRITE a is (λ n modes same asked. rw (same, counts) (or_right (asks modes READ) (asks modes WRITE) asked))

  pub handle_read : (q : ℕ) (a : Handle) → handle_asks v t q READ ≡ Ok a → Sees S v (BodyOf a.node)
  handle_read q a is = handle_told q READ a is (λ n modes same asked. or_left (asks modes READ) (counts_at v n && asks modes WRITE) asked)

pub handle_plain : (w : World) (t q mode : ℕ) → IsPlain (handle_asks w t q mode)
handle_plain w t q mode =
    first_plain _ _ (io_right_plain w t q) (λ r is. on_plain _ _ _ refl (λ o eo. given_plain _ _ _ refl (λ m. on_plain _ _ _ refl (λ h eh. ok_plain _))))

-- what a server answers, and does

-- a node of the same header and the same body
same_node : (o p : Option Node) → header_in p ≡ header_in o → body_in p ≡ body_in o → p ≡ o
same_node None None h b = refl
same_node (Some x) (Some y) h b =
    let header : y.header ≡ x.header = cc in
    let body : y.body ≡ x.body = cc in
    ap₂ (λ (h : Header) (b : Body). let z : Node = record { header = h; body = b } in Some z) header body
same_node o p h b = absurd (cc)

-- what is blind to the body and to the text answers the same of nodes of the same header, whose servers are seen alike
abbrev pub IsBlind : {T : Type 0} → Question T → ServerKind → Type 0
IsBlind q k =
    (old new : List ℕ) (h : Header) (c e : Body)
    → let x : Node = record { header = h; body = c } in let y : Node = record { header = h; body = e } in q (behaviour_of k) new y ≡ q (behaviour_of k) old x

blind_same : {T : Type 0} (q : Question T) (space : Option ℕ) → (i j : Option ServerInfo) (o p : Option Node) → ((k : ServerInfo) → i ≡ Some k → IsBlind q k.kind) → face_in j ≡ face_in i → header_in p ≡ header_in o
    → asked_of q j space p ≡ asked_of q i space o
blind_same q space None None o p blind f h = refl
blind_same q space (Some i) (Some j) None None blind f h = refl
blind_same q space (Some i) (Some j) (Some x) (Some y) blind f h =
    let face : faced j ≡ faced i = cc in
    let header : y.header ≡ x.header = cc in
    ap (λ (z : ServerInfo). fitting space y.header (q (behaviour_of z.kind) j.text y)) face
    ∙ ap (λ (k : Header). fitting space k (q (behaviour_of i.kind) j.text (record { header = k; body = y.body }))) header
    ∙ ap (fitting space x.header) (blind i refl i.text j.text x.header x.body y.body)
blind_same q space i j o p blind f h = absurd (cc)

-- what goes by no text but one that whoever knows the server is told
asked_untold : {T : Type 0} (q : Question T) (i : ServerInfo) (space : Option ℕ) (o : Option Node) → IsUntold (behaviour_of i.kind) q → (text : List ℕ) → known_text i.kind text ≡ known_text i.kind i.text
    → asked_of q (Some (with_text text i)) space o ≡ asked_of q (Some i) space o
asked_untold q i space None untold text known = refl
asked_untold q i space (Some x) untold text known = ap (fitting space x.header) (untold i.text text x known)

readable_untold : (at : ℕ) (o : Option Node) (i : ServerInfo) → reads_text (root_of i.kind i.text) ≡ false → (text : List ℕ) → known_text i.kind text ≡ known_text i.kind i.text
    → count_in (readable_by at (Some (with_text text i)) o) ≡ count_in (readable_by at (Some i) o)
readable_untold at None i out text known = refl
readable_untold at (Some x) i out text known = (good i.kind).guards.readable_untold i.text out i.text text x at known

-- nothing that is taken goes by it

pub resizing_blind : (size : ℕ) (k : ServerKind) → IsBlind (resizing size) k
resizing_blind size k old new h c e = (good k).guards.set_size_untold old new (record { header = h; body = e }) size ∙ (good k).set_size_blind old size h c e

writing_blind : (at : ℕ) (bs : List ℕ) (readers : ℕ) (k : ServerKind) → (behaviour_of k).counts ≡ false → IsBlind (writing at bs readers) k
writing_blind at bs readers k out old new h c e = (good k).guards.write_untold old new (record { header = h; body = e }) at bs readers ∙ (good k).write_blind out old at bs readers h c e

-- the text plays no part in whether attributes may be set, or a node may get another name

edit_face : (o : Option Node) (i : ServerInfo) → edit_by (Some (faced i)) o ≡ edit_by (Some i) o
edit_face None i = refl
edit_face (Some x) i = refl

link_face : (name : List ℕ) (kin : Bool) (space : Option ℕ) (d o : Option Node) (i : ServerInfo) → link_by name kin (Some (faced i)) space d o ≡ link_by name kin (Some i) space d o
link_face name kin space None o i = refl
link_face name kin space (Some d) o i = refl

-- whether attributes may be set is the same of nodes that are there alike
there_same : (i : Option ServerInfo) (o p : Option Node) → header_in p ≡ header_in o → edit_by i p ≡ edit_by i o
there_same None o p h = refl
there_same (Some i) None None h = refl
there_same (Some i) (Some x) (Some y) h = refl
there_same (Some i) o p h = absurd (cc)

module _ {S : ℕ → Bool} {v w : World} (a : Agree S v w) (n : Name) where
  -- of a node that S sees it knows its server, except for a text that its readers alone are given
  pub info_seen : Seen S v n → face_in (info_at w n) ≡ face_in (info_at v n)
  info_seen seen = ap (λ o. face_in (info_in w.servers o)) (home_same a n seen) ∙ go (home_at v n) refl
    where
      go : (o : Option Name) → home_at v n ≡ o → face_in (info_in w.servers o) ≡ face_in (info_in v.servers o)
      go None e = refl
      go (Some s) e = face_same a n s seen e

  -- and so all that is read of it without that
  pub info_alike : {P : Type 0} (read : Option ServerInfo → P) → ((i : ServerInfo) → read (Some (faced i)) ≡ read (Some i)) → Seen S v n → read (info_at w n) ≡ read (info_at v n)
  info_alike read blind seen = face_reads read blind (info_at v n) (info_at w n) (info_seen seen)

  -- and of one whose body it sees, all that is read of it with its text, if reading it gives the text
  pub read_seen : {P : Type 0} (read : Option ServerInfo → P)
      → ((i : ServerInfo) → reads_text (root_of i.kind i.text) ≡ false → (text : List ℕ) → known_text i.kind text ≡ known_text i.kind i.text → read (Some (with_text text i)) ≡ read (Some i))
      → Coherent v → Sees S v (BodyOf n) → read (info_at w n) ≡ read (info_at v n)
  read_seen read untold c s = go (home_at v n) refl
    where
      by : (q : Name) (i : ServerInfo) → home_at v n ≡ Some q → server_at v q ≡ Some i → (b : Bool) → reads_text (root_of i.kind i.text) ≡ b → read (info_at w n) ≡ read (info_at v n)
      by q i home is true reads =
          let root : n ≡ i.root = c.housing.lone n q i home is (reads_lone i.kind i.text reads) in
          let sees : Sees S v (BodyOf i.root) = subst (λ m. Sees S v (BodyOf m)) root s in
          let known : server_at w q ≡ server_at v q = server_known a q (i, is, InRoot reads sees.0 (subst (λ m. home_at v m ≡ Some q) root home) sees.1 sees.2 sees.3) in
          ap (λ o. read (info_in w.servers o)) (home_same a n s.0 ∙ home) ∙ ap read known ∙ sym (ap (λ o. read (info_in v.servers o)) home)
      by q i home is false out =
          let here : info_at v n ≡ Some i = ap (info_in v.servers) home ∙ is in
          let there = of_face i (info_at w n) (info_seen s.0 ∙ ap face_in here) in
          let face : Some (faced (with_text there.0 i)) ≡ Some (faced i) = sym (ap face_in there.1) ∙ info_seen s.0 ∙ ap face_in here in
          let known : known_text i.kind there.0 ≡ known_text i.kind i.text = let e : faced (with_text there.0 i) ≡ faced i = cc (face) in ap (λ (z : ServerInfo). z.text) e in
          ap read there.1 ∙ untold i out there.0 known ∙ sym (ap read here)

      go : (o : Option Name) → home_at v n ≡ o → read (info_at w n) ≡ read (info_at v n)
      go None e = let none : info_at v n ≡ None = ap (info_in v.servers) e in ap read (none_faced (info_at w n) (info_seen s.0 ∙ ap face_in none)) ∙ sym (ap read none)
      go (Some q) e = let l = home_server c n q e in by q l.0 e l.1 (reads_text (root_of l.0.kind l.0.text)) refl

  -- and whether it is a server's root
  pub is_root_same : Seen S v n → is_server_root w n ≡ is_server_root v n
  is_root_same seen = root_info (nodes_of w) n ∙ info_alike (is_root_at n) (λ i. refl) seen ∙ sym (root_info (nodes_of v) n)

  -- and of one whose body it sees, the whole node
  pub seen_node : Sees S v (BodyOf n) → get w.nodes n ≡ get v.nodes n
  seen_node s = same_node (get v.nodes n) (get w.nodes n) (header_same a n s.0) (body_same a n s)

  -- what may be made in a directory whose entries S sees
  pub makes_same : (entry : Option (List ℕ)) (kind : Kind) → Sees S v (BodyOf n) → makes_at w n entry kind ≡ makes_at v n entry kind
  makes_same entry kind s = ap (made_by entry kind (info_at w n)) (seen_node s) ∙ info_alike (λ i. made_by entry kind i (get v.nodes n)) (λ i. refl) s.0

  -- whether attributes of a node that S sees may be set
  pub sets_attrs_same : Seen S v n → sets_attrs_at w n ≡ sets_attrs_at v n
  sets_attrs_same seen = info_alike (λ i. edit_by i (get w.nodes n)) (edit_face (get w.nodes n)) seen ∙ there_same (info_at v n) (get v.nodes n) (get w.nodes n) (header_same a n seen)

  -- whether the server of a node that S sees is told who reads
  pub counts_same : Seen S v n → counts_at w n ≡ counts_at v n
  counts_same seen = info_alike counts_by (λ i. refl) seen

  -- how many opens read and write a node that S sees, of which S sees what is in it where its server is told that
  pub ends_alike : Seen S v n → (counts_at v n ≡ true → Sees S v (BodyOf n)) → ends_at w n ≡ ends_at v n
  ends_alike seen sees = go (counts_at v n) refl
    where
      go : (b : Bool) → counts_at v n ≡ b → ends_at w n ≡ ends_at v n
      go true e = let same = a.parts (EndsOf n) (e, sees e) in cc
      go false e = ends_by v w n (counts_same seen) (λ told. absurd (true≢false (sym told ∙ e)))

  -- whether a node that S sees is a stream
  pub stream_same : Seen S v n → stream_at w n ≡ stream_at v n
  stream_same seen = info_alike streams_by (λ i. ap (λ r. r.is_stream) (root_told i.kind i.text)) seen

  -- how many bytes there are to read in one whose body it sees
  pub readable_same : (at : ℕ) → Coherent v → Sees S v (BodyOf n) → readable_at w n at ≡ readable_at v n at
  readable_same at c s = ap (λ x. count_in (readable_by at (info_at w n) x)) (seen_node s) ∙ read_seen (λ i. count_in (readable_by at i (get v.nodes n))) (readable_untold at (get v.nodes n)) c s

  -- whatever is asked of a node whose body S sees, and doesn't tell the text where reading doesn't
  pub asked_seen : {T : Type 0} (q : Question T) → ((k : ServerKind) (text : List ℕ) → reads_text (root_of k text) ≡ false → IsUntold (behaviour_of k) q) → Coherent v → Sees S v (BodyOf n) → asked_at q n w ≡ asked_at q n v
  asked_seen q untold c s =
      ap₂ (asked_of q (info_at w n)) (space_same a n s.0) (seen_node s)
      ∙ read_seen (λ i. asked_of q i (space_at v n) (get v.nodes n)) (λ i out text known. asked_untold q i (space_at v n) (get v.nodes n) (untold i.kind i.text out) text known) c s

  -- what goes by no body and no text
  blind_alike : {T : Type 0} (q : Question T) → ((k : ServerInfo) → info_at v n ≡ Some k → IsBlind q k.kind) → Seen S v n → asked_at q n w ≡ asked_at q n v
  blind_alike q blind s =
      ap (λ space. asked_of q (info_at w n) space (get w.nodes n)) (space_same a n s)
      ∙ blind_same q (space_at v n) (info_at v n) (info_at w n) (get v.nodes n) (get w.nodes n) blind (info_seen s) (header_same a n s)

  -- what is blind to the body and to the text, of any node that S sees
  pub asked_same : {T : Type 0} (q : Question T) → ((k : ServerKind) → IsBlind q k) → Seen S v n → asked_at q n w ≡ asked_at q n v
  asked_same q blind s = blind_alike q (λ k is. blind k.kind) s

  -- what is written into a node that S sees, of which S sees what is in it where its server is told who reads
  pub written_same : (at : ℕ) (bs : List ℕ) (readers : ℕ) → Coherent v → Seen S v n → (counts_at v n ≡ true → Sees S v (BodyOf n)) → asked_at (writing at bs readers) n w ≡ asked_at (writing at bs readers) n v
  written_same at bs readers c s sees = go (counts_at v n) refl
    where
      go : (b : Bool) → counts_at v n ≡ b → asked_at (writing at bs readers) n w ≡ asked_at (writing at bs readers) n v
      go true e = asked_seen (writing at bs readers) (λ k text out old new x told. (good k).guards.write_untold old new x at bs readers) c (sees e)
      go false e = blind_alike (writing at bs readers) (λ k is. writing_blind at bs readers k.kind (sym (ap counts_by is) ∙ e)) s

-- whether a node may get another name is the same of nodes of one header
file_same : (name : List ℕ) (kin : Bool) (i : Option ServerInfo) (space : Option ℕ) (d o p : Option Node) → header_in p ≡ header_in o → link_by name kin i space d p ≡ link_by name kin i space d o
file_same name kin None space d o p h = refl
file_same name kin (Some i) space None o p h = refl
file_same name kin (Some i) space (Some d) None None h = refl
file_same name kin (Some i) space (Some d) (Some x) (Some y) h =
    let header : y.header ≡ x.header = cc in
    ap (λ (k : Header). link_by name kin (Some i) space (Some d) (Some (record { header = k; body = y.body }))) header
file_same name kin (Some i) space (Some d) o p h = absurd (cc)

module _ {S : ℕ → Bool} {v w : World} (a : Agree S v w) (d n : Name) where
  -- whether a file that S sees may get another name in a directory whose entries S sees
  pub links_same : (name : List ℕ) → Sees S v (BodyOf d) → Seen S v n → links_at w d name n ≡ links_at v d name n
  links_same name s seen =
      let kin : Bool = are_kin (home_at v d) (home_at v n) in
      ap₂ (λ h k. link_by name (are_kin h k) (info_at w d) (space_at w d) (get w.nodes d) (get w.nodes n)) (home_same a d s.0) (home_same a n seen)
      ∙ info_alike a d (λ i. link_by name kin i (space_at w d) (get w.nodes d) (get w.nodes n)) (link_face name kin (space_at w d) (get w.nodes d) (get w.nodes n)) s.0
      ∙ ap₂ (λ space x. link_by name kin (info_at v d) space x (get w.nodes n)) (space_same a d s.0) (seen_node a d s)
      ∙ file_same name kin (info_at v d) (space_at v d) (get v.nodes d) (get v.nodes n) (get w.nodes n) (header_same a n seen)

-- a gate refuses for want of space alone

gate_plain : {A : Type 0} (full : Bool) (x : Result A Errno) → IsPlain x → IsPlain (if full then Err ENOSPC else x)
gate_plain true x p = err_plain ENOSPC refl
gate_plain false x p = p

fitting_plain : {T : Type 0} (space : Option ℕ) (h : Header) (e : Effect T) → IsPlain e → IsPlain (fitting space h e)
fitting_plain None h e p = p
fitting_plain (Some k) h (Err e) p = p
fitting_plain (Some k) h (Ok d) p = gate_plain (overfills (Some k) (counts_for h) (counts_for (size_left d.size h))) (Ok d) p

pub asked_plain : {T : Type 0} (q : Question T) → ((k : ServerKind) → IsPlainAnswer (behaviour_of k) q) → (n : Name) (w : World) → IsPlain (asked_at q n w)
asked_plain q plain n w = go (info_at w n) (get w.nodes n)
  where
    go : (i : Option ServerInfo) (o : Option Node) → IsPlain (asked_of q i (space_at w n) o)
    go None o = err_plain EDIED refl
    go (Some i) None = err_plain EDIED refl
    go (Some i) (Some x) = fitting_plain (space_at w n) x.header (q (behaviour_of i.kind) i.text x) (plain i.kind i.text x)

if_plain : {A : Type 0} (b : Bool) (x y : Result A Errno) → IsPlain x → IsPlain y → IsPlain (if b then x else y)
if_plain true x y px py = px
if_plain false x y px py = py

pub makes_plain : (w : World) (d : Name) (entry : Option (List ℕ)) (kind : Kind) → IsPlain (makes_at w d entry kind)
makes_plain w d entry kind = go (info_at w d) (get w.nodes d)
  where
    go : (i : Option ServerInfo) (o : Option Node) → IsPlain (made_by entry kind i o)
    go None o = err_plain EDIED refl
    go (Some i) None = err_plain EDIED refl
    go (Some i) (Some x) =
        if_plain (not (is_dir x.header.kind)) _ _ (err_plain ENOTDIR refl)
        (if_plain (not (keeps_tree i.kind)) _ _ (err_plain EROFS refl)
        (if_plain (is_taken entry x.body) _ _ (err_plain EEXIST refl)
        (if_plain (is_made kind) _ _ (ok_plain tt) (err_plain EOPNOTSUPP refl))))

pub sets_attrs_plain : (w : World) (n : Name) → IsPlain (sets_attrs_at w n)
sets_attrs_plain w n = go (info_at w n) (get w.nodes n)
  where
    go : (i : Option ServerInfo) (o : Option Node) → IsPlain (edit_by i o)
    go None o = err_plain EDIED refl
    go (Some i) None = err_plain EDIED refl
    go (Some i) (Some x) = if_plain (keeps_tree i.kind) _ _ (ok_plain tt) (err_plain EOPNOTSUPP refl)

pub links_plain : (w : World) (d : Name) (name : List ℕ) (n : Name) → IsPlain (links_at w d name n)
links_plain w d name n = go (are_kin (home_at w d) (home_at w n)) (info_at w d) (get w.nodes d) (get w.nodes n)
  where
    space : Option ℕ
    space = space_at w d

    in_tree : (kin : Bool) (d : Node) (o : Option Node) → IsPlain (link_in space name kin d o)
    in_tree kin d None = err_plain EDIED refl
    in_tree kin d (Some x) =
        if_plain (not kin) _ _ (err_plain EXDEV refl)
        (if_plain (is_dir x.header.kind) _ _ (err_plain EISDIR refl)
        (if_plain (is_some (entry_of name (Some d.body))) _ _ (err_plain EEXIST refl)
        (gate_plain (overfills space (counts_for x.header) (counts_for (linked x.header))) _
        (if_plain (nat_lt x.header.links most_links) _ _ (ok_plain tt) (err_plain EOVERFLOW refl)))))

    go : (kin : Bool) (i : Option ServerInfo) (d o : Option Node) → IsPlain (link_by name kin i space d o)
    go kin None d o = err_plain EDIED refl
    go kin (Some i) None o = err_plain EDIED refl
    go kin (Some i) (Some d) o =
        if_plain (not (is_dir d.header.kind)) _ _ (err_plain ENOTDIR refl) (if_plain (not (keeps_tree i.kind)) _ _ (err_plain EROFS refl) (in_tree kin d o))
