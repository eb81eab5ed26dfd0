-- The laws of reading and writing, and of what is told of a node.
use Rattle.std.proofs.Common.{◌≡◌, ◌⊎◌, ◌∙◌, sym, ℕ, ℤ, pos, negsuc, zero, suc, Bool, true, false, List, refl, inl, inr, ap, subst, min}
use Rattle.std.specs.Prelude.{Result, Ok, length}
use Rattle.hurd_machine.proofs.Common.{BodyOf, Change, Coherent, Did, Errno, Name, OnDid, Part, Question, READ, Reply, Seen, Sees, Sound, WRITE, World, asked_at, changes_of, counts_at, edits_of, handle_asks, is_refused, most_read, stream_at}
use Rattle.hurd_trans_iface.specs.Kinds.{behaviour_of}
use Rattle.hurd_trans_iface.specs.declared.begun.ServerKind.{ServerKind}
use Rattle.hurd_trans_iface.specs.Good.{IsPlain as IsPlainAnswer}
use Rattle.hurd_trans_iface.specs.Behaviour.{reading, writing}
use Rattle.hurd_machine.specs.World.{readers_at, readers_in, writers_at, writers_in}
use Rattle.hurd_trans_iface.proofs.BodyLaws.{read_holds, write_holds}
use Rattle.hurd_machine.proofs.Views.{Agree, active_same}
use Rattle.hurd_machine.proofs.Filled.{KeepsNodes}
use Rattle.hurd_machine.proofs.Permits.{did_exact}
use Rattle.hurd_machine.proofs.Opens.{cursor_whole}
use Rattle.hurd_machine.proofs.Edits.{did_whole}
use Rattle.hurd_machine.proofs.Asks.{IsPlain, ok_plain, err_plain, asked_plain, answered_same, answered_plain, done_plain, first_same, first_ok, given_ok, given_same, stream_same, first_plain, given_plain, handle_same, handle_put, handle_read, handle_plain, asked_seen, ends_alike, handle_seen, written_same, port_same, port_plain, port_seen}
use Rattle.hurd_machine.proofs.CallLaws.{CallLaws, answered_piece, looking_laws}
use Rattle.hurd_io.specs.declared.offset.Offset.{Offset}
use Rattle.hurd_io.specs.declared.offset.Offset.TheVariants.{At, Cursor}
use Rattle.hurd_io.specs.declared.offset.IoAt.{IoAt}
use Rattle.hurd_io.specs.Io.{io_at, offset_of, past, moved, Moves, plan_io, touches_io, read_asks, reads, plan_read, touches_read, write_asks, write_cursor, writes, plan_write, touches_write, stat_asks, plan_stat, touches_stat}
use Rattle.hurd_trans_iface.proofs.Goods.{good}
use Rattle.hurd_machine.specs.declared.handle.Handle.{Handle}
use Rattle.hurd_machine.specs.declared.call.Reply.TheVariants.{Data, Count, Stat}
use Rattle.hurd_machine.proofs.Piece.{Whole, whole_none, whole_then}

-- Reads and writes: what the laws need of them, by what is asked first and the question to the server.

pub offset_plain : (offset : ℤ) → IsPlain (offset_of offset)
offset_plain (pos n) = ok_plain _
offset_plain (negsuc zero) = ok_plain _
offset_plain (negsuc (suc n)) = err_plain _ refl

-- a cursor that moves, or doesn't

moved_whole : {t : ℕ} {T : Part → Type 0} {v w : World} → Sound w → (offset : Offset) (stream : Bool) (o : Name) (k : ℕ) → ((p : Part) → Moves offset stream o p → T p) → Whole t T v w (moved offset stream o k)
moved_whole s (At n) stream o k parts = whole_none s
moved_whole s Cursor true o k parts = whole_none s
moved_whole s Cursor false o k parts = cursor_whole s o (parts _ refl) k

-- a call on a node that is seen begins alike in worlds that agree: whether that is a stream is seen
begins_same : {S : ℕ → Bool} {v w : World} → Agree S v w → (h : Handle) → Seen S v h.node → (cursor : ℕ) (o : Offset)
    → ◌≡◌ {A = Result IoAt Errno} (Ok (io_at h (stream_at w h.node) cursor o)) (Ok (io_at h (stream_at v h.node) cursor o))
begins_same a h seen cursor o = ap (λ b. Ok (io_at h b cursor o)) (stream_same a h.node seen)

-- of a call of task t that asks this first and then the server a question
pub record IoLaws {T : Type 0} (t : ℕ) (asks : World → Result IoAt Errno) (q : World → IoAt → Question T) (reply : T → Reply) : Type 0 where
  -- what is asked first, and what the server answers, is the same in worlds that agree for a set with the task
  pub asks_same : (S : ℕ → Bool) (v w : World) → Agree S v w → S t ≡ true → asks w ≡ asks v
  pub told_same : (S : ℕ → Bool) (v w : World) → Coherent v → Agree S v w → S t ≡ true → (a : IoAt) → asks v ≡ Ok a → asked_at (q w a) a.node w ≡ asked_at (q v a) a.node v
  -- no refusal is ENOMEM
  pub asks_plain : (w : World) → IsPlain (asks w)
  pub told_plain : (w : World) (a : IoAt) (k : ServerKind) → IsPlainAnswer (behaviour_of k) (q w a)
  pub reply_plain : (x : T) → is_refused (reply x) ≡ false
  -- and sizes stay right, and in nodes is what may be there
  pub keeps : (w : World) (a : IoAt) → KeepsNodes (q w a)
  -- the node is one that the task has open
  pub node_seen : (S : ℕ → Bool) (w : World) → S t ≡ true → (a : IoAt) → asks w ≡ Ok a → Seen S w a.node

module _ {T : Type 0} (t : ℕ) (asks : World → Result IoAt Errno) (q : World → IoAt → Question T) (reply : T → Reply) (count : T → ℕ) (l : IoLaws t asks q reply) where
  -- what the server does to the node, and then the cursor
  abbrev edits : IoAt → Did T → List Change
  edits a d = changes_of (edits_of a.node (Ok d))

  abbrev moves : IoAt → Did T → List Change
  moves a d = moved a.offset a.is_stream a.open_name (past a.at (count d.told))

  abbrev parts : World → IoAt → Did T → Part → Type 0
  parts w a d p = OnDid w a.node d p ⊎ Moves a.offset a.is_stream a.open_name p

  pub io_laws : CallLaws t (λ w. plan_io w (asks w) (q w) reply count) (λ w. touches_io w (asks w) (q w))
  io_laws = record {
    piece = λ w s. answered_piece s (asks w) _ _ (λ a is. answered_piece s (asked_at (q w a) a.node w) _ (λ d p. parts w a d p) (λ d told.
        whole_then (edits a d) (moves a d) (did_exact a.node d) s (did_whole s (q w a) (l.keeps w a) a.node d told (λ p on. inl (inl on)) (λ S ours. l.node_seen S w ours a is))
        (λ x. moved_whole x a.offset a.is_stream a.open_name _ (λ p on. inl (inr on)))));
    same = λ S v w c d a ours. answered_same _ _ _ _ (l.asks_same S v w a ours) (λ x is. answered_same _ _ _ _ (l.told_same S v w c a ours x is) (λ d told. refl));
    plain = λ w. answered_plain _ _ (l.asks_plain w) (λ a is.
        answered_plain _ _ (asked_plain (q w a) (l.told_plain w a) a.node w) (λ d told. done_plain _ (l.reply_plain d.told)));
  }

-- io_read: it asks of a node that the caller has open to read, whose body it sees.

-- the port that is read by
read_by : (w : World) (t p : ℕ) (offset : ℤ) (a : IoAt) → read_asks w t p offset ≡ Ok a → (h : Handle) × (handle_asks w t p READ ≡ Ok h) × (h.node ≡ a.node)
read_by w t p offset a is =
    let h = first_ok _ _ a is in
    let file = given_ok _ _ _ a h.2 in
    let place = first_ok _ _ a file.1 in
    (h.0, h.1, cc (place.2))

pub read_laws : (t p amount : ℕ) (offset : ℤ) → CallLaws t (λ w. plan_read w t p amount offset) (λ w. touches_read w t p amount offset)
read_laws t p amount offset = io_laws t (λ w. read_asks w t p offset) (reads amount) Data length (record {
  asks_same = λ S v w a ours. first_same _ _ _ _ (handle_same a t ours p READ) (λ h is.
      given_same _ _ _ _ _ refl (λ file. first_same _ _ _ _ refl (λ o e. begins_same a h (handle_seen t ours p READ h is) h.opened.cursor o)));
  told_same = λ S v w c a ours x is.
      let h = read_by v t p offset x is in
      let sees : Sees S v (BodyOf x.node) = subst (λ n. Sees S v (BodyOf n)) h.2 (handle_read t ours p h.0 h.1) in
      ap (λ k. asked_at (reading x.at (min amount most_read) k) x.node w) (ap writers_in (ends_alike a x.node sees.0 (λ counts. sees)))
      ∙ asked_seen a x.node (reads amount v x) (λ k text out. (good k).guards.read_untold text out x.at (min amount most_read) (writers_at v x.node)) c sees;
  asks_plain = λ w. first_plain _ _ (handle_plain w t p READ) (λ h is. given_plain _ _ _ refl (λ file. first_plain _ _ (offset_plain offset) (λ o e. ok_plain _)));
  told_plain = λ w a k. (good k).read_plain a.at (min amount most_read) (writers_at w a.node);
  reply_plain = λ bytes. refl;
  keeps = λ w a k. ((good k).read_sizes a.at (min amount most_read) (writers_at w a.node), read_holds a.at (min amount most_read) (writers_at w a.node) k);
  node_seen = λ S w ours x is. let h = read_by w t p offset x is in subst (Seen S w) h.2 (handle_seen t ours p READ h.0 h.1);
})

-- io_write: it asks of a node that the caller has open to write, and is told nothing of its body, unless its server is told who reads: then it sees that.

-- the port that is written by
written_by : (w : World) (t p : ℕ) (offset : ℤ) (a : IoAt) → write_asks w t p offset ≡ Ok a → (h : Handle) × (handle_asks w t p WRITE ≡ Ok h) × (h.node ≡ a.node)
written_by w t p offset a is =
    let h = first_ok _ _ a is in
    let place = first_ok _ _ a h.2 in
    (h.0, h.1, cc (place.2))

pub write_laws : (t p : ℕ) (bytes : List ℕ) (offset : ℤ) → CallLaws t (λ w. plan_write w t p bytes offset) (λ w. touches_write w t p bytes offset)
write_laws t p bytes offset = io_laws t (λ w. write_asks w t p offset) (writes bytes) Count (λ n. n) (record {
  asks_same = λ S v w a ours. first_same _ _ _ _ (handle_same a t ours p WRITE) (λ h is.
      first_same _ _ _ _ refl (λ o e. begins_same a h (handle_seen t ours p WRITE h is) (write_cursor h) o));
  told_same = λ S v w c a ours x is.
      let h = written_by v t p offset x is in
      let seen : Seen S v x.node = subst (Seen S v) h.2 (handle_seen t ours p WRITE h.0 h.1) in
      let sees : counts_at v x.node ≡ true → Sees S v (BodyOf x.node) = λ counts. subst (λ n. Sees S v (BodyOf n)) h.2 (handle_put t ours p h.0 h.1 (subst (λ n. counts_at v n ≡ true) (sym h.2) counts)) in
      ap (λ k. asked_at (writing x.at bytes k) x.node w) (ap readers_in (ends_alike a x.node seen sees)) ∙ written_same a x.node x.at bytes (readers_at v x.node) c seen sees;
  asks_plain = λ w. first_plain _ _ (handle_plain w t p WRITE) (λ h is. first_plain _ _ (offset_plain offset) (λ o e. ok_plain _));
  told_plain = λ w a k. (good k).write_plain a.at bytes (readers_at w a.node);
  reply_plain = λ taken. refl;
  node_seen = λ S w ours x is. let h = written_by w t p offset x is in subst (Seen S w) h.2 (handle_seen t ours p WRITE h.0 h.1);
  keeps = λ w a k. ((good k).write_sizes a.at bytes (readers_at w a.node), write_holds a.at bytes (readers_at w a.node) k);
})

-- io_stat: it asks for a node that the caller has a port on, and so sees.

pub stat_laws : (t p : ℕ) → CallLaws t (λ w. plan_stat w t p) (λ w. touches_stat w t p)
stat_laws t p = looking_laws t (λ w. stat_asks w t p) (λ s. Stat s)
    (λ S v w c a ours. first_same _ _ _ _ (port_same a t ours p) (λ n is. rw (active_same a n.right.node (port_seen t ours p n is)) refl))
    (λ w. first_plain _ _ (port_plain w t p) (λ n is. ok_plain _)) (λ s. refl)
