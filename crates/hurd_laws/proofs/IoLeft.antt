-- What reading, writing and setting attributes leave where things have other names.
use Rattle.std.proofs.Common.{◌≡◌, ◌++◌, ℕ, Bool, List, [], ◌∷◌, Option, Some, None, Result, Ok, refl}
use Rattle.std.specs.Prelude.{ℤ, length}
use Rattle.hurd_creds.specs.declared.mode.Mode.{Mode}
use Rattle.hurd_trans_iface.specs.Nodes.{on_bytes, with_attrs, with_size}
use Rattle.hurd_machine.proofs.Common.{Body, Content, Change, Did, Errno, Listing, Name, Question, Reply, World, asked_at, changes_of, edit_bytes, edit_size, edits_of, known_mode, owns, resizing}
use Rattle.hurd_machine.specs.declared.call.Reply.TheVariants.{Count, Data}
use Rattle.hurd_machine.specs.Renamed.{OtherNames, body_renamed, renamed}
use Rattle.hurd_machine.proofs.RenamedAsks.{asked_at-renamed, resizing-renamed}
use Rattle.hurd_machine.proofs.RenamedHandles.{named_renamed}
use Rattle.hurd_machine.proofs.RenamedPlans.{answer_renamed}
use Rattle.hurd_ports.specs.Steps.{at_cursor}
use Rattle.hurd_io.proofs.Touching.{moved_alike}
use Rattle.hurd_io.specs.Io.{moved, past, plan_io, plan_read, plan_write, place_of, read_asks, reads, write_asks, writes}
use Rattle.hurd_files.specs.Access.{gives, plan_chmod, plan_chown}
use Rattle.hurd_files.specs.Files.{plan_set_size}
use Rattle.hurd_laws.proofs.KeptTypes.{Takes}
use Rattle.hurd_laws.proofs.FilesTold.{set_size_asks-renamed, setting_asks-renamed}
use Rattle.hurd_laws.proofs.IoTold.{IoAt, io_at_renamed, read_alike, read_asks-renamed, write_alike, write_asks-renamed}
use Rattle.hurd_laws.proofs.Changes.{Alike, both, cons, edits_body, edits_header, edits_open, just, none}
use Rattle.hurd_laws.proofs.Plans.{Changing, answered-left, given-left}

module _ (f : OtherNames) where
  -- what a server does to a node: bytes have no names

  on_bytes-renamed : (g : List ℕ → List ℕ) (b : Body) → on_bytes g (body_renamed f.to b) ≡ body_renamed f.to (on_bytes g b)
  on_bytes-renamed g (Content bs) = refl
  on_bytes-renamed g (Listing es) = refl

  size-left : (n : Name) (size : Option ℕ) → Alike f (changes_of (edit_size n size)) (changes_of (edit_size (f.to n) size))
  size-left n None = none f
  size-left n (Some k) = just f (edits_header f n (with_size k) (with_size k) (λ h. refl))

  bytes-left : (n : Name) (bytes : Option (List ℕ → List ℕ)) (size : Option ℕ) → Alike f (changes_of (edit_bytes n bytes (edit_size n size))) (changes_of (edit_bytes (f.to n) bytes (edit_size (f.to n) size)))
  bytes-left n None size = size-left n size
  bytes-left n (Some g) size = cons f (edits_body f n (on_bytes g) (on_bytes g) (on_bytes-renamed g)) (size-left n size)

  pub done-left : {T : Type 0} (n : Name) (d : Did T) → Alike f (changes_of (edits_of n (Ok d))) (changes_of (edits_of (f.to n) (Ok d)))
  done-left n d = bytes-left n d.bytes d.size

  -- a cursor that moves, or stays
  moved-left : (offset : Takes place_of) (stream : Bool) (o : Name) (to : ℕ) → Alike f (moved offset stream o to) (moved offset stream (f.to o) to)
  moved-left offset stream o to = (moved_alike (λ (c : Name → List Change). (q : Name) → Alike f (c q) (c (f.to q))) (λ q. none f) (λ k q. just f (edits_open f q (at_cursor k) (at_cursor k) (λ z. refl))) offset stream to) o

  module _ (w : World) where
    io-left : {T : Type 0} {other : Result IoAt Errno} (asks : Result IoAt Errno) (q r : IoAt → Question T) (reply : T → Reply) (count : T → ℕ) → other ≡ answer_renamed (io_at_renamed f) asks
        → ((a : IoAt) → asked_at (r (io_at_renamed f a)) (f.to a.node) (renamed f w) ≡ asked_at (q a) a.node w) → Changing f (plan_io w asks q reply count) (plan_io (renamed f w) other r reply count)
    io-left asks q r reply count is same = answered-left f (io_at_renamed f) _ _ _ is (λ a. given-left f _ _ _ (same a) (λ d.
        both f (done-left a.node d) (moved-left a.offset a.is_stream a.open_name (past a.at (count d.told)))))

  module _ (w : World) (t p : ℕ) where
    pub read-left : (amount : ℕ) (offset : ℤ) → Changing f (plan_read w t p amount offset) (plan_read (renamed f w) t p amount offset)
    read-left amount offset = io-left w (read_asks w t p offset) (reads amount w) (reads amount (renamed f w)) Data length (read_asks-renamed f w t p offset) (read_alike f w amount)

    pub write-left : (bytes : List ℕ) (offset : ℤ) → Changing f (plan_write w t p bytes offset) (plan_write (renamed f w) t p bytes offset)
    write-left bytes offset = io-left w (write_asks w t p offset) (writes bytes w) (writes bytes (renamed f w)) Count (λ n. n) (write_asks-renamed f w t p offset) (write_alike f w bytes)

    pub set_size-left : (size : ℕ) → Changing f (plan_set_size w t p size) (plan_set_size (renamed f w) t p size)
    set_size-left size = answered-left f f.to _ _ _ (set_size_asks-renamed f w t p) (λ n. given-left f _ _ _ (asked_at-renamed f w (resizing size) (resizing-renamed f size) n) (done-left n))

    -- owner, group and mode

    pub chmod-left : (mode : Mode) → Changing f (plan_chmod w t p mode) (plan_chmod (renamed f w) t p mode)
    chmod-left mode = answered-left f (named_renamed f) _ _ _ (setting_asks-renamed f w t p owns (λ ids h. refl)) (λ n. just f (edits_header f n.right.node (with_attrs n.header.owner n.header.group (known_mode mode)) (with_attrs n.header.owner n.header.group (known_mode mode)) (λ h. refl)))

    pub chown-left : (owner group : ℕ) → Changing f (plan_chown w t p owner group) (plan_chown (renamed f w) t p owner group)
    chown-left owner group = answered-left f (named_renamed f) _ _ _ (setting_asks-renamed f w t p (gives owner group) (λ ids h. refl)) (λ n. just f (edits_header f n.right.node (with_attrs owner group n.header.mode) (with_attrs owner group n.header.mode) (λ h. refl)))
