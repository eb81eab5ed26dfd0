-- By which errors servers refuse to read and to write a node, to cut it, and to take options.
use Rattle.std.proofs.Common.{List, ◌≡◌, ◌≤◌, ◌-◌, ℕ, zero, suc, Bool, true, false, Option, Some, None, [], ◌∷◌, refl, sym, ◌∙◌, ap, subst, true≢false, arith}
use Rattle.std.specs.Prelude.{if◌then◌else◌, codes, nat_le, nat_lt, slice_get, length, Result, Ok, Err, ◌+◌, ◌==◌}
use Rattle.std.specs.List.{list_all}
use Rattle.std.proofs.lemmas.Bool.{ltb-true}
use Rattle.hurd_creds.specs.Bits.{WRITE}
use Rattle.hurd_creds.specs.Limits.{most_size}
use Rattle.hurd_creds.specs.declared.errno.Errno.TheVariants.{EBADF, EISDIR, EINVAL, EIO, EFBIG, EPIPE, EWOULDBLOCK, EDIED, ENOSPC}
use Rattle.hurd_trans_iface.specs.Arguments.{behind, no_options}
use Rattle.hurd_trans_iface.specs.Behaviour.{Did, Effect, fitting, only, reading, resizing, size_left, writing}
use Rattle.hurd_trans_iface.specs.Kinds.{behaviour_of}
use Rattle.hurd_trans_iface.specs.Kinds.Drip.{dripped}
use Rattle.hurd_trans_iface.specs.Kinds.Fifo.{fifo_read, room_in, taken_in}
use Rattle.hurd_trans_iface.specs.Kinds.Hello.{most_text, says_text, short_text, text_in}
use Rattle.hurd_trans_iface.specs.Kinds.Tmpfs.{has_size, read_bytes, size_in, size_said, size_word}
use Rattle.hurd_trans_iface.specs.Meaning.{root_of}
use Rattle.hurd_trans_iface.specs.Nodes.{is_dir}
use Rattle.hurd_trans_iface.specs.declared.begun.ServerKind.{ServerKind}
use Rattle.hurd_trans_iface.specs.declared.begun.ServerKind.TheVariants as kind
use Rattle.hurd_machine.proofs.Common.{Body, CanBeWritten, Content, Errno, Header, Listing, Name, Node, Question, ServerInfo, Sound, World, asked_at, asked_of, counts_for, get, handle_asks, info_at, overfills, space_at, takes_options, gives_text, shape_by}
use Rattle.std.specs.Option.{option_map}
use Rattle.hurd_nodes.specs.Shown.{info_taken}
use Rattle.hurd_machine.specs.World.{is_text}
use Rattle.hurd_machine.specs.declared.handle.Handle.{Handle}
use Rattle.hurd_machine.proofs.Asks.{handled, has_right}
use Rattle.hurd_refusals.specs.Errors.{is_among}
use Rattle.hurd_refusals.proofs.In.{In, are_among, err_in, if_in, more_in, ok_in}

-- What a port has open to write can be written.
pub can_write : (w : World) → Sound w → (t p : ℕ) (a : Handle) → handle_asks w t p WRITE ≡ Ok a → CanBeWritten w a.node
can_write w s t p a is =
    let h = handled w t p WRITE a is in
    let r = has_right w t p _ h.is_right in
    subst (CanBeWritten w) (sym h.node) (s.coherent.tables.written t r.seat h.right a.opened r.is_task r.here h.opened h.modes)

-- a node may be written: it is no directory, and its server doesn't only give its text
abbrev Written : (k : ServerKind) (text : List ℕ) (x : Node) → Type 0
Written k text x = (is_dir x.header.kind ≡ false) × (is_text (root_of k text).kind ≡ false)

abbrev write_errors : List Errno
write_errors = EBADF ∷ EFBIG ∷ EPIPE ∷ EWOULDBLOCK ∷ []

-- A fifo takes bytes while it has room.
taken : (room : ℕ) (bs : List ℕ) → In write_errors (taken_in room bs)
taken room [] = ok_in
taken zero (b ∷ bs) = err_in refl
taken (suc k) (b ∷ bs) = ok_in

-- No server that may be written refuses bytes by another error than these.
write_in : (k : ServerKind) (text : List ℕ) (x : Node) (at : ℕ) (bs : List ℕ) (readers : ℕ) → Written k text x → In write_errors (writing at bs readers (behaviour_of k) text x)
write_in kind.Tmpfs text x at bs readers can = if_in (is_dir x.header.kind) (Err EBADF) _ (λ _. err_in refl) (λ _. if_in (nat_lt most_size (at + length bs)) (Err EFBIG) _ (λ _. err_in refl) (λ _. ok_in))
write_in kind.Hello text x at bs readers can = absurd (true≢false can.1)
write_in kind.Null text x at bs readers can = ok_in
write_in kind.Zero text x at bs readers can = ok_in
write_in kind.Symlink text x at bs readers can = absurd (true≢false can.1)
write_in kind.Firmlink text x at bs readers can = absurd (true≢false can.1)
write_in kind.Union text x at bs readers can = err_in refl
write_in kind.Magic text x at bs readers can = absurd (true≢false can.1)
write_in kind.Drip text x at bs readers can = absurd (true≢false can.1)
write_in kind.Fifo text x at bs readers can = if_in (readers == 0) (Err EPIPE) _ (λ _. err_in refl) (λ _. taken (room_in x.body) bs)

abbrev size_errors : List Errno
size_errors = EBADF ∷ EFBIG ∷ []

-- Nor a size.
size_in-all : (k : ServerKind) (text : List ℕ) (x : Node) (size : ℕ) → Written k text x → In size_errors (resizing size (behaviour_of k) text x)
size_in-all kind.Tmpfs text x size can = if_in (nat_lt most_size size) (Err EFBIG) _ (λ _. err_in refl) (λ _. if_in (is_dir x.header.kind) (Err EBADF) _ (λ _. err_in refl) (λ _. ok_in))
size_in-all kind.Hello text x size can = absurd (true≢false can.1)
size_in-all kind.Null text x size can = if_in (nat_lt most_size size) (Err EFBIG) _ (λ _. err_in refl) (λ _. ok_in)
size_in-all kind.Zero text x size can = if_in (nat_lt most_size size) (Err EFBIG) _ (λ _. err_in refl) (λ _. ok_in)
size_in-all kind.Symlink text x size can = absurd (true≢false can.1)
size_in-all kind.Firmlink text x size can = absurd (true≢false can.1)
size_in-all kind.Union text x size can = if_in (nat_lt most_size size) (Err EFBIG) _ (λ _. err_in refl) (λ _. err_in refl)
size_in-all kind.Magic text x size can = absurd (true≢false can.1)
size_in-all kind.Drip text x size can = absurd (true≢false can.1)
size_in-all kind.Fifo text x size can = if_in (nat_lt most_size size) (Err EFBIG) _ (λ _. err_in refl) (λ _. ok_in)

-- What is asked of a node is refused by these alone, and if the node or its server is gone, or its server has no more space.
fitting_in-all : {T : Type 0} {es : List Errno} → is_among ENOSPC es ≡ true → (space : Option ℕ) (h : Header) (e : Effect T) → In es e → In es (fitting space h e)
fitting_in-all has None h e p = p
fitting_in-all has (Some k) h (Err e) p = p
fitting_in-all has (Some k) h (Ok d) p = if_in (overfills (Some k) (counts_for h) (counts_for (size_left d.size h))) _ _ (λ _. err_in has) (λ _. p)

-- A node that is asked about is there with its server, or EDIED is one of these errors.
asked_in : {T : Type 0} {es : List Errno} → is_among EDIED es ≡ true → (q : Question T) (n : Name) (w : World)
    → ((i : ServerInfo) (x : Node) → info_at w n ≡ Some i → get w.nodes n ≡ Some x → In es (fitting (space_at w n) x.header (q (behaviour_of i.kind) i.text x))) → In es (asked_at q n w)
asked_in {T} {es} gone q n w each = go (info_at w n) (get w.nodes n) refl refl
  where
    go : (i : Option ServerInfo) (o : Option Node) → info_at w n ≡ i → get w.nodes n ≡ o → In es (asked_of q i (space_at w n) o)
    go None o ei eo = err_in gone
    go (Some i) None ei eo = err_in gone
    go (Some i) (Some x) ei eo = each i x ei eo

-- A node that can be written may be written by its server too.
may_write : (w : World) (n : Name) (i : ServerInfo) (x : Node) → CanBeWritten w n → info_at w n ≡ Some i → get w.nodes n ≡ Some x → Written i.kind i.text x
may_write w n i x can ei eo = (can.0 x.header (ap (λ (o : Option Node). option_map (λ (y : Node). y.header) o) eo), ap (λ o. gives_text (shape_by o)) (sym ei) ∙ can.1)

-- io_write: bytes for a node that can be written.
pub writes_in : {es : List Errno} → are_among (EDIED ∷ ENOSPC ∷ write_errors) es ≡ true → (w : World) (n : Name) → CanBeWritten w n → (at : ℕ) (bs : List ℕ) (readers : ℕ) → In es (asked_at (writing at bs readers) n w)
writes_in has w n can at bs readers = more_in (EDIED ∷ ENOSPC ∷ write_errors) has (asked_in refl (writing at bs readers) n w (λ i x ei eo.
    fitting_in-all refl (space_at w n) x.header _ (more_in write_errors refl (write_in i.kind i.text x at bs readers (may_write w n i x can ei eo)))))

-- file_set_size: a size for one.
pub resizes_in : {es : List Errno} → are_among (EDIED ∷ ENOSPC ∷ size_errors) es ≡ true → (w : World) (n : Name) → CanBeWritten w n → (size : ℕ) → In es (asked_at (resizing size) n w)
resizes_in has w n can size = more_in (EDIED ∷ ENOSPC ∷ size_errors) has (asked_in refl (resizing size) n w (λ i x ei eo.
    fitting_in-all refl (space_at w n) x.header _ (more_in size_errors refl (size_in-all i.kind i.text x size (may_write w n i x can ei eo)))))

-- io_read: no node grows by being read, so there is always space for it.

-- What doesn't grow finds space.
fits_in : {T : Type 0} {es : List Errno} (space : Option ℕ) (h : Header) (d : Did T) → (counts_for (size_left d.size h) - counts_for h) ≡ 0 → In es (fitting space h (Ok d))
fits_in None h d z = ok_in
fits_in (Some k) h d z = if_in (nat_lt k (counts_for (size_left d.size h) - counts_for h)) _ _ (λ over. let low = ltb-true k _ over in absurd (omega (arith, low, z))) (λ _. ok_in)

-- What stays as it is doesn't grow.
itself : (n : ℕ) → (n - n) ≡ 0
itself n = omega arith

-- What gets a smaller size counts for no more.
fewer : (b c : Bool) (m n : ℕ) → m ≤ n → ((if b then 0 else if c then m else 0) - (if b then 0 else if c then n else 0)) ≡ 0
fewer true c m n h = refl
fewer false true m n h = omega (arith, h)
fewer false false m n h = refl

abbrev read_errors : List Errno
read_errors = EISDIR ∷ EWOULDBLOCK ∷ EIO ∷ []

-- A drip gives a byte while it has one.
drips : (space : Option ℕ) (h : Header) (left amount : ℕ) → h.size ≡ left → In read_errors (fitting space h (dripped left amount))
drips None h zero amount e = err_in refl
drips (Some k) h zero amount e = err_in refl
drips space h (suc left) zero e = fits_in space h _ (itself (counts_for h))
drips space h (suc left) (suc amount) e = fits_in space h _ (fewer (is_dir h.kind) (nat_lt 0 h.links) left h.size (omega (arith, e)))

-- A refusal needs no space.
refusal_in : {T : Type 0} {es : List Errno} (d : Errno) → is_among d es ≡ true → (space : Option ℕ) (h : Header) → In {A = Did T} es (fitting space h (Err d))
refusal_in d has None h = err_in has
refusal_in d has (Some k) h = err_in has

-- A fifo gives what it holds.
fifo_gives : (space : Option ℕ) (h : Header) (writers : ℕ) (b : Body) (amount : ℕ) → In read_errors (fitting space h (fifo_read writers b amount))
fifo_gives space h writers (Listing es) amount = refusal_in EISDIR refl space h
fifo_gives space h writers (Content bs) zero = fits_in space h _ (itself (counts_for h))
fifo_gives space h writers (Content []) (suc k) = go (nat_lt 0 writers)
  where
    go : (b : Bool) → In read_errors (fitting {T = List ℕ} space h (if b then Err EWOULDBLOCK else only []))
    go true = refusal_in EWOULDBLOCK refl space h
    go false = fits_in space h _ (itself (counts_for h))
fifo_gives space h writers (Content (b ∷ bs)) (suc k) = fits_in space h _ (itself (counts_for h))

-- A tree gives the bytes of its files.
tree_gives : (space : Option ℕ) (h : Header) (at amount : ℕ) (b : Body) → In read_errors (fitting space h (read_bytes at amount b))
tree_gives space h at amount (Content bs) = fits_in space h _ (itself (counts_for h))
tree_gives space h at amount (Listing es) = refusal_in EISDIR refl space h

-- Each kind of server gives bytes, or refuses by one of these errors.
read_in : (k : ServerKind) (text : List ℕ) (x : Node) (at amount writers : ℕ) (space : Option ℕ) → In read_errors (fitting space x.header (reading at amount writers (behaviour_of k) text x))
read_in kind.Tmpfs text x at amount writers space = tree_gives space x.header at amount x.body
read_in kind.Hello text x at amount writers space = fits_in space x.header _ (itself (counts_for x.header))
read_in kind.Null text x at amount writers space = fits_in space x.header _ (itself (counts_for x.header))
read_in kind.Zero text x at amount writers space = fits_in space x.header _ (itself (counts_for x.header))
read_in kind.Symlink text x at amount writers space = fits_in space x.header _ (itself (counts_for x.header))
read_in kind.Firmlink text x at amount writers space = fits_in space x.header _ (itself (counts_for x.header))
read_in kind.Union text x at amount writers space = refusal_in EISDIR refl space x.header
read_in kind.Magic text x at amount writers space = fits_in space x.header _ (itself (counts_for x.header))
read_in kind.Drip text x at amount writers space = drips space x.header x.header.size amount refl
read_in kind.Fifo text x at amount writers space = fifo_gives space x.header writers x.body amount

-- Bytes are read of any node.
pub reads_in : {es : List Errno} → are_among (EDIED ∷ read_errors) es ≡ true → (w : World) (n : Name) (at amount writers : ℕ) → In es (asked_at (reading at amount writers) n w)
reads_in has w n at amount writers = more_in (EDIED ∷ read_errors) has (asked_in refl (reading at amount writers) n w (λ i x ei eo. more_in read_errors refl (read_in i.kind i.text x at amount writers (space_at w n))))

-- options

abbrev option_errors : List Errno
option_errors = EINVAL ∷ []

-- Most kinds take no options.
no_options-in : (ws : List (List ℕ)) → In option_errors (no_options ws)
no_options-in [] = ok_in
no_options-in (w ∷ ws) = err_in refl

-- A text that is too long is refused.
short_in : (o : Option (List ℕ)) → In option_errors (short_text o)
short_in None = err_in refl
short_in (Some text) = if_in (nat_le (length text) most_text) _ _ (λ _. ok_in) (λ _. err_in refl)

-- So is a word that says none.
said_in : (o : Option (List ℕ)) → In option_errors (text_in o)
said_in None = ok_in
said_in (Some w) = short_in (behind (codes "--contents=") w)

-- A word that says no size is refused.
size_said-in : (o : Option (List ℕ)) → In option_errors (size_said o)
size_said-in None = err_in refl
size_said-in (Some ds) = ok_in

-- A size need not be said.
sized_in : (o : Option (List ℕ)) → In option_errors (size_in o)
sized_in None = ok_in
sized_in (Some w) = size_said-in (size_word w)

-- Each kind takes options, or refuses them with EINVAL.
options_in : (k : ServerKind) (ws : List (List ℕ)) → In option_errors ((behaviour_of k).set_options ws)
options_in kind.Tmpfs ws = if_in (list_all has_size ws) _ (Err EINVAL) (λ _. sized_in (slice_get ws (length ws - 1))) (λ _. err_in refl)
options_in kind.Hello ws = if_in (list_all says_text ws) _ (Err EINVAL) (λ _. said_in (slice_get ws (length ws - 1))) (λ _. err_in refl)
options_in kind.Null ws = no_options-in ws
options_in kind.Zero ws = no_options-in ws
options_in kind.Symlink ws = no_options-in ws
options_in kind.Firmlink ws = no_options-in ws
options_in kind.Union ws = no_options-in ws
options_in kind.Magic ws = no_options-in ws
options_in kind.Drip ws = no_options-in ws
options_in kind.Fifo ws = no_options-in ws

-- fsys_set_options: a server takes options, or refuses what it can't read.
pub takes_in : {es : List Errno} → are_among (EDIED ∷ EINVAL ∷ []) es ≡ true → (ws : List (List ℕ)) (o : Option ServerInfo) → In es (takes_options ws o)
takes_in has ws None = more_in (EDIED ∷ EINVAL ∷ []) has (err_in refl)
takes_in {es} has ws (Some i) = go ((behaviour_of i.kind).set_options ws) (more_in (EDIED ∷ EINVAL ∷ []) has (more_in option_errors refl (options_in i.kind ws)))
  where
    go : (r : Result (Option (List ℕ)) Errno) → In es r → In es (info_taken i r)
    go (Ok text) p = ok_in
    go (Err e) p = err_in (p.by e refl)
