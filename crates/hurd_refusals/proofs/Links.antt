-- By which errors the root of a server is refused. Only a link whose text is longer than a path has one more.
use Rattle.std.proofs.Common.{List, ◌≡◌, ◌⊎◌, inl, inr, ℕ, Bool, true, false, Option, Some, None, [], ◌∷◌, refl, sym, ◌∙◌, ap, true≢false, ◌&&◌}
use Rattle.std.specs.Prelude.{Result, Ok, Err, codes, if◌then◌else◌, length, nat_le, slice_get}
use Rattle.std.specs.Str.{bytes_eq}
use Rattle.hurd_creds.specs.Bits.{asks, NOLINK}
use Rattle.hurd_creds.specs.Limits.{most_path}
use Rattle.hurd_creds.specs.declared.open_flags.OpenFlags.{OpenFlags}
use Rattle.hurd_creds.specs.declared.errno.Errno.{Errno}
use Rattle.hurd_creds.specs.declared.errno.Errno.TheVariants.{EBADF, EACCES, ENOTDIR, EISDIR, EROFS, ELOOP, ENAMETOOLONG, EDIED, ESRCH, EOVERFLOW}
use Rattle.hurd_trans_iface.specs.Kinds.Symlink.{is_target}
use Rattle.hurd_trans_iface.specs.Meaning.{Begins, behaviour_of, root_of}
use Rattle.hurd_trans_iface.specs.declared.begun.ServerKind.{ServerKind}
use Rattle.hurd_trans_iface.specs.declared.begun.ServerKind.TheVariants as kind
use Rattle.hurd_trans_iface.specs.Texts.{is_link}
use Rattle.hurd_trans_iface.proofs.Beginnings.{begun-made}
use Rattle.hurd_trans_iface.proofs.Owes.{one-said, told_if}
use Rattle.hurd_trans_iface.specs.declared.root.Crossing.{Crossing}
use Rattle.hurd_trans_iface.specs.declared.root.Crossing.TheVariants as crossing
use Rattle.hurd_machine.proofs.Common.{Meaning, Name, ServerInfo, World, answered, first, given, header_at, info_at}
use Rattle.hurd_machine.proofs.Asks.{on_ok}
use Rattle.hurd_lookup.specs.Lookup.{Authority, Outcome, crossing as cross_by, enter, finding, follow, hold_on, link_retry, root_asks}
use Rattle.hurd_lookup.specs.Getroot.{entrance_asks, getroot_asks, plan_getroot, root_request}
use Rattle.hurd_refusals.specs.Errors.{HasLongLink, LinksAreShort, is_among, refused_by}
use Rattle.hurd_refusals.proofs.In.{Among, In, and_other, first_in, given_in, ok_in, on_in}
use Rattle.hurd_refusals.proofs.Asked.{io_in}
use Rattle.hurd_refusals.proofs.Rooms.{control_in-all}
use Rattle.hurd_refusals.proofs.Targets.{finding_among}
use Rattle.hurd_refusals.proofs.Walks.{enter_in, hold_in}

abbrev pub getroot_errors : List Errno
getroot_errors = EBADF ∷ EDIED ∷ ENOTDIR ∷ ELOOP ∷ EISDIR ∷ EROFS ∷ EACCES ∷ ESRCH ∷ EOVERFLOW ∷ []

-- an error is one of these, or it is ENAMETOOLONG and there is a long link
abbrev pub Or : World → List Errno → Errno → Type 0
Or w es e = (is_among e es ≡ true) ⊎ ((e ≡ ENAMETOOLONG) × HasLongLink w)

-- an answer is refused by such an error, or not at all
abbrev Refuses : {A : Type 0} → World → Result A Errno → Type 0
Refuses w r = (e : Errno) → r ≡ Err e → Or w getroot_errors e

-- A server is entered from a directory.
entrance_in : (w : World) (t c dir : ℕ) → In getroot_errors (entrance_asks w t c dir)
entrance_in w t c dir =
    first_in _ _ (control_in-all refl w t c) (λ s es.
    first_in _ _ (io_in refl w t dir) (λ q eq.
    on_in _ _ _ refl (λ i ei.
    on_in _ _ _ refl (λ h eh.
    given_in _ _ _ refl (λ is.
    on_in _ _ _ refl (λ x ex. ok_in))))))

-- What follows from an answer is refused so, if the answer is.
first_or : {A B : Type 0} (w : World) (x : Result A Errno) (k : A → Result B Errno) → In getroot_errors x → ((a : A) → x ≡ Ok a → Refuses w (k a)) → Refuses w (first x k)
unfolding first
first_or w (Err d) k out h e is = let same : d ≡ e = cc in inl (out.by e (ap Err same))
first_or w (Ok a) k out h e is = h a refl e is

same_error : {A : Type 0} (e : Errno) → (let refused : Result A Errno = Err ENAMETOOLONG in refused) ≡ Err e → e ≡ ENAMETOOLONG
same_error e h = let same : ENAMETOOLONG ≡ e = cc in sym same

-- A path that a link leads along is its text, if no names follow.
follow_or : (w : World) (root : Name) (i : ServerInfo) → info_at w root ≡ Some i → (absolute : Bool) → (root_of i.kind i.text).crossing ≡ crossing.Link absolute
    → (q : Authority) (d : Name) (flags : OpenFlags) → Refuses w (follow absolute q (root_request flags) d i.text [])
unfolding given
follow_or w root i is absolute link q d flags = go (nat_le (length i.text) most_path) refl
  where
    go : (b : Bool) → nat_le (length i.text) most_path ≡ b → (e : Errno) → given ENAMETOOLONG b (Ok (link_retry absolute q d i.text)) ≡ Err e → Or w getroot_errors e
    go true fits e h = absurd (cc)
    go false fits e h = inr (same_error e h, (root, i, is, (ap is_link link, fits)))

-- A root is entered, or leads on to a target.
entered_in : (w : World) (q : Authority) (d root : Name) (flags : OpenFlags) → In getroot_errors (enter w q (root_request flags) d root [])
entered_in w q d root flags = enter_in w (root_request flags) refl (λ writes. refl) q d root []

held_in : (w : World) (q : Authority) (d : Name) (flags : OpenFlags) (o : Option Name) → In getroot_errors (hold_on w q (root_request flags) d o [])
held_in w q d flags o = hold_in w (root_request flags) refl (λ writes. refl) q d o []

-- The root of a server is entered, or leads on.
crossing_or : (w : World) (root : Name) (i : ServerInfo) → info_at w root ≡ Some i → (c : Crossing) → (root_of i.kind i.text).crossing ≡ c
    → (q : Authority) (d : Name) (flags : OpenFlags) → Refuses w (cross_by w c q (root_request flags) d root i [])
crossing_or w root i is crossing.Plain at q d flags e h = inl ((entered_in w q d root flags).by e h)
crossing_or w root i is (crossing.Link absolute) at q d flags e h = go (asks flags NOLINK) e h
  where
    go : (b : Bool) → (e : Errno) → (if true && b then enter w q (root_request flags) d root [] else follow absolute q (root_request flags) d i.text []) ≡ Err e → Or w getroot_errors e
    go true e h = inl ((entered_in w q d root flags).by e h)
    go false e h = follow_or w root i is absolute at q d flags e h
crossing_or w root i is crossing.Firm at q d flags e h = inl ((held_in w q d flags (slice_get i.targets 0)).by e h)
crossing_or w root i is crossing.Union at q d flags e h = inl ((entered_in w q d root flags).by e h)

-- A root that was asked for is of that server.
root_found : (w : World) (root : Name) (i : ServerInfo) → root_asks w root ≡ Ok i → info_at w root ≡ Some i
root_found w root i h =
    let there = on_ok EDIED (header_at w root) _ i h in
    let found = on_ok EDIED (info_at w root) _ i there.2 in
    let same : found.0 ≡ i = cc (found.2) in
    found.1 ∙ ap Some same

getroot_refuses : (w : World) (t c dir : ℕ) (flags : OpenFlags) → Refuses w (getroot_asks w t c dir (root_request flags))
getroot_refuses w t c dir flags =
    first_or w _ _ (entrance_in w t c dir) (λ a is.
    first_or w _ _ (on_in _ _ _ refl (λ h eh. on_in _ _ _ refl (λ i ei. ok_in))) (λ i found.
    crossing_or w a.root i (root_found w a.root i found) (root_of i.kind i.text).crossing refl a.authority a.start flags))

-- fsys_getroot
pub getroot_or : (w : World) (t c dir : ℕ) (flags : OpenFlags) (e : Errno) → refused_by (plan_getroot w t c dir flags).reply ≡ Some e → Or w getroot_errors e
unfolding answered first
getroot_or w t c dir flags = go (getroot_asks w t c dir (root_request flags)) refl
  where
    found : (o : Outcome) → Among getroot_errors (finding w t flags (Ok o)).reply
    found o = finding_among refl w t flags (Ok o) ok_in

    go : (r : Result Outcome Errno) → getroot_asks w t c dir (root_request flags) ≡ r → (e : Errno) → refused_by (finding w t flags r).reply ≡ Some e → Or w getroot_errors e
    go (Ok o) is e h = inl ((found o).by e h)
    go (Err d) is e h = getroot_refuses w t c dir flags e (is ∙ (let same : d ≡ e = cc in ap Err same))

-- No words make a link whose text is longer than a path.

target_short : (text : List ℕ) → is_target text ≡ true → nat_le (length text) most_path ≡ true
target_short text is = and_other (nat_le 1 (length text)) _ is

said_short : (k : ServerKind) (ws : List (List ℕ)) (text : List ℕ) → (behaviour_of k).begins ws ≡ Some text → is_link (root_of k text).crossing ≡ true → nat_le (length text) most_path ≡ true
said_short kind.Symlink ws text says link = target_short text (one-said is_target ws text says)
said_short kind.Magic (word ∷ []) text says link = rw (← (told_if (bytes_eq word (codes "fd")) (codes "fd") text says).1) refl
said_short kind.Magic [] text says link = absurd (cc)
said_short kind.Magic (word ∷ more ∷ ws) text says link = absurd (cc)
said_short kind.Tmpfs ws text says link = absurd (true≢false (sym link))
said_short kind.Hello ws text says link = absurd (true≢false (sym link))
said_short kind.Null ws text says link = absurd (true≢false (sym link))
said_short kind.Zero ws text says link = absurd (true≢false (sym link))
said_short kind.Firmlink ws text says link = absurd (true≢false (sym link))
said_short kind.Union ws text says link = absurd (true≢false (sym link))
said_short kind.Drip ws text says link = absurd (true≢false (sym link))
said_short kind.Fifo ws text says link = absurd (true≢false (sym link))

pub links_are_short : LinksAreShort
links_are_short m b link =
    let made = begun-made b.0 m b.1 in
    let text : m.text ≡ made.text = ap (λ (x : Meaning). x.text) made.server in
    rw text (said_short m.kind made.rest made.text made.says (rw text at link))
