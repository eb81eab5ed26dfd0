-- Each change of a call has its reason, and they settle at their end alone, if at all: a lemma for each call.
use Rattle.std.proofs.Common.{◌≡◌, ◌∙◌, ◌||◌, not, if◌then◌else◌, ℕ, ℤ, Bool, true, false, true≢false, List, [], ◌∷◌, ◌++◌, Option, Some, None, refl, ap, sym, subst, inl, inr}
use Rattle.std.specs.Prelude.{Result, Ok, Err, is_some}
use Rattle.hurd_creds.specs.TransBits.{ORPHAN}
use Rattle.hurd_creds.specs.Access.{owns}
use Rattle.hurd_creds.specs.declared.mode.Mode.{Mode}
use Rattle.hurd_creds.specs.declared.open_flags.OpenFlags.{OpenFlags}
use Rattle.hurd_creds.specs.declared.trans_flags.GoawayFlags.{GoawayFlags}
use Rattle.hurd_creds.specs.Names.{is_one}
use Rattle.hurd_trans_iface.specs.Nodes.{with_passive}
use Rattle.hurd_trans_iface.specs.Answers.{entering}
use Rattle.hurd_trans_iface.specs.Behaviour.{Did, edit_bytes, edit_size, edits_of}
use Rattle.hurd_trans_iface.specs.Meaning.{keeps_tree, size_of}
use Rattle.hurd_nodes.specs.Shown.{own_nodes, sizing, sizing_unless, takes_options}
use Rattle.hurd_ports.specs.Tables.{fresh}
use Rattle.hurd_ports.specs.declared.table.PendingStart.{PendingStart}
use Rattle.hurd_ports.specs.declared.table.Right.TheVariants.{Control, Start}
use Rattle.hurd_machine.proofs.Common.{Change, Coherent, DropServer, EditHeader, Errno, Holds, IdSets, IsAmong, Meaning, Name, Named, Plan, READ, SET, ServerInfo, Settle, Task, Unseat, WRITE, World, active_at, answered, asks_trans, changes_of, open_of, ports_of, server_at}
use Rattle.hurd_machine.specs.declared.call.Setting.{Setting}
use Rattle.hurd_machine.specs.declared.call.Whence.{Whence}
use Rattle.hurd_machine.specs.Change.{letting_go, retexting}
use Rattle.hurd_machine.specs.Touched.{Changes}
use Rattle.hurd_machine.proofs.Asks.{answered_all, holds_right}
use Rattle.hurd_machine.proofs.Retexting.{own_home}
use Rattle.hurd_core.specs.declared.to_make.ServerToMake.{ServerToMake}
use Rattle.hurd_core.specs.Control.{control_of}
use Rattle.hurd_core.specs.Core.{attaching, leaving, starting_over}
use Rattle.hurd_rights.specs.Rights.{plan_deallocate, plan_makeauth, plan_receive, plan_send}
use Rattle.hurd_lookup.specs.Getroot.{plan_getroot}
use Rattle.hurd_lookup.specs.Lent.{server_ids}
use Rattle.hurd_lookup.specs.Lookup.{Makes, Opens, Outcome, Retries, Starts, lookup_changes}
use Rattle.hurd_lookup.specs.Seeking.{plan_lookup}
use Rattle.hurd_fsys.specs.Fsys.{plan_control, plan_goaway, plan_set_options}
use Rattle.hurd_fsys.specs.Setting.{emptying, leaver, plan_set_translator, seat_on, seated, setting_where, sets_nothing, storing}
use Rattle.hurd_fsys.specs.Starting.{Startup, plan_start_failed, plan_startup, started, startup_asks}
use Rattle.hurd_fsys.proofs.ControlLaws.{control_is}
use Rattle.hurd_fsys.proofs.SettingLaws.{setter}
use Rattle.hurd_fsys.proofs.StartingLaws.{starter}
use Rattle.hurd_io.specs.Io.{plan_read, plan_write}
use Rattle.hurd_io.specs.Opens.{plan_seek, plan_set_openmodes}
use Rattle.hurd_io.specs.Sharing.{plan_share}
use Rattle.hurd_io.proofs.Touching.{moved_all, read_handle, write_handle}
use Rattle.hurd_files.specs.Access.{gives, plan_chmod, plan_chown}
use Rattle.hurd_files.specs.Files.{plan_set_size}
use Rattle.hurd_dirs.specs.File.{plan_mkfile}
use Rattle.hurd_dirs.specs.Link.{plan_link}
use Rattle.hurd_dirs.specs.Make.{plan_mkdir}
use Rattle.hurd_dirs.specs.Remove.{Entered, plan_rmdir, plan_unlink, removing}
use Rattle.hurd_dirs.specs.Rename.{moves, plan_rename}
use Rattle.hurd_laws.specs.Integrity.{BySeat, Drained, Enters, HasOpen, MaySeat, MaySize, Named as GetsName, OnOwn, Owns, RootOf, Rules, SentAway, Started, Written}
use Rattle.hurd_laws.proofs.Authority.{chmod_owns, giver_owns, has_open, read_drains, set_size_open}
use Rattle.hurd_laws.proofs.MayDirs.{Removes, link_names, mkdir_enters, mkfile_enters, rename_moves, rmdir_removes, takes_node, unlink_removes}
use Rattle.hurd_laws.proofs.MayLookup.{OutcomeMay, lookup_finds, root_finds}
use Rattle.hurd_laws.proofs.MayServers.{goaway_rules, owner_owns, seat_active, start_held, takes_there}
use Rattle.hurd_laws.proofs.Reasons.{AllReasoned, Reasoned, attrs_by, bytes_by, enter_by, link_by, move_by, size_by, take_by, unlink_by, words_by}

-- what holds of either

by_bool : (P : Bool → Type 0) → P true → P false → (b : Bool) → P b
by_bool P x y true = x
by_bool P x y false = y

by_bool_is : (P : Bool → Type 0) (b : Bool) → (b ≡ true → P true) → (b ≡ false → P false) → P b
by_bool_is P true x y = x refl
by_bool_is P false x y = y refl

by_option_is : {A : Type 0} (P : Option A → Type 0) (o : Option A) → (o ≡ None → P None) → ((a : A) → o ≡ Some a → P (Some a)) → P o
by_option_is P None x y = x refl
by_option_is P (Some a) x y = y a refl

-- changes with their reasons, which settle at their end alone, if they may
pub data Reasons (may : Bool) (S : ℕ → Bool) (w : World) (cs : List Change) : Type 0 where
  AreReasoned : AllReasoned may S w cs → Reasons may S w cs

pub all_reasoned : {may : Bool} {S : ℕ → Bool} {w : World} {cs : List Change} → Reasons may S w cs → AllReasoned may S w cs
all_reasoned (AreReasoned a) = a

-- of a call of task t: its changes have their reasons, whoever has the task
abbrev pub HasReasons : ℕ → (World → Plan) → Type 0
HasReasons t plan = (S : ℕ → Bool) (w : World) → Coherent w → S t ≡ true → Reasons true S w (plan w).changes

-- a change that has its reason, and isn't Settle
abbrev Steady : (ℕ → Bool) → World → Change → Type 0
Steady S w Settle = ⊥
Steady S w c = Reasoned S w c

-- pieces

module _ {S : ℕ → Bool} {w : World} where
  settling : Reasons true S w (Settle ∷ [])
  settling = AreReasoned (refl, refl)

  module _ {may : Bool} where
    pub none : Reasons may S w []
    none = AreReasoned tt

    cons : {k : Change} {cs : List Change} → Steady S w k → Reasons may S w cs → Reasons may S w (k ∷ cs)
    cons {k = Settle} e r = absurd e
    cons {k = k} e (AreReasoned a) = AreReasoned (e, a)

    both : {cs ds : List Change} → Reasons false S w cs → Reasons may S w ds → Reasons may S w (cs ++ ds)
    both {cs = []} a b = b
    both {cs = Settle ∷ cs} (AreReasoned a) b = absurd (true≢false (sym a.0))
    both {cs = k ∷ cs} (AreReasoned a) b = cons a.0 (both {cs = cs} (AreReasoned a.1) b)

    entries : (dir : Name) (entry : Option (List ℕ)) (new : Name) → Enters S w dir → Reasons may S w (changes_of (entering dir entry new))
    entries dir None new enters = none
    entries dir (Some name) new enters = cons (enter_by enters name new) none

    sizes : (k : ℕ) (ms : List Name) → ((m : Name) → IsAmong m ms → MaySize S w m) → Reasons may S w (changes_of (sizing k ms))
    sizes k [] by = none
    sizes k (m ∷ ms) by = cons (size_by (by m (inl refl)) k) (sizes k ms (λ n among. by n (inr among)))

    sizes_unless : (tree : Bool) (k : ℕ) (ms : List Name) → (tree ≡ false → (m : Name) → IsAmong m ms → MaySize S w m) → Reasons may S w (changes_of (sizing_unless tree k ms))
    sizes_unless true k ms by = none
    sizes_unless false k ms by = sizes k ms (by refl)

    effect_by : (m : Name) (b : Option (List ℕ → List ℕ)) (s : Option ℕ) → (Changes s → MaySize S w m) → Reasons may S w (changes_of (edit_bytes m b (edit_size m s)))
    effect_by m None None by = none
    effect_by m None (Some k) by = cons (size_by (by tt) k) none
    effect_by m (Some f) None by = cons (bytes_by f) none
    effect_by m (Some f) (Some k) by = cons (bytes_by f) (cons (size_by (by tt) k) none)

    effect : {T : Type 0} (m : Name) (d : Did T) → (Changes d.size → MaySize S w m) → Reasons may S w (changes_of (edits_of m (Ok d)))
    effect m d by = effect_by m d.bytes d.size by

-- an answer with its reasons
pub reasoned : {A : Type 0} {may : Bool} {S : ℕ → Bool} {w : World} (x : Result A Errno) (k : A → Plan) → ((a : A) → x ≡ Ok a → Reasons may S w (k a).changes) → Reasons may S w (answered x k).changes
reasoned {may = may} {S = S} {w = w} x k h = answered_all (λ P. Reasons may S w P.changes) (λ e. none) x k h

module _ {S : ℕ → Bool} {w : World} where
  -- an open that goes with a right is no node
  letting_reasons : (o : Option Name) → Reasons false S w (letting_go o)
  letting_reasons None = none
  letting_reasons (Some o) = cons tt none

  removing_reasons : (name : List ℕ) (x : Entered) → Removes S w name x → Reasons true S w (removing name x).changes
  removing_reasons name x k = cons (take_by name x.node k.takes) (cons (unlink_by (takes_node k.takes)) settling)

  outcome_reasons : (t : ℕ) (x : Task) (modes : OpenFlags) (o : Outcome) → OutcomeMay S w o → Reasons true S w (lookup_changes t x modes o)
  outcome_reasons t x modes (Opens e) may = cons tt (cons tt none)
  outcome_reasons t x modes (Makes s f ids ways) may = cons tt (both (entries f.dir f.entry (fresh t x) may) (cons tt (cons tt none)))
  outcome_reasons t x modes (Retries kind name None) may = none
  outcome_reasons t x modes (Retries kind name (Some e)) may = cons tt (cons tt none)
  outcome_reasons t x modes (Starts s) may = cons tt settling

  attaching_reasons : (t : ℕ) (p : ServerToMake) (ids : IdSets) (targets : List Name) (m : Meaning) (x : Task) → MaySeat S w p.seat → ((q : Name) → p.instead ≡ Some q → Rules S w q)
      → Reasons true S w (attaching t p ids targets m x)
  attaching_reasons t p ids targets m x seat rules =
      both (by (p.instead) refl) (cons seat (both (by_bool (λ z. Reasons false S w (starting_over t z)) (cons tt none) none p.starts) settling))
    where
      by : (o : Option Name) → p.instead ≡ o → Reasons false S w (leaving o)
      by None e = none
      by (Some q) e = cons (λ n at. SentAway q (rules q e) at) none

  emptying_reasons : (f : Setting) (m : Name) (o : Option Name) → Owns S w m → active_at w m ≡ o → Reasons true S w (emptying f m o)
  emptying_reasons f m None own at = none
  emptying_reasons f m (Some q) own at =
      by_bool (λ b. Reasons true S w (if b then [] else if asks_trans f.active ORPHAN then Unseat m ∷ Settle ∷ [] else DropServer q ∷ Settle ∷ [])) none
      (by_bool (λ b. Reasons true S w (if b then Unseat m ∷ Settle ∷ [] else DropServer q ∷ Settle ∷ [])) (cons (OnOwn own) settling) (cons (λ n e. SentAway q (BySeat m at own) e) settling) (asks_trans f.active ORPHAN))
      (not (asks_trans f.active SET))

  storing_reasons : (f : Setting) (m : Name) (words : List (List ℕ)) → Owns S w m → Reasons false S w (storing f m words)
  storing_reasons f m words own = by_bool (λ b. Reasons false S w (if b then EditHeader m (with_passive words) ∷ [] else [])) (cons (words_by own words) none) none (asks_trans f.passive SET)

  seated_reasons : (t : ℕ) (a : Named) (f : Setting) (words : List (List ℕ)) (box : Option Meaning) (old : Option Name) (targets : List Name) → Owns S w a.right.node → active_at w a.right.node ≡ old
      → Reasons true S w (seated w t a f words box old targets).changes
  seated_reasons t a f words None old targets own at = both (storing_reasons f a.right.node words own) (emptying_reasons f a.right.node old own at)
  seated_reasons t a f words (Some m) old targets own at =
      reasoned _ _ (λ x is. both (storing_reasons f a.right.node words own) (attaching_reasons t (seat_on a.right.node a.header m (leaver f old) false) (server_ids a.header.owner) targets m x (OnOwn own) leaves))
    where
      leaves : (q : Name) → leaver f old ≡ Some q → Rules S w q
      leaves q e = by (not (asks_trans f.active SET) || asks_trans f.active ORPHAN) e
        where
          by : (b : Bool) → (let o : Option Name = if b then None else old in o) ≡ Some q → Rules S w q
          by true k = absurd (cc (k))
          by false k = BySeat a.right.node (at ∙ k) own

  started_reasons : (t : ℕ) (s : PendingStart) (m : Meaning) (r : Result Startup Errno) → Holds S w (Start s.node) → Reasons true S w (started t s m r).changes
  started_reasons t s m (Err e) held = cons tt settling
  started_reasons t s m (Ok a) held = attaching_reasons t (seat_on s.node a.header m None true) (server_ids a.header.owner) a.targets m a.task (Started held) (λ q e. absurd (cc (e)))

  retexting_reasons : Coherent w → (t c : ℕ) → S t ≡ true → (words : List (List ℕ)) (s : Name) (a : ServerInfo × Option (List ℕ)) → control_of (ports_of w) t c ≡ Ok s → takes_options words (server_at w s) ≡ Ok a
      → Reasons true S w (retexting w s a.0 a.1)
  retexting_reasons co t c ours words s a is takes = by a.1
    where
      held : Holds S w (Control s)
      held = holds_right t ours c (Control s) (control_is w t c s is)

      server : server_at w s ≡ Some a.0
      server = (takes_there w s words a takes).is_server

      by : (o : Option (List ℕ)) → Reasons true S w (retexting w s a.0 o)
      by None = none
      by (Some text) =
          cons tt (sizes_unless (keeps_tree a.0.kind) (size_of a.0.kind text) (own_nodes s w.sites) (λ lone m among. RootOf s a.0 held server lone (co.housing.lone m s a.0 (own_home s m w.sites among) server lone)))

-- rights and ids

pub deallocate_reasons : (t p : ℕ) → HasReasons t (λ w. plan_deallocate w t p)
deallocate_reasons t p S w co ours = reasoned _ _ (λ r is. cons tt (both (letting_reasons (open_of r)) settling))

pub send_reasons : (t p q : ℕ) → HasReasons t (λ w. plan_send w t p q)
send_reasons t p q S w co ours = reasoned _ _ (λ r is. cons tt none)

pub receive_reasons : (t : ℕ) → HasReasons t (λ w. plan_receive w t)
receive_reasons t S w co ours = reasoned _ _ (λ x is. cons tt none)

pub makeauth_reasons : (t : ℕ) (ids : IdSets) → HasReasons t (λ w. plan_makeauth w t ids)
makeauth_reasons t ids S w co ours = reasoned _ _ (λ x is. cons tt none)

-- lookups

pub lookup_reasons : (t p : ℕ) (path : List ℕ) (flags : OpenFlags) (mode : Mode) → HasReasons t (λ w. plan_lookup w t p path flags mode)
lookup_reasons t p path flags mode S w co ours = reasoned _ _ (λ l is. outcome_reasons t l.1 _ l.0 (lookup_finds t p path flags mode S w ours l is))

pub getroot_reasons : (t c dir : ℕ) (flags : OpenFlags) → HasReasons t (λ w. plan_getroot w t c dir flags)
getroot_reasons t c dir flags S w co ours = reasoned _ _ (λ l is. outcome_reasons t l.1 _ l.0 (root_finds t c dir flags S w ours l is))

-- what is open

pub read_reasons : (t p amount : ℕ) (offset : ℤ) → HasReasons t (λ w. plan_read w t p amount offset)
read_reasons t p amount offset S w co ours = reasoned _ _ (λ a is. reasoned _ _ (λ d told.
    let h = read_handle w t p offset a is in
    let held = subst (λ n. HasOpen S w n READ) h.node (has_open t ours p READ h.handle h.is_handle) in
    both (effect a.node d (λ changes. Drained held (read_drains a.node a.at _ _ d held told (inr changes)))) (moved_all (Reasons true S w) none (λ o f. cons tt none) a.offset a.is_stream a.open_name _)))

pub write_reasons : (t p : ℕ) (bytes : List ℕ) (offset : ℤ) → HasReasons t (λ w. plan_write w t p bytes offset)
write_reasons t p bytes offset S w co ours = reasoned _ _ (λ a is. reasoned _ _ (λ d told.
    let h = write_handle w t p offset a is in
    let held = subst (λ n. HasOpen S w n WRITE) h.node (has_open t ours p WRITE h.handle h.is_handle) in
    both (effect a.node d (λ changes. Written held)) (moved_all (Reasons true S w) none (λ o f. cons tt none) a.offset a.is_stream a.open_name _)))

pub seek_reasons : (t p : ℕ) (offset : ℤ) (whence : Whence) → HasReasons t (λ w. plan_seek w t p offset whence)
seek_reasons t p offset whence S w co ours = reasoned _ _ (λ s is. cons tt none)

pub set_openmodes_reasons : (t p : ℕ) (flags : OpenFlags) → HasReasons t (λ w. plan_set_openmodes w t p flags)
set_openmodes_reasons t p flags S w co ours = reasoned _ _ (λ a is. cons tt none)

pub share_reasons : (t p : ℕ) (ids : IdSets → IdSets → IdSets) → HasReasons t (λ w. plan_share w t p ids)
share_reasons t p ids S w co ours = reasoned _ _ (λ a is. cons tt none)

-- files

pub set_size_reasons : (t p size : ℕ) → HasReasons t (λ w. plan_set_size w t p size)
set_size_reasons t p size S w co ours = reasoned _ _ (λ m is. reasoned _ _ (λ d told. effect m d (λ changes. Written (set_size_open t ours p m is))))

pub chmod_reasons : (t p : ℕ) (mode : Mode) → HasReasons t (λ w. plan_chmod w t p mode)
chmod_reasons t p mode S w co ours = reasoned _ _ (λ a is. cons (attrs_by (chmod_owns t ours p owns (λ ids b h. h) a is) _ _ _) none)

pub chown_reasons : (t p owner group : ℕ) → HasReasons t (λ w. plan_chown w t p owner group)
chown_reasons t p owner group S w co ours = reasoned _ _ (λ a is. cons (attrs_by (chmod_owns t ours p (gives owner group) (giver_owns owner group) a is) _ _ _) none)

-- servers

pub set_translator_reasons : (t p : ℕ) (f : Setting) (words : List (List ℕ)) (box : Option Meaning) → HasReasons t (λ w. plan_set_translator w t p f words box)
set_translator_reasons t p f words box S w co ours = reasoned _ _ (λ a is.
    let own = owner_owns t ours p a (setter t p f w (is_some box) a is) in
    by_bool (λ b. Reasons true S w (setting_where b w t f words box a).changes) none
    (reasoned _ _ (λ old found. reasoned _ _ (λ targets aims. seated_reasons t a f words box old targets own (seat_active w f a old found)))) (sets_nothing f))

pub control_reasons : (t : ℕ) (asks : World → Result Name Errno) → HasReasons t (λ w. plan_control w t (asks w))
control_reasons t asks S w co ours = reasoned _ _ (λ s is. reasoned _ _ (λ x there. cons tt none))

pub startup_reasons : (t : ℕ) (m : Meaning) → HasReasons t (λ w. plan_startup w t m)
startup_reasons t m S w co ours = reasoned _ _ (λ s is. started_reasons t s m (startup_asks w t m s) (start_held t ours s (starter t w s is)))

pub start_failed_reasons : (t : ℕ) → HasReasons t (λ w. plan_start_failed w t)
start_failed_reasons t S w co ours = reasoned _ _ (λ s is. cons tt settling)

pub goaway_reasons : (t c : ℕ) (flags : GoawayFlags) → HasReasons t (λ w. plan_goaway w t c flags)
goaway_reasons t c flags S w co ours = reasoned _ _ (λ s is. cons (λ n at. SentAway s (goaway_rules t ours c flags s is) at) settling)

pub set_options_reasons : (t c : ℕ) (words : List (List ℕ)) → HasReasons t (λ w. plan_set_options w t c words)
set_options_reasons t c words S w co ours = reasoned _ _ (λ s is. reasoned _ _ (λ a takes. retexting_reasons co t c ours words s a is takes))

-- directories

pub mkdir_reasons : (t p : ℕ) (name : List ℕ) (mode : Mode) → HasReasons t (λ w. plan_mkdir w t p name mode)
mkdir_reasons t p name mode S w co ours = reasoned _ _ (λ f is. reasoned _ _ (λ m there. cons tt (entries f.dir f.entry (fresh t m.0) (mkdir_enters t ours p name mode f is))))

pub mkfile_reasons : (t p : ℕ) (flags : OpenFlags) (mode : Mode) → HasReasons t (λ w. plan_mkfile w t p flags mode)
mkfile_reasons t p flags mode S w co ours = reasoned _ _ (λ a is. reasoned _ _ (λ m there.
    cons tt (both (entries a.1.dir a.1.entry (fresh t m.0) (mkfile_enters t ours p mode a is)) (cons tt (cons tt none)))))

pub rmdir_reasons : (t p : ℕ) (name : List ℕ) → HasReasons t (λ w. plan_rmdir w t p name)
rmdir_reasons t p name S w co ours = reasoned _ _ (λ x is. removing_reasons name x (rmdir_removes t ours p name x is))

pub unlink_reasons : (t p : ℕ) (name : List ℕ) → HasReasons t (λ w. plan_unlink w t p name)
unlink_reasons t p name S w co ours = reasoned _ _ (λ x is. removing_reasons name x (unlink_removes t ours p name x is))

pub link_reasons : (t p : ℕ) (name : List ℕ) (q : ℕ) → HasReasons t (λ w. plan_link w t p name q)
link_reasons t p name q S w co ours = reasoned _ _ (λ a is.
    let by = link_names t ours p name q a.dir a.file is in
    reasoned _ _ (λ u links. cons (enter_by by.enters name a.file) (cons (link_by (GetsName by.names)) none)))

pub rename_reasons : (t p : ℕ) (name : List ℕ) (q : ℕ) (new : List ℕ) → HasReasons t (λ w. plan_rename w t p name q new)
rename_reasons t p name q new S w co ours = reasoned _ _ (λ r is.
    let by = rename_moves t ours p name q new r.from r.to r.node r.old is in
    let goes : Reasons true S w (moves name new r None) = cons (take_by name r.node by.takes) (cons (move_by (takes_node by.takes) r.to) (cons (enter_by by.comes new r.node) settling)) in
    by_bool_is (λ b. Reasons true S w (if b then [] else moves name new r r.old)) (is_one r.node r.old) (λ there. none) (λ other.
    by_option_is (λ o. Reasons true S w (moves name new r o)) r.old (λ e. goes) (λ m e.
    let taken = by.gives m e (ap (is_one r.node) (sym e) ∙ other) in cons (take_by new m taken) (cons (unlink_by (takes_node taken)) goes))))
