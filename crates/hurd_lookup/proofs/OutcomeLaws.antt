-- What a lookup does at its end: it opens a node, makes a file and opens that, makes the port of a retry, or has the task start a translator.
use Rattle.std.proofs.Common.{◌≡◌, ℕ, ◌+◌, Bool, true, false, not, ◌&&◌, ◌||◌, List, Some, None, refl, sym, ◌∙◌, ap, inl, inr, arith}
use Rattle.std.proofs.lemmas.Nat.{and_assoc}
use Rattle.std.proofs.lemmas.Bool.{or_cases, and_parts}
use Rattle.hurd_machine.proofs.Common.{Allowed, Below, CanBeWritten, Change, Exec, File, Header, IdSets, IsAmong, Name, Node, OpenFlags, Part, READ, Read, Seen, SeesBody, Sound, Task, ToPut, ToRead, WRITE, World, Write, apply_all, asks, bare, counts_at, fresh, gives_text, header_at, info_at, info_in, is_dir, leads_on, may, new_file, new_site, only_reads, open_modes, opening, put, server_at, shape_at, shape_by, task_at, tells, tree_by, ways_of}
use Rattle.hurd_nodes.proofs.Sites.{home-apart}
use Rattle.hurd_creds.specs.Bits.{EXEC}
use Rattle.hurd_trans_iface.proofs.Goods.{good}
use Rattle.hurd_ports.specs.Steps.{named}
use Rattle.hurd_machine.specs.World.{nodes_of}
use Rattle.hurd_machine.specs.Touched.{OnOpen}
use Rattle.hurd_machine.proofs.Coherence.{IsNext, CanBeNamed, be_same, header_old, next_apart}
use Rattle.hurd_machine.proofs.Naming.{named_still}
use Rattle.hurd_machine.proofs.Shapes.{tree_shape}
use Rattle.hurd_machine.proofs.Settle.{rests_opening}
use Rattle.hurd_machine.proofs.Frame.{Full}
use Rattle.hurd_machine.proofs.Links.{leads_unless, file_hangs}
use Rattle.hurd_machine.proofs.Confine.{NewTo, seen_old}
use Rattle.hurd_machine.proofs.Permits.{later_new, opens_may}
use Rattle.hurd_machine.proofs.Opens as fragments
use Rattle.hurd_machine.proofs.Opens.{own_task, fresh_new, fresh_next, opens_piece}
use Rattle.hurd_machine.proofs.Makes.{may_make, entered, entered_home, entered_header, entered_task, entered_below, entered_whole}
use Rattle.hurd_machine.proofs.Pending.{pends_whole}
use Rattle.hurd_core.specs.Core.{asked_node}
use Rattle.hurd_lookup.specs.Lookup.{NewPort, Outcome, Opens, Makes, Retries, Starts, may_open, no_modes, lookup_changes, lookup_parts}
use Rattle.hurd_lookup.proofs.WalkLaws.{PortSeen, port_taken}
use Rattle.hurd_lookup.proofs.HeldLaws.{PortHeld, OutcomeHeld}
use Rattle.hurd_lookup.proofs.EndLaws.{MakeLeads, OutcomeSeen}
use Rattle.hurd_machine.proofs.Piece.{Whole, stands, whole_none, whole_then}

-- an open keeps no flag that was not asked for

kept_write : (flags : OpenFlags) → asks (open_modes flags) WRITE ≡ true → asks flags WRITE ≡ true
kept_write flags h = rw (and_assoc 2 flags.0 15) at h

kept_read : (flags : OpenFlags) → asks (open_modes flags) READ ≡ true → asks flags READ ≡ true
kept_read flags h = rw (and_assoc 1 flags.0 15) at h

-- what is asked for may be done
may_asked : (a b : Bool) → (not a || b) ≡ true → a ≡ true → b ≡ true
may_asked true b k h = k
may_asked false b k h = absurd (cc)

-- what may be opened, and is to be read, may be read; and what is to be written may be written
module _ (ids : IdSets) (h : Header) (flags : OpenFlags) (m : may_open ids h flags ≡ true) where
  reads : asks flags READ ≡ true → may ids (bare h) Read ≡ true
  reads = may_asked _ _ (and_parts (not (asks flags READ) || may ids (bare h) Read) _ m).0

  writes : asks flags WRITE ≡ true → may ids (bare h) Write ≡ true
  writes = may_asked _ _ (and_parts _ (not (asks flags EXEC) || may ids (bare h) Exec) (and_parts (not (asks flags READ) || may ids (bare h) Read) _ m).1).0

-- of two that are not both so, the one isn't where the other is
not_both : (a b : Bool) → not (a && b) ≡ true → (a ≡ true → b ≡ false) × (b ≡ true → a ≡ false)
not_both true true h = absurd (cc)
not_both true false h = (λ k. refl, λ k. absurd (cc))
not_both false b h = (λ k. absurd (cc), λ k. refl)

-- a port without modes neither reads nor writes

silent_write : asks no_modes WRITE ≡ true → ⊥
silent_write h = absurd (cc)

silent_tells : (counts : Bool) → tells counts no_modes ≡ true → ⊥
silent_tells true h = absurd (cc)
silent_tells false h = absurd (cc)

module _ (w : World) (t : ℕ) (x : Task) (is : task_at w t ≡ Some x) (flags : OpenFlags) where
  abbrev modes : OpenFlags
  modes = open_modes flags

  abbrev n : Name
  n = fresh t x

  abbrev changes : Outcome → List Change
  changes o = lookup_changes t x modes o

  -- the parts that it may write
  abbrev Writes : Outcome → Part → Type 0
  Writes o = Full w t (lookup_parts w o)

  -- what tasks see was given
  given : Sound w → (m : Name) → ((S : ℕ → Bool) → S t ≡ true → Seen S w m) → Below w m
  given s m seen = seen_old s.coherent m (seen (λ k. true) refl)

  -- a port that is made
  port_whole : {T : Part → Type 0} → Sound w → (e : NewPort) (modes : OpenFlags) → ((p : Part) → OnOpen w e.node p → T p)
      → (asks modes WRITE ≡ true → CanBeWritten w e.node) → PortHeld w e → ((S : ℕ → Bool) → S t ≡ true → PortSeen S w e)
      → ((S : ℕ → Bool) → S t ≡ true → tells (counts_at w e.node) modes ≡ true → (h : Header) → header_at w e.node ≡ Some h → SeesBody S w e.node h) → Whole t (Full w t T) w w (opening t x e.node e.ids e.parents modes)
  port_whole {T} s e modes on writes held seen reads = record {
    piece =
        opens_piece w t x is e.node e.ids e.parents modes (stands s) (own_task w t T) (inr (inr (fresh_new w t x is))) (λ p here. inl (on p here))
        (given s e.node (λ S ours. (seen S ours).node), held.node) (λ m way. (given s m (λ S ours. (seen S ours).ways m way), held.ways m way)) writes (λ S ours.
        let k = seen S ours in
        opens_may S w w t x e.node e.ids e.parents modes ours (later_new S w t x x.made ours is (omega arith)) (inl k.node) (λ m way. inl (k.ways m way)) (inr (port_taken S w e k)) (reads S ours));
    rests = rests_opening w t x is e.node e.ids e.parents modes s.settled;
  }

  pub outcome_whole : Sound w → (o : Outcome) → OutcomeHeld w o → ((S : ℕ → Bool) → S t ≡ true → OutcomeSeen S w flags o) → Whole t (Writes o) w w (changes o)
  outcome_whole s (Starts p) held shown =
      pends_whole (stands s) t (Some p) x is (own_task w t (lookup_parts w (Starts p))) (given s p.node (λ S ours. (shown S ours).on), held) (λ S ours. inl (shown S ours).on)
  outcome_whole s (Opens e) held shown =
      let l = (shown (λ k. true) refl).leads in
      port_whole {T = lookup_parts w (Opens e)} s e modes (λ p on. on)
      (λ writes. let asked = kept_write flags writes in (λ h eh. let same : l.header ≡ h = cc (l.is_header, eh) in rw (← same) ((not_both (is_dir l.header.kind) (asks flags WRITE) l.fits).1 asked), (not_both (asks flags WRITE) (only_reads (info_at w e.node)) l.more).0 asked))
      held (λ S ours. (shown S ours).on)
      (λ S ours told h eh.
      let same : l.header ≡ h = cc (l.is_header, eh) in
      let ids = port_taken S w e (shown S ours).on in
      elim (or_cases (asks modes READ) (counts_at w e.node && asks modes WRITE) told) [
        | inl read ↦ ToRead (Allowed e.ids ids (rw (← same) (reads e.ids l.header flags l.may (kept_read flags read))))
        | inr put ↦
            let two = and_parts (counts_at w e.node) (asks modes WRITE) put in
            ToPut two.0 (Allowed e.ids ids (rw (← same) (writes e.ids l.header flags l.may (kept_write flags two.1))))
      ])
  outcome_whole s (Retries kind name None) held shown = whole_none s
  outcome_whole s (Retries kind name (Some e)) held shown =
      port_whole {T = lookup_parts w (Retries kind name (Some e))} s e no_modes (λ p on. on)
      (λ writes. absurd (silent_write writes)) held (λ S ours. (shown S ours).on) (λ S ours told h eh. absurd (silent_tells (counts_at w e.node) told))
  outcome_whole s (Makes q f ids ways) held shown =
      rw l.named
      (whole_then made opened (tt, (tt, tt)) s
      (entered_whole good s t x is q f.dir l.home l.name (may_make w f.dir (Some l.name) File tt l.may) (leads_unless w s.linked f.dir l.header l.is_header l.stands) (asked_node File f n) file refl refl
      (file_hangs f.dir f.owner f.group f.mode) (inr (inl refl)) (inr (inr refl)) (λ S ours. (shown S ours).on.0.0))
      (λ d. record {
        piece =
            opens_piece left t (named 1 x) seat n ids ways modes (stands d) (own_task w t (lookup_parts w o)) (inr (inr (fragments.later_new w t 1 x is))) touched
            (entered_below w n q file f.dir l.name s.coherent next, inr shape.0) ways_yet (λ writes. (λ h e. let same : file.header ≡ h = cc (entered_header w n q file f.dir l.name, e) in rw (← same) refl, shape.1))
            (λ S ours.
            let new : NewTo S w n = later_new S w t x x.made ours is (omega arith) in
            let k = (shown S ours).on in
            opens_may S w left t (named 1 x) n ids ways modes ours (later_new S w t x (x.made + 1) ours is (omega arith)) (inr new) (λ m way. inl (k.2 m way)) (inr k.1) (λ read h e. absurd (new.1 (header_old s.coherent n h e))));
        rests = rests_opening left t (named 1 x) seat n ids ways modes d.settled;
      }))
    where
      l : MakeLeads w q f ids
      l = (shown (λ k. true) refl).leads

      o : Outcome
      o = Makes q f ids ways

      file : Node
      file = new_file f.owner f.group f.mode

      made : List Change
      made = entered n q file f.dir l.name

      opened : List Change
      opened = opening t (named 1 x) n ids ways modes

      left : World
      left = apply_all made w

      next : IsNext w n
      next = fresh_next w t x is

      seat : task_at left t ≡ Some (named 1 x)
      seat = entered_task w n q file f.dir l.name x is

      -- the directory's server, which keeps a tree
      its_info : info_at left n ≡ Some (may_make w f.dir (Some l.name) File tt l.may).info
      its_info =
          let server : server_at w q ≡ Some (may_make w f.dir (Some l.name) File tt l.may).info = sym (ap (info_in w.servers) l.home) ∙ (may_make w f.dir (Some l.name) File tt l.may).is_info in
          ap (info_in left.servers) (entered_home w n q file f.dir l.name) ∙ server

      -- it has one user more, and the file is new
      touched : (p : Part) → OnOpen left n p → Writes o p
      touched p (inl on) = let same : on.0 ≡ q = cc (on.1, entered_home w n q file f.dir l.name) in inl (inl (rw (on.2, same) refl))
      touched p (inr ends) = inr (inr (rw (ends.1) (fresh_new w t x is)))

      -- and leads nobody on
      shape : (leads_on (shape_at (nodes_of left) n) ≡ false) × (gives_text (shape_at (nodes_of left) n) ≡ false)
      shape =
          tree_shape (info_at left n) (ap tree_by its_info ∙ (may_make w f.dir (Some l.name) File tt l.may).tree)

      ways_yet : (k : Name) → IsAmong k (ways_of ways) → CanBeNamed left k
      ways_yet k way =
          let below : Below w k = given s k (λ S ours. (shown S ours).on.2 k way) in
          (named_still w s.coherent n next 1 k below, be_same (nodes_of left) (nodes_of w) k (ap (λ o. shape_by (info_in w.servers o)) (home-apart w.sites n (new_site q) k (next_apart w n k next below))) (held.2 k way))
