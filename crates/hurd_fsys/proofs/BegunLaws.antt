-- A server that begins: its root's shape, size, and how it hangs, and how it comes.
use Rattle.std.proofs.Common.{Option, Some, None, not, [], ◌∷◌, ap, ◌≡◌, ◌≢◌, ◌∙◌, ℕ, Bool, true, false, true≢false, if◌then◌else◌, List, refl, sym}
use Rattle.hurd_machine.proofs.Common.{Attach, AttrOf, BodyOf, Dir, DropServer, EOVERFLOW, ESRCH, EmptyOf, EndsOf, Header, IsShaped, Kind, Meaning, Mode, Name, Node, OptionsOf, Part, ServerInfo, Task, TaskOf, TextOf, TotalOf, World, active_at, begun_info, begun_root, boot_name, fresh, given, header_at, home_at, is_dir, is_one, is_other, is_plain, is_tree, on, root_body, task_at}
use Rattle.hurd_trans_iface.specs.declared.root.Root.{Root}
use Rattle.hurd_trans_iface.specs.Meaning.{behaviour_of, root_of}
use Rattle.hurd_trans_iface.proofs.BodyLaws.{begun_has, begun_holds}
use Rattle.hurd_trans_iface.proofs.Goods.{tree-told}
use Rattle.hurd_creds.proofs.NameLaws.{same_name-apart}
use Rattle.hurd_machine.specs.Touched.{Goes}
use Rattle.hurd_machine.proofs.Piece.{Stands, Whole, piece_then, settled}
use Rattle.hurd_machine.proofs.Coherence.{Comes, HasNoEntries}
use Rattle.hurd_machine.proofs.Going.{AimsAtSeen, Begun, goes_piece, comes_piece, comes_after}
use Rattle.std.specs.Prelude.{Ok}
use Rattle.hurd_machine.proofs.Views.{Agree, same_tasks}
use Rattle.hurd_machine.proofs.Asks.{IsPlain, on_ok, given_ok, on_same, on_plain, given_plain, ok_plain}
use Rattle.hurd_core.specs.Core.{attaching, naming_asks}
use Rattle.hurd_ports.specs.Steps.{named}
use Rattle.hurd_machine.proofs.Opens.{fresh_next}
use Rattle.hurd_lookup.specs.Lent.{server_ids}
use Rattle.hurd_fsys.specs.Setting.{root_kind, root_mode, seat_on}
use Rattle.hurd_fsys.proofs.AimsLaws.{Aims}

first_shaped : (k : Kind) (h : Header) (bs : List ℕ) → h.kind ≡ k → IsShaped h (root_body (is_dir k) bs)
first_shaped Dir h bs e = e
first_shaped _ h bs e = rw e refl

first_bare : (b : Bool) (bs : List ℕ) → HasNoEntries (root_body b bs)
first_bare true bs = refl
first_bare false bs = tt

plain_dir : (r : Root) → is_tree r ≡ true → is_dir r.kind ≡ true
plain_dir r h = go (is_dir r.kind) h
  where
    go : (b : Bool) → (if b then is_plain r.crossing else false) ≡ true → b ≡ true
    go true k = refl
    go false k = absurd (true≢false (sym k))

-- one that task t makes comes to a node that is there, for the owner of this header

module _ (w : World) (t : ℕ) (n : Name) (h : Header) (there : (k : Header) × (header_at w n ≡ Some k)) (m : Meaning) (x : Task) (is : task_at w t ≡ Some x)
    (targets : List Name) (aims : Aims w m targets) where
  abbrev s : Name
  s = fresh t x

  abbrev root : Name
  root = fresh t (named 1 x)

  abbrev mode : Mode
  mode = root_mode (root_kind m) h.mode

  abbrev info : ServerInfo
  info = begun_info m root (server_ids h.owner) targets

  abbrev node : Node
  node = begun_root m h.owner h.group mode

  abbrev first : List ℕ
  first = (behaviour_of m.kind).first m.text

  pub newcomer : Comes w s n info node
  newcomer = record {
    next = fresh_next w t x is;
    task = refl;
    count = refl;
    serving = (h.owner, refl);
    shape = first_shaped (root_kind m) node.header first refl;
    empty = first_bare (is_dir (root_kind m)) first;
    parent = refl;
    kind = refl;
    aims = aims.count;
    targets = aims.named;
    branches = aims.dirs;
    seat = there;
  }

  pub begins : Begun info node
  begins = record { links = refl; tree = λ tree. plain_dir (root_of m.kind m.text) (tree-told m.kind m.text ∙ tree); filled = (refl, begun_holds m.kind m.text, begun_has m.kind m.text h.owner h.group mode) }

  module _ (st : Stands w) where
    -- no server is active on a node of its own
    other : (q : Name) → active_at w n ≡ Some q → is_other q w.sites n ≡ true
    other q e = go (home_at w n) refl
      where
        go : (o : Option Name) → home_at w n ≡ o → is_other q w.sites n ≡ true
        go None h = ap (λ z. not (is_one q z)) h
        go (Some z) h = ap (λ z. not (is_one q z)) h ∙ ap not (same_name-apart q z (λ same. st.coherent.seating.elsewhere n q e (h ∙ ap Some (sym same))))

    not_boot : (q : Name) → active_at w n ≡ Some q → q ≢ boot_name
    not_boot q e = (st.coherent.seating.seated n q e).0

    -- it comes, and another that is active there goes for it, or none; that writes what may be parts of a world like this one
    pub comings_whole : {T : Part → Type 0} {v : World} → T (TaskOf t) → T (AttrOf root) → T (EmptyOf root) → T (BodyOf root) → T (EndsOf root) → T (OptionsOf s) → T (TextOf s) → T (TotalOf s) → T (AttrOf n) → (old : Option Name)
        → ((q : Name) → old ≡ Some q → active_at w n ≡ Some q) → ((q : Name) → old ≡ Some q → (p : Part) → Goes w q p → T p) → AimsAtSeen t v info → Whole t T v w (attaching t (seat_on n h m old false) (server_ids h.owner) targets m x)
    comings_whole task attr empty body ends options text total seat None is_old parts aims =
        settled (Attach s n info node ∷ []) (tt, tt) st (comes_piece st s n info node newcomer begins task attr empty body ends seat options text total aims)
    comings_whole task attr empty body ends options text total seat (Some q) is_old parts aims =
        let e = is_old q refl in
        settled (DropServer q ∷ Attach s n info node ∷ []) (tt, (tt, tt)) st
        (piece_then (DropServer q ∷ []) (Attach s n info node ∷ []) (tt, tt) st (goes_piece st q (not_boot q e) (parts q refl))
        (λ d. comes_piece d s n info node (comes_after w st.coherent q (not_boot q e) s n info node (other q e) newcomer) begins task attr empty body ends seat options text total aims))

-- a task that has names, or room, left is there

pub counted_task : (w : World) (t : ℕ) (b : Task → Bool) (x : Task) → on ESRCH (task_at w t) (λ y. given EOVERFLOW (b y) (Ok y)) ≡ Ok x → task_at w t ≡ Some x
counted_task w t b x is =
    let y = on_ok ESRCH (task_at w t) _ x is in
    let r = given_ok EOVERFLOW (b y.0) _ x y.2 in
    let same : y.0 ≡ x = cc (r.1) in
    y.1 ∙ ap Some same

pub naming_same : {S : ℕ → Bool} {v w : World} → Agree S v w → (t : ℕ) → S t ≡ true → naming_asks w t 2 ≡ naming_asks v t 2
naming_same a t ours = on_same _ _ _ _ _ (same_tasks a t ours) (λ x k. refl)

pub naming_plain : (w : World) (t : ℕ) → IsPlain (naming_asks w t 2)
naming_plain w t = on_plain _ _ _ refl (λ x k. given_plain _ _ _ refl (λ room. ok_plain _))
