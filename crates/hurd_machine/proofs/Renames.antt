-- An entry goes to another directory, or gets another name, as a piece of any call: what it takes, and what it keeps.
use Rattle.std.proofs.Common.{if◌then◌else◌, ◌≡◌, ◌≢◌, ◌⊎◌, ◌∙◌, ℕ, Bool, true, false, cond, List, [], ◌∷◌, Option, Some, None, sym, refl, ap, subst, inl, inr}
use Rattle.std.specs.Option.{option_map}
use Rattle.hurd_machine.proofs.Common.{AreDistinct, AttrOf, Below, Body, BodyOf, Change, Coherent, Content, Dir, EditBody, EditHeader, EmptyOf, GoodBehaviour, HasDistinctNames, Header, LeadsUp, Linked, Listing, Name, Node, Part, Seen, Sees, World, apply, body_at, bytes_eq, empty, entry_in, entry_of, get, header_at, home_at, info_at, info_in, is_dir, less_entry, lists_at, moved_to, tree_by, with_body, with_entry, with_header, without_entry}
use Rattle.hurd_creds.proofs.NameLaws.{same_or_apart, edit_apart}
use Rattle.hurd_trans_iface.specs.Nodes.{Entry}
use Rattle.hurd_trans_iface.specs.Kinds.{behaviour_of}
use Rattle.hurd_trans_iface.specs.declared.begun.ServerKind.{ServerKind}
use Rattle.hurd_machine.specs.World.{nodes_of}
use Rattle.hurd_machine.proofs.Nodes.{header_in, body_in, edit_keeps, edit_reads, header-with_header, header-with_body, body-with_header, body-with_body, node_of_body}
use Rattle.hurd_machine.proofs.Listed.{dir_kind}
use Rattle.hurd_machine.proofs.Coherence.{IsEntry, MayMove, Proper, AllProper, entry_lists, header_old}
use Rattle.hurd_machine.proofs.Filled.{filled_append, filled_header, filled_entry, filled_removed, keeps_header}
use Rattle.hurd_machine.proofs.Confine.{SeenOrNew, Known, Less, less_same}
use Rattle.hurd_machine.proofs.Permits.{entry_may}
use Rattle.hurd_machine.proofs.Makes.{entry_proper}
use Rattle.hurd_machine.proofs.Removals.{same_exact, none_without, entry_of_before, lists_before, times_taken, times_others, cut_proper, cut_unlisted, distinct_at}
use Rattle.hurd_machine.proofs.Moves.{LeadsAround, Gets, TakesOne, moved_linked}
use Rattle.hurd_machine.proofs.Piece.{Stands, Piece}

-- the entry of a name is gone once it is taken out, and another's is still there

none_after : (name : List ℕ) (es : List Entry) → AreDistinct es → entry_in name (less_entry name es) ≡ None
none_after name [] d = refl
none_after name (e ∷ es) d = go (bytes_eq e.name name) refl (none_after name es d.1)
  where
    go : (a : Bool) → bytes_eq e.name name ≡ a → entry_in name (less_entry name es) ≡ None → entry_in name (if a then es else e ∷ less_entry name es) ≡ None
    go true ea ih = subst (λ z. entry_in z es ≡ None) (same_exact e.name name ea) d.0
    go false ea ih = rw ea ih

pub taken_none : (name : List ℕ) (o : Option Body) → ((b : Body) → o ≡ Some b → HasDistinctNames b) → entry_of name (option_map (without_entry name) o) ≡ None
taken_none name None d = refl
taken_none name (Some (Content bs)) d = refl
taken_none name (Some (Listing es)) d = none_after name es (d (Listing es) refl)

other_after : (name new : List ℕ) (n m : Name) → n ≢ m → (es : List Entry) → entry_in name es ≡ Some n → entry_in new es ≡ Some m → entry_in name (less_entry new es) ≡ Some n
other_after name new n m apart [] = λ h k. absurd (cc (h))
other_after name new n m apart (e ∷ es) = go (bytes_eq e.name new) (bytes_eq e.name name) refl (other_after name new n m apart es)
  where
    go : (a b : Bool) → bytes_eq e.name name ≡ b → (entry_in name es ≡ Some n → entry_in new es ≡ Some m → entry_in name (less_entry new es) ≡ Some n)
        → cond b (Some e.node) (entry_in name es) ≡ Some n → cond a (Some e.node) (entry_in new es) ≡ Some m → entry_in name (if a then es else e ∷ less_entry new es) ≡ Some n
    go true true eb ih h k = let same : n ≡ m = cc (h, k) in absurd (apart same)
    go true false eb ih h k = h
    go false true eb ih h k = rw eb h
    go false false eb ih h k = rw eb (ih h k)

pub taken_other : (name new : List ℕ) (n m : Name) → n ≢ m → (o : Option Body) → entry_of name o ≡ Some n → entry_of new o ≡ Some m → entry_of name (option_map (without_entry new) o) ≡ Some n
taken_other name new n m apart None h k = h
taken_other name new n m apart (Some (Content bs)) h k = h
taken_other name new n m apart (Some (Listing es)) h k = other_after name new n m apart es h k

-- an entry of d, for the node n, may go to the directory e under a new name: e is of the same server, leads up around n if that is a directory, and has no such entry
pub record MayGo (w : World) (d : Name) (name : List ℕ) (n e : Name) (new : List ℕ) : Type 0 where
  pub dir : Node
  pub is_dir : get w.nodes d ≡ Some dir
  pub entry : entry_of name (Some dir.body) ≡ Some n
  pub header : Header
  pub is_header : header_at w n ≡ Some header
  pub target : Node
  pub is_target : get w.nodes e ≡ Some target
  pub entries : List Entry
  pub listing : target.body ≡ Listing entries
  pub kin : home_at w d ≡ home_at w e
  pub absent : entry_of new (body_at w e) ≡ None
  pub up : LeadsUp (nodes_of w) e
  pub around : header.kind ≡ Dir → LeadsAround (nodes_of w) n e

entry_node : (name : List ℕ) (n : Name) (o : Option Node) → entry_of name (body_in o) ≡ Some n → (x : Node) × (o ≡ Some x) × (entry_of name (Some x.body) ≡ Some n)
entry_node name n None h = absurd (cc)
entry_node name n (Some x) h = (x, refl, h)

-- from what is read of the two directories
pub may_go : (w : World) (d : Name) (name : List ℕ) (n e : Name) (new : List ℕ) (k : Header) (es : List Entry) → entry_of name (body_at w d) ≡ Some n → header_at w n ≡ Some k → body_at w e ≡ Some (Listing es)
    → home_at w d ≡ home_at w e → entry_of new (body_at w e) ≡ None → LeadsUp (nodes_of w) e → (k.kind ≡ Dir → LeadsAround (nodes_of w) n e) → MayGo w d name n e new
may_go w d name n e new k es entry is body kin absent up around =
    let x = entry_node name n (get w.nodes d) entry in
    let y = node_of_body (get w.nodes e) (Listing es) body in
    record {
      dir = x.0;
      is_dir = x.1;
      entry = x.2;
      header = k;
      is_header = is;
      target = y.0;
      is_target = y.1;
      entries = es;
      listing = y.2;
      kin = kin;
      absent = absent;
      up = up;
      around = around;
    }

module _ (d : Name) (name : List ℕ) (n e : Name) (new : List ℕ) where
  abbrev pub going : List Change
  going = EditBody d (without_entry name) ∷ EditHeader n (moved_to e) ∷ EditBody e (with_entry new n) ∷ []

  turned_less : (S : ℕ → Bool) (v : World) (h : Header) → Seen S v e → (is_dir h.kind ≡ true → Sees S v (EmptyOf n)) → Less S v n (moved_to e h) h
  turned_less S v h to empty = less_same S v n (moved_to e h) h refl refl refl refl (by (is_dir h.kind) refl)
    where
      by : (b : Bool) → is_dir h.kind ≡ b → (p : Name) → (if b then Some e else h.parent) ≡ Some p → (h.parent ≡ Some p) ⊎ (SeenOrNew S v p × Known S v (EmptyOf n))
      by true eb p is = let same : e ≡ p = cc in inr (inl (subst (Seen S v) same to), inl (empty eb))
      by false eb p is = inl is

  module _ (w : World) (c : Coherent w) (m : MayGo w d name n e new) where
    abbrev cut : World
    cut = apply (EditBody d (without_entry name)) w

    abbrev turned : World
    turned = apply (EditHeader n (moved_to e)) cut

    abbrev pub arrived : World
    arrived = apply (EditBody e (with_entry new n)) turned

    here : lists_at n (body_at w d) ≡ true
    here = entry_lists name (body_at w d) n (ap (λ (o : Option Node). entry_of name (body_in o)) m.is_dir ∙ m.entry)

    header_cut : header_at cut n ≡ Some m.header
    header_cut = edit_keeps header_in (with_body (without_entry name)) (header-with_body (without_entry name)) w.nodes d n ∙ m.is_header

    header_turned : header_at turned n ≡ Some (moved_to e m.header)
    header_turned = edit_reads header_in (option_map (moved_to e)) (with_header (moved_to e)) (header-with_header (moved_to e)) cut.nodes n ∙ ap (option_map (moved_to e)) header_cut

    -- a directory gets its new parent while it is no entry
    may_turn : Linked (nodes_of w) → (b : Bool) → is_dir m.header.kind ≡ b → MayMove cut cut.nodes n (if b then Some e else m.header.parent) m.header.parent
    may_turn l false dir = inl refl
    may_turn l true dir =
        let once = (l.nodes n m.header m.is_header).once (dir_kind m.header.kind dir) in
        inr (cut_unlisted w d name n m.dir m.is_dir m.entry once, λ p is. let same : e ≡ p = cc in subst (Below cut) same (c.given.nodes e m.target m.is_target))

    turn_proper : Linked (nodes_of w) → Proper cut (EditHeader n (moved_to e))
    turn_proper l h is =
        let same : m.header ≡ h = cc (header_cut, is) in
        subst (λ (k : Header). ((moved_to e k).kind ≡ k.kind) × MayMove cut cut.nodes n (moved_to e k).parent k.parent) same (refl, may_turn l (is_dir m.header.kind) refl)

    absent_still : entry_of new (body_at turned e) ≡ None
    absent_still =
        ap (entry_of new) (edit_keeps body_in (with_header (moved_to e)) (body-with_header (moved_to e)) cut.nodes n e)
        ∙ elim (same_or_apart e d) [
          | inl same ↦
              rw same (ap (entry_of new) (edit_reads body_in (option_map (without_entry name)) (with_body (without_entry name)) (body-with_body (without_entry name)) w.nodes d))
              ∙ none_without name new (body_at w e) (distinct_at w c e) m.absent
          | inr apart ↦ ap (λ o. entry_of new (body_in o)) (edit_apart w.nodes d (with_body (without_entry name)) e apart) ∙ m.absent
        ]

    new_entry : IsEntry turned e n
    new_entry = record {
      made = header_old c n m.header m.is_header;
      kin = c.tree.kin d n here ∙ m.kin;
      tree = ap (λ o. tree_by (info_in w.servers o)) (sym m.kin) ∙ c.tree.trees d n here;
      below = λ h is dir.
          let same : moved_to e m.header ≡ h = cc (header_turned, is) in
          let kind : m.header.kind ≡ Dir = ap (λ (k : Header). k.kind) same ∙ dir in
          ap (λ (k : Header). k.parent) (sym same) ∙ ap (λ k. if is_dir k then Some e else m.header.parent) kind;
    }

    going_proper : Linked (nodes_of w) → AllProper w going
    going_proper l = (cut_proper w c d name, λ one. (turn_proper l, λ two. (entry_proper turned two e new n absent_still new_entry, λ three. tt)))

    -- the directory that it leaves has entries, and one less
    taken_once : TakesOne n m.dir.body (without_entry name m.dir.body)
    taken_once = record {
      others = λ k apart. times_others name n k m.dir.body apart m.entry;
      one = times_taken name n m.dir.body m.entry;
      fewer = λ k h. lists_before name k m.dir.body h;
      listing = listed m.dir.body m.entry;
    }
      where
        listed : (b : Body) → entry_of name (Some b) ≡ Some n → (es : List Entry) × (without_entry name b ≡ Listing es)
        listed (Content bs) h = absurd (cc)
        listed (Listing es) h = (less_entry name es, refl)

    gets : Gets w d e n m.header (moved_to e m.header)
    gets = record { kind = refl; links = refl; below = λ dir. c.tree.below d n m.header here m.is_header dir; how = by (is_dir m.header.kind) refl }
      where
        by : (b : Bool) → is_dir m.header.kind ≡ b
            → ((is_dir m.header.kind ≡ false) × ((if b then Some e else m.header.parent) ≡ m.header.parent)) ⊎ ((m.header.kind ≡ Dir) × ((if b then Some e else m.header.parent) ≡ Some e) × LeadsAround (nodes_of w) n e)
        by true dir = let kind = dir_kind m.header.kind dir in inr (kind, refl, m.around kind)
        by false file = inl (file, refl)

    arrived_linked : Linked (nodes_of w) → Linked (nodes_of arrived)
    arrived_linked l =
        moved_linked w d e n (without_entry name) (moved_to e) new m.dir m.target m.header m.is_dir m.is_target m.is_header taken_once gets m.up m.entries m.listing l

  -- a task of S may move what S sees to a directory that S sees, out of one whose entries S sees; of a directory S knows whether it is empty
  pub going_piece : ((k : ServerKind) → GoodBehaviour (behaviour_of k)) → {t : ℕ} {T : Part → Type 0} {v w : World} → Stands w → MayGo w d name n e new → T (BodyOf d) → T (EmptyOf d) → T (AttrOf n) → T (BodyOf e) → T (EmptyOf e)
      → ((S : ℕ → Bool) → S t ≡ true → Sees S v (BodyOf d) × Seen S v n × Seen S v e × ((h : Header) → header_at w n ≡ Some h → is_dir h.kind ≡ true → Sees S v (EmptyOf n))) → Piece t T v w going
  going_piece good {t} {T} {v} {w} s m body empty attr to to_empty sees =
      let one : World = cut w s.coherent m in
      let two : World = turned w s.coherent m in
      let listed = entry_lists name (body_at w d) n (ap (λ o. entry_of name (body_in o)) m.is_dir ∙ m.entry) in
      let into : tree_by (info_at w e) ≡ true = ap (λ o. tree_by (info_in w.servers o)) (sym m.kin) ∙ s.coherent.tree.trees d n listed in
      record {
        within = ((body, inl empty), ((attr, inr (inl (λ h is. refl))), ((to, inl to_empty), tt)));
        proper = going_proper w s.coherent m s.linked;
        linked = arrived_linked w s.coherent m s.linked;
        filled = filled_append (EditBody d (without_entry name) ∷ []) (EditHeader n (moved_to e) ∷ EditBody e (with_entry new n) ∷ []) w (filled_removed good w d name)
            (filled_append (EditHeader n (moved_to e) ∷ []) (EditBody e (with_entry new n) ∷ []) one (filled_header one n (moved_to e) (λ h. refl) (keeps_header one n (moved_to e) (λ h. (refl, refl)))) (filled_entry good two e new n into)) s.filled;
        held = s.held;
        may = λ S ours. let k = sees S ours in (
          (inr (inl k.0), λ b other m is h. inl (entry_of_before name other m b (distinct_at w s.coherent d b is) h)),
          ((λ h at. turned_less S v h k.2 (λ dir. k.3 h (sym (edit_keeps header_in (with_body (without_entry name)) (header-with_body (without_entry name)) w.nodes d n) ∙ at) dir), inl (λ h. refl)), (entry_may S v two e new n (inl k.1), tt)),
        );
      }
