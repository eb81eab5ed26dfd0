-- The words of a passive translator stored with a node, or not: a piece of a call, the world that it leaves, and that the old words make it what it was.
use Rattle.std.proofs.Common.{◌≡◌, ◌≢◌, ◌⊎◌, ◌∙◌, ℕ, Bool, true, false, if◌then◌else◌, List, [], ◌∷◌, Option, Some, None, refl, sym, ap, ap₂, subst, inl, inr}
use Rattle.std.specs.Prelude.{Ok}
use Rattle.std.specs.Option.{option_map}
use Rattle.hurd_machine.proofs.Common.{AttrOf, Below, BodyOf, Change, EditHeader, EmptyOf, EndsOf, Header, Meaning, Name, NameMap, Node, NodeMap, OptionsOf, TextOf, Owns, OwnsIt, Part, ServerInfo, Site, Sound, Task, TotalOf, UsersOf, World, active_in, apply_all, edit, edit_by, get, header_at, home_in, info_at, info_in, sets_attrs_at, shape_by, tree_by, with_header, with_passive, words_at, words_in}
use Rattle.hurd_creds.proofs.NameLaws.{same_map_by, same_or_apart, edit_here, edit_apart}
use Rattle.hurd_machine.specs.World.{nodes_of}
use Rattle.hurd_machine.specs.Touched.{Goes}
use Rattle.hurd_machine.proofs.Nodes.{header_in, header-with_header, edit_keeps, edit_reads, node_of_header, was_edited}
use Rattle.hurd_machine.proofs.Coherence.{be_same}
use Rattle.hurd_machine.proofs.Confine.{Less}
use Rattle.hurd_core.specs.Core.{naming_asks}
use Rattle.hurd_fsys.proofs.AimsLaws.{Aims}
use Rattle.hurd_machine.proofs.Filled.{tree_header}
use Rattle.hurd_machine.proofs.Piece.{Whole, stands, whole_none, quiet, of_header}
use Rattle.hurd_machine.proofs.Permits.{AllExact}

-- a world like another, except for the headers of its nodes; this node is there
pub record IsLike (w v : World) (n : Name) : Type 0 where
  pub sites : v.sites ≡ w.sites
  pub servers : v.servers ≡ w.servers
  pub tasks : v.tasks ≡ w.tasks
  pub there : (h : Header) × (header_at v n ≡ Some h)
  -- each is of the kind that it was of
  pub kinds : (m : Name) (h : Header) → header_at v m ≡ Some h → (k : Header) × (header_at w m ≡ Some k) × (h.kind ≡ k.kind)

-- the same goes with a server
pub goes_like : (w v : World) (n : Name) → IsLike w v n → (q : Name) (p : Part) → Goes v q p → Goes w q p
goes_like w v n k q (AttrOf m) (inl e) = inl (ap (λ (rs : NameMap Site). home_in rs m) (sym k.sites) ∙ e)
goes_like w v n k q (AttrOf m) (inr e) = inr (ap (λ (rs : NameMap Site). active_in rs m) (sym k.sites) ∙ e)
goes_like w v n k q (EmptyOf m) e = ap (λ (rs : NameMap Site). home_in rs m) (sym k.sites) ∙ e
goes_like w v n k q (BodyOf m) e = ap (λ (rs : NameMap Site). home_in rs m) (sym k.sites) ∙ e
goes_like w v n k q (EndsOf m) e = ap (λ (rs : NameMap Site). home_in rs m) (sym k.sites) ∙ e
goes_like w v n k q (OptionsOf s) e = e
goes_like w v n k q (TextOf s) e = e
goes_like w v n k q (UsersOf s) e = e
goes_like w v n k q (TotalOf s) e = e
goes_like w v n k q _ e = absurd e

-- targets that a server may have in the one it may have in the other
pub aims_like : (w v : World) (n : Name) → IsLike w v n → (m : Meaning) (ns : List Name) → Aims w m ns → Aims v m ns
aims_like w v n k m ns a = record {
  named = λ q among.
      let l = a.named q among in (
        subst (λ (ts : List Task). Below (record v { tasks = ts }) q) (sym k.tasks) l.0,
        be_same (nodes_of v) (nodes_of w) q (ap₂ (λ (rs : NameMap Site) (ss : NameMap ServerInfo). shape_by (info_in ss (home_in rs q))) k.sites k.servers) l.1,
      );
  count = a.count;
  dirs = λ union q h among e. let z = k.kinds q h e in z.2 ∙ a.dirs union q z.0 among z.1;
}

module _ (n : Name) (words : List (List ℕ)) where
  abbrev pub storing_if : Bool → List Change
  storing_if b = if b then EditHeader n (with_passive words) ∷ [] else []

  pub storing_like : (b : Bool) (w : World) (h : Header) → header_at w n ≡ Some h → IsLike w (apply_all (storing_if b) w) n
  storing_like true w h at = record {
    sites = refl;
    servers = refl;
    tasks = refl;
    kinds = λ m k e.
        let x = node_of_header (get (edit n (with_header (with_passive words)) w.nodes) m) k e in
        elim (was_edited w.nodes n m (with_header (with_passive words)) x.0 x.1) [
          | inl l ↦ (l.1.header, ap header_in (ap (get w.nodes) l.0 ∙ l.2), ap (λ (z : Header). z.kind) (sym x.2) ∙ ap (λ (z : Node). z.header.kind) (sym l.3))
          | inr l ↦ (x.0.header, ap header_in l, ap (λ (z : Header). z.kind) (sym x.2))
        ];
    there = (with_passive words h, edit_reads header_in (option_map (with_passive words)) (with_header (with_passive words)) (header-with_header (with_passive words)) w.nodes n ∙ ap (option_map (with_passive words)) at);
  }
  storing_like false w h at = record { sites = refl; servers = refl; tasks = refl; there = (h, at); kinds = λ m k e. (k, e, refl) }

  -- a task has as many names left
  pub storing_names : (b : Bool) (w : World) (t k : ℕ) → naming_asks (apply_all (storing_if b) w) t k ≡ naming_asks w t k
  storing_names true w t k = refl
  storing_names false w t k = refl

  pub storing_exact : (b : Bool) → AllExact (storing_if b)
  storing_exact true = (tt, tt)
  storing_exact false = tt

  -- whoever holds the owner's uid, or 0, could do all with the node before
  pub storing_whole : {t : ℕ} {T : Part → Type 0} {w : World} → Sound w → tree_by (info_at w n) ≡ true → (h : Header) → header_at w n ≡ Some h → T (AttrOf n) → ((S : ℕ → Bool) → S t ≡ true → OwnsIt S w h) → (b : Bool) → Whole t T w w (storing_if b)
  storing_whole {t} {T} {w} s tree h at attr owns false = whole_none s
  storing_whole {t} {T} {w} s tree h at attr owns true =
      quiet (storing_if true) (λ k e. e, tt) s (of_header n (with_passive words) (λ k. (refl, refl, refl)) (λ k. refl) (tree_header w n (with_passive words) tree) (stands s) attr (inr (inl (λ k there. refl))) (λ S ours. ((λ k there. less S (owns S ours) k (cc (at, there)), inl (λ k. refl)), tt)))
    where
      less : (S : ℕ → Bool) → OwnsIt S w h → (k : Header) → h ≡ k → Less S w n (with_passive words k) k
      less S o k same = rw (← same) (record { kind = refl; parent = λ p e. inl e; could = λ want c. Owns o.0 o.1 o.2; owns = λ z. o })

  -- whether attributes may be set stays
  pub storing_sets : (b : Bool) (w : World) (m : Name) → sets_attrs_at (apply_all (storing_if b) w) m ≡ sets_attrs_at w m
  storing_sets true w m = edit_keeps (edit_by (info_at w m)) (with_header (with_passive words)) (still (info_at w m)) w.nodes n m
    where
      still : (i : Option ServerInfo) (o : Option Node) → edit_by i (option_map (with_header (with_passive words)) o) ≡ edit_by i o
      still None o = refl
      still (Some i) None = refl
      still (Some i) (Some x) = refl
  storing_sets false w m = refl

  -- with the old words again the world is what it was
  pub storing_back : (b : Bool) (w : World) → apply_all (if b then EditHeader n (with_passive (words_at w n)) ∷ [] else []) (apply_all (storing_if b) w) ≡ w
  storing_back true w = ap (λ (m : NodeMap). record w { nodes = m }) (same_map_by _ _ (λ q. go q (same_or_apart q n)))
    where
      again : Node → Node
      again = with_header (with_passive (words_at w n))

      other : Node → Node
      other = with_header (with_passive words)

      whole : (o : Option Node) → option_map (with_header (with_passive (words_in o))) (option_map other o) ≡ o
      whole None = refl
      whole (Some x) = refl

      go : (q : Name) → (q ≡ n) ⊎ (q ≢ n) → get (edit n again (edit n other w.nodes)) q ≡ get w.nodes q
      go q (inl e) = rw e (edit_here (edit n other w.nodes) n again ∙ ap (option_map again) (edit_here w.nodes n other) ∙ whole (get w.nodes n))
      go q (inr a) = edit_apart (edit n other w.nodes) n again q a ∙ edit_apart w.nodes n other q a
  storing_back false w = refl

-- of a node that is there, whose server keeps a tree, attributes may be set
pub tree_sets : (w : World) (n : Name) (h : Header) → header_at w n ≡ Some h → tree_by (info_at w n) ≡ true → sets_attrs_at w n ≡ Ok tt
tree_sets w n h at tree = go (info_at w n) (get w.nodes n) tree at
  where
    go : (i : Option ServerInfo) (o : Option Node) → tree_by i ≡ true → header_in o ≡ Some h → edit_by i o ≡ Ok tt
    go (Some i) (Some x) t e = rw t refl
    go _ _ t e = absurd (cc)
