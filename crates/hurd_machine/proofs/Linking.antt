-- Another name for a file, as a piece of any call.
use Rattle.std.proofs.Common.{if◌then◌else◌, ◌≡◌, ℕ, Bool, true, false, not, is_some, nat_lt, List, [], ◌∷◌, Option, Some, None, refl, sym, ap, ◌∙◌, ◌+◌, inl, true≢false, arith, inr}
use Rattle.std.specs.Prelude.{Result, Ok, Err}
use Rattle.std.proofs.lemmas.Bool.Decides.{nat_tests}
use Rattle.hurd_machine.proofs.Common.{AttrOf, BodyOf, Change, Coherent, EEXIST, EISDIR, ENOSPC, ENOTDIR, EOVERFLOW, EROFS, EXDEV, EditBody, EditHeader, EmptyOf, Errno, GoodBehaviour, Header, LeadsUp, Name, Node, Part, Seen, ServerInfo, Sound, World, apply, are_kin, body_at, empty, entry_of, get, home_at, info_at, info_in, is_dir, keeps_tree, link_by, link_in, links_at, most_links, tree_by, with_entry, counts_for, overfills, space_at}
use Rattle.hurd_creds.proofs.NameLaws.{equal_if_same}
use Rattle.hurd_trans_iface.specs.Nodes.{linked}
use Rattle.hurd_trans_iface.specs.Kinds.{behaviour_of}
use Rattle.hurd_trans_iface.specs.declared.begun.ServerKind.{ServerKind}
use Rattle.hurd_machine.specs.World.{nodes_of}
use Rattle.hurd_machine.proofs.Nodes.{header_in, body_in}
use Rattle.hurd_machine.proofs.Coherence.{IsEntry, AllProper}
use Rattle.hurd_machine.proofs.Settle.{KeepsEntered}
use Rattle.hurd_machine.proofs.Filled.{filled_append, filled_entry, filled_header, tree_header}
use Rattle.hurd_machine.proofs.Confine.{Less, less_same}
use Rattle.hurd_machine.proofs.Permits.{entry_may}
use Rattle.hurd_machine.proofs.Makes.{entry_proper}
use Rattle.hurd_machine.proofs.Links.{listing_of}
use Rattle.hurd_machine.proofs.Relinks.{again_linked}
use Rattle.hurd_machine.proofs.Piece.{Whole, quiet}
use Rattle.hurd_machine.proofs.Frame.{Recounts, recounts_body}

-- where a file may get another name: in a directory of a tree that has no such entry, of the file's own server
pub record MayLink (w : World) (d : Name) (name : List ℕ) (n : Name) : Type 0 where
  pub node : Node
  pub is_node : get w.nodes d ≡ Some node
  pub dir : is_dir node.header.kind ≡ true
  pub tree : tree_by (info_at w d) ≡ true
  pub file : Node
  pub is_file : get w.nodes n ≡ Some file
  pub no_dir : is_dir file.header.kind ≡ false
  pub kin : home_at w n ≡ home_at w d
  pub absent : entry_of name (body_at w d) ≡ None

pub kin_are : (s q : Option Name) → are_kin s q ≡ true → q ≡ s
kin_are (Some s) (Some q) h = ap Some (sym (equal_if_same s q h))
kin_are s q h = absurd (cc)

first_tests : (dir grows : Bool) (r : Result (Unit {0}) Errno) (u : Unit {0}) → (if not dir then Err ENOTDIR else if not grows then Err EROFS else r) ≡ Ok u → (dir ≡ true) × (grows ≡ true) × (r ≡ Ok u)
first_tests true true r u h = (refl, refl, h)
first_tests dir grows r u h = absurd (cc)

last_tests : (kin dir : Bool) (o : Option Name) (full free : Bool) (u : Unit {0})
    → ◌≡◌ {A = Result (Unit {0}) Errno} (if not kin then Err EXDEV else if dir then Err EISDIR else if is_some o then Err EEXIST else if full then Err ENOSPC else if free then Ok tt else Err EOVERFLOW) (Ok u)
    → (kin ≡ true) × (dir ≡ false) × (o ≡ None)
last_tests true false None false free u h = (refl, refl, refl)
last_tests kin dir o full free u h = absurd (cc)

pub may_link : (w : World) (d : Name) (name : List ℕ) (n : Name) (u : Unit {0}) → links_at w d name n ≡ Ok u → MayLink w d name n
may_link w d name n u = go (info_at w d) (get w.nodes d) (get w.nodes n) refl refl refl
  where
    kin : Bool
    kin = are_kin (home_at w d) (home_at w n)

    go : (i : Option ServerInfo) (o p : Option Node) → info_at w d ≡ i → get w.nodes d ≡ o → get w.nodes n ≡ p → link_by name kin i (space_at w d) o p ≡ Ok u → MayLink w d name n
    go None o p is_info at_d at_n h = absurd (cc)
    go (Some i) None p is_info at_d at_n h = absurd (cc)
    go (Some i) (Some x) None is_info at_d at_n h = let l = first_tests (is_dir x.header.kind) (keeps_tree i.kind) (link_in (space_at w d) name kin x None) u h in absurd (cc (l.2))
    go (Some i) (Some x) (Some y) is_info at_d at_n h =
        let l = first_tests (is_dir x.header.kind) (keeps_tree i.kind) (link_in (space_at w d) name kin x (Some y)) u h in
        let k = last_tests kin (is_dir y.header.kind) (entry_of name (Some x.body)) (overfills (space_at w d) (counts_for y.header) (counts_for (linked y.header))) (nat_lt y.header.links most_links) u l.2 in
        record {
          node = x;
          is_node = at_d;
          dir = l.0;
          tree = ap tree_by is_info ∙ l.1;
          file = y;
          is_file = at_n;
          no_dir = k.1;
          kin = kin_are (home_at w d) (home_at w n) k.0;
          absent = ap (λ o. entry_of name (body_in o)) at_d ∙ k.2;
        }

-- what has a link more is entered if it was
linked_entered : KeepsEntered linked
linked_entered h = go (is_dir h.kind)
  where
    go : (b : Bool) → (if b then is_some h.parent else nat_lt 0 h.links) ≡ true → (if b then is_some h.parent else nat_lt 0 (h.links + 1)) ≡ true
    go true e = e
    go false e = grind (arith, nat_tests)

module _ (d : Name) (name : List ℕ) (n : Name) where
  abbrev added : List Change
  added = EditBody d (with_entry name n) ∷ []

  abbrev counted : List Change
  counted = EditHeader n linked ∷ []

  abbrev linking : List Change
  linking = EditBody d (with_entry name n) ∷ EditHeader n linked ∷ []

  link_proper : (w : World) → Coherent w → MayLink w d name n → AllProper w linking
  link_proper w c m = (entry_proper w c d name n m.absent new_entry, λ one. (λ h is. (refl, inl refl), λ two. tt))
    where
      new_entry : IsEntry w d n
      new_entry = record {
        made = c.given.nodes n m.file m.is_file;
        kin = m.kin;
        tree = m.tree;
        below = λ h eh dir.
            let same : m.file.header ≡ h = cc (ap header_in m.is_file, eh) in
            absurd (true≢false (sym (ap is_dir dir) ∙ ap (λ (k : Header). is_dir k.kind) (sym same) ∙ m.no_dir));
      }

  -- a link more shows nothing
  linked_less : (S : ℕ → Bool) (v : World) (h : Header) → Less S v n (linked h) h
  linked_less S v h = less_same S v n (linked h) h refl refl refl refl (λ p e. inl e)

  -- in a directory that leads up
  pub link_whole : ((k : ServerKind) → GoodBehaviour (behaviour_of k)) → {t : ℕ} {T : Part → Type 0} {w : World} → Sound w → MayLink w d name n → LeadsUp (nodes_of w) d → T (BodyOf d) → T (EmptyOf d) → T (AttrOf n) → Recounts T w n linked
      → ((S : ℕ → Bool) → S t ≡ true → Seen S w n) → Whole t T w w linking
  link_whole good {t} {T} {w} s m up body empty attr counts seen =
      let grown : World = apply (EditBody d (with_entry name n)) w in
      let listing = listing_of m.node.header m.node.body (s.coherent.tree.shapes d m.node m.is_node) m.dir in
      quiet linking (tt, (linked_entered, tt)) s (record {
        within = ((body, inl empty), ((attr, recounts_body T w d (with_entry name n) n linked counts), tt));
        proper = link_proper w s.coherent m;
        linked = again_linked w d n name linked m.node listing.0 m.file.header m.is_node listing.1 (ap header_in m.is_file) m.no_dir up (λ h. (refl, refl)) refl s.linked;
        filled = filled_append added counted w (filled_entry good w d name n m.tree) (filled_header grown n linked (λ h. refl) (tree_header grown n linked (ap (λ o. tree_by (info_in w.servers o)) m.kin ∙ m.tree))) s.filled;
        held = s.settled.opens;
        may = λ S ours. (entry_may S w w d name n (inl (seen S ours)), ((λ h at. linked_less S w h, inr (inl (seen S ours))), tt));
      })
