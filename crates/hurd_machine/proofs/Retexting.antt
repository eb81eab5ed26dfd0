-- A server gets another text, and its nodes their sizes, as a piece of any call.
use Rattle.std.proofs.Common.{◌≡◌, ◌≢◌, arith, length, map, ℕ, Bool, true, false, List, [], ◌∷◌, Option, Some, None, sym, refl, ◌∙◌, ap, subst, inl, inr}
use Rattle.std.specs.Prelude.{is_some}
use Rattle.hurd_machine.proofs.Common.{AreFilled, AttrOf, Change, Coherent, IsAmong, IsFilled, Name, NameMap, Node, NodeMap, OptionsOf, TextOf, faced, keeps_tree, known_text, Part, ServerInfo, SetText, Site, Sound, World, apply_all, changes_of, edit, edit_all, empty, entries, entries-insert, eq_by_cmp, get, get-empty, home_at, home_in, info_in, insert, is_one, list_any, name_cmp, own_nodes, put, retain_keys, retexting, server_at, size_of, sizing, sizing_unless, with_header, with_size, with_text, Seen, info_at, tree_by}
use Rattle.std.specs.Option.{option_map}
use Rattle.std.specs.FinMap.{keys, contains_key-keys, len-entries, len-empty}
use Rattle.hurd_nodes.proofs.Sites.{site-of}
use Rattle.hurd_creds.proofs.NameLaws.{same_map_by, tied-itself, equal_if_tied, same_name-itself, same_or_apart, edit_here, edit_apart, name_total, get_here, get_apart}
use Rattle.hurd_trans_iface.specs.Kinds.{behaviour_of}
use Rattle.hurd_trans_iface.specs.Meaning.{root_of, targets_of}
use Rattle.hurd_trans_iface.specs.Good.{KeepsRoot}
use Rattle.hurd_trans_iface.proofs.BodyLaws.{size_has}
use Rattle.hurd_machine.specs.World.{nodes_of}
use Rattle.hurd_trans_iface.specs.Texts.{is_link}
use Rattle.hurd_machine.proofs.Faces.{lone_untold}
use Rattle.hurd_machine.proofs.Nodes.{edited_from, server_home}
use Rattle.hurd_machine.proofs.Sites.{home_is}
use Rattle.hurd_machine.proofs.Coherence.{AllProper, KeepsShape}
use Rattle.hurd_creds.proofs.Retained.{retained, dropped, was_retained}
use Rattle.hurd_machine.proofs.Frame.{AllWithin}
use Rattle.hurd_machine.proofs.Settle.{AreQuiet}
use Rattle.hurd_machine.proofs.Filled.{KeepsFilled}
use Rattle.hurd_machine.proofs.Links.{AreSteady, linked_steady}
use Rattle.hurd_machine.proofs.Several.{AllMay}
use Rattle.hurd_machine.proofs.Held.{AllKeepHeld, held_all}
use Rattle.hurd_machine.proofs.Permits.{size_may}
use Rattle.hurd_machine.proofs.Piece.{Whole, whole_none, quiet}
use Rattle.hurd_machine.proofs.Holders.{any_among, any_of}
use Rattle.std.proofs.lemmas.Bool.{cases_Bool}
use Rattle.hurd_machine.proofs.Confine.{SeenOrNew, Commands, commands_send, sends_root}

-- the names in a map, as a list

abbrev ties : Name → Name → Bool
ties n m = eq_by_cmp name_cmp n m

among_any : (n : Name) (ns : List Name) → list_any (ties n) ns ≡ true → IsAmong n ns
among_any n ns h = let l = any_of (ties n) ns h in subst (λ m. IsAmong m ns) (sym (equal_if_tied n l.0 l.2)) l.1

-- a server's own nodes are among those of that list, and no others

pub own_here : (s n : Name) (sites : NameMap Site) → home_in sites n ≡ Some s → IsAmong n (own_nodes s sites)
own_here s n sites e =
    let r = site-of sites n s e in
    among_any n _ (sym (contains_key-keys (retain_keys sites (λ m. is_one s (home_in sites m))) n)
    ∙ ap is_some (retained sites (λ m. is_one s (home_in sites m)) n (ap (is_one s) e ∙ same_name-itself s) ∙ r.1))

pub own_home : (s n : Name) (sites : NameMap Site) → IsAmong n (own_nodes s sites) → home_in sites n ≡ Some s
own_home s n sites i = go (get own n) refl
  where
    own : NameMap Site
    own = retain_keys sites (λ m. is_one s (home_in sites m))

    go : (o : Option Site) → get own n ≡ o → home_in sites n ≡ Some s
    go None e =
        let bad : false ≡ true = sym (ap is_some e) ∙ contains_key-keys own n ∙ any_among (ties n) n (keys own) i (tied-itself n) in
        absurd (cc)
    go (Some q) e = home_is s (home_in sites n) (was_retained sites (λ m. is_one s (home_in sites m)) n q e).1

none_long : {A : Type 0} (xs : List A) → 0 ≡ length xs → xs ≡ []
none_long [] e = refl
none_long (x ∷ xs) e = absurd (omega arith)

-- a map that has one name has that name
one_key : (m : NameMap Site) (r : Name) (x : Site) → get m r ≡ Some x → ((n : Name) → n ≢ r → get m n ≡ None) → keys m ≡ r ∷ []
one_key m r x here none =
    ap keys (same_map_by m (insert empty r x) (λ n. elim (same_or_apart n r) [
      | inl e ↦ rw e (here ∙ sym (get_here {X = Site} empty r x))
      | inr apart ↦ none n apart ∙ sym (get_apart {X = Site} empty r x n apart ∙ get-empty name_cmp n)
    ]))
    ∙ ap (map (λ (e : Name × Site). e.0)) (entries-insert name_total empty r x ∙ ap (put name_cmp r x) (none_long (entries (empty {X = Site})) (sym (len-empty name_cmp Site) ∙ len-entries (empty {X = Site} {R = name_cmp}))))

-- a server that has its root alone has the same nodes in both
own_one : (s r : Name) (sites : NameMap Site) → home_in sites r ≡ Some s → ((n : Name) → home_in sites n ≡ Some s → n ≡ r) → own_nodes s sites ≡ r ∷ []
own_one s r sites at lone =
    let x = site-of sites r s at in
    one_key (retain_keys sites own) r x.0 (retained sites own r (ap (is_one s) at ∙ same_name-itself s) ∙ x.1) (λ n apart. elim (cases_Bool (own n)) [
      | inl h ↦ absurd (apart (lone n (home_is s (home_in sites n) h)))
      | inr h ↦ dropped sites own n h
    ])
  where
    own : Name → Bool
    own n = is_one s (home_in sites n)

-- nodes that get a size

module _ (k : ℕ) where
  abbrev pub sized : Node → Node
  sized = with_header (with_size k)

  abbrev pub sizes : List Name → List Change
  sizes ns = changes_of (sizing k ns)

  pub sizes_done : (ns : List Name) (w : World) → apply_all (sizes ns) w ≡ record w { nodes = edit_all (sizing k ns) w.nodes }
  sizes_done [] w = refl
  sizes_done (n ∷ ns) w = sizes_done ns (record w { nodes = edit n sized w.nodes })

  twice : (o : Option Node) → option_map sized (option_map sized o) ≡ option_map sized o
  twice None = refl
  twice (Some x) = refl

  -- a node that has it keeps it
  sized_yet : (ns : List Name) (m : NodeMap) (n : Name) (o : Option Node) → get m n ≡ option_map sized o → get (edit_all (sizing k ns) m) n ≡ option_map sized o
  sized_yet [] m n o e = e
  sized_yet (q ∷ ns) m n o e = sized_yet ns (edit q sized m) n o (elim (same_or_apart n q) [
    | inl same ↦ rw same (edit_here m q sized ∙ ap (option_map sized) (rw same at e) ∙ twice o)
    | inr apart ↦ edit_apart m q sized n apart ∙ e
  ])

  pub sized_here : (ns : List Name) (m : NodeMap) (n : Name) → IsAmong n ns → get (edit_all (sizing k ns) m) n ≡ option_map sized (get m n)
  sized_here [] m n i = absurd i
  sized_here (q ∷ ns) m n (inl e) = sized_yet ns (edit q sized m) n (get m n) (rw e (edit_here m n sized))
  sized_here (q ∷ ns) m n (inr i) = elim (same_or_apart n q) [
    | inl same ↦ sized_yet ns (edit q sized m) n (get m n) (rw same (edit_here m q sized))
    | inr apart ↦ sized_here ns (edit q sized m) n i ∙ ap (option_map sized) (edit_apart m q sized n apart)
  ]

  pub sized_apart : (ns : List Name) (m : NodeMap) (n : Name) → (IsAmong n ns → ⊥) → get (edit_all (sizing k ns) m) n ≡ get m n
  sized_apart [] m n out = refl
  sized_apart (q ∷ ns) m n out = sized_apart ns (edit q sized m) n (λ i. out (inr i)) ∙ edit_apart m q sized n (λ e. out (inl (sym e)))

  -- they write headers alone, may be made, take nothing away, leave how nodes hang, and what is open
  sizes_piece : (T : Part → Type 0) (ns : List Name) (w : World) → ((n : Name) → IsAmong n ns → T (AttrOf n)) → ((n : Name) → IsAmong n ns → tree_by (info_at w n) ≡ false)
      → AllWithin T w (sizes ns) × AllProper w (sizes ns) × AreQuiet w (sizes ns) × AreSteady (sizes ns) × ((S : ℕ → Bool) (v : World) → ((n : Name) → IsAmong n ns → SeenOrNew S v n) → AllMay S v w (sizes ns)) × AllKeepHeld (sizes ns)
  sizes_piece T [] w attrs lone = (tt, tt, tt, tt, λ S v known. tt, tt)
  sizes_piece T (n ∷ ns) w attrs lone =
      let l = sizes_piece T ns (record w { nodes = edit n sized w.nodes }) (λ m i. attrs m (inr i)) (λ m i. lone m (inr i)) in
      (((attrs n (inl refl), inl (lone n (inl refl))), l.0), (λ h is. (refl, inl refl), λ one. l.1), (λ h e. e, l.2), (λ h. (refl, refl, refl), l.3), λ S v known. ((λ h is. size_may S v n k h, inr (known n (inl refl))), l.4 S v (λ m i. known m (inr i))), (tt, l.5))

-- the whole piece

module _ (w : World) (s : Name) (i : ServerInfo) where
  abbrev own : List Name
  own = own_nodes s w.sites

  -- a text that the server may get
  abbrev pub MayGet : Option (List ℕ) → Type 0
  MayGet o = (text : List ℕ) → o ≡ Some text → KeepsRoot (behaviour_of i.kind) text

  -- where it keeps no tree, it has its root alone
  root_alone : Coherent w → server_at w s ≡ Some i → keeps_tree i.kind ≡ false → (n : Name) → home_at w n ≡ Some s → n ≡ i.root
  root_alone c is lone n home = c.housing.lone n s i home is lone

  module _ (text : List ℕ) where
    abbrev k : ℕ
    k = size_of i.kind text

    -- the changes, where it keeps a tree or doesn't
    abbrev retexts : Bool → List Change
    retexts tree = SetText s text ∷ changes_of (sizing_unless tree k own)

    abbrev set : World
    set = record w { servers = edit s (with_text text) w.servers }

    -- the server is as before, except for its text
    info_set : (n : Name) → server_at w s ≡ Some i → home_at w n ≡ Some s → info_at set n ≡ Some (with_text text i)
    info_set n is home = ap (info_in set.servers) home ∙ edit_here w.servers s (with_text text) ∙ ap (option_map (with_text text)) is

    -- and others are as before
    info_other : (q n : Name) → home_at w n ≡ Some q → q ≢ s → info_at set n ≡ info_at w n
    info_other q n home apart = ap (info_in set.servers) home ∙ edit_apart w.servers s (with_text text) q apart ∙ sym (ap (info_in w.servers) home)

    -- a tree's nodes have the sizes that they had
    tree_filled : server_at w s ≡ Some i → KeepsRoot (behaviour_of i.kind) text → keeps_tree i.kind ≡ true → AreFilled (nodes_of w) → AreFilled (nodes_of set)
    tree_filled is keeps tree fit n x j e ej = let q = server_home (nodes_of set) n j ej in elim (same_or_apart q.0 s) [
      | inl same ↦
          let home : home_at w n ≡ Some s = q.1 ∙ ap Some same in
          let known : with_text text i ≡ j = cc (info_set n is home, ej) in
          let old = fit n x i e (ap (info_in w.servers) home ∙ is) in
          subst (λ (z : ServerInfo). IsFilled z x) known (old.0 ∙ keeps.grown tree i.text x.body, old.1, old.2)
      | inr apart ↦ fit n x j e (sym (info_other q.0 n q.1 apart) ∙ ej)
    ]

    -- the root of another server gets the size that the text says
    lone_filled : server_at w s ≡ Some i → KeepsRoot (behaviour_of i.kind) text → keeps_tree i.kind ≡ false → KeepsFilled w (retexts false)
    lone_filled is keeps lone fit = subst (λ (x : World). AreFilled (nodes_of x)) (sym (sizes_done k own set)) now
      where
        left : World
        left = record set { nodes = edit_all (sizing k own) w.nodes }

        now : AreFilled (nodes_of left)
        now n x j e ej = let q = server_home (nodes_of left) n j ej in elim (same_or_apart q.0 s) [ inl same ↦ here (q.1 ∙ ap Some same) | inr apart ↦ there q.0 q.1 apart ]
          where
            -- a node of this server
            here : home_at w n ≡ Some s → IsFilled j x
            here home =
                let known : with_text text i ≡ j = cc (info_set n is home, ej) in
                let l = edited_from (sized k) (get w.nodes n) x (sym (sized_here k own w.nodes n (own_here s n w.sites home)) ∙ e) in
                let old = fit n l.0 i l.1 (ap (info_in w.servers) home ∙ is) in
                subst (λ (z : ServerInfo). IsFilled z x) known (subst (IsFilled (with_text text i)) l.2 (sym (keeps.sized lone l.0.body), old.1, size_has (Some k) i.kind l.0.header old.2))

            -- or of another
            there : (q : Name) → home_at w n ≡ Some q → q ≢ s → IsFilled j x
            there q home apart =
                let other : IsAmong n own → ⊥ = λ among. let it : home_at w n ≡ Some s = own_home s n w.sites among in apart (cc (home, it)) in
                fit n x j (sym (sized_apart k own w.nodes n other) ∙ e) (sym (info_other q n home apart) ∙ ej)

    fits : server_at w s ≡ Some i → KeepsRoot (behaviour_of i.kind) text → KeepsShape w s text
    fits is keeps j e =
        let same : i ≡ j = cc (is, e) in
        subst (λ (z : ServerInfo). (root_of z.kind text ≡ root_of z.kind z.text) × (targets_of z.kind text ≡ targets_of z.kind z.text)) same (sym (keeps.rooted i.text), sym (keeps.aimed i.text))

    -- where it keeps no tree, its readers alone were given the text that it had, and are given this one
    unseen : server_at w s ≡ Some i → KeepsRoot (behaviour_of i.kind) text → keeps_tree i.kind ≡ false → (j : ServerInfo) → server_at w s ≡ Some j → faced (with_text text j) ≡ faced j
    unseen is keeps lone j e =
        let same : i ≡ j = cc (is, e) in
        let none : known_text i.kind text ≡ [] = lone_untold i.kind text keeps.no_link lone in
        let before : known_text i.kind i.text ≡ [] = lone_untold i.kind i.text (ap (λ r. is_link r.crossing) (keeps.rooted i.text) ∙ keeps.no_link) lone in
        let hidden : known_text i.kind text ≡ known_text i.kind i.text = none ∙ sym before in
        subst (λ (z : ServerInfo). faced (with_text text z) ≡ faced z) same (ap (λ (x : List ℕ). with_text x i) hidden)

    -- of a tree whoever knows it is told the text
    module _ {t : ℕ} {T : Part → Type 0} (st : Sound w) (is : server_at w s ≡ Some i) (keeps : KeepsRoot (behaviour_of i.kind) text) (told : T (TextOf s)) (commands : (S : ℕ → Bool) → S t ≡ true → Commands S w s) where
      tree_whole : keeps_tree i.kind ≡ true → T (OptionsOf s) → Whole t T w w (retexts true)
      tree_whole tree options = quiet (retexts true) (tt, tt) st (record {
        within = ((told, inr options), tt);
        proper = (fits is keeps, λ one. tt);
        linked = linked_steady (retexts true) w (tt, tt) st.linked;
        filled = tree_filled is keeps tree st.filled;
        held = held_all (retexts true) w (tt, tt) st.settled.opens;
        may = λ S ours. (commands S ours, tt);
      })

      lone_whole : keeps_tree i.kind ≡ false → T (AttrOf i.root) → Whole t T w w (retexts false)
      lone_whole lone attr =
          let alone : (n : Name) → IsAmong n own → n ≡ i.root = λ n among. root_alone st.coherent is lone n (own_home s n w.sites among) in
          let l = sizes_piece k T own set (λ n among. subst (λ m. T (AttrOf m)) (sym (alone n among)) attr) (λ n among. ap tree_by (info_set n is (own_home s n w.sites among)) ∙ lone) in
          quiet (retexts false) (tt, l.2) st (record {
            within = ((told, inl (unseen is keeps lone)), l.0);
            proper = (fits is keeps, λ one. l.1);
            linked = linked_steady (retexts false) w (tt, l.3) st.linked;
            filled = lone_filled is keeps lone st.filled;
            held = held_all (retexts false) w (tt, l.5) st.settled.opens;
            may = λ S ours. (
              commands S ours,
              l.4 S w (λ n among. inl (subst (Seen S w) (sym (alone n among)) (sends_root S w s i is (commands_send S w s i is (commands S ours))))),
            );
          })

  -- it writes the text, and of a tree what whoever knows it is told, of any other server the size of its root
  pub retexts_whole : {t : ℕ} {T : Part → Type 0} → Sound w → server_at w s ≡ Some i → (o : Option (List ℕ)) → MayGet o → T (TextOf s) → (keeps_tree i.kind ≡ true → T (OptionsOf s)) → (keeps_tree i.kind ≡ false → T (AttrOf i.root))
      → ((S : ℕ → Bool) → S t ≡ true → Commands S w s) → Whole t T w w (retexting w s i o)
  retexts_whole {t} {T} st is None keeps told options attr commands = whole_none st
  retexts_whole {t} {T} st is (Some text) keeps told options attr commands = by (keeps_tree i.kind) refl
    where
      by : (tree : Bool) → keeps_tree i.kind ≡ tree → Whole t T w w (retexts text tree)
      by true tree = tree_whole text st is (keeps text refl) told commands tree (options tree)
      by false lone = lone_whole text st is (keeps text refl) told commands lone (attr lone)

-- in two worlds where it is known as the same server the piece is the same
pub retexts_same : (v w : World) → Coherent v → Coherent w → (s : Name) (i : ServerInfo) → server_at v s ≡ Some i → server_at w s ≡ Some i → (o : Option (List ℕ)) → retexting w s i o ≡ retexting v s i o
retexts_same v w cv cw s i in_v in_w None = refl
retexts_same v w cv cw s i in_v in_w (Some text) = by (keeps_tree i.kind) refl
  where
    retexted_by : List Name → List Change
    retexted_by ns = SetText s text ∷ changes_of (sizing (size_of i.kind text) ns)

    by : (tree : Bool) → keeps_tree i.kind ≡ tree
        → ◌≡◌ {A = List Change} (SetText s text ∷ changes_of (sizing_unless tree (size_of i.kind text) (own_nodes s w.sites))) (SetText s text ∷ changes_of (sizing_unless tree (size_of i.kind text) (own_nodes s v.sites)))
    by true tree = refl
    by false lone =
        ap retexted_by
        (own_one s i.root w.sites (cw.housing.roots s i in_w) (root_alone w s i cw in_w lone) ∙ sym (own_one s i.root v.sites (cv.housing.roots s i in_v) (root_alone v s i cv in_v lone)))
