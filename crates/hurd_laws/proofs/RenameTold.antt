-- Replies of giving entries other directories and names tell no internal names.
use Rattle.std.proofs.Common.{◌≡◌, ℕ, zero, suc, ◌||◌, Bool, List, Option, Some, None, Result, Ok, not, refl, ap, ap₂, ◌∙◌, if◌then◌else◌}
use Rattle.std.specs.Prelude.{◌&&◌}
use Rattle.std.specs.Option.{option_map}
use Rattle.hurd_machine.proofs.Common.{EACCES, EBUSY, EDIED, EISDIR, ENOTDIR, ENOTEMPTY, EROFS, EXDEV, Errno, Header, Name, Named, World, body_at, entry_of, header_at, is_dir}
use Rattle.hurd_machine.specs.Plan.{given}
use Rattle.hurd_machine.specs.Renamed.{OtherNames, header_renamed, renamed}
use Rattle.hurd_machine.proofs.RenamedHandles.{both_asks-renamed, both_renamed, named_renamed, on_header-renamed}
use Rattle.hurd_machine.proofs.RenamedMaps.{same_name-renamed}
use Rattle.hurd_machine.proofs.RenamedNodes.{entry_at-renamed, header_at-renamed, kin_at-renamed}
use Rattle.hurd_machine.proofs.RenamedPlans.{answer_renamed, answered-renamed, first-given, first-renamed, given-renamed, on-renamed, on-told}
use Rattle.hurd_machine.proofs.RenamedServers.{is_removed-renamed, tree_at-renamed}
use Rattle.hurd_dirs.specs.Entry.{may_change, may_take}
use Rattle.hurd_dirs.specs.Rename.{above, gives_way, is_inside, leaves_asks, met_within, old_asks, parent_in, plan_rename, rename_asks, renames, trees_ask}
use Rattle.hurd_laws.proofs.KeptTypes.{Third}
use Rattle.hurd_laws.proofs.RemoveTold.{empty_at-renamed, is_active-renamed}

-- what goes where
abbrev pub Move : Type 0
Move = Third renames

module _ (f : OtherNames) where
  -- what goes, and its header
  abbrev pub leaving_renamed : Name × Header → Name × Header
  leaving_renamed l = (f.to l.0, header_renamed f.to l.1)

  -- what goes where, with other names of all of it
  abbrev pub move_renamed : Move → Move
  move_renamed r = record { from = f.to r.from; to = f.to r.to; node = f.to r.node; old = option_map f.to r.old }

  -- whether a directory is another, or below it

  pub parent_in-renamed : (o : Option Header) → parent_in (option_map (header_renamed f.to) o) ≡ option_map f.to (parent_in o)
  parent_in-renamed None = refl
  parent_in-renamed (Some h) = refl

  pub above-renamed : (p q : Name → Bool) → ((n : Name) → q (f.to n) ≡ p n) → (o : Option Name) → above q (option_map f.to o) ≡ above p o
  above-renamed p q alike None = refl
  above-renamed p q alike (Some n) = alike n

  module _ (w : World) where
    pub met_within-renamed : (k : ℕ) (n d : Name) → met_within k (renamed f w) (f.to n) (f.to d) ≡ met_within k w n d
    unfolding met_within
    met_within-renamed zero n d = refl
    met_within-renamed (suc k) n d = ap₂ ◌||◌ (same_name-renamed f d n) (
        ap (λ o. above (met_within k (renamed f w) (f.to n)) (parent_in o)) (header_at-renamed f w d)
        ∙ ap (above (met_within k (renamed f w) (f.to n))) (parent_in-renamed (header_at w d))
        ∙ above-renamed (met_within k w n) (met_within k (renamed f w) (f.to n)) (met_within-renamed k n) (parent_in (header_at w d)))

    pub is_inside-renamed : (n d : Name) → is_inside (renamed f w) (f.to n) (f.to d) ≡ is_inside w n d
    unfolding is_inside
    is_inside-renamed n d = met_within-renamed 18446744073709551615 n d

    -- both directories, what goes, and what gives way

    pub trees_ask-renamed : (a b : Named) → trees_ask (renamed f w) (named_renamed f a) (named_renamed f b) ≡ trees_ask w a b
    trees_ask-renamed a b =
        ap₂ (λ (trees kin : Bool). given ENOTDIR (is_dir a.header.kind && is_dir b.header.kind) (given EROFS trees (given EXDEV kin (given EACCES (may_change a && may_change b) (Ok tt)))))
        (ap₂ ◌&&◌ (tree_at-renamed f w a.right.node) (tree_at-renamed f w b.right.node)) (kin_at-renamed f w a.right.node b.right.node)

    pub leaves_asks-renamed : (name : List ℕ) (a b : Named) → leaves_asks (renamed f w) name (named_renamed f a) (named_renamed f b) ≡ answer_renamed leaving_renamed (leaves_asks w name a b)
    leaves_asks-renamed name a b = given-renamed leaving_renamed _ _ (ap not (is_removed-renamed f w b.right.node b.header)) (
        on-renamed f.to leaving_renamed _ _ _ _ (entry_at-renamed f w a.right.node name) (λ n.
        on_header-renamed f w leaving_renamed EDIED n _ _ (λ k.
        given-renamed leaving_renamed _ _ (kin_at-renamed f w a.right.node n) (
        given-renamed leaving_renamed _ _ refl (
        given-renamed leaving_renamed _ _ (ap (λ (inside : Bool). not (is_dir k.kind && inside)) (is_inside-renamed n b.right.node)) refl)))))

    pub gives_way-renamed : (b : Named) (k : Header) (m : Name) → gives_way (renamed f w) (named_renamed f b) (header_renamed f.to k) (f.to m) ≡ gives_way w b k m
    gives_way-renamed b k m = on-told (header_renamed f.to) _ _ _ _ (header_at-renamed f w m) (λ j.
        ap₂ (λ (kin : Bool) (rest : Result (Unit {0}) Errno). given EDIED kin (
        given EACCES (may_take b.right.ids b.header j) (given ENOTDIR (not (is_dir k.kind) || is_dir j.kind) (given EISDIR (is_dir k.kind || not (is_dir j.kind)) rest))))
        (kin_at-renamed f w b.right.node m)
        (ap₂ (λ (active empty : Bool). given EBUSY (not (is_dir j.kind && active)) (given ENOTEMPTY (not (is_dir j.kind) || empty) (Ok tt))) (is_active-renamed f w m) (empty_at-renamed f w m)))

    pub old_asks-renamed : (b : Named) (l : Name × Header) (o : Option Name) → old_asks (renamed f w) (named_renamed f b) (leaving_renamed l) (option_map f.to o) ≡ old_asks w b l o
    old_asks-renamed b l None = refl
    old_asks-renamed b l (Some m) = ap₂ (λ (same : Bool) (way : Result (Unit {0}) Errno). if same then Ok tt else way) (same_name-renamed f l.0 m) (gives_way-renamed b l.1 m)

    pub rename_asks-renamed : (t p : ℕ) (name : List ℕ) (q : ℕ) (new : List ℕ) → rename_asks (renamed f w) t p name q new ≡ answer_renamed move_renamed (rename_asks w t p name q new)
    rename_asks-renamed t p name q new = first-renamed (both_renamed f) move_renamed _ _ _ (both_asks-renamed f w t p q) (λ a.
        let old = entry_at-renamed f w a.1.right.node new in
        first-given move_renamed _ _ refl (λ u. first-given move_renamed _ _ refl (λ v.
        first-given move_renamed _ _ (trees_ask-renamed a.0 a.1) (λ d.
        first-renamed leaving_renamed move_renamed _ _ _ (leaves_asks-renamed name a.0 a.1) (λ l.
        first-given move_renamed _ _ (ap (old_asks (renamed f w) (named_renamed f a.1) (leaving_renamed l)) old ∙ old_asks-renamed a.1 l (entry_of new (body_at w a.1.right.node))) (λ o.
        ap (λ (o : Option Name). Ok (record { from = f.to a.0.right.node; to = f.to a.1.right.node; node = f.to l.0; old = o })) old))))))

  pub rename_told : (w : World) (t p : ℕ) (name : List ℕ) (q : ℕ) (new : List ℕ) → (plan_rename (renamed f w) t p name q new).reply ≡ (plan_rename w t p name q new).reply
  rename_told w t p name q new = answered-renamed move_renamed _ _ _ (rename_asks-renamed w t p name q new) (λ r. refl)
