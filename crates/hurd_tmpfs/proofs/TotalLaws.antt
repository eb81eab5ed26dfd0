-- What the nodes of a tree count for in all, before and after changes of the nodes.
use Rattle.std.proofs.Common.{◌≡◌, ◌≢◌, inl, inr, ◌<◌, ◌≤◌, ◌+◌, ◌-◌, ◌*◌, ◌^◌, ℕ, List, [], ◌∷◌, length, refl, ap, sym, subst, ◌∙◌, arith}
use Rattle.std.specs.Prelude.{Option, Some, None}
use Rattle.std.specs.Option.{option_map}
use Rattle.std.specs.Map.{lookup}
use Rattle.std.specs.FinMap as fin
use Rattle.indexmap.specs.IndexMap.{index_map_len}
use Rattle.hurd_creds.specs.Names.{name_cmp, same_name}
use Rattle.hurd_creds.specs.NameMaps.{edit}
use Rattle.hurd_creds.specs.declared.name.Name.{Name}
use Rattle.hurd_creds.proofs.NameLaws.{same_name-apart, same_or_apart, get_here, get_apart, remove_here, remove_apart, edit_here, edit_apart}
use Rattle.hurd_creds.proofs.Sums.{of_found, total, total_above, total_else, total_none, total_pointwise, total_remove}
use Rattle.hurd_trans_iface.specs.Nodes.{Body, Header, Node, NodeMap, edit_all, linked, moved_to, unlinked, with_body, with_header}
use Rattle.hurd_trans_iface.specs.Answers.{added, header_after, link_edits, move_edits, unlink_edits}
use Rattle.hurd_trans_iface.specs.declared.header_edit.HeaderEdit.{HeaderEdit}
use Rattle.hurd_trans_iface.specs.declared.header_edit.HeaderEdit.TheVariants.{SetAttrs, SetPassive}
use Rattle.hurd_trans_iface.specs.Totals.{counts_for, total_in}
use Rattle.hurd_tmpfs.specs.Totals.{AreSmall, IsTotal, WasTotal, counted_at}
use Rattle.hurd_tmpfs.specs.Tree.{nodes_of}
use Rattle.hurd_tmpfs.specs.declared.inodes.Inodes.{Inodes}
use Rattle.hurd_tmpfs.proofs.AlikeLaws.{AlikeElse, insert-else}
use Rattle.hurd_tmpfs.proofs.StoredLaws.{node-absent}

-- what a node counts for
abbrev count : Node → ℕ
count x = counts_for x.header

-- in both maps each name counts for as much
abbrev pub Counts : NodeMap → NodeMap → Type 0
Counts m k = (q : Name) → counted_at (fin.get k q) ≡ counted_at (fin.get m q)

-- the number of what may be there, in both words
found_is : (o : Option Node) → of_found count o ≡ counted_at o
found_is None = refl
found_is (Some x) = refl

-- and the sum
sums : (m : NodeMap) → total count m ≡ total_in m
unfolding total_in
sums m = refl

-- a node put in place of one that counted for as much
pub insert-counts : (n : Name) (x y : Node) (m : NodeMap) → fin.get m n ≡ Some x → counts_for y.header ≡ counts_for x.header → Counts m (fin.insert m n y)
insert-counts n x y m is same q = elim (same_or_apart q n) [
  | inl e ↦ rw e (ap counted_at (get_here m n y) ∙ same ∙ sym (ap counted_at is))
  | inr apart ↦ (insert-else n y m q apart).counted
]

-- an edit of the header leaves what a node counts for
pub after-counts : (e : HeaderEdit) (h : Header) → counts_for (header_after e h) ≡ counts_for h
after-counts (SetAttrs owner group mode) h = refl
after-counts (SetPassive words) h = refl

-- the total

-- where no name counts for other than it did, the total stays
pub total-kept : (m k l : NodeMap) (t : ℕ) → l ≡ k → Counts m k → IsTotal m t → IsTotal l t
total-kept m k l t same counts is =
    let all : total count k ≡ total count m = total_pointwise count m k (λ q. found_is (fin.get k q) ∙ counts q ∙ sym (found_is (fin.get m q))) in
    rw same (is.0 ∙ sym (sums m) ∙ sym all ∙ sums k, λ q. subst (λ (z : ℕ). z < 2 ^ 64) (sym (counts q)) (is.1 q))

-- where one name may count for other than it did, it was the total
pub total-before : (n : Name) (m k l : NodeMap) (t before : ℕ) → l ≡ k → AlikeElse n m k → IsTotal m t → before ≡ counted_at (fin.get m n) → WasTotal l n before t
total-before n m k l t before same counts is counted = rw same was
  where
    was : WasTotal k n before t
    was =
        let all = total_else count m k n (λ q apart. found_is (fin.get k q) ∙ (counts q apart).counted ∙ sym (found_is (fin.get m q))) in
        let a = found_is (fin.get m n) in
        let b = found_is (fin.get k n) in
        let c = sums m in
        let d = sums k in
        let e = is.0 in
        (omega (arith, all, a, b, c, d, e, counted), λ q apart. subst (λ (z : ℕ). z < 2 ^ 64) (sym (counts q apart).counted) (is.1 q))

-- of no nodes
pub total-nothing : (m : NodeMap) → m ≡ fin.empty → IsTotal m 0
total-nothing m none =
    let absent = λ (q : Name). ap (λ (k : NodeMap). fin.get k q) none ∙ fin.get-empty {X = Node} name_cmp q in
    let all = total_none count m (λ q x is. let gone = absent q in absurd (cc)) in
    let is = sums m in
    (omega (arith, all, is), λ q. rw (absent q) (omega arith))

-- each node counts for no more than all
below-total : (m : NodeMap) (n : Name) → counted_at (fin.get m n) ≤ total_in m
below-total m n = go (fin.get m n) refl
  where
    go : (o : Option Node) → fin.get m n ≡ o → counted_at o ≤ total_in m
    go None e = omega arith
    go (Some x) e = let below = total_above count m n x e in let all = sums m in omega (arith, below, all)

-- no more than so many nodes, by their names, that each count for less than 2 ^ 64
few : (es : List (Name × ℕ)) (m : NodeMap) → ((q : Name) → lookup (same_name q) es ≡ None → fin.get m q ≡ None) → AreSmall m → total count m ≤ length es * (2 ^ 64 - 1)
few [] m none small =
    let all = total_none count m (λ q x is. let gone = none q refl in absurd (cc)) in
    omega (arith, all)
few (e ∷ es) m none small =
    let all = total_remove count m e.0 in
    let is = found_is (fin.get m e.0) in
    let one = small e.0 in
    let rest = few es (fin.remove m e.0) gone less in
    omega (arith, all, is, one, rest)
  where
    gone : (q : Name) → lookup (same_name q) es ≡ None → fin.get (fin.remove m e.0) q ≡ None
    gone q out = elim (same_or_apart q e.0) [
      | inl here ↦ rw here (remove_here m e.0)
      | inr apart ↦ remove_apart m e.0 q apart ∙ none q (rw (same_name-apart q e.0 apart) out)
    ]

    less : AreSmall (fin.remove m e.0)
    less q = elim (same_or_apart q e.0) [
      | inl here ↦ rw (here, remove_here m e.0) (omega arith)
      | inr apart ↦ rw (remove_apart m e.0 q apart) (small q)
    ]

-- the nodes of a tree: there are no more than names
pub total-bounded : (t : Inodes) → AreSmall (nodes_of t) → total_in (nodes_of t) ≤ index_map_len t.keys * (2 ^ 64 - 1)
total-bounded t small =
    let all = few t.keys.entries (nodes_of t) (λ q out. node-absent t.slots q t.keys out) small in
    let is = sums (nodes_of t) in
    omega (arith, all, is)

-- nodes of which one may count for other than it did
module _ (m : NodeMap) (n : Name) (before t : ℕ) (was : WasTotal m n before t) where
  -- what it counted for was no more than the total
  pub before-within : before ≤ t
  before-within = let below = below-total m n in let e = was.0 in omega (arith, below, e)

  -- with what it counts for now in its place, the total is the sum again
  pub total-after : (now : ℕ) → now ≡ counted_at (fin.get m n) → now < 2 ^ 64 → IsTotal m (t - before + now)
  total-after now counted small = (
    let within = before-within in let e = was.0 in omega (arith, within, e, counted),
    λ q. elim (same_or_apart q n) [ inl here ↦ rw (here, ← counted) small | inr apart ↦ was.1 q apart ],
  )
