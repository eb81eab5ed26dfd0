-- What a file counts for where it gets a link, or loses one: it is the same except for the first, and the last.
use Rattle.std.proofs.Common.{if◌then◌else◌, ◌≡◌, ◌≢◌, ◌⊎◌, ◌-◌, ◌+◌, ℕ, Bool, true, false, nat_lt, Option, Some, None, refl, sym, ap, ◌∙◌, subst, inl, inr, arith}
use Rattle.std.proofs.lemmas.Bool.Decides.{nat_tests}
use Rattle.hurd_machine.proofs.Common.{Header, Name, Part, TotalOf, World, counts_for, header_at, home_at, info_at, is_dir, tree_by, unlinked}
use Rattle.hurd_trans_iface.specs.Nodes.{linked}
use Rattle.hurd_machine.specs.Touched.{OnLinks}
use Rattle.hurd_machine.proofs.Frame.{Recounts}
use Rattle.hurd_machine.proofs.Edits.{same_count}
use Rattle.std.proofs.lemmas.Bool.{cases_Bool}

more_than : (l : ℕ) → l ≢ 0 → nat_lt 0 l ≡ true
more_than l some = elim (same_count l 0) [ inl e ↦ absurd (some e) | inr apart ↦ grind (arith, nat_tests) ]

one_more : (l : ℕ) → l ≢ 0 → nat_lt 0 (l + 1) ≡ nat_lt 0 l
one_more l some = let more : nat_lt 0 (l + 1) ≡ true = grind (arith, nat_tests) in more ∙ sym (more_than l some)

one_fewer : (l : ℕ) → l ≢ 1 → nat_lt 0 (l - 1) ≡ nat_lt 0 l
one_fewer l other = elim (same_count l 0) [
  | inl none ↦ rw none refl
  | inr some ↦ let yet : nat_lt 0 (l - 1) ≡ true = grind (arith, nat_tests) in yet ∙ sym (more_than l some)
]

linked_same : (h : Header) → (is_dir h.kind ≡ true) ⊎ (h.links ≢ 0) → counts_for (linked h) ≡ counts_for h
linked_same h (inl dir) = rw dir refl
linked_same h (inr some) = go (is_dir h.kind)
  where
    go : (b : Bool) → (if b then 0 else if nat_lt 0 (h.links + 1) then h.size else 0) ≡ (if b then 0 else if nat_lt 0 h.links then h.size else 0)
    go true = refl
    go false = ap (λ (c : Bool). if c then h.size else 0) (one_more h.links some)

unlinked_same : (h : Header) → (is_dir h.kind ≡ true) ⊎ (h.links ≢ 1) → counts_for (unlinked h) ≡ counts_for h
unlinked_same h (inl dir) = rw dir refl
unlinked_same h (inr other) = go (is_dir h.kind)
  where
    go : (b : Bool) → (if b then 0 else if nat_lt 0 (if b then h.links else h.links - 1) then h.size else 0) ≡ (if b then 0 else if nat_lt 0 h.links then h.size else 0)
    go true = refl
    go false = ap (λ (c : Bool). if c then h.size else 0) (one_fewer h.links other)

-- so a link more touches the total where it is the first, and one less where it was the last
module _ {T : Part → Type 0} (w : World) (n : Name) where
  recounts_by : (f : Header → Header) (k : ℕ) → ((h : Header) → (is_dir h.kind ≡ true) ⊎ (h.links ≢ k) → counts_for (f h) ≡ counts_for h) → ((p : Part) → OnLinks w n k p → T p) → Recounts T w n f
  recounts_by f k same parts = elim (cases_Bool (tree_by (info_at w n))) [ inr other ↦ inl other | inl tree ↦ inr (go tree (header_at w n) refl) ]
    where
      go : tree_by (info_at w n) ≡ true → (o : Option Header) → header_at w n ≡ o
          → ((h : Header) → header_at w n ≡ Some h → counts_for (f h) ≡ counts_for h) ⊎ ((s : Name) → home_at w n ≡ Some s → T (TotalOf s))
      go tree None none = inl (λ h is. absurd (cc (none, is)))
      go tree (Some j) here = elim (cases_Bool (is_dir j.kind)) [
        | inl dir ↦ inl (kept j here (same j (inl dir)))
        | inr file ↦ elim (same_count j.links k) [
          | inl is ↦ inr (λ s home. parts (TotalOf s) ((j, here, file, is), (s, home, tree, refl)))
          | inr apart ↦ inl (kept j here (same j (inr apart)))
        ]
      ]
        where
          kept : (j : Header) → header_at w n ≡ Some j → counts_for (f j) ≡ counts_for j → (h : Header) → header_at w n ≡ Some h → counts_for (f h) ≡ counts_for h
          kept j here one h is = let same : j ≡ h = cc (here, is) in subst (λ (z : Header). counts_for (f z) ≡ counts_for z) same one

  pub recounts_linked : ((p : Part) → OnLinks w n 0 p → T p) → Recounts T w n linked
  recounts_linked parts = recounts_by linked 0 linked_same parts

  pub recounts_unlinked : ((p : Part) → OnLinks w n 1 p → T p) → Recounts T w n unlinked
  recounts_unlinked parts = recounts_by unlinked 1 unlinked_same parts
