use Rattle.std.proofs.Common.{◌≡◌, ◌∙◌, refl, sym, ap, not, arith, true, false, Bool, true≢false, List, ℕ, if◌then◌else◌, drop}
use Rattle.std.specs.Prelude.{bytes_eq}
use Rattle.hurd_views.specs.declared.rows.EntryRow.{EntryRow}
use Rattle.hurd_lessons.specs.Changes.{same_names}
use Rattle.hurd_lessons.proofs.SameNames.{names_at, names_end, other_lengths}
use Rattle.hurd_lessons.proofs.changes.same_names.Goals as goal

not_so : (t : Bool) → false ≡ not t → t ≡ true
not_so true is = refl
not_so false is = absurd (true≢false (sym is))

so_not : (t : Bool) → true ≡ not t → t ≡ false
so_not true is = absurd (true≢false is)
so_not false is = refl

-- names of entries, as they are compared
names_are : (e f x y : EntryRow) (p q : List ℕ) → p ≡ x.name → q ≡ y.name → e ≡ x → f ≡ y → bytes_eq p q ≡ bytes_eq e.name f.name
names_are e f x y p q at there is also = λ i. bytes_eq ((at ∙ ap (λ (z : EntryRow). z.name) (sym is)) i) ((there ∙ ap (λ (z : EntryRow). z.name) (sym also)) i)

pub returns-then-some-others : goal.returns-then-some-others
returns-then-some-others c = other_lengths c.args.some.now c.args.others.now c.if-some-others.true

pub returns-then-ne : goal.returns-then-ne
returns-then-ne c =
    let is = sym (names_are _ _ _ _ _ _ c.as_slice.ensures c.as_slice-in-loop-i.ensures c.index-some-i.is c.index-others-i.is) ∙ so_not _ c.if-ne.ensures in
    sym (names_at c.args.some.now c.args.others.now c.loop-i.i c.index-some-i.result c.index-others-i.result false c.loop-i-test.true
    (omega (arith, c.loop-i-test.true, c.if-some-others.false)) c.index-some-i.is c.index-others-i.is is) ∙ c.loop-i.invariant

pub loop-i-preserved : goal.loop-i-preserved
loop-i-preserved c =
    let is = sym (names_are _ _ _ _ _ _ c.as_slice.ensures c.as_slice-in-loop-i.ensures c.index-some-i.is c.index-others-i.is) ∙ not_so _ c.if-ne.ensures in
    sym (names_at c.args.some.now c.args.others.now c.loop-i.i c.index-some-i.result c.index-others-i.result true c.loop-i-test.true
    (omega (arith, c.loop-i-test.true, c.if-some-others.false)) c.index-some-i.is c.index-others-i.is is) ∙ c.loop-i.invariant

pub returns : goal.returns
returns c =
    sym (names_end c.args.some.now c.args.others.now c.loop-i.i c.loop-i-test.false (omega (arith, c.loop-i-test.false, c.if-some-others.false))) ∙ c.loop-i.invariant
