-- The parts that are listed, one thing after another.
use Rattle.std.proofs.Common.{◌≡◌, ℕ, zero, suc, ◌+◌, ◌<◌, add-one, arith, List, [], ◌∷◌, length, get_or, Bool, Result, Ok, Err, sym, ap, ◌∙◌}
use Rattle.std.specs.Prelude.{OnOk, ◌++◌, slice_get, take}
use Rattle.std.specs.declared.alloc.AllocError.{AllocError}
use Rattle.hurd_creds.specs.declared.name.Name.{Name}
use Rattle.hurd_sight.specs.declared.parts.SeenPart.{SeenPart}
use Rattle.hurd_views.specs.declared.rows.Row.{Row}
use Rattle.hurd_views.specs.declared.view.View.{View}
use Rattle.hurd_can.specs.Listed.{kept_if, part_if, parts_at, parts_in, parts_of}
use Rattle.hurd_can.specs.declared.listing.Group.{Group}
use Rattle.hurd_can.proofs.HelpLaws.{append_append, append_none}

module _ (g : Group) (v : View) where
  more : (es : List (Name × Row)) (i : ℕ) → i < length es → parts_of g v (take (suc i) es) ≡ parts_of g v (take i es) ++ parts_at g v (slice_get es i)
  more [] i lt = absurd (omega arith)
  more (e ∷ es) zero lt = sym (append_none (parts_in g v e.0))
  more (e ∷ es) (suc i) lt = ap (λ l. parts_in g v e.0 ++ l) (more es i (omega arith)) ∙ sym (append_append (parts_in g v e.0) _ _)

  pub parts_more : (i : ℕ) (start old new : List SeenPart) → i < length v.rows → old ≡ start ++ parts_of g v (take i v.rows) → new ≡ old ++ parts_at g v (slice_get v.rows i)
      → new ≡ start ++ parts_of g v (take (i + 1) v.rows)
  parts_more i start old new lt was is =
      rw add-one (is ∙ (ap (λ l. l ++ parts_at g v (slice_get v.rows i)) was ∙ (append_append start _ _ ∙ ap (λ l. start ++ l) (sym (more v.rows i lt)))))

-- of some parts one more is kept, or not
kept : (test : SeenPart → Bool) (ps : List SeenPart) (i : ℕ) (d : SeenPart) → i < length ps
    → kept_if test (take (suc i) ps) ≡ kept_if test (take i ps) ++ part_if (test (get_or ps i d)) (get_or ps i d)
kept test [] i d lt = absurd (omega arith)
kept test (p ∷ ps) zero d lt = sym (append_none (part_if (test p) p))
kept test (p ∷ ps) (suc i) d lt = ap (λ l. part_if (test p) p ++ l) (kept test ps i d (omega arith)) ∙ sym (append_append (part_if (test p) p) _ _)

pub kept_more : (test : SeenPart → Bool) (ps : List SeenPart) (i : ℕ) (d : SeenPart) (old new : List SeenPart) → i < length ps → old ≡ kept_if test (take i ps)
    → new ≡ old ++ part_if (test (get_or ps i d)) (get_or ps i d) → new ≡ kept_if test (take (i + 1) ps)
kept_more test ps i d old new lt was is = rw add-one (is ∙ (ap (λ l. l ++ part_if (test (get_or ps i d)) (get_or ps i d)) was ∙ sym (kept test ps i d lt)))

-- a text to which one more and then others are added
pub join : (start mid end first rest : List ℕ) → mid ≡ start ++ first → end ≡ mid ++ rest → end ≡ start ++ (first ++ rest)
join start mid end first rest a b = b ∙ (ap (λ l. l ++ rest) a ∙ append_append start first rest)

pub join_ok : (start mid end first rest : List ℕ) (r : Result (Unit {0}) AllocError) → mid ≡ start ++ first → OnOk r (end ≡ mid ++ rest) → OnOk r (end ≡ start ++ (first ++ rest))
join_ok start mid end first rest (Ok u) a b = join start mid end first rest a b
join_ok start mid end first rest (Err e) a b = tt
