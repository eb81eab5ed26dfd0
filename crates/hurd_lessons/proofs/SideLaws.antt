-- Lines of things that are paired, and of those that are not.
use Rattle.std.proofs.Common.{◌≡◌, ◌∙◌, sym, ap, subst, ℕ, Bool, true, false, List, [], ◌++◌, codes, if◌then◌else◌}
use Rattle.std.proofs.lemmas.List.{append-nil, append_assoc}
use Rattle.hurd_creds.specs.declared.name.Name.{Name}
use Rattle.hurd_views.specs.Views.{no_row, row_at}
use Rattle.hurd_views.specs.declared.rows.Row.{Row}
use Rattle.hurd_views.specs.declared.view.View.{View}
use Rattle.hurd_places.specs.Places.{place_by, place_of}
use Rattle.hurd_lessons.specs.Added.{Adds, AddsLines}
use Rattle.hurd_lessons.specs.Beside.{AloneLine, Beside, FirstLine, IsOfPair, PairLine, SecondLine, or_unnamed, pair_text, tasks_beside}
use Rattle.hurd_lessons.specs.Changes.{IsChange, between, shows}
use Rattle.hurd_lessons.specs.Lessons.{parts_of}
use Rattle.hurd_lessons.specs.Values.{line_from, names_of, number_part, with_part}
use Rattle.hurd_lessons.specs.declared.changes.Change.{Change}

-- what became of a row is told of those that are the same
change_of : (x y p q : Row) (c : Change) → x ≡ p → y ≡ q → IsChange x y c → IsChange p q c
change_of x y p q c at there is = subst (λ (r : Row). IsChange r q c) at (subst (λ (r : Row). IsChange x r c) there is)

-- a thing that is seen in one alone, and one that is not seen
pub alone_said : (who word : List ℕ) (w v : View) (n : Name) (nothing x : Row) (c : Change) (place parts said old new : List ℕ) → nothing ≡ no_row → x ≡ row_at v.rows n → IsChange nothing x c → true ≡ shows x
    → place ≡ place_by v n x → parts ≡ parts_of w v nothing x c → said ≡ word ++ parts → new ≡ old ++ line_from who place said → Adds (AloneLine who word w v n) old new
alone_said who word w v n nothing x c place parts said old new none at is shown where_is what_is begun grown = (
  line_from who place said,
  grown,
  (
    c,
    change_of nothing x no_row (row_at v.rows n) c none at is,
    (λ i. line_from who (where_is i) ((begun ∙ ap (λ (t : List ℕ). word ++ t) what_is) i))
        ∙ ((λ i. line_from who (place_by v n (at i)) (word ++ parts_of w v (none i) (at i) c))
        ∙ ap (λ (t : Bool). if t then line_from who (place_of v n) (word ++ parts_of w v no_row (row_at v.rows n) c) else []) (shown ∙ ap shows at)),
  ),
)

pub alone_unseen : (who word : List ℕ) (w v : View) (n : Name) (nothing x : Row) (c : Change) (old : List ℕ) → nothing ≡ no_row → x ≡ row_at v.rows n → IsChange nothing x c → false ≡ shows x
    → Adds (AloneLine who word w v n) old old
alone_unseen who word w v n nothing x c old none at is unseen = (
  [],
  sym (append-nil old),
  (
    c,
    change_of nothing x no_row (row_at v.rows n) c none at is,
    ap (λ (t : Bool). if t then line_from who (place_of v n) (word ++ parts_of w v no_row (row_at v.rows n) c) else []) (unseen ∙ ap shows at),
  ),
)

-- the parts of a pair
pub pair_made : (a b : View) (n m : Name) (x y : Row) (c d : Change) (words new : List ℕ) → x ≡ row_at a.rows n → y ≡ row_at b.rows m → IsChange x y c → d ≡ between x y c → words ≡ parts_of a b x y d
    → new ≡ with_part words (number_part (codes "made by task") n.task.0 m.task.0) → IsOfPair a b n m new
pair_made a b n m x y c d words new at there is differs what_is more = (
  c,
  change_of x y (row_at a.rows n) (row_at b.rows m) c at there is,
  more
      ∙ ap (λ (t : List ℕ). with_part t (number_part (codes "made by task") n.task.0 m.task.0))
      (what_is ∙ (ap (parts_of a b x y) differs ∙ (λ i. parts_of a b (at i) (there i) (between (at i) (there i) c)))),
)

-- and its line
pub pair_said : (who : List ℕ) (a b : View) (n m : Name) (x y : Row) (words was is old new : List ℕ) → x ≡ row_at a.rows n → y ≡ row_at b.rows m → IsOfPair a b n m words → was ≡ place_by a n x
    → is ≡ place_by b m y → new ≡ old ++ pair_text who was is words → Adds (PairLine who a b n m) old new
pair_said who a b n m x y words was is old new at there parts first second grown = (
  pair_text who was is words,
  grown,
  (words, parts, λ i. pair_text who ((first ∙ ap (place_by a n) at) i) ((second ∙ ap (place_by b m) there) i) words),
)

-- all lines, one after another
pub all_apart : (who : List ℕ) (a b : View) (t0 t1 t2 t3 t4 : List ℕ) → t0 ≡ [] → AddsLines (SecondLine who a b) (names_of b) t0 t1 → AddsLines (FirstLine who a b) (names_of a) t1 t2
    → t3 ≡ t2 ++ tasks_beside who a b → t4 ≡ or_unnamed who t3 → Beside who a b t4
all_apart who a b t0 t1 t2 t3 t4 none (s, is, p) (g, js, q) ks ls = record {
  seen = s;
  gone = g;
  joined = ls
      ∙ ap (or_unnamed who)
      (ks ∙ (ap (λ (x : List ℕ). x ++ tasks_beside who a b) (js ∙ ap (λ (x : List ℕ). x ++ g) (is ∙ ap (λ (x : List ℕ). x ++ s) none)) ∙ append_assoc s g (tasks_beside who a b)));
  are_seen = p;
  are_gone = q;
}
