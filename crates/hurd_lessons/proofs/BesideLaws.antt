-- What differs between two scripts is said in one text.
use Rattle.std.proofs.Common.{◌≡◌, ◌∙◌, refl, sym, ap, subst, ℕ, Bool, true, false, List, [], ◌∷◌, ◌++◌, Some, None, if◌then◌else◌, codes}
use Rattle.std.specs.Prelude.{Option}
use Rattle.hurd_creds.specs.declared.name.Name.{Name}
use Rattle.hurd_creds.specs.declared.name.TaskId.{TaskId}
use Rattle.hurd_machine.specs.World.{World}
use Rattle.hurd_views.specs.Views.{Views, no_row, row_at}
use Rattle.hurd_views.specs.declared.view.View.{View}
use Rattle.hurd_places.specs.Places.{place_of}
use Rattle.hurd_lessons.specs.Beside.{AloneLine, Beside, FirstBy, FirstLine, PairLine, SecondBy, SecondLine, mate_of, or_unnamed, pair_parts, pair_text, tasks_beside}
use Rattle.hurd_lessons.specs.Changes.{shows}
use Rattle.hurd_lessons.specs.Lessons.{Lines, parts_of}
use Rattle.hurd_lessons.specs.Told.{ToldApartIsOne}
use Rattle.hurd_lessons.specs.Values.{line_from, names_of}
use Rattle.hurd_lessons.specs.declared.changes.Change.{Change}
use Rattle.hurd_lessons.proofs.LessonLaws.{change_once, lines_once}
use Rattle.hurd_lessons.proofs.OneLesson.{AreOne, are_one, same_seen, with_seen}

-- a line

alone_once : (who word : List ℕ) (w v : View) (n : Name) (s t : List ℕ) → AloneLine who word w v n s → AloneLine who word w v n t → s ≡ t
alone_once who word w v n s t (c, is, said) (d, js, told) =
    said
    ∙ (ap (λ (e : Change). if shows (row_at v.rows n) then line_from who (place_of v n) (word ++ parts_of w v no_row (row_at v.rows n) e) else []) (change_once _ _ c d is js)
    ∙ sym told)

pair_once : (who : List ℕ) (a b : View) (n m : Name) (s t : List ℕ) → PairLine who a b n m s → PairLine who a b n m t → s ≡ t
pair_once who a b n m s t (words, (c, is, parts), said) (others, (d, js, more), told) =
    said
    ∙ (ap (pair_text who (place_of a n) (place_of b m)) (parts ∙ (ap (pair_parts a b n m) (change_once _ _ c d is js) ∙ sym more))
    ∙ sym told)

second_once : (who : List ℕ) (a b : View) (m : Name) (o : Option Name) (s t : List ℕ) → SecondBy who a b m o s → SecondBy who a b m o t → s ≡ t
second_once who a b m None s t x y = alone_once who (codes "only in the second: ") a b m s t x y
second_once who a b m (Some n) s t x y = pair_once who a b n m s t x y

first_once : (who : List ℕ) (a b : View) (n : Name) (o : Option Name) (s t : List ℕ) → FirstBy who a b n o s → FirstBy who a b n o t → s ≡ t
first_once who a b n None s t x y = alone_once who (codes "only in the first: ") b a n s t x y
first_once who a b n (Some m) s t x y = x ∙ sym y

-- the whole text

beside_once : (who : List ℕ) (a b : View) (s t : List ℕ) → Beside who a b s → Beside who a b t → s ≡ t
beside_once who a b s t x y =
    x.joined
    ∙ (ap (λ (u : List ℕ). or_unnamed who (u ++ (x.gone ++ tasks_beside who a b))) (lines_once _ (names_of b) x.seen y.seen (λ m. second_once who a b m (mate_of b a m)) x.are_seen y.are_seen)
    ∙ (ap (λ (u : List ℕ). or_unnamed who (y.seen ++ (u ++ tasks_beside who a b))) (lines_once _ (names_of a) x.gone y.gone (λ n. first_once who a b n (mate_of a b n)) x.are_gone y.are_gone)
    ∙ sym y.joined))

beside_same : (who : List ℕ) (a b c d : View) (text : List ℕ) → AreOne a c → AreOne b d → Beside who a b text → Beside who c d text
beside_same who a b c d text one two l = record {
  seen = l.seen;
  gone = l.gone;
  joined = joined;
  are_seen = seen;
  are_gone = gone;
}
  where
    joined : text ≡ or_unnamed who (l.seen ++ (l.gone ++ tasks_beside who c d))
    joined =
        l.joined
        ∙ (ap (λ (v : View). or_unnamed who (l.seen ++ (l.gone ++ tasks_beside who v b))) (same_seen a c one)
        ∙ ap (λ (v : View). or_unnamed who (l.seen ++ (l.gone ++ tasks_beside who (with_seen a c one) v))) (same_seen b d two))

    seen : Lines (SecondLine who c d) (names_of d) l.seen
    seen =
        subst (λ (v : View). Lines (SecondLine who (with_seen a c one) v) (names_of v) l.seen) (same_seen b d two)
        (subst (λ (v : View). Lines (SecondLine who v b) (names_of b) l.seen) (same_seen a c one) l.are_seen)

    gone : Lines (FirstLine who c d) (names_of c) l.gone
    gone =
        subst (λ (v : View). Lines (FirstLine who (with_seen a c one) v) (names_of (with_seen a c one)) l.gone) (same_seen b d two)
        (subst (λ (v : View). Lines (FirstLine who v b) (names_of v) l.gone) (same_seen a c one) l.are_gone)

pub told_apart_is_one : ToldApartIsOne
told_apart_is_one tasks who w x s t (a, b, in_a, in_b, first) (c, d, in_c, in_d, second) =
    beside_once who c d s t (beside_same who a b c d s (are_one tasks w a c in_a in_c) (are_one tasks x b d in_b in_d) first) second
