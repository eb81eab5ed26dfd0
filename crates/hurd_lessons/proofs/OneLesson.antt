-- What is said is one text, since some tasks have one view of a world.
use Rattle.std.proofs.Common.{◌≡◌, ◌∙◌, inl, inr, sym, refl, ap, subst, ℕ, Bool, true, false, List}
use Rattle.hurd_creds.specs.declared.name.TaskId.{TaskId}
use Rattle.hurd_machine.specs.World.{World}
use Rattle.std.specs.Prelude.{Option, Vec}
use Rattle.std.specs.Global.{Global}
use Rattle.std.specs.declared.vec.Vec.{ok-type}
use Rattle.hurd_ports.specs.Tables.{Task}
use Rattle.hurd_views.specs.Views.{IsOneView, Views}
use Rattle.hurd_views.specs.declared.view.View.{View}
use Rattle.hurd_views.proofs.OneView.{views_are_one}
use Rattle.hurd_lessons.specs.Lessons.{GoneLineOf, Lessons, LineOf, Lines, Unless}
use Rattle.hurd_lessons.specs.Values.{names_of}
use Rattle.hurd_lessons.specs.Seen.{seen_text}
use Rattle.hurd_lessons.specs.Told.{Lesson, SeenIsOne, TaughtIsOne}
use Rattle.hurd_lessons.proofs.LessonLaws.{one_text}

-- a list that is kept in memory, with other things in it that are the same
abbrev moved_tasks : (x : Vec TaskId Global) (ys : List TaskId) → x.items ≡ ys → Vec TaskId Global
moved_tasks x ys e = record x { items = ys; ok = coe 0 1 (i. ok-type TaskId Global x.ptr x.len x.cap x.alloc (e i)) x.ok }

abbrev moved_seats : (x : Vec (Option Task) Global) (ys : List (Option Task)) → x.items ≡ ys → Vec (Option Task) Global
moved_seats x ys e = record x { items = ys; ok = coe 0 1 (i. ok-type (Option Task) Global x.ptr x.len x.cap x.alloc (e i)) x.ok }

-- the same tasks were looked at, and two views are one
pub record AreOne (a b : View) : Type 0 where
  pub ours : a.sight.tasks.items ≡ b.sight.tasks.items
  pub one : IsOneView a b

-- a view with all of another that is told: what was found, the rows, and the tasks
abbrev pub with_seen : (a b : View) → AreOne a b → View
with_seen a b are = record a {
  sight = record a.sight { found = b.sight.found; tasks = moved_tasks a.sight.tasks b.sight.tasks.items are.ours };
  rows = b.rows;
  seats = moved_seats a.seats b.seats.items are.one.seats;
  count = b.count;
}

pub same_seen : (a b : View) (are : AreOne a b) → a ≡ with_seen a b are
same_seen a b are = λ j. record a {
  sight = record a.sight {
    found = are.one.found j;
    tasks = record a.sight.tasks { items = are.ours j; ok = coe 0 j (i. ok-type TaskId Global a.sight.tasks.ptr a.sight.tasks.len a.sight.tasks.cap a.sight.tasks.alloc (are.ours i)) a.sight.tasks.ok };
  };
  rows = are.one.rows j;
  seats = record a.seats { items = are.one.seats j; ok = coe 0 j (i. ok-type (Option Task) Global a.seats.ptr a.seats.len a.seats.cap a.seats.alloc (are.one.seats i)) a.seats.ok };
  count = are.one.count j;
}

-- what is said where two things are the same is said where others are that are each the same as one of them
unless_same : {X : Type 0} (x y p q : X) (said text : List ℕ) → x ≡ p → y ≡ q → Unless (x ≡ y) said text → Unless (p ≡ q) said text
unless_same x y p q said text at_x at_y (inl same) = inl (sym at_x ∙ (same.0 ∙ at_y), same.1)
unless_same x y p q said text at_x at_y (inr other) = inr ((λ e. other.0 (at_x ∙ (e ∙ sym at_y))), other.1)

lessons_same : (who : List ℕ) (a b c d : View) (text : List ℕ) → AreOne a c → AreOne b d → Lessons who a b text → Lessons who c d text
lessons_same who a b c d text one two l = record {
  seen = l.seen;
  gone = l.gone;
  tasks = l.tasks;
  count = l.count;
  joined = l.joined;
  are_seen = seen;
  are_gone = gone;
  are_tasks = unless_same a.seats.items b.seats.items c.seats.items d.seats.items _ l.tasks one.one.seats two.one.seats l.are_tasks;
  is_count = unless_same a.count b.count c.count d.count _ l.count one.one.count two.one.count l.is_count;
}
  where
    seen : Lines (LineOf who c d) (names_of d) l.seen
    seen =
        subst (λ (v : View). Lines (LineOf who (with_seen a c one) v) (names_of v) l.seen) (same_seen b d two)
        (subst (λ (v : View). Lines (LineOf who v b) (names_of b) l.seen) (same_seen a c one) l.are_seen)

    gone : Lines (GoneLineOf who c d) (names_of c) l.gone
    gone =
        subst (λ (v : View). Lines (GoneLineOf who (with_seen a c one) v) (names_of (with_seen a c one)) l.gone) (same_seen b d two)
        (subst (λ (v : View). Lines (GoneLineOf who v b) (names_of v) l.gone) (same_seen a c one) l.are_gone)

pub are_one : (tasks : List TaskId) (w : World) (a b : View) → Views tasks w a → Views tasks w b → AreOne a b
are_one tasks w a b in_a in_b = record { ours = in_a.ours ∙ sym in_b.ours; one = views_are_one tasks w a b in_a in_b }

pub taught_is_one : TaughtIsOne
taught_is_one tasks who w x s t (a, b, in_a, in_b, first) (c, d, in_c, in_d, second) =
    one_text who c d s t (lessons_same who a b c d s (are_one tasks w a c in_a in_c) (are_one tasks x b d in_b in_d) first) second

pub seen_is_one : SeenIsOne
seen_is_one tasks who w a b in_a in_b = ap (seen_text who) (same_seen a b (are_one tasks w a b in_a in_b))

-- and after what was done
pub lesson_is_one : (tasks : List TaskId) (who : List ℕ) (quiet : Bool) (w x : World) (s t : List ℕ) → Lesson tasks who quiet w x s → Lesson tasks who quiet w x t → s ≡ t
lesson_is_one tasks who true w x s t first second = first.none refl ∙ sym (second.none refl)
lesson_is_one tasks who false w x s t first second = taught_is_one tasks who w x s t (first.some refl) (second.some refl)
