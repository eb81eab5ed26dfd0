-- Of a text one picture is drawn: it goes by what is told of titles and views, and these are one.
use Rattle.std.proofs.Common.{◌≡◌, ◌∙◌, sym, refl, ap, subst, ℕ, Bool, List, Option, Some, None}
use Rattle.std.specs.Prelude.{Vec}
use Rattle.std.specs.Global.{Global}
use Rattle.std.specs.declared.vec.Vec.{ok-type}
use Rattle.hurd_creds.specs.declared.name.TaskId.{TaskId}
use Rattle.hurd_machine.specs.World.{World}
use Rattle.hurd_ports.specs.Tables.{Task}
use Rattle.hurd_views.specs.Views.{IsOneView, Views}
use Rattle.hurd_views.specs.declared.view.View.{View}
use Rattle.hurd_views.proofs.OneView.{views_are_one}
use Rattle.hurd_dialogue.specs.Sorts.{Sort, last_world}
use Rattle.hurd_pictures.specs.Found.{plain_title}
use Rattle.hurd_pictures.specs.Nodes.{entry_text, stub_text, unseen_text}
use Rattle.hurd_pictures.specs.Pictures.{picture}
use Rattle.hurd_pictures.specs.Servers.{box_label}
use Rattle.hurd_pictures.specs.Tasks.{ids_text, open_at, task_node}
use Rattle.hurd_pictures.specs.declared.names.Owner.{Owner}
use Rattle.hurd_pictures.specs.declared.names.Titles.{Titles}
use Rattle.hurd_teaching.specs.Programs.{AreThese, PrintsOneText}
use Rattle.hurd_teaching.specs.declared.learners.Learners.{Learners}
use Rattle.hurd_teaching.proofs.OneText.{AreAlike, alike}
use Rattle.hurd_terminal.specs.Faults.{IsFront}
use Rattle.hurd_teaching.specs.Drawings.{DrawnFor, IsDrawn, Marked, SeenBy, called_of, drawing, marked_by, marked_tasks, wide_tasks}
use Rattle.hurd_teaching.specs.Aides.{aides_if}
use Rattle.hurd_teaching.specs.Owners.{all_tasks}

-- a list that is kept in memory, with other things in it that are the same
abbrev moved : {X : Type 0} (x : Vec X Global) (ys : List X) → x.items ≡ ys → Vec X Global
moved {X} x ys e = record x { items = ys; ok = coe 0 1 (i. ok-type X Global x.ptr x.len x.cap x.alloc (e i)) x.ok }

-- titles with all that others tell
abbrev with_titles : (t u : Titles) → t.tasks.items ≡ u.tasks.items → t.owners.items ≡ u.owners.items → Titles
with_titles t u tasks owners = record { tasks = moved t.tasks u.tasks.items tasks; owners = moved t.owners u.owners.items owners }

same_titles : (t u : Titles) (tasks : t.tasks.items ≡ u.tasks.items) (owners : t.owners.items ≡ u.owners.items) → t ≡ with_titles t u tasks owners
same_titles t u tasks owners = λ j. record {
  tasks = record t.tasks { items = tasks j; ok = coe 0 j (i. ok-type (List ℕ) Global t.tasks.ptr t.tasks.len t.tasks.cap t.tasks.alloc (tasks i)) t.tasks.ok };
  owners = record t.owners { items = owners j; ok = coe 0 j (i. ok-type Owner Global t.owners.ptr t.owners.len t.owners.cap t.owners.alloc (owners i)) t.owners.ok };
}

-- the same tasks were looked at, and two views are one
record AreOne (a b : View) : Type 0 where
  ours : a.sight.tasks.items ≡ b.sight.tasks.items
  one : IsOneView a b

-- a view with all of another that is told: what was found, the rows, and the tasks
abbrev with_seen : (a b : View) → AreOne a b → View
with_seen a b are = record a {
  sight = record a.sight { found = b.sight.found; tasks = moved a.sight.tasks b.sight.tasks.items are.ours };
  rows = b.rows;
  seats = moved a.seats b.seats.items are.one.seats;
  count = b.count;
}

same_seen : (a b : View) (are : AreOne a b) → a ≡ with_seen a b are
same_seen a b are = λ j. record a {
  sight = record a.sight {
    found = are.one.found j;
    tasks = record a.sight.tasks { items = are.ours j; ok = coe 0 j (i. ok-type TaskId Global a.sight.tasks.ptr a.sight.tasks.len a.sight.tasks.cap a.sight.tasks.alloc (are.ours i)) a.sight.tasks.ok };
  };
  rows = are.one.rows j;
  seats = record a.seats { items = are.one.seats j; ok = coe 0 j (i. ok-type (Option Task) Global a.seats.ptr a.seats.len a.seats.cap a.seats.alloc (are.one.seats i)) a.seats.ok };
  count = are.one.count j;
}

are_one : (tasks : List TaskId) (w : World) (a b : View) → Views tasks w a → Views tasks w b → AreOne a b
are_one tasks w a b in_a in_b = record { ours = in_a.ours ∙ sym in_b.ours; one = views_are_one tasks w a b in_a in_b }

-- a picture goes by what is told
by_titles : (t u : Titles) (tasks : List TaskId) (v : View) (who : List ℕ) (seen wide : Option View) → t.tasks.items ≡ u.tasks.items → t.owners.items ≡ u.owners.items
    → picture t tasks v who seen wide ≡ picture u tasks v who seen wide
unfolding box_label task_node ids_text
by_titles t u tasks v who seen wide named owned = ap (λ (x : Titles). picture x tasks v who seen wide) (same_titles t u named owned)

by_view : (t : Titles) (tasks : List TaskId) (a b : View) (who : List ℕ) (seen wide : Option View) → AreOne a b → picture t tasks a who seen wide ≡ picture t tasks b who seen wide
unfolding plain_title unseen_text entry_text open_at stub_text
by_view t tasks a b who seen wide are = ap (λ (v : View). picture t tasks v who seen wide) (same_seen a b are)

by_marks : (t : Titles) (tasks : List TaskId) (v : View) (who : List ℕ) (wide : Option View) (a b : View) → AreOne a b → picture t tasks v who (Some a) wide ≡ picture t tasks v who (Some b) wide
by_marks t tasks v who wide a b are = ap (λ (x : View). picture t tasks v who (Some x) wide) (same_seen a b are)

by_more : (t : Titles) (tasks : List TaskId) (v : View) (who : List ℕ) (seen : Option View) (a b : View) → AreOne a b → picture t tasks v who seen (Some a) ≡ picture t tasks v who seen (Some b)
by_more t tasks v who None a b are = ap (λ (x : View). picture t tasks v who None (Some x)) (same_seen a b are)
by_more t tasks v who (Some seen) a b are = ap (λ (x : View). picture t tasks v who (Some seen) (Some x)) (same_seen a b are)

by_seen : (t : Titles) (tasks : List TaskId) (v : View) (who : List ℕ) (wide : Option View) (ours : Option (List TaskId)) (w : World) (a b : Option View) → SeenBy ours w a → SeenBy ours w b
    → picture t tasks v who a wide ≡ picture t tasks v who b wide
by_seen t tasks v who wide None w a b is_a is_b = ap (λ (x : Option View). picture t tasks v who x wide) (is_a ∙ sym is_b)
by_seen t tasks v who wide (Some ours) w a b (x, is_a, in_x) (y, is_b, in_y) =
    ap (λ (o : Option View). picture t tasks v who o wide) is_a
    ∙ (by_marks t tasks v who wide x y (are_one ours w x y in_x in_y) ∙ ap (λ (o : Option View). picture t tasks v who o wide) (sym is_b))

by_wide : (t : Titles) (tasks : List TaskId) (v : View) (who : List ℕ) (seen : Option View) (ours : Option (List TaskId)) (w : World) (a b : Option View) → SeenBy ours w a → SeenBy ours w b
    → picture t tasks v who seen a ≡ picture t tasks v who seen b
by_wide t tasks v who seen None w a b is_a is_b = ap (picture t tasks v who seen) (is_a ∙ sym is_b)
by_wide t tasks v who seen (Some ours) w a b (x, is_a, in_x) (y, is_b, in_y) =
    ap (picture t tasks v who seen) is_a ∙ (by_more t tasks v who seen x y (are_one ours w x y in_x in_y) ∙ ap (picture t tasks v who seen) (sym is_b))

pub drawn_once : (names : List (List ℕ)) (marked : Option Marked) (w : World) (s t : List ℕ) → IsDrawn names marked w s → IsDrawn names marked w t → s ≡ t
drawn_once names marked w s t x y =
    let tasks = all_tasks w.tasks in
    let who = called_of marked in
    let titles = by_titles x.is.titles y.is.titles tasks x.is.view who x.seen x.wide (x.is.named ∙ sym y.is.named) (x.is.owned ∙ sym y.is.owned) in
    let view = by_view y.is.titles tasks x.is.view y.is.view who x.seen x.wide (are_one tasks w x.is.view y.is.view x.is.all y.is.all) in
    let seen = by_seen y.is.titles tasks y.is.view who x.wide (marked_tasks marked) w x.seen y.seen x.theirs y.theirs in
    let wide = by_wide y.is.titles tasks y.is.view who y.seen (wide_tasks marked) w x.wide y.wide x.helped y.helped in
    x.is.is ∙ (titles ∙ (view ∙ (seen ∙ (wide ∙ sym y.is.is))))

-- the same tasks are called the same
for_once : (sort : Sort) (can : Bool) (who : Option (List ℕ)) (text s t : List ℕ) → DrawnFor (AreThese sort) sort can who text s → DrawnFor (AreThese sort) sort can who text t → s ≡ t
for_once sort can None text s t x y = drawn_once (sort.names text) None (last_world sort text) s t x y
for_once sort can (Some word) text s t x y =
    let same = alike _ _ _ _ x.0 y.0 x.1 y.1 in
    let w = last_world sort text in
    let by : Learners → Marked = λ l. marked_by can l w in
    let is : by y.0 ≡ by x.0 = λ i. record { tasks = sym same.tasks i; called = sym same.sees i; wide = aides_if can (sym same.tasks i) w.tasks } in
    drawn_once (sort.names text) (Some (by x.0)) w s t x.2 (subst (λ (m : Marked). IsDrawn (sort.names text) (Some m) w t) is y.2)

pub one_picture : (sort : Sort) (can : Bool) (who : Option (List ℕ)) → PrintsOneText (drawing sort can who)
one_picture sort can who = record {
  one = λ text s t x y. for_once sort can who text s t x y;
  front = λ text s t x y. subst (IsFront s) (for_once sort can who text x.0 t x.1 y) x.2;
}
