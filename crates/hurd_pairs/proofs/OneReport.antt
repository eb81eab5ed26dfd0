-- Of two scripts one report is printed.
use Rattle.std.specs.Option.{option_map}
use Rattle.std.proofs.Common.{◌≡◌, ◌∙◌, map, inl, inr, refl, sym, ap, subst, ℕ, List, [], ◌∷◌, ◌++◌, Option, Some, None}
use Rattle.hurd_creds.specs.declared.name.TaskId.{TaskId}
use Rattle.hurd_sight.specs.Reach.{among}
use Rattle.hurd_shell.specs.Scripts.{scripts}
use Rattle.hurd_lessons.proofs.BesideLaws.{told_apart_is_one}
use Rattle.hurd_teaching.proofs.OneText.{alike}
use Rattle.hurd_machine.specs.World.{World}
use Rattle.hurd_views.specs.Views.{IsOneView}
use Rattle.hurd_views.specs.declared.view.View.{View}
use Rattle.hurd_views.proofs.OneView.{views_are_one}
use Rattle.hurd_machine.specs.Renamed.{OtherNames, task_renamed}
use Rattle.hurd_looks.specs.Renamed.{IsRenamed, listed, named_row_renamed}
use Rattle.hurd_pairs.specs.Differences.{Compares, FirstSaid, IsSaid, SaysSeen, SaysTold, SeeAlike, SeeOther}
use Rattle.hurd_pairs.specs.Moments.{FirstOther, Moment, TellOther, TellSame}
use Rattle.hurd_pairs.specs.Reports.{get_of, lines_in, moments_of, seen_text, told_text, verdict_of}
use Rattle.hurd_pairs.specs.Told.{ReportIsOne}
use Rattle.hurd_pairs.specs.declared.difference.Compared.{Compared}
use Rattle.hurd_pairs.specs.declared.difference.Difference.{Difference}

module _ {X : Type 0} (Same Other : X → X → Type 0) (apart : (x y : X) → Same x y → Other x y → ⊥) where
  -- one thing is found
  first_once : (xs ys : List X) (f g : Option (X × X)) → FirstOther Same Other xs ys f → FirstOther Same Other xs ys g → f ≡ g
  unfolding FirstOther
  first_once [] ys f g x y = x ∙ sym y
  first_once (a ∷ xs) [] f g x y = x ∙ sym y
  first_once (a ∷ xs) (b ∷ ys) f g (inl (same, x)) (inl (also, y)) = first_once xs ys f g x y
  first_once (a ∷ xs) (b ∷ ys) f g (inl (same, x)) (inr (other, y)) = absurd (apart a b same other)
  first_once (a ∷ xs) (b ∷ ys) f g (inr (other, x)) (inl (same, y)) = absurd (apart a b same other)
  first_once (a ∷ xs) (b ∷ ys) f g (inr (other, x)) (inr (also, y)) = x ∙ sym y

module _ (Says : Moment → Moment → Difference → Type 0) (once : (m n : Moment) (d e : Difference) → Says m n d → Says m n e → d ≡ e) where
  -- one thing is said of it
  said_once : (found : Option (Moment × Moment)) (d e : Option Difference) → IsSaid Says found d → IsSaid Says found e → d ≡ e
  said_once None None None x y = refl
  said_once None None (Some e) x y = absurd y
  said_once None (Some d) e x y = absurd x
  said_once (Some p) None e x y = absurd x
  said_once (Some p) (Some d) None x y = absurd y
  said_once (Some (m, n)) (Some d) (Some e) x y = ap (λ (z : Difference). Some z) (once m n d e x y)

  both_once : (Same Other : Moment → Moment → Type 0) → ((x y : Moment) → Same x y → Other x y → ⊥) → (ms ns : List Moment) (d e : Option Difference) → FirstSaid Same Other Says ms ns d
      → FirstSaid Same Other Says ms ns e → d ≡ e
  both_once Same Other apart ms ns d e (f, x, says) (g, y, said) =
      said_once f d e says (subst (λ (o : Option (Moment × Moment)). IsSaid Says o e) (sym (first_once Same Other apart ms ns f g x y)) said)

seen_once : (tasks : List TaskId) (sees : List ℕ) (m n : Moment) (d e : Difference) → SaysSeen tasks sees m n d → SaysSeen tasks sees m n e → d ≡ e
seen_once tasks sees m n d e x y =
    let one = x.one ∙ sym y.one in
    let two = x.two ∙ sym y.two in
    let said = told_apart_is_one tasks sees m.world n.world d.said e.said x.said y.said in
    λ i. record { one = one i; two = two i; said = said i }

told_once : (m n : Moment) (d e : Difference) → SaysTold m n d → SaysTold m n e → d ≡ e
told_once m n d e x y =
    let one = x.one ∙ sym y.one in
    let two = x.two ∙ sym y.two in
    let said = x.said ∙ sym y.said in
    λ i. record { one = one i; two = two i; said = said i }

-- views of the same two worlds are the same except for names, or they aren't

one_renamed : (f : OtherNames) (a b c d : View) → IsOneView a c → IsOneView b d → IsRenamed f a b → IsRenamed f c d
one_renamed f a b c d one other is = record {
  rows = ap (λ rows. map (named_row_renamed f.to) (listed rows)) (sym one.rows) ∙ is.rows ∙ ap listed other.rows;
  seats = ap (map (option_map (task_renamed f.to 0))) (sym one.seats) ∙ is.seats ∙ other.seats;
  count = sym one.count ∙ is.count ∙ other.count;
}

not_both : (tasks : List TaskId) (v w : World) → SeeAlike tasks v w → SeeOther tasks v w → ⊥
not_both tasks v w (a, b, in_a, in_b, alike) (c, d, in_c, in_d, other) =
    other (alike.0, alike.1, one_renamed alike.0 a b c d (views_are_one tasks v a c in_a in_c) (views_are_one tasks w b d in_b in_d) alike.2)

-- what is compared of the same tasks is one
compared_once : (tasks : List TaskId) (sees : List ℕ) (ms ns : List Moment) (c e : Compared) → Compares (SeeAlike tasks) (SeeOther tasks) tasks sees ms ns c
    → Compares (SeeAlike tasks) (SeeOther tasks) tasks sees ms ns e → c ≡ e
compared_once tasks sees ms ns c e x y =
    let seen = both_once (SaysSeen tasks sees) (seen_once tasks sees) (λ m n. SeeAlike tasks m.world n.world) (λ m n. SeeOther tasks m.world n.world) (λ m n. not_both tasks m.world n.world) ms ns c.seen e.seen x.seen y.seen in
    let told = both_once SaysTold told_once TellSame TellOther (λ m n same other. other same) ms ns c.told e.told x.told y.told in
    λ i. record { seen = seen i; told = told i }

pub report_is_one : ReportIsOne
report_is_one word one two v w s t x y =
    let same = alike _ _ _ _ x.learners y.learners x.these y.these in
    let other : Compares (SeeAlike x.learners.tasks.items) (SeeOther x.learners.tasks.items) x.learners.tasks.items x.learners.sees.items
    (moments_of scripts (among x.learners.tasks.items) one) (moments_of scripts (among x.learners.tasks.items) two) y.compared = rw (same.tasks, same.sees) y.compares in
    let is = compared_once x.learners.tasks.items x.learners.sees.items (moments_of scripts (among x.learners.tasks.items) one) (moments_of scripts (among x.learners.tasks.items) two) x.compared y.compared x.compares other in
    let text : List TaskId → List ℕ → List ℕ → Compared → List ℕ = λ tasks sees names c. seen_text sees (lines_in scripts one) (lines_in scripts two) c.seen ++ told_text (names ++ get_of tasks) (lines_in scripts one) (lines_in scripts two) c.told in (
      x.judged ∙ (ap (λ (c : Compared). verdict_of c.told) is ∙ sym y.judged),
      x.is ∙ ((λ i. text (same.tasks i) (same.sees i) (same.names i) (is i)) ∙ sym y.is),
    )
