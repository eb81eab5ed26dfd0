-- A program of learners prints one text of each.
use Rattle.std.proofs.Common.{◌≡◌, ◌∙◌, inl, inr, sym, refl, ap, subst, not, ℕ, ◌+◌, Bool, true, false, List, [], ◌∷◌, ◌++◌, map, append_assoc}
use Rattle.std.specs.Prelude.{Option}
use Rattle.std.proofs.lemmas.List.{map-append}
use Rattle.std.proofs.lemmas.Option.{same_Some}
use Rattle.hurd_creds.specs.declared.name.TaskId.{TaskId}
use Rattle.hurd_machine.specs.World.{World}
use Rattle.hurd_dialogue.specs.Parts.{Part, answers}
use Rattle.hurd_words.specs.declared.answers.Answer.{Answer}
use Rattle.hurd_dialogue.specs.Sorts.{Sort, last_world}
use Rattle.hurd_words.specs.Turns.{paragraph}
use Rattle.hurd_lessons.specs.Told.{Said, last_line, printed, tally_from}
use Rattle.hurd_lessons.proofs.OneLesson.{lesson_is_one, seen_is_one}
use Rattle.hurd_terminal.specs.Faults.{IsFront}
use Rattle.hurd_teaching.specs.Learners.{AreNamed, Speech, is_quiet, numbers, see_of, speech, verb_of}
use Rattle.hurd_teaching.specs.Lessons.{LessonsOf, told_text}
use Rattle.hurd_teaching.specs.Limits.{all_shortened, shortened, shortened_said}
use Rattle.hurd_teaching.specs.Looks.{is_due}
use Rattle.hurd_teaching.specs.Programs.{AreThese, PrintsOneText, SeenAtEnd, learning, seeing}
use Rattle.hurd_teaching.specs.Shown.{Front, FrontOfSome, Whole, last_of}
use Rattle.hurd_teaching.specs.Telling.{Shows}
use Rattle.hurd_teaching.specs.declared.learners.Learners.{Learners}

-- what is shown is one text
shows_is_one : (tasks : List TaskId) (sees : List ℕ) (asked : Bool) (x : World) (s t : List ℕ) → Shows tasks sees asked x s → Shows tasks sees asked x t → s ≡ t
shows_is_one tasks sees true x s t (a, in_a, is_s) (b, in_b, is_t) = is_s ∙ (seen_is_one tasks sees x a b in_a in_b ∙ sym is_t)
shows_is_one tasks sees false x s t is_s is_t = is_s ∙ sym is_t

-- of first parts, with what is said after first ones, a front is printed of what is printed of all
printed_front : (ps qs : List Answer) (xs ys : List Said) → IsFront (printed ps xs) (printed (ps ++ qs) (xs ++ ys))
printed_front [] qs xs ys = (printed qs (xs ++ ys), refl)
printed_front (p ∷ ps) qs [] ys = (printed (p ∷ (ps ++ qs)) ys, refl)
printed_front (p ∷ ps) qs (x ∷ xs) ys =
    let it = printed_front ps qs xs ys in
    let here : List ℕ = paragraph p (x.text ++ x.shown) in
    (it.0, ap (λ (u : List ℕ). here ++ u) it.1 ∙ sym (append_assoc here (printed ps xs) it.0))

-- what is said after some parts begins what is said after them and others that follow
lessons_front : (tasks : List TaskId) (who : Speech) (n : ℕ) (w : World) (ps more : List Part) (s t : List Said) → LessonsOf tasks who n w ps s → LessonsOf tasks who n w (ps ++ more) t
    → (rest : List Said) × (t ≡ s ++ rest)
lessons_front tasks who n w [] more s t none y = (t, ap (λ (u : List Said). u ++ t) (sym none))
lessons_front tasks who n w (p ∷ ps) more s t (text, shown, said, split, lesson, shows, rest) (text2, shown2, said2, split2, lesson2, shows2, rest2) =
    let quiet = is_quiet tasks who.from n p.task in
    let it = lessons_front tasks who (n + 1) p.world ps more said said2 rest rest2 in
    let texts_same : text ≡ text2 = lesson_is_one tasks who.learns quiet w p.world text text2 lesson lesson2 in
    let shows_same : shown ≡ shown2 = shows_is_one tasks who.sees (is_due who.looks (n + 1)) p.world shown shown2 shows shows2 in (
      it.0,
      split2
          ∙ (sym (λ i. record { counts = not quiet; text = texts_same i; shown = shows_same i } ∷ said2)
          ∙ (ap (λ (u : List Said). record { counts = not quiet; text = text; shown = shown } ∷ u) it.1 ∙ ap (λ (u : List Said). u ++ it.0) (sym split))),
    )

lessons_once : (tasks : List TaskId) (who : Speech) (n : ℕ) (w : World) (ps : List Part) (s t : List Said) → LessonsOf tasks who n w ps s → LessonsOf tasks who n w ps t → s ≡ t
lessons_once tasks who n w [] s t none none2 = none ∙ sym none2
lessons_once tasks who n w (p ∷ ps) s t (text, shown, said, split, lesson, shows, rest) (text2, shown2, said2, split2, lesson2, shows2, rest2) =
    let quiet = is_quiet tasks who.from n p.task in
    let texts_same : text ≡ text2 = lesson_is_one tasks who.learns quiet w p.world text text2 lesson lesson2 in
    let shows_same : shown ≡ shown2 = shows_is_one tasks who.sees (is_due who.looks (n + 1)) p.world shown shown2 shows shows2 in
    split ∙ ((λ i. record { counts = not quiet; text = texts_same i; shown = shows_same i } ∷ lessons_once tasks who (n + 1) p.world ps said said2 rest rest2 i) ∙ sym split2)

-- the same learners, however they are kept
pub record AreAlike (l m : Learners) : Type 0 where
  pub tasks : l.tasks.items ≡ m.tasks.items
  pub who : l.who.items ≡ m.who.items
  pub sees : l.sees.items ≡ m.sees.items
  pub names : l.names.items ≡ m.names.items
  pub looks : l.looks.items ≡ m.looks.items
  pub starts : l.from ≡ m.from

speech_same : (l m : Learners) → AreAlike l m → speech l ≡ speech m
speech_same l m a = λ i. record { learns = a.who i; sees = a.sees i; looks = a.looks i; from = a.starts i }

-- tasks by their numbers
numbers_back : (ts : List TaskId) → map (λ (n : ℕ). record { 0 = n }) (numbers ts) ≡ ts
numbers_back [] = refl
numbers_back (t ∷ ts) = ap (λ (us : List TaskId). t ∷ us) (numbers_back ts)

pub alike : (named : Option (List ℕ)) (called : List TaskId → List ℕ) (asked : List Bool) (from : ℕ) (l m : Learners) → AreNamed named called asked from l → AreNamed named called asked from m → AreAlike l m
alike named called asked from l m x y = record {
  tasks = tasks;
  who = x.who ∙ (ap (λ (ts : List TaskId). called ts ++ verb_of ts) tasks ∙ sym y.who);
  sees = x.sees ∙ (ap (λ (ts : List TaskId). called ts ++ see_of ts) tasks ∙ sym y.sees);
  names = x.names ∙ (ap called tasks ∙ sym y.names);
  looks = x.looks ∙ sym y.looks;
  starts = x.starts ∙ sym y.starts;
}
  where
    same : numbers l.tasks.items ≡ numbers m.tasks.items
    same = same_Some (numbers l.tasks.items) (numbers m.tasks.items) (sym x.tasks ∙ y.tasks)

    tasks : l.tasks.items ≡ m.tasks.items
    tasks = sym (numbers_back l.tasks.items) ∙ (ap (map (λ (n : ℕ). record { 0 = n })) same ∙ numbers_back m.tasks.items)

module _ (most : Option ℕ) (thing : List ℕ) (w : World) (parts : List Part) (l m : Learners) (a : AreAlike l m) where
  -- the same is said of them
  moved : (t : List Said) → LessonsOf m.tasks.items (speech m) 0 w parts t → LessonsOf l.tasks.items (speech l) 0 w parts t
  moved t y =
      subst (λ (ts : List TaskId). LessonsOf ts (speech l) 0 w parts t) (sym a.tasks)
      (subst (λ (who : Speech). LessonsOf m.tasks.items who 0 w parts t) (sym (speech_same l m a)) y)

  whole_once : (s t : List ℕ) → Whole most l thing w parts s → Whole most m thing w parts t → s ≡ t
  whole_once s t x y =
      let same = lessons_once l.tasks.items (speech l) 0 w parts x.said y.said x.lessons (moved y.said y.lessons) in
      x.is
      ∙ ((λ i. told_text parts (all_shortened most (speech_same l m a i) (same i)) ++ last_line (a.names i) thing (tally_from (record { others = 0; taught = 0 }) (same i)))
      ∙ sym y.is)

  -- of some first parts a front is printed
  some_front : (f : List ℕ) (t : List Said) → FrontOfSome most l w parts f → LessonsOf l.tasks.items (speech l) 0 w parts t → IsFront f (told_text parts (all_shortened most (speech l) t))
  some_front f t some y =
      let it = lessons_front l.tasks.items (speech l) 0 w some.first some.left some.said t some.lessons (subst (λ (ps : List Part). LessonsOf l.tasks.items (speech l) 0 w ps t) some.split y) in
      let short : List Said → List Said = all_shortened most (speech l) in
      let more = printed_front (answers some.first) (answers some.left) (short some.said) (short it.0) in (
        some.front.0 ++ more.0,
        ap (λ (ps : List Part). told_text ps (short t)) some.split
            ∙ (ap (λ (ps : List Answer). printed ps (short t)) (map-append (λ (p : Part). p.answer) some.first some.left)
            ∙ (ap (λ (u : List Said). printed (answers some.first ++ answers some.left) (short u)) it.1
            ∙ (ap (printed (answers some.first ++ answers some.left)) (map-append (shortened_said most (speech l)) some.said it.0)
            ∙ (more.1 ∙ (ap (λ (u : List ℕ). u ++ more.0) some.front.1 ∙ append_assoc f some.front.0 more.0))))),
      )

  front_once : (s t : List ℕ) → Front most l thing w parts s → Whole most m thing w parts t → IsFront s t
  unfolding Front
  front_once s t (inl some) y =
      let it = some_front s y.said some (moved y.said y.lessons) in
      let last = last_of m thing y.said in (
        it.0 ++ last,
        y.is ∙ (ap (λ (who : Speech). told_text parts (all_shortened most who y.said) ++ last) (sym (speech_same l m a))
            ∙ (ap (λ (u : List ℕ). u ++ last) it.1 ∙ append_assoc s it.0 last)),
      )
  front_once s t (inr part) y = let same = whole_once part.0 t part.1 y in (part.2.0, sym same ∙ part.2.1)

pub one_text_is_printed : (sort : Sort) (most : Option ℕ) (word : List ℕ) → PrintsOneText (learning sort most word)
one_text_is_printed sort most word = record {
  one = λ text s t x y. whole_once most sort.thing (sort.world text) (sort.parts text) x.0 y.0 (alike _ _ _ _ x.0 y.0 x.1 y.1) s t x.2 y.2;
  front = λ text s t x y. front_once most sort.thing (sort.world text) (sort.parts text) x.0 y.0 (alike _ _ _ _ x.0 y.0 x.1 y.1) s t x.2 y.2;
}

-- and what some see at the end is one text, and any part of it a front
seen_once : (sort : Sort) (most : Option ℕ) (word text s t : List ℕ) → SeenAtEnd (AreThese sort word) sort most text s → SeenAtEnd (AreThese sort word) sort most text t → s ≡ t
seen_once sort most word text s t x y =
    let a = alike _ _ _ _ x.0 y.0 x.1 y.1 in
    let w = last_world sort text in
    let there = subst (λ (ts : List TaskId). Shows ts x.0.sees.items true w y.2) (sym a.tasks) (subst (λ (sees : List ℕ). Shows y.0.tasks.items sees true w y.2) (sym a.sees) y.3) in
    let same = shows_is_one x.0.tasks.items x.0.sees.items true w x.2 y.2 x.3 there in
    x.4 ∙ ((λ i. shortened most (a.sees i) (same i)) ∙ sym y.4)

pub one_sight_is_printed : (sort : Sort) (most : Option ℕ) (word : List ℕ) → PrintsOneText (seeing sort most word)
one_sight_is_printed sort most word = record {
  one = λ text s t x y. seen_once sort most word text s t x y;
  front = λ text s t x y. subst (IsFront s) (seen_once sort most word text x.0 t x.1 y) x.2;
}
