-- What was told so far of the parts of a text.
use Rattle.std.proofs.Common.{◌≡◌, ◌∙◌, ◌+◌, refl, sym, ap, subst, not, suc, true, false, ℕ, List, [], ◌∷◌, ◌++◌, length, Option, None, inl, inr, append-nil}
use Rattle.std.proofs.KnownBytes.{Appends-nil, Appends-trans}
use Rattle.hurd_creds.specs.declared.name.TaskId.{TaskId}
use Rattle.hurd_machine.specs.World.{World}
use Rattle.hurd_dialogue.specs.Parts.{Part, Way}
use Rattle.hurd_views.specs.declared.view.View.{View}
use Rattle.hurd_lessons.specs.Told.{Said, counted}
use Rattle.hurd_lessons.specs.declared.tally.Tally.{Tally}
use Rattle.hurd_terminal.specs.Faults.{AppendsFront}
use Rattle.hurd_terminal.proofs.OutputLaws.{front_follows}
use Rattle.hurd_teaching.specs.Learners.{Speech, is_quiet}
use Rattle.hurd_teaching.specs.Lessons.{told_text}
use Rattle.hurd_teaching.specs.Limits.{all_shortened}
use Rattle.hurd_teaching.specs.Shown.{IsTold, StepsTo, StopsAt, ToldAll, ToldSome, part_text}
use Rattle.hurd_teaching.specs.Watched.{SeenOf}
use Rattle.hurd_teaching.proofs.SayingLaws.{counts_loud}

module _ (most : Option ℕ) (tasks : List TaskId) (who : Speech) (n : ℕ) (w : World) where
  -- what is said of a part where so many were told
  abbrev said_here : Part → List ℕ → List ℕ → Said
  said_here p text shown = record { counts = not (is_quiet tasks who.from n p.task); text = text; shown = shown }

  -- of no part, nothing is told

  all_none : (tally : Tally) (now : Option (List ℕ)) → ToldAll most tasks who n w [] tally now tally now
  all_none tally now = record { said = []; lessons = refl; appends = Appends-nil now; counts = refl }

  some_none : (parts : List Part) (now : Option (List ℕ)) → ToldSome most tasks who n w parts now now
  some_none parts now = record { first = []; left = parts; split = refl; said = []; lessons = refl; front = ([], ([], refl), Appends-nil now) }

  -- of a first part a front is told
  some_part : (old : Way) (now later : Option (List ℕ)) → old.told ≡ n → old.world ≡ w → StopsAt most tasks who old now later → ToldSome most tasks who n w old.left now later
  some_part old now later count here (inl same) = rw same (some_none old.left now)
  some_part old now later count here (inr (p, rest, is, text, shown, lesson, shows, front)) =
      let this = part_text most who p text shown in
      record {
        first = p ∷ [];
        left = rest;
        split = is;
        said = said_here p text shown ∷ [];
        lessons = (text, shown, [], refl, rw (count, here) at lesson, rw count at shows, refl);
        front = subst (λ (bs : List ℕ). AppendsFront now later bs) (sym (append-nil this)) front;
      }

  module _ (p : Part) (kept : Option View) (tally count : Tally) (now later : Option (List ℕ)) (told : IsTold most tasks who n w p tally now kept count later) where
    abbrev this : List ℕ
    this = part_text most who p told.said told.shown

    abbrev here_said : Said
    here_said = said_here p told.said told.shown

    -- a part is told, and then the rest

    all_more : (ps : List Part) (fin : Tally) (end : Option (List ℕ)) → ToldAll most tasks who (n + 1) p.world ps count later fin end → ToldAll most tasks who n w (p ∷ ps) tally now fin end
    all_more ps fin end here =
        let same = rw (told.counts ∙ counts_loud (is_quiet tasks who.from n p.task) tally (counted tally told.said)) at here.counts in
        record {
          said = here_said ∷ here.said;
          lessons = (told.said, told.shown, here.said, refl, told.lesson, told.shows, here.lessons);
          appends = Appends-trans now later end this (told_text ps (all_shortened most who here.said)) told.appends here.appends;
          counts = same;
        }

    some_more : (ps : List Part) (end : Option (List ℕ)) → ToldSome most tasks who (n + 1) p.world ps later end → ToldSome most tasks who n w (p ∷ ps) now end
    some_more ps end here =
        let more = told_text here.first (all_shortened most who here.said) in
        record {
          first = p ∷ here.first;
          left = here.left;
          split = ap (λ (qs : List Part). p ∷ qs) here.split;
          said = here_said ∷ here.said;
          lessons = (told.said, told.shown, here.said, refl, told.lesson, told.shows, here.lessons);
          front = front_follows now later end (this ++ more) this more ([], sym (append-nil (this ++ more))) told.appends here.front;
        }

-- what is told of the parts that are left is the rest of what is told of all; and what is kept of what is seen is this world's
pub record Following (most : Option ℕ) (tasks : List TaskId) (who : Speech) (start : Way) (tally : Tally) (before : Option (List ℕ))
    (way : Way) (kept : Option View) (count : Tally) (now : Option (List ℕ)) : Type 0 where
  pub all : (fin : Tally) (end : Option (List ℕ)) → ToldAll most tasks who way.told way.world way.left count now fin end → ToldAll most tasks who start.told start.world start.left tally before fin end
  pub some : (end : Option (List ℕ)) → ToldSome most tasks who way.told way.world way.left now end → ToldSome most tasks who start.told start.world start.left before end
  pub seen : SeenOf tasks way.world kept

-- at the beginning nothing was seen
pub following_none : (most : Option ℕ) (tasks : List TaskId) (who : Speech) (start : Way) (tally : Tally) (before : Option (List ℕ)) (kept : Option View) → kept ≡ None → Following most tasks who start tally before start kept tally before
following_none most tasks who start tally before kept none = record { all = λ fin end told. told; some = λ end told. told; seen = rw none tt }

module _ (most : Option ℕ) (tasks : List TaskId) (who : Speech) (start : Way) (tally : Tally) (before : Option (List ℕ)) (old : Way) (kept : Option View) (count : Tally) (now : Option (List ℕ))
    (is : Following most tasks who start tally before old kept count now) where
  -- a part is told
  pub following_more : (new : Way) (view : Option View) (next : Tally) (later : Option (List ℕ)) → StepsTo most tasks who old count now true new view next later
      → Following most tasks who start tally before new view next later
  unfolding StepsTo
  following_more new view next later (p, left, world, told, this) = record {
    all = λ fin end rest. is.all fin end (rw left (all_more most tasks who old.told old.world p view count next now later this new.left fin end (rw (told, world) at rest)));
    some = λ end rest. is.some end (rw left (some_more most tasks who old.told old.world p view count next now later this new.left end (rw (told, world) at rest)));
    seen = rw world this.seen;
  }

  -- a front of one is
  pub following_cut : (later : Option (List ℕ)) → StopsAt most tasks who old now later → ToldSome most tasks who start.told start.world start.left before later
  following_cut later stops = is.some later (some_part most tasks who old.told old.world old now later refl refl stops)

  -- all parts are told
  pub following_done : (new : Way) (view : Option View) (next : Tally) (later : Option (List ℕ)) → StepsTo most tasks who old count now false new view next later
      → ToldAll most tasks who start.told start.world start.left tally before next later
  unfolding StepsTo
  following_done new view next later (none, same, there) = rw (same, there) (is.all count now (rw none (all_none most tasks who old.told old.world count now)))

-- one part less is left
pub fewer : (most : Option ℕ) (tasks : List TaskId) (who : Speech) (old new : Way) (view : Option View) (count next : Tally) (now later : Option (List ℕ)) → StepsTo most tasks who old count now true new view next later
    → length old.left ≡ suc (length new.left)
unfolding StepsTo
fewer most tasks who old new view count next now later told = ap length told.1
