-- One part of a text that is watched.
use Rattle.std.proofs.Common.{◌≡◌, ◌∙◌, refl, sym, ap, subst, inr, ℕ, Bool, true, false, true≢false, ◌+◌, List, Option, Some, None}
use Rattle.std.specs.Prelude.{if◌then◌else◌}
use Rattle.std.specs.Io.KnownBytes.{Appends}
use Rattle.hurd_creds.specs.declared.name.TaskId.{TaskId}
use Rattle.hurd_machine.specs.World.{World}
use Rattle.hurd_words.specs.declared.answers.Answer.{Answer}
use Rattle.hurd_dialogue.specs.Parts.{Goes, Part, Way, next_task}
use Rattle.hurd_views.specs.declared.view.View.{View}
use Rattle.hurd_lessons.specs.Told.{Lesson, Taught, counted}
use Rattle.hurd_lessons.specs.declared.tally.Tally.{Tally}
use Rattle.hurd_terminal.specs.Faults.{AppendsFront}
use Rattle.hurd_teaching.specs.Learners.{Speech, is_next_quiet, is_quiet}
use Rattle.hurd_teaching.specs.Looks.{is_due}
use Rattle.hurd_teaching.specs.Shown.{StepsTo, StopsAt, part_text}
use Rattle.hurd_teaching.specs.Telling.{SaysOf, Shows}
use Rattle.hurd_teaching.specs.Watched.{LearnedSince, Learns, SeenOf, Sees, SeesOr}

-- what is kept was seen in this world, so what is kept after a look was
pub sees_here : (tasks : List TaskId) (w : World) (before after : Option View) → SeenOf tasks w before → SeesOr tasks w before after → Sees tasks w after
sees_here tasks w None after seen sees = sees
sees_here tasks w (Some v) after seen same = (v, same, seen)

module _ (tasks : List TaskId) (who : Speech) where
  -- where something is said, that was taught
  taught : (w x : World) (before after : Option View) (text : List ℕ) → Sees tasks w before → Learns tasks who.learns x before after text → Taught tasks who.learns w x text
  unfolding LearnedSince
  taught w x None after text (v, same, views) learns = absurd (cc)
  taught w x (Some a) after text (v, same, views) learns =
      let this : v ≡ a = cc in
      (a, learns.view, rw this at views, learns.sees, learns.learned)

  pub lesson : (w x : World) (quiet : Bool) (before after : Option View) (text : List ℕ) → (quiet ≡ false → Sees tasks w before) → SaysOf tasks who.learns quiet x before after text → Lesson tasks who.learns quiet w x text
  lesson w x true before after text sees says = record { none = λ _. says.1; some = λ loud. absurd (true≢false loud) }
  lesson w x false before after text sees says = record { none = λ still. absurd (true≢false (sym still)); some = λ _. taught w x before after text (sees refl) says }

  pub kept_here : (x : World) (quiet : Bool) (before after : Option View) (text : List ℕ) → SaysOf tasks who.learns quiet x before after text → SeenOf tasks x after
  kept_here x true before after text says = rw says.0 tt
  kept_here x false before after text says = rw says.kept says.sees

  -- the next part was told by this text; what is said and shown after it
  module _ (old new : Way) (part : Answer) (goes : Goes old (Some part) new) (quiet : Bool) (before after : Option View) (text shown : List ℕ)
      (is : quiet ≡ is_next_quiet tasks who.from old.told (next_task old.left)) (sees : quiet ≡ false → Sees tasks old.world before)
      (says : SaysOf tasks who.learns quiet new.world before after text) (shows : Shows tasks who.sees (is_due who.looks new.told) new.world shown) where
    abbrev this : Part
    this = record { task = goes.0; answer = part; world = new.world }

    same_quiet : quiet ≡ is_quiet tasks who.from old.told goes.0
    same_quiet = is ∙ ap (λ (ps : List Part). is_next_quiet tasks who.from old.told (next_task ps)) goes.1

    this_lesson : Lesson tasks who.learns (is_quiet tasks who.from old.told goes.0) old.world new.world text
    this_lesson = subst (λ (b : Bool). Lesson tasks who.learns b old.world new.world text) same_quiet (lesson old.world new.world quiet before after text sees says)

    this_shown : Shows tasks who.sees (is_due who.looks (old.told + 1)) new.world shown
    this_shown = subst (λ (n : ℕ). Shows tasks who.sees (is_due who.looks n) new.world shown) goes.2 shows

    -- it was printed with that
    pub part_told : (most : Option ℕ) (tally count : Tally) (now later : Option (List ℕ)) → Appends now later (part_text most who this text shown) → count ≡ (if quiet then tally else counted tally text)
        → StepsTo most tasks who old tally now true new after count later
    unfolding StepsTo
    part_told most tally count now later adds counts = (
      this,
      goes.1,
      refl,
      goes.2,
      record {
        said = text;
        shown = shown;
        seen = kept_here new.world quiet before after text says;
        lesson = this_lesson;
        shows = this_shown;
        appends = adds;
        counts = counts ∙ ap (λ (b : Bool). if b then tally else counted tally text) same_quiet;
      },
    )

    -- or a front of it
    pub part_cut : (most : Option ℕ) (now later : Option (List ℕ)) → AppendsFront now later (part_text most who this text shown) → StopsAt most tasks who old now later
    part_cut most now later front = inr (this, new.left, goes.1, text, shown, this_lesson, this_shown, front)

  -- there was no part
  pub none_told : (most : Option ℕ) (old new : Way) (tally : Tally) (now : Option (List ℕ)) (kept : Option View) → Goes old None new → StepsTo most tasks who old tally now false new kept tally now
  unfolding StepsTo
  none_told most old new tally now kept none = (none.0, refl, refl)
