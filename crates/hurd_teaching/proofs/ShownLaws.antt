-- What is printed of parts, and the last line.
use Rattle.std.proofs.Common.{◌≡◌, ◌∙◌, inl, inr, refl, sym, ap, subst, true, ℕ, List, [], ◌++◌, Option, Result, Ok, Err, append-nil}
use Rattle.std.proofs.KnownBytes.{Appends-trans}
use Rattle.std.specs.Io.KnownBytes.{Appends}
use Rattle.std.specs.Prelude.{IfErr, OnOk}
use Rattle.hurd_machine.specs.World.{World}
use Rattle.hurd_dialogue.specs.Parts.{Part}
use Rattle.hurd_lessons.specs.Told.{last_line}
use Rattle.hurd_lessons.specs.declared.tally.Tally.{Tally}
use Rattle.hurd_terminal.specs.Faults.{AppendsFront}
use Rattle.hurd_terminal.specs.declared.fault.Fault.{Fault}
use Rattle.hurd_terminal.specs.declared.fault.Fault.TheVariants.{Write}
use Rattle.hurd_terminal.specs.declared.print.Output.{Output}
use Rattle.hurd_terminal.proofs.OutputLaws.{front_follows}
use Rattle.hurd_teaching.specs.Learners.{speech}
use Rattle.hurd_teaching.specs.Lessons.{told_text}
use Rattle.hurd_teaching.specs.Limits.{all_shortened}
use Rattle.hurd_teaching.specs.Shown.{Front, NotShown, Shown, ShowsFront, ToldAll, ToldSome, Whole, last_of}
use Rattle.hurd_teaching.specs.declared.learners.Learners.{Learners}

module _ (most : Option ℕ) (learners : Learners) (n : ℕ) (w : World) (parts : List Part) (before : Option (List ℕ)) (begun : n ≡ 0) where
  -- some first parts were told
  pub front_shown : (thing : List ℕ) (after : Option (List ℕ)) → ToldSome most learners.tasks.items (speech learners) n w parts before after → ShowsFront most learners thing w parts before after
  unfolding Front
  front_shown thing after some = (
    some.front.0,
    inl record { first = some.first; left = some.left; split = some.split; said = some.said; lessons = rw begun at some.lessons; front = some.front.1 },
    some.front.2,
  )

  module _ (thing : List ℕ) (count : Tally) (between : Option (List ℕ)) (told : ToldAll most learners.tasks.items (speech learners) n w parts (record { others = 0; taught = 0 }) before count between) where
    abbrev texts_told : List ℕ
    texts_told = told_text parts (all_shortened most (speech learners) told.said)

    whole : Whole most learners thing w parts (texts_told ++ last_of learners thing told.said)
    whole = record { said = told.said; lessons = rw begun at told.lessons; is = refl }

    -- all were told, and there is no last line
    pub line_missing : ShowsFront most learners thing w parts before between
    unfolding Front
    line_missing = (texts_told, inr (texts_told ++ last_of learners thing told.said, whole, (last_of learners thing told.said, refl)), told.appends)

    module _ (line : List ℕ) (is : line ≡ last_line learners.names.items thing count) (after : Option (List ℕ)) where
      -- the last line says what was counted
      counts_line : line ≡ last_of learners thing told.said
      counts_line = is ∙ ap (last_line learners.names.items thing) told.counts

      -- it was printed
      pub line_shown : (P : Type 0) (r : Result (Unit {0}) Fault) → OnOk r (Appends between after line × P) → OnOk r (Shown most learners thing w parts before after)
      line_shown P (Ok u) printed = record {
        text = texts_told ++ last_of learners thing told.said;
        whole = whole;
        appends = subst (λ (bs : List ℕ). Appends before after (texts_told ++ bs)) counts_line (Appends-trans before between after texts_told line told.appends printed.0);
      }
      line_shown P (Err fault) printed = tt

      -- a front of it was
      pub line_not_shown : {W : Type 0} (output : Output W) (r : Result (Unit {0}) Fault) → IfErr r (λ fault. (fault ≡ Write) × (output.failed ≡ true) × AppendsFront between after line)
          → IfErr r (λ fault. NotShown most learners thing w parts output before fault after)
      unfolding Front whole
      line_not_shown output (Ok u) cut = tt
      line_not_shown output (Err fault) cut =
          let all : List ℕ = texts_told ++ line in
          let (text, front, printed) = front_follows before between after all texts_told line ([], sym (append-nil all)) told.appends cut.2 in
          let mine : Whole most learners thing w parts all = record { said = told.said; lessons = whole.lessons; is = ap (λ (bs : List ℕ). texts_told ++ bs) counts_line } in
          (inl (cut.0, cut.1), (text, inr (all, mine, front), printed))
