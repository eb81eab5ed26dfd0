-- What a program of learners has printed of a text that was begun.
use Rattle.std.proofs.Common.{◌≡◌, ◌∙◌, ap, sym, inl, ℕ, Bool, true, List, Option, Some, None, Result, Ok, Err}
use Rattle.std.specs.Io.KnownBytes.{Appends}
use Rattle.std.specs.Prelude.{IfErr, OnOk, drop, is_some}
use Rattle.hurd_words.specs.Lines.{lines_of}
use Rattle.hurd_dialogue.specs.Parts.{Way, world_behind}
use Rattle.hurd_dialogue.specs.Sorts.{Begins, Sort, last_world}
use Rattle.hurd_terminal.specs.Faults.{AppendsFront, IsFront}
use Rattle.hurd_terminal.specs.Runs.{Adds, IsTaken, Program}
use Rattle.hurd_terminal.specs.declared.fault.Fault.{Fault}
use Rattle.hurd_terminal.specs.declared.fault.Fault.TheVariants.{Unknown, Write}
use Rattle.hurd_terminal.specs.declared.print.Output.{Output}
use Rattle.hurd_terminal.proofs.RunLaws.{adds_all, adds_part, adds_unknown}
use Rattle.hurd_teaching.specs.Learners.{Named, tasks_named}
use Rattle.hurd_teaching.specs.Limits.{shortened}
use Rattle.hurd_teaching.specs.Looks.{asks_of, starts_of}
use Rattle.hurd_teaching.specs.Programs.{AreThese, learning, seeing}
use Rattle.hurd_teaching.specs.Shown.{NotShown, Shown}
use Rattle.hurd_teaching.specs.Telling.{Shows}
use Rattle.hurd_teaching.specs.declared.learners.Learners.{Learners}

-- a program that prints all in one piece printed it, or a front of it
pub adds_piece : (p : Program) {W : Type 0} (output : Output W) (was : Bool) (before after : Option (List ℕ)) (text whole : List ℕ) (ended : Result (Unit {0}) Fault)
    → IsTaken p text → p.IsAll text whole → ((front : List ℕ) → IsFront front whole → p.IsPart text front) → OnOk ended (Appends before after whole × (output.failed ≡ was))
    → IfErr ended (λ fault. (fault ≡ Write) × (output.failed ≡ true) × AppendsFront before after whole) → Adds p text before after ended
adds_piece p output was before after text whole (Ok u) taken all part ok err = adds_all p before after text whole u taken all ok.0
adds_piece p output was before after text whole (Err fault) taken all part ok err =
    adds_part p output before after text err.2.0 fault (inl (err.0, err.1)) taken (part err.2.0 err.2.1) err.2.2

module _ (sort : Sort) (text word : List ℕ) (way : Way) (begins : Begins sort text way) where
  finds_same : way.finds ≡ sort.finds text
  finds_same = λ i. λ name. begins.finds name i

  -- somebody is named who isn't in it
  pub nobody_adds : (p : Program) → p.bad text ≡ sort.bad text → p.known text ≡ is_some (tasks_named (sort.finds text) word) → (before : Option (List ℕ))
      → Named (tasks_named way.finds word) (sort.called word) (drop way.heading (asks_of (lines_of text))) (starts_of way.heading (lines_of text)) None → Adds p text before before (Err Unknown)
  nobody_adds p bad known before none =
      let unknown = ap (λ (f : List ℕ → Option ℕ). is_some (tasks_named f word)) (sym finds_same) ∙ ap is_some none in
      adds_unknown p before text (bad ∙ begins.good) (known ∙ unknown)

  module _ (learners : Learners) (named : Named (tasks_named way.finds word) (sort.called word) (drop way.heading (asks_of (lines_of text))) (starts_of way.heading (lines_of text)) (Some learners)) where
    pub these : AreThese sort word text learners
    these = rw (finds_same, begins.heading) at named

    taken : (most : Option ℕ) → IsTaken (learning sort most word) text
    taken most = record { good = begins.good; known = ap is_some these.tasks }

    pub learned_adds : (most : Option ℕ) {W : Type 0} (output : Output W) (before after : Option (List ℕ)) (ended : Result (Unit {0}) Fault) → OnOk ended (Shown most learners sort.thing way.world way.left before after)
        → IfErr ended (λ fault. NotShown most learners sort.thing way.world way.left output before fault after) → Adds (learning sort most word) text before after ended
    learned_adds most output before after (Ok u) ok err =
        let here : Shown most learners sort.thing (sort.world text) (sort.parts text) before after = rw (begins.world, begins.left) at ok in
        adds_all (learning sort most word) before after text here.text u (taken most) (learners, these, here.whole) here.appends
    learned_adds most output before after (Err fault) ok err =
        let here : NotShown most learners sort.thing (sort.world text) (sort.parts text) output before fault after = rw (begins.world, begins.left) at err in
        adds_part (learning sort most word) output before after text here.1.0 fault here.0 (taken most) (learners, these, here.1.1) here.1.2

    -- what they see at the end was printed, or a front of it
    pub seen_adds : (most : Option ℕ) {W : Type 0} (output : Output W) (was : Bool) (before after : Option (List ℕ)) (ended : Result (Unit {0}) Fault) (all whole : List ℕ)
        → Shows learners.tasks.items learners.sees.items true (world_behind way.world way.left) all → whole ≡ shortened most learners.sees.items all → OnOk ended (Appends before after whole × (output.failed ≡ was))
        → IfErr ended (λ fault. (fault ≡ Write) × (output.failed ≡ true) × AppendsFront before after whole) → Adds (seeing sort most word) text before after ended
    seen_adds most output was before after ended all whole shows short ok err =
        let there : Shows learners.tasks.items learners.sees.items true (last_world sort text) all = rw (begins.world, begins.left) at shows in
        adds_piece (seeing sort most word) output was before after text whole ended (record { good = begins.good; known = ap is_some these.tasks }) (learners, these, all, there, short)
        (λ front is. (whole, (learners, these, all, there, short), is)) ok err
