-- What is printed of a text, with how some could be told each thing.
use Rattle.std.proofs.Common.{◌≡◌, ◌≢◌, inl, true, ℕ, ◌-◌, List, [], Option, Some, None, Result, Ok, Err, refl}
use Rattle.std.specs.Prelude.{IfErr, IfOk, OnOk, Vec}
use Rattle.std.specs.Global.{Global}
use Rattle.std.specs.declared.alloc.AllocError.{AllocError}
use Rattle.std.specs.Io.KnownBytes.{Appends}
use Rattle.hurd_dialogue.specs.Sorts.{Sort}
use Rattle.hurd_teaching.specs.Programs.{learning}
use Rattle.hurd_terminal.specs.Faults.{AppendsFront}
use Rattle.hurd_terminal.specs.Runs.{Adds, IsTaken, Prints}
use Rattle.hurd_terminal.specs.declared.fault.Fault.{Fault}
use Rattle.hurd_terminal.specs.declared.fault.Fault.TheVariants.{Read, Write, Bad, Unknown, Boot, Memory}
use Rattle.hurd_terminal.specs.declared.print.Output.{Output}
use Rattle.hurd_terminal.proofs.RunLaws.{adds_all, adds_part, no_memory}
use Rattle.hurd_witnesses.specs.Finding.{finding}
use Rattle.hurd_words.specs.Lines.{lines_of}
use Rattle.hurd_witnesses.specs.Answers.{unended}
use Rattle.hurd_witnesses.specs.Witnesses.{IsHunt, IsWitnessed, witnessed}
use Rattle.hurd_witnesses.specs.declared.hunt.Hunt.{Hunt}

-- what was added to nothing is all that is there
pub all_added : (xs printed : List ℕ) → Appends (Some []) (Some xs) printed → xs ≡ printed
all_added xs printed adds = adds

abbrev pub NotKept : Sort → List ℕ → List ℕ → Fault → Type 0
NotKept sort word text fault = (fault ≢ Read) × (fault ≢ Write) × Prints (finding sort word) text (Err fault) []

module _ (sort : Sort) (word text : List ℕ) where
  pub none_for_memory : NotKept sort word text Memory
  unfolding Prints
  none_for_memory = (λ e. absurd (cc e), λ e. absurd (cc e), inl refl)

  -- a fault of what was to be kept in memory
  pub not_kept : (fault next : Fault) (printed : List ℕ) → (fault ≡ Write → next ≡ Memory) × (fault ≢ Write → next ≡ fault) → fault ≢ Read → Prints (learning sort None word) text (Err fault) printed
      → NotKept sort word text next
  unfolding Prints
  not_kept Read next printed kept read prints = absurd (read refl)
  not_kept Write next printed kept read prints = rw (kept.0 refl) none_for_memory
  not_kept (Bad line) next printed kept read prints = rw (kept.1 (λ e. absurd (cc e))) (λ e. absurd (cc e), λ e. absurd (cc e), (prints.0, refl))
  not_kept Unknown next printed kept read prints = rw (kept.1 (λ e. absurd (cc e))) (λ e. absurd (cc e), λ e. absurd (cc e), (prints.0, prints.1, refl))
  not_kept (Boot e) next printed kept read prints = rw (kept.1 (λ e. absurd (cc e))) (λ e. absurd (cc e), λ e. absurd (cc e), (prints.0, prints.1, refl))
  not_kept Memory next printed kept read prints = rw (kept.1 (λ e. absurd (cc e))) none_for_memory

  -- all that was printed was kept
  pub kept_all : (xs printed : List ℕ) (u : Unit {0}) → Appends (Some []) (Some xs) printed → Prints (learning sort None word) text (Ok u) printed
      → IsTaken (learning sort None word) text × (learning sort None word).IsAll text xs
  unfolding Prints
  kept_all xs printed u adds prints = rw (all_added xs printed adds) prints

  -- no memory, or what was found, or a front of it

  pub no_memory_after : (before : Option (List ℕ)) → Adds (finding sort word) text before before (Err Memory)
  no_memory_after before = no_memory (finding sort word) before text

  module _ (learned found : List ℕ) (taken : IsTaken (learning sort None word) text) (all : (learning sort None word).IsAll text learned) (is : IsWitnessed sort word text learned found) where
    taken_too : IsTaken (finding sort word) text
    taken_too = record { good = taken.good; known = taken.known }

    pub found_printed : {W : Type 0} (o : Output W) (Q : Type 0) (before after : Option (List ℕ)) (r : Result (Unit {0}) Fault) → OnOk r (Appends before after found × Q)
        → IfErr r (λ f. (f ≡ Write) × (o.failed ≡ true) × AppendsFront before after found) → Adds (finding sort word) text before after r
    found_printed o Q before after (Ok u) ok err = adds_all (finding sort word) before after text found u taken_too (learned, all, is) ok.0
    found_printed o Q before after (Err f) ok err =
        adds_part (finding sort word) o before after text err.2.0 f (inl (err.0, err.1)) taken_too (found, (learned, all, is), err.2.1) err.2.2

-- all lines were gone over
pub all_witnessed : (sort : Sort) (word text learned : List ℕ) (first : ℕ) → first ≡ sort.heading text - 1 → (h : Hunt) → IsHunt word text first h → (rest : List ℕ) → rest ≡ unended learned
    → (r : Result (Vec ℕ Global) AllocError) → IfOk r (λ v. v.items ≡ witnessed sort h 0 (lines_of rest)) → IfOk r (λ v. IsWitnessed sort word text learned v.items)
all_witnessed sort word text learned first is h hunt rest same (Ok v) said = record { hunt = h; is = rw (← is) hunt; all = rw (← same) said }
all_witnessed sort word text learned first is h hunt rest same (Err e) said = tt
