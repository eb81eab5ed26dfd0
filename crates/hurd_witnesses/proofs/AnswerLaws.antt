-- What a text that was begun, or wasn't, tells at its end.
use Rattle.std.proofs.Common.{◌≡◌, ◌≢◌, ◌∙◌, ℕ, List, None, Option, Result, Ok, Err, IfOk, refl}
use Rattle.std.specs.declared.alloc.AllocError.{AllocError}
use Rattle.std.specs.List.{last_or}
use Rattle.hurd_dialogue.specs.Parts.{Way, answers}
use Rattle.hurd_dialogue.specs.Sorts.{Begins, NotBegun, Sort}
use Rattle.hurd_terminal.specs.declared.fault.Fault.{Fault}
use Rattle.hurd_words.specs.declared.answers.Answer.{Answer}
use Rattle.hurd_terminal.specs.declared.fault.Fault.TheVariants.{Read, Write, Bad, Unknown, Boot, Memory}
use Rattle.hurd_witnesses.specs.Answers.{answer_of}

-- one that was begun tells its last part
pub begun_answers : (sort : Sort) (text : List ℕ) (way : Way) → Begins sort text way → last_or None (answers way.left) ≡ answer_of sort text
unfolding answer_of
begun_answers sort text way b = rw (b.good, b.boots, b.left) refl

-- one that wasn't tells nothing, unless that was for lack of memory
pub none_answers : (sort : Sort) (text : List ℕ) (fault : Fault) → fault ≢ Memory → NotBegun sort text fault → None ≡ answer_of sort text
unfolding answer_of
none_answers sort text Read other not = absurd not
none_answers sort text Write other not = absurd not
none_answers sort text (Bad line) other not = rw not refl
none_answers sort text Unknown other not = absurd not
none_answers sort text (Boot e) other not = rw (not.0, not.1) refl
none_answers sort text Memory other not = absurd (other refl)

-- the same of a result
pub unbegun_answers : (sort : Sort) (text : List ℕ) (fault : Fault) → NotBegun sort text fault → (r : Result (Option Answer) AllocError)
    → IfOk r (λ told. (told ≡ None) × (fault ≢ Memory)) → IfOk r (λ told. told ≡ answer_of sort text)
unbegun_answers sort text fault not (Ok told) is = is.0 ∙ none_answers sort text fault is.1 not
unbegun_answers sort text fault not (Err e) is = tt
