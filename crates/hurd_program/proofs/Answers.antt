-- What is told of a text in memory.
use Rattle.std.proofs.Common.{◌≡◌, sym, subst, ℕ, List, [], Option, Some, Ok, Err}
use Rattle.hurd_terminal.specs.Runs.{Adds, Prints, Program}
use Rattle.hurd_terminal.specs.declared.fault.Fault.{Fault}
use Rattle.hurd_terminal.specs.declared.fault.Fault.TheVariants.{Read, Write, Bad, Unknown, Boot, Memory}
use Rattle.hurd_program.specs.Answers.{IsWhy, Tells}

-- all that was printed in memory, where nothing was before, is what is told
pub tells_all : (p : Program) (text before told : List ℕ) → before ≡ [] → Adds p text (Some before) (Some told) (Ok tt) → Tells p text (Ok tt) told
unfolding Prints
tells_all p text before told none (printed, appends, prints) = (prints.0, subst (λ (t : List ℕ). p.IsAll text t) (sym (rw none at appends)) prints.1)

-- else why there is nothing
pub tells_why : (p : Program) (text told : List ℕ) (before after : Option (List ℕ)) (fault : Fault) → Adds p text before after (Err fault) → IsWhy p text fault told → Tells p text (Err fault) told
unfolding Prints
tells_why p text told before after (Bad line) adds why = (adds.2.0, why)
tells_why p text told before after Unknown adds why = (adds.2.0, adds.2.1, why)
tells_why p text told before after (Boot e) adds why = (adds.2.0, adds.2.1, why)
tells_why p text told before after Read adds why = absurd why
tells_why p text told before after Write adds why = absurd why
tells_why p text told before after Memory adds why = absurd why
