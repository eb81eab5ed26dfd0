-- The servers of seen nodes, gathered one node after another.
use Rattle.std.proofs.Common.{◌≡◌, ◌∙◌, ap, ℕ, ◌+◌, ◌<◌, ◌≤◌, [], take, length}
use Rattle.std.specs.Prelude.{slice_get}
use Rattle.std.proofs.lemmas.Option.{slice_get-get_or}
use Rattle.hurd_machine.proofs.Common.{Name, empty}
use Rattle.hurd_sight.specs.declared.found.Why.{Why}
use Rattle.hurd_sight.specs.declared.found.Why.TheVariants as why
use Rattle.hurd_sight.specs.Parts.{at_entry, named, of_found}
use Rattle.hurd_sight.proofs.FoundLaws.{Entries}
use Rattle.hurd_sight.proofs.NameLaws.{Names, named-append}
use Rattle.hurd_sight.proofs.WalkLaws.{each, walk_all, walk_next}

nobody : Name × Why
nobody = (record { task = record { 0 = 0 }; count = 0 }, why.Root)

-- a walk over entries, by what there is at each index
module _ (f : Name → Names) (es : Entries) (i : ℕ) (a b : Names) where
  pub entries_next : (c : Names) → i < length es → b ≡ named (of_found f (take i es)) a → c ≡ named (at_entry f (slice_get es i)) b → c ≡ named (of_found f (take (i + 1) es)) a
  entries_next c below before step =
      walk_next (each named named-append (λ (e : Name × Why). f e.0)) es i nobody a b c below before (rw (slice_get-get_or es i nobody below) at step)

  pub entries_all : length es ≤ i → a ≡ [] → b ≡ named (of_found f (take i es)) a → b ≡ named (of_found f es) []
  entries_all past empty before = walk_all (each named named-append (λ (e : Name × Why). f e.0)) es i a b past before ∙ ap (named (of_found f es)) empty
