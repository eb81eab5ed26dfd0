-- So few ids are held without memory.
use Rattle.std.proofs.Common.{ℕ, ◌∙◌, [], ◌∷◌, if◌then◌else◌, Bool, arith, ap}
use Rattle.std.specs.Prelude.{Result, Ok}
use Rattle.hurd_machine.proofs.Common.{Errno, IdSets}
use Rattle.hurd_lookup.specs.Lookup.{no_ids}
use Rattle.hurd_lookup.specs.Lent.{server_ids}
use Rattle.hurd_lookup.proofs.LentLaws.{few_are_held}
use Rattle.hurd_lookup.proofs.lent.lent.Goals as goal

-- those of the owner, or none
abbrev either : ℕ → Bool → Result IdSets Errno
either owner b = Ok (if b then server_ids owner else no_ids)

pub returns-then-is_lent : goal.returns-then-is_lent
returns-then-is_lent c =
    few_are_held (c.args.owner ∷ []) (omega arith) c.new.result c.new.ensures.sets (c.new.ensures.inline (omega arith) (omega arith)) ∙ ap (either c.args.owner) c.if-is_lent.ensures

pub returns-else-is_lent : goal.returns-else-is_lent
returns-else-is_lent c =
    few_are_held [] (omega arith) c.new-else-is_lent.result c.new-else-is_lent.ensures.sets (c.new-else-is_lent.ensures.inline (omega arith) (omega arith)) ∙ ap (either c.args.owner) c.if-is_lent.ensures
