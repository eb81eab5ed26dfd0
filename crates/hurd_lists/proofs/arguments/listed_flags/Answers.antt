use Rattle.std.proofs.Common.{◌∙◌, sym}
use Rattle.std.proofs.lemmas.Result.{err_from_is_err_and}
use Rattle.hurd_lists.proofs.ArgumentLemmas.{flag_refused, flag_taken, flags_ended, not_found}
use Rattle.hurd_lists.proofs.arguments.listed_flags.Goals as goal

pub loop-name-preserved : goal.loop-name-preserved
loop-name-preserved g c =
    flag_taken g.F.Flags.table (g.F.Flags.set_of c.loop-name.flags) c.as_slice-name-items.result.now c.loop-name.name-index _ c.loop-name-test.true c.in_ok-add_flag.ensures ∙ c.loop-name.invariant

pub returns : goal.returns
returns g c = sym c.loop-name.invariant ∙ flags_ended g.F.Flags.table (g.F.Flags.set_of c.loop-name.flags) c.as_slice-name-items.result.now c.loop-name.name-index c.loop-name-test.false

pub returns-in_err-add_flag : goal.returns-in_err-add_flag
returns-in_err-add_flag g c =
    let p = err_from_is_err_and c.from_residual-in_err-add_flag.result c.from_residual-in_err-add_flag.ensures.1 in
    rw (p.1, p.2) (not_found {X = Unit {0}} (λ _. g.F.Flags.set_of c.add_flag.new.flags) g.F.Flags.set_of _ _ _ (λ none.
    sym c.loop-name.invariant ∙ flag_refused g.F.Flags.table (g.F.Flags.set_of c.loop-name.flags) c.as_slice-name-items.result.now c.loop-name.name-index c.loop-name-test.true none) c.in_err-add_flag.ensures)
