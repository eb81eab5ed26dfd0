-- A name that is missed, or that a branch shows; any other step follows from what was asked.
use Rattle.std.proofs.Common.{◌∙◌, ap, sym}
use Rattle.std.specs.Prelude.{Ok}
use Rattle.std.proofs.lemmas.Result.{err_from_is_err_and}
use Rattle.hurd_core.specs.Core.{world_of}
use Rattle.hurd_lookup.specs.declared.walk.Next.TheVariants.{Absent, Branch}
use Rattle.hurd_lookup.specs.Path.{names_in}
use Rattle.hurd_lookup.specs.Ends.{authority_of}
use Rattle.hurd_lookup.proofs.StepLaws.{step_is}
use Rattle.hurd_lookup.proofs.walk.stepped.Goals as goal

pub returns-in_err-outcome-in-Absent : goal.returns-in_err-outcome-in-Absent
returns-in_err-outcome-in-Absent g c =
    let w = world_of g.S.Server.meaning c.args.core.now in
    let q = authority_of c.args.authority in
    let p = err_from_is_err_and c.from_residual-in_err-outcome-in-Absent.result c.from_residual-in_err-outcome-in-Absent.ensures.1 in
    let asked = rw c.in-Absent.is at c.in_ok-node.ensures in
    let missed = rw c.is_last.ensures at c.in_err-outcome-in-Absent.ensures in
    rw (p.1, p.2) (λ onward. step_is w q c.args.request c.args.here.now.node c.args.name.now (names_in c.args.rest.now) Absent asked onward ∙ missed)

pub returns-in_ok-outcome-in-Absent : goal.returns-in_ok-outcome-in-Absent
returns-in_ok-outcome-in-Absent g c =
    let w = world_of g.S.Server.meaning c.args.core.now in
    let q = authority_of c.args.authority in
    let asked = rw c.in-Absent.is at c.in_ok-node.ensures in
    let missed = rw c.is_last.ensures at c.in_ok-outcome-in-Absent.ensures in
    (λ onward. step_is w q c.args.request c.args.here.now.node c.args.name.now (names_in c.args.rest.now) Absent asked onward ∙ missed.0, missed.1)

pub returns-in-Branch : goal.returns-in-Branch
returns-in-Branch g c =
    let w = world_of g.S.Server.meaning c.args.core.now in
    let q = authority_of c.args.authority in
    let asked = rw c.in-Branch.is at c.in_ok-node.ensures in
    let into = rw c.requires.names at (c.go_into.ensures.outcome w q) in
    (λ onward. step_is w q c.args.request c.args.here.now.node c.args.name.now (names_in c.args.rest.now) (Branch c.in-Branch.branch) asked onward ∙ ap Ok (sym into), c.go_into.ensures.can w q)
