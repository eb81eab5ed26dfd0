use Rattle.std.proofs.Common.{List, subst, sym, ◌∙◌}
use Rattle.hurd_creds.specs.declared.name.Name.{Name}
use Rattle.hurd_nodes.specs.declared.seat.Seat.{Seat}
use Rattle.hurd_nodes.specs.Quiet.{AreLess}
use Rattle.hurd_nodes.proofs.AskedLaws.{drop-less, found-behind, found-none, found-seat}
use Rattle.hurd_nodes.proofs.leaving.take_seat.Goals as goal

pub returns-clause-less : goal.returns-clause-less
returns-clause-less g c =
    let ss = c.args.seats.now.entries in
    λ k. subst (λ (ts : List (Name × Seat g.row.S.Denot)). AreLess c.args.name k ss k ts) (sym c.swap_remove.ensures.entries) (drop-less ss c.requires c.args.name k)

pub returns-clause-taken : goal.returns-clause-taken
returns-clause-taken g c = found-behind c.args.seats.now.entries c.args.name c.swap_remove.result c.swap_remove.ensures.value

pub returns-clause-none : goal.returns-clause-none
returns-clause-none g c = λ none. found-none c.args.seats.now.entries c.args.name (sym c.swap_remove.ensures.value ∙ none)

pub returns-clause-found : goal.returns-clause-found
returns-clause-found g c = found-seat c.args.seats.now.entries c.args.name c.swap_remove.result c.swap_remove.ensures.value
