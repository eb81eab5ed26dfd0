use Rattle.std.proofs.Common.{ap, ◌∙◌, inr, sym}
use Rattle.std.specs.Prelude.{is_ok}
use Rattle.std.proofs.lemmas.Result.{err_from_is_err_and}
use Rattle.hurd_machine.proofs.Common.{Tables}
use Rattle.hurd_ports.specs.Steps.{starting_at}
use Rattle.hurd_world.specs.Boot.{boot_ports}
use Rattle.hurd_world.proofs.BootLaws.{tables_begun, tables_refused, ids_given}
use Rattle.hurd_world.proofs.boot.first_ports.Goals as goal

pub add_boot_ports-requires : goal.add_boot_ports-requires
add_boot_ports-requires c =
    let h = c.in_ok-ports.ports in
    ap (λ (g : Tables). g.state) (tables_begun c.args.tasks.items h c.in_ok-ports.ensures).1 ∙ ap (λ ids. starting_at ids 1) (sym (ids_given c.args.tasks.items h c.in_ok-ports.ensures))

pub returns-clause-ok : goal.returns-clause-ok
returns-clause-ok c =
    ((tables_begun c.args.tasks.items c.in_ok-ports.ports c.in_ok-ports.ensures).0, c.in_ok-add_boot_ports.ensures.ok ∙ ap boot_ports (ids_given c.args.tasks.items c.in_ok-ports.ports c.in_ok-ports.ensures))

-- a port that isn't added found no memory

pub returns-in_err-add_boot_ports-clause-err : goal.returns-in_err-add_boot_ports-clause-err
returns-in_err-add_boot_ports-clause-err c =
    let p = err_from_is_err_and c.from_residual-in_err-add_boot_ports.result c.from_residual-in_err-add_boot_ports.ensures.1 in
    rw (p.1, p.2) (inr (c.in_err-add_boot_ports.ensures.err, ap is_ok (tables_begun c.args.tasks.items c.in_ok-ports.ports c.in_ok-ports.ensures).0))

pub returns-in_err-ports-clause-err : goal.returns-in_err-ports-clause-err
returns-in_err-ports-clause-err c =
    let p = err_from_is_err_and c.from_residual.result c.from_residual.ensures.1 in
    rw (p.1, p.2) (tables_refused c.args.tasks.items _ c.in_err-ports.ensures)
