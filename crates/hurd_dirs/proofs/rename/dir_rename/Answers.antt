-- What is asked, and what the core does.
use Rattle.std.proofs.Common.{◌∙◌, sym}
use Rattle.hurd_dirs.proofs.RenameLaws.{rename-goes}
use Rattle.hurd_dirs.proofs.rename.dir_rename.Goals as goal

pub returns : goal.returns
returns g c =
    rename-goes c.args.task.0 c.args.port c.args.to c.args.name.now c.args.new.now _ c.in_ok-renaming.renaming (sym c.in_ok-renaming.ensures) (sym c.is_one-there.ensures ∙ c.if-there.false) c.rename.result _ c.rename.ensures
