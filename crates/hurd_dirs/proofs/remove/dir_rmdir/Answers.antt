-- What is asked, and what the core takes out.
use Rattle.std.proofs.Common.{sym}
use Rattle.hurd_dirs.proofs.RemoveLaws.{removing-follows, rmdir_takes}
use Rattle.hurd_dirs.proofs.remove.dir_rmdir.Goals as goal

pub returns : goal.returns
returns g c =
    let is = sym c.in_ok-entry.ensures in
    removing-follows _ _ _ _ _ _ _ _ is (rmdir_takes _ _ _ _ _ is).is_taking c.unlink.ensures
