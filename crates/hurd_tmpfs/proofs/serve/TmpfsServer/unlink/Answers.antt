use Rattle.hurd_tmpfs.proofs.AlikeLaws.{unlink-else}
use Rattle.hurd_tmpfs.proofs.NamelessLaws.{list-after}
use Rattle.hurd_tmpfs.proofs.TotalLaws as totals
use Rattle.hurd_tmpfs.proofs.serve.TmpfsServer.unlink.Goals as goal

pub invariant_of-self-clause-listed : goal.invariant_of-self-clause-listed
invariant_of-self-clause-listed c =
    let s = c.args.self.now in
    let n = c.in_ok-node.node in
    list-after n _ _ _ s.nameless _ c.unlink.ensures.is (unlink-else c.args.dir c.args.name.now n _) s.listed c.relist.ensures

pub recounted-self-requires : goal.recounted-self-requires
recounted-self-requires c =
    let n = c.in_ok-node.node in totals.total-before n _ _ _ _ _ c.unlink.ensures.is (unlink-else c.args.dir c.args.name.now n _) c.args.self.now.summed c.counted-before.ensures
