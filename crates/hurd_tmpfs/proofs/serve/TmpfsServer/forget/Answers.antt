use Rattle.hurd_tmpfs.proofs.AlikeLaws.{remove-else}
use Rattle.hurd_tmpfs.proofs.NamelessLaws.{list-after}
use Rattle.hurd_tmpfs.proofs.TotalLaws as totals
use Rattle.hurd_tmpfs.proofs.serve.TmpfsServer.forget.Goals as goal

pub invariant_of-self-clause-listed : goal.invariant_of-self-clause-listed
invariant_of-self-clause-listed c =
    let s = c.args.self.now in list-after c.args.node _ _ _ s.nameless _ c.remove.ensures.is (remove-else c.args.node _) s.listed c.relist.ensures

pub recounted-self-requires : goal.recounted-self-requires
recounted-self-requires c =
    let n = c.args.node in totals.total-before n _ _ _ _ _ c.remove.ensures.is (remove-else n _) c.args.self.now.summed c.counted-before.ensures
