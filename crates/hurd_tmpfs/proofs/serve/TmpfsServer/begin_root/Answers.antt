use Rattle.hurd_tmpfs.proofs.AlikeLaws.{insert-else}
use Rattle.hurd_tmpfs.proofs.NamelessLaws.{list-after}
use Rattle.hurd_tmpfs.proofs.TotalLaws as totals
use Rattle.hurd_tmpfs.proofs.serve.TmpfsServer.begin_root.Goals as goal

pub invariant_of-self-clause-listed : goal.invariant_of-self-clause-listed
invariant_of-self-clause-listed c =
    let s = c.args.self.now in list-after c.args.root _ _ _ s.nameless _ c.put.ensures.is (insert-else c.args.root _ _) s.listed c.relist.ensures

pub recounted-self-requires : goal.recounted-self-requires
recounted-self-requires c =
    let n = c.args.root in totals.total-before n _ _ _ _ _ c.put.ensures.is (insert-else n _ _) c.args.self.now.summed c.counted-before.ensures
