use Rattle.hurd_lessons.proofs.EntryLaws.{one_passed}
use Rattle.hurd_lessons.proofs.differences.next_kept.Goals as goal

pub returns-then-comes_next-clause-passed : goal.returns-then-comes_next-clause-passed
returns-then-comes_next-clause-passed c = one_passed c.args.by_name c.args.entry.now c.args.new.now c.args.kept c.comes_next.result c.if-comes_next.true c.comes_next.ensures
