use Rattle.std.proofs.Common.{◌≡◌, ◌++◌, arith}
use Rattle.hurd_shell.proofs.CommandLaws.{cat_none, cat_some, cat_err, cat_over}
use Rattle.hurd_shell.proofs.ProgramLaws.{leads_does, leads_trans, does_gives}
use Rattle.hurd_shell.proofs.commands.cat.Goals as goal

pub returns-then-is_empty : goal.returns-then-is_empty
returns-then-is_empty g c =
    rw c.prints.ensures
    (leads_does (leads_trans c.loop-reads.invariant (cat_none _ _ _ _ c.loop-reads-test.true c.in-Ok.ensures.ends c.if-is_empty.ensures)) (does_gives _ _ _))

pub loop-reads-preserved : goal.loop-reads-preserved
loop-reads-preserved g c =
    let same : c.extend_from_slice.new.self.items ≡ c.loop-reads.output.items ++ c.in-Ok.bytes = grind arith in
    leads_trans c.loop-reads.invariant (cat_some _ _ _ _ _ c.loop-reads-test.true c.in-Ok.ensures.ends c.if-is_empty.ensures same)

pub returns-in-Err-Refused : goal.returns-in-Err-Refused
returns-in-Err-Refused g c =
    let refused = rw c.in-Err-Refused.field-0-is at c.in-Err-Refused.ensures in
    rw (c.refuses.ensures, c.in-Err-Refused.errno-is)
    (leads_does (leads_trans c.loop-reads.invariant (cat_err _ _ _ _ c.loop-reads-test.true refused.ends)) (does_gives _ _ _))

pub returns : goal.returns
returns g c = rw c.prints-2.ensures (leads_does (leads_trans c.loop-reads.invariant (cat_over _ _ _ c.loop-reads-test.false)) (does_gives _ _ _))
