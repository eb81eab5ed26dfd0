use Rattle.std.proofs.Common.{◌≡◌, ◌∙◌, arith, drop, [], drop_of_length-le}
use Rattle.hurd_can.specs.Help.{pairs_of}
use Rattle.hurd_can.proofs.HelpLaws.{append_none, pairs_more}
use Rattle.hurd_can.proofs.looking.pairs_of.Goals as goal

pub loop-i-preserved : goal.loop-i-preserved
loop-i-preserved c = pairs_more c.args.others.now c.loop-i.i _ c.loop-i.pairs.items c.add_pairs.new.pairs.items (omega arith) c.loop-i.invariant c.in_ok-add_pairs.ensures

pub returns : goal.returns
unfolding pairs_of
returns c =
    let done : drop c.loop-i.i c.args.others.now ≡ [] = drop_of_length-le c.args.others.now (omega arith) in
    append_none c.loop-i.pairs.items ∙ (rw done at c.loop-i.invariant)
