use Rattle.std.proofs.Common.{◌++◌, ◌∙◌, take}
use Rattle.std.proofs.KnownBytes.{Appends-trans}
use Rattle.hurd_terminal.proofs.OutputLaws.{front_grows}
use Rattle.hurd_terminal.proofs.print.Output.print.Goals as goal

pub loop-preserved : goal.loop-preserved
loop-preserved g c =
    let (front, split, printed) = c.loop.invariant.printed in
    let more = take c.in_ok-count.count c.loop.rest.now in
    record {
      same = c.in_ok-count.ensures.ok.1 ∙ c.loop.invariant.same;
      printed = (front ++ more, front_grows _ front _ _ split, Appends-trans _ _ _ front more printed c.in_ok-count.ensures.ok.0);
    }
