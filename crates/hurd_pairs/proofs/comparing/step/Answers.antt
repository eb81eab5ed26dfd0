use Rattle.hurd_sight.specs.Reach.{among}
use Rattle.hurd_pairs.proofs.OwnLaws.{passes_one}
use Rattle.hurd_pairs.proofs.StepLaws.{step_to}
use Rattle.hurd_pairs.proofs.comparing.step.Goals as goal

pub returns : goal.returns
returns g c =
    let S = among c.args.learners.now.tasks.items in
    let one_mid = g.T.Telling.way c.reach_own.new.telling in
    let two_mid = g.T.Telling.way c.reach_own-2.new.telling in
    let hears = rw (c.told.ensures, c.told-2.ensures) at c.in_ok-hear.ensures in
    step_to c.args.learners.now.tasks.items c.args.learners.now.sees.items (g.T.Telling.way c.args.one.now) (g.T.Telling.way c.args.two.now) one_mid two_mid (g.T.Telling.way c.next.new.self) (g.T.Telling.way c.next-2.new.self)
    c.args.compared.now c.in_ok-part.part c.in_ok-other.other c.look.new.seen c.hear.new.told c.are_both.result c.in_ok-reach_own.ensures.same c.in_ok-reach_own-2.ensures.same
    (passes_one S one_mid (g.T.Telling.way c.next.new.self) c.in_ok-reach_own.field-0 c.in_ok-part.part c.in_ok-reach_own.ensures.at c.in_ok-part.ensures.goes)
    (passes_one S two_mid (g.T.Telling.way c.next-2.new.self) c.in_ok-reach_own-2.field-0 c.in_ok-other.other c.in_ok-reach_own-2.ensures.at c.in_ok-other.ensures.goes)
    c.in_ok-look.ensures hears c.are_both.ensures
