use Rattle.hurd_nodes.proofs.AimLaws.{kept-set}
use Rattle.hurd_nodes.proofs.CalmLaws.{calm-put, keeps-forgotten}
use Rattle.hurd_nodes.proofs.OwnLaws.{lists-set}
use Rattle.hurd_nodes.proofs.SeatLaws.{placed, unplaced}
use Rattle.hurd_nodes.proofs.TakeLaws.{forget-boxes, forget-none}
use Rattle.std.proofs.Common.{refl}
use Rattle.hurd_nodes.proofs.forgetting.forget_at.Goals as goal

pub returns-in-Some-clause-boxes : goal.returns-in-Some-clause-boxes
returns-in-Some-clause-boxes g c = forget-boxes _ _ c.args.node _ _ _ c.in-Some.ensures.is c.index_mut.ensures.value c.forget.new.self c.forget.ensures

pub returns-in_default-clause-boxes : goal.returns-in_default-clause-boxes
returns-in_default-clause-boxes g c = forget-none _ c.args.node _ (unplaced _ c.args.seats.now.entries _ c.in_default.ensures.is)

pub returns-in-Some-clause-kept : goal.returns-in-Some-clause-kept
returns-in-Some-clause-kept g c =
    let p = placed c.args.seats.now.entries _ _ c.in-Some.ensures.is in
    λ rs es k kept. kept-set _ _ es k p.0 c.in-Some.i c.index_mut.result.now c.forget.new.self p.2 c.index_mut.ensures.value kept

pub returns-in-Some-clause-calm : goal.returns-in-Some-clause-calm
returns-in-Some-clause-calm g c =
    let f = g.S.Server.meaning in
    λ k calm. calm-put f c.args.seats.now.entries k c.in-Some.i c.index_mut.result.now _ c.index_mut.ensures.value calm refl
    (λ s past is. keeps-forgotten (f c.index_mut.result.now.server) (f c.forget.new.self) c.args.node c.forget.ensures)

pub returns-in-Some-clause-lists : goal.returns-in-Some-clause-lists
returns-in-Some-clause-lists g c = λ o n lists. lists-set c.args.seats.now.entries c.in-Some.i c.index_mut.result.now c.forget.new.self c.index_mut.ensures.value o n lists
