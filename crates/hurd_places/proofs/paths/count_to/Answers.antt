use Rattle.std.proofs.Common.{◌∙◌, sym, ap, Bool, if◌then◌else◌, arith}
use Rattle.hurd_places.proofs.PlaceLaws.{count_goes}
use Rattle.hurd_places.proofs.paths.count_to.Goals as goal

pub loop-i-preserved : goal.loop-i-preserved
loop-i-preserved c =
    let small = c.one_if-count.ensures.small in
    let few = c.loop-i.invariant.few in
    record {
      so_far = count_goes c.args.why c.args.node c.args.found.now c.loop-i.i (c.in-Some.other, c.in-Some.other_why) c.loop-i.count c.one_if-count.result _ (sym c.in-Some.ensures) (sym c.if-eq.ensures)
          (c.one_if-count.ensures.number ∙ ap (λ (t : Bool). if t then 1 else 0) c.is_alike.ensures) c.loop-i.invariant.so_far;
      few = omega (arith, small, few);
    }
