use Rattle.std.proofs.Common.{arith}
use Rattle.hurd_tmpfs.specs.Tree.{nodes_of}
use Rattle.hurd_tmpfs.proofs.TotalLaws.{before-within, total-after, total-bounded}
use Rattle.hurd_tmpfs.proofs.totals.recounted.Goals as goal

pub overflow_sub-result : goal.overflow_sub-result
overflow_sub-result c = before-within (nodes_of c.args.nodes.now) c.args.node _ _ c.requires

pub overflow_add-result : goal.overflow_add-result
overflow_add-result c =
    let m = nodes_of c.args.nodes.now in
    let after = total-after m c.args.node _ _ c.requires c.counted.result c.counted.ensures c.counted.type_inv in
    let most = total-bounded c.args.nodes.now after.1 in
    omega (arith, after.0, most, c.len-count.ensures.len, c.len-count.ensures.small)

pub returns : goal.returns
returns c = total-after (nodes_of c.args.nodes.now) c.args.node _ _ c.requires c.counted.result c.counted.ensures c.counted.type_inv
