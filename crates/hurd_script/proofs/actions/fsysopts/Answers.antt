use Rattle.std.proofs.Common.{string_bytes, Global}
use Rattle.hurd_script.proofs.ActionLemmas.{options_read}
use Rattle.hurd_script.proofs.actions.fsysopts.Goals as goal

pub returns-in_ok-bytes_of-in-Some-2 : goal.returns-in_ok-bytes_of-in-Some-2
returns-in_ok-bytes_of-in-Some-2 c =
    let node = rw c.in-Some.is at c.node_of.ensures in
    let words = rw c.in-Some-2.is at c.in_ok-words.ensures in
    rw c.in_ok-bytes_of-in-Some-2.ensures
    (options_read (string_bytes {Z = Global}) c.args.words.now c.split_at.result.0.now c.split_at.result.1.now c.min.result c.in-Some.node.now c.in-Some-2.words c.min.ensures
    c.split_at.ensures.front c.split_at.ensures.back node words)
