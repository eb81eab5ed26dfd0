use Rattle.std.proofs.Common.{◌∙◌, ap, map, string_bytes, Global}
use Rattle.hurd_script.proofs.ActionLemmas.{chown_read}
use Rattle.hurd_script.specs.declared.command.Action.TheVariants as action
use Rattle.hurd_script.proofs.actions.chown.Goals as goal

pub returns-in_default-number-2 : goal.returns-in_default-number-2
returns-in_default-number-2 c =
    let e = rw c.in-Some.is at c.triple_of.ensures in
    let ws = map (string_bytes {Z = Global}) c.args.words.now in
    rw (c.in-Some-number.is, c.in_default-number-2.is)
    at (chown_read ws c.in-Some.owner.now c.in-Some.group.now c.in-Some.node.now c.number.result c.number-2.result e c.number.ensures c.number-2.ensures)

pub returns : goal.returns
returns c =
    let e = rw c.in-Some.is at c.triple_of.ensures in
    let ws = map (string_bytes {Z = Global}) c.args.words.now in
    ap (action.Chown c.in-Some-number.owner c.in-Some-number-2.group) c.in_ok-bytes_of.ensures
    ∙ (rw (c.in-Some-number.is, c.in-Some-number-2.is)
    at (chown_read ws c.in-Some.owner.now c.in-Some.group.now c.in-Some.node.now c.number.result c.number-2.result e c.number.ensures c.number-2.ensures))
