use Rattle.std.proofs.Common.{codes, decimal}
use Rattle.hurd_witnesses.proofs.JoinLaws.{three_more}
use Rattle.hurd_witnesses.proofs.witness.push_tried.Goals as goal

pub returns : goal.returns
returns c =
    three_more c.args.text.now.items (codes "    tried ") (decimal c.args.tried) (codes " commands: none shows it\n") _ _ _ c.in_ok-extend_from_slice.ensures.items c.in_ok-push_number.ensures c.in_ok-extend_from_slice-2.ensures.items
