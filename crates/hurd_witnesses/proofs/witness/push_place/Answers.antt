use Rattle.std.proofs.Common.{codes, decimal}
use Rattle.hurd_witnesses.specs.Witnesses.{place_text}
use Rattle.hurd_witnesses.proofs.JoinLaws.{three_more}
use Rattle.hurd_witnesses.proofs.witness.push_place.Goals as goal

pub returns : goal.returns
unfolding place_text
returns c =
    three_more c.args.text.now.items (codes "      differ: from byte ") (decimal c.args.place) (codes " on\n") _ _ _ c.in_ok-extend_from_slice.ensures.items c.in_ok-push_number.ensures c.in_ok-extend_from_slice-2.ensures.items
