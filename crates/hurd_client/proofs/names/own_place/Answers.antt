use Rattle.std.proofs.lemmas.List.Sums.{prefix_len-le-length}
use Rattle.hurd_client.proofs.names.own_place.Goals as goal

pub split_at-requires : goal.split_at-requires
split_at-requires c = rw c.first_slash.ensures (prefix_len-le-length _ c.args.bytes.now)
