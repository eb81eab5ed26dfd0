use Rattle.std.proofs.Common.{[], ◌∷◌, ◌++◌, codes}
use Rattle.hurd_lists.specs.Replies.{kind_name}
use Rattle.hurd_vectors.specs.Replies.{mode_text, owner_text, rest_text}
use Rattle.hurd_vectors.proofs.PieceLemmas.{four_printed, two_printed}
use Rattle.hurd_vectors.proofs.reply.push_stat.Goals as goal

pub returns : goal.returns
returns c =
    let s = c.args.stat.now in
    let kind = rw (c.as_bytes.ensures.value, c.kind_name.ensures) at c.in_ok-extend_from_slice-2.ensures.items in
    let owned = c.push_owner.new.text.items in
    let moded = c.push_whole_mode.new.text.items in
    let end = c.push_rest.new.text.items in
    four_printed c.push_rest.result c.args.text.now.items c.extend_from_slice.new.self.items c.extend_from_slice-2.new.self.items c.push.new.self.items end
    (codes "\"Stat\", \"node\": \"") (kind_name s.kind) (34 ∷ []) (owner_text s ++ (mode_text s.mode ++ rest_text s)) c.in_ok-extend_from_slice.ensures.items kind c.in_ok-push.ensures.items
    (two_printed c.push_rest.result c.push.new.self.items owned end (owner_text s) (mode_text s.mode ++ rest_text s) c.in_ok-push_owner.ensures
    (two_printed c.push_rest.result owned moded end (mode_text s.mode) (rest_text s) c.in_ok-push_whole_mode.ensures c.push_rest.ensures))
