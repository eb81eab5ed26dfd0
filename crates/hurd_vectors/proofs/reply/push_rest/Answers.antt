use Rattle.std.proofs.Common.{◌++◌, codes, decimal}
use Rattle.hurd_vectors.specs.Json.{truth}
use Rattle.hurd_vectors.specs.Replies.{rest_text}
use Rattle.hurd_vectors.proofs.PieceLemmas.{four_printed, two_printed}
use Rattle.hurd_vectors.proofs.reply.push_rest.Goals as goal

pub returns : goal.returns
unfolding rest_text
returns c =
    let s = c.args.stat.now in
    let holds = codes ", \"passive\": " ++ (truth s.passive ++ (codes ", \"active\": " ++ truth s.active)) in
    let sized = c.push_decimal-2.new.text.items in
    let end = c.push_truth-2.new.text.items in
    four_printed c.push_truth-2.result c.args.text.now.items c.extend_from_slice.new.self.items c.push_decimal.new.text.items c.extend_from_slice-2.new.self.items end
    (codes ", \"links\": ") (decimal s.links) (codes ", \"size\": ") (decimal s.size ++ holds) c.in_ok-extend_from_slice.ensures.items (rw c.from.ensures at c.in_ok-push_decimal.ensures)
    c.in_ok-extend_from_slice-2.ensures.items
    (two_printed c.push_truth-2.result c.extend_from_slice-2.new.self.items sized end (decimal s.size) holds c.in_ok-push_decimal-2.ensures
    (four_printed c.push_truth-2.result sized c.extend_from_slice-3.new.self.items c.push_truth.new.text.items c.extend_from_slice-4.new.self.items end
    (codes ", \"passive\": ") (truth s.passive) (codes ", \"active\": ") (truth s.active) c.in_ok-extend_from_slice-3.ensures.items c.in_ok-push_truth.ensures
    c.in_ok-extend_from_slice-4.ensures.items c.push_truth-2.ensures))
