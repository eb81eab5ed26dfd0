use Rattle.std.proofs.Common.{◌≡◌, ◌++◌, drop}
use Rattle.hurd_lists.specs.Replies.{shown_names}
use Rattle.hurd_lists.proofs.replies.push_names.Given as goal

abbrev pub invariant-loop-name : goal.invariant-loop-name
invariant-loop-name l = l.text.items ++ shown_names (drop l.name-index l.names) ≡ l.fn.text.items ++ shown_names l.names
