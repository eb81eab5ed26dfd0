use Rattle.std.proofs.Common.{◌≤◌, ◌+◌, vec_len, vec_capacity}
use Rattle.std.specs.Vec.Iter.{into_iter_items, into_iter_len}
use Rattle.hurd_world.specs.Held.{AllBegun, world_of}
use Rattle.hurd_world.proofs.RunLaws.{ServedSoFar}
use Rattle.hurd_world.proofs.world.World.run.Given as goal

-- there is room for the replies that are left, the boxes of the calls that are left were made by some words, and the calls so far were served
abbrev pub invariant-loop-task : goal.invariant-loop-task
invariant-loop-task g l = record {
  can : (goal.iterator-loop-task g).can_next l.task-iterator;
  ends : (goal.iterator-loop-task g).is_finite l.task-iterator;
  room : vec_len l.replies + into_iter_len l.task-iterator ≤ vec_capacity l.replies;
  begun : AllBegun g.S.Server.meaning (into_iter_items l.task-iterator);
  served : ServedSoFar g.S.Server.meaning (world_of g.S.Server.meaning l.fn.self) l.fn.calls.items (into_iter_items l.task-iterator) l.replies.items (world_of g.S.Server.meaning l.self);
}
