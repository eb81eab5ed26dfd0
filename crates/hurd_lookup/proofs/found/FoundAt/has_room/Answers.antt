-- A task has room where the plan asks it.
use Rattle.std.proofs.Common.{◌∙◌, inl, inr}
use Rattle.hurd_core.specs.Core.{world_of}
use Rattle.hurd_lookup.proofs.RoomLaws.{room_asked}
use Rattle.hurd_lookup.proofs.found.FoundAt.has_room.Goals as goal

pub returns-in-Opens : goal.returns-in-Opens
returns-in-Opens g c = rw c.in-Opens.is (c.room.ensures ∙ room_asked (world_of g.S.Server.meaning c.args.core.now) c.args.task.0 1)

pub returns-in-Makes : goal.returns-in-Makes
returns-in-Makes g c = rw c.in-Makes.is (c.room-in-Makes.ensures ∙ room_asked (world_of g.S.Server.meaning c.args.core.now) c.args.task.0 2)

pub returns-in-Within : goal.returns-in-Within
returns-in-Within g c =
    let room = c.room-in-Within.ensures ∙ room_asked (world_of g.S.Server.meaning c.args.core.now) c.args.task.0 1 in
    elim c.in-Within.is [
      | inl x ↦ rw (c.in-Retries.is, x.1) room
      | inr aimed ↦ elim aimed [
        | inl x ↦ rw (c.in-Retries.is, x.1) room
        | inr into ↦ elim into [
          | inl x ↦ rw (c.in-Retries.is, x.1) room
          | inr back ↦ elim back [ inl x ↦ rw (c.in-Retries.is, x.1) room | inr x ↦ rw (c.in-Retries.is, x.2) room ]
        ]
      ]
    ]
