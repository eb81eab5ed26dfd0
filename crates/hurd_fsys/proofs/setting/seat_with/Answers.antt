-- The room to name, the old words, what is stored, and what is seated then; else the old words again.
use Rattle.std.proofs.Common.{◌∙◌, inl, inr, refl, sym}
use Rattle.hurd_machine.specs.World.{nodes_of, ports_of, words_at}
use Rattle.hurd_core.specs.Core.{attaching, world_of}
use Rattle.hurd_core.proofs.CoreLaws.{naming-refused}
use Rattle.hurd_lookup.specs.Lent.{server_ids}
use Rattle.hurd_fsys.proofs.SeatingLaws.{seat_refused, seated_then, sets_still, uncopied}
use Rattle.hurd_fsys.proofs.setting.seat_with.Goals as goal

pub returns-in-Err-clause-does : goal.returns-in-Err-clause-does
returns-in-Err-clause-does g c =
    let w = world_of g.S.Server.meaning c.args.core.now in
    (refl, inl (naming-refused (nodes_of w) (ports_of w) c.args.task.0 2 c.in-Err.errno (sym c.naming.ensures ∙ c.in-Err.is)))

pub returns-in-Err-stored-clause-does : goal.returns-in-Err-stored-clause-does
returns-in-Err-stored-clause-does g c =
    let w = world_of g.S.Server.meaning c.args.core.now in
    (refl, inr (uncopied w c.args.task.0 (words_at w c.args.place.seat) c.in-Err-stored.errno (sym c.naming.ensures ∙ c.in_default.is) c.in-Err-stored.ensures))

pub store-requires-in-Err-seat : goal.store-requires-in-Err-seat
store-requires-in-Err-seat g c =
    let w = world_of g.S.Server.meaning c.args.core.now in
    sets_still w c.args.task.0 c.args.place.seat c.args.setting c.args.words _ (c.in-Err-seat.ensures.does.0 ∙ c.store.ensures) c.requires.may

pub returns-in-Ok-seat-clause-does : goal.returns-in-Ok-seat-clause-does
returns-in-Ok-seat-clause-does g c =
    let f = g.S.Server.meaning in
    let w = world_of f c.args.core.now in
    seated_then w c.args.task.0 c.args.place.seat c.args.setting c.args.words (attaching c.args.task.0 c.args.place (server_ids c.args.place.owner) c.args.targets.items (f c.args.server))
    (world_of f c.store.new.core) c.store.ensures c.in-Ok-seat.field-0 _ c.in-Ok-seat.ensures.does

pub returns-in-Err-seat-clause-does : goal.returns-in-Err-seat-clause-does
returns-in-Err-seat-clause-does g c =
    let f = g.S.Server.meaning in
    let w = world_of f c.args.core.now in
    seat_refused w c.args.task.0 c.args.place.seat c.args.setting c.args.words (attaching c.args.task.0 c.args.place (server_ids c.args.place.owner) c.args.targets.items (f c.args.server))
    (world_of f c.store.new.core) c.store.ensures c.in-Err-seat.refused.0 (world_of f c.seat.new.core) _ c.in-Ok.kept c.in-Err-seat.ensures.does c.in-Ok.ensures c.store-in-Err-seat.ensures
