use Rattle.std.proofs.Common.{◌≡◌, ◌<◌, false, length, subst, Ok, arith}
use Rattle.hurd_shell.specs.Session.{Tells, View, has_failed}
use Rattle.hurd_shell.proofs.SessionLaws.{not_done, told_next}
use Rattle.hurd_shell.proofs.session.Session.next.Goals as goal

pub returns-clause-tells : goal.returns-clause-tells
returns-clause-tells g c =
    let inside = c.self.inside in
    let within : inside.given < length inside.commands.items = omega (arith, c.len.ensures) in
    let turned = rw c.replace-phase.ensures.value at c.in_ok-turn.ensures.ok in
    let after : View g.row.S.Denot = record { world = c.take_turn.new.world; commands = inside.commands.items; given = c.stand.new.given; phase = c.stand.new.phase } in
    subst (λ (v : View g.row.S.Denot). has_failed v ≡ false → Tells g.S.Server.meaning v (Ok c.in_ok-stand.field-0) after) c.self.view_is
    (λ fine. told_next g.S.Server.meaning inside.world c.take_turn.new.world inside.commands.items inside.given c.stand.new.given inside.phase c.stand.new.phase c.index-command.result.now
    c.in_ok-turn.turn _ within c.index-command.ensures turned c.in_ok-stand.ensures.ok)

-- a command is left, so this is not the end

pub returns-in_err-turn-clause-done : goal.returns-in_err-turn-clause-done
returns-in_err-turn-clause-done g c fine at_end =
    let within : c.self.inside.given < length c.self.inside.commands.items = omega (arith, c.len.ensures) in
    absurd (not_done g.S.Server.meaning _ _ c.self.view_is within at_end)

pub returns-in_err-stand-clause-done : goal.returns-in_err-stand-clause-done
returns-in_err-stand-clause-done g c fine at_end =
    let within : c.self.inside.given < length c.self.inside.commands.items = omega (arith, c.len.ensures) in
    absurd (not_done g.S.Server.meaning _ _ c.self.view_is within at_end)

pub returns-clause-done : goal.returns-clause-done
returns-clause-done g c fine at_end =
    let within : c.self.inside.given < length c.self.inside.commands.items = omega (arith, c.len.ensures) in
    absurd (not_done g.S.Server.meaning _ _ c.self.view_is within at_end)
