use Rattle.std.proofs.Common.{◌≡◌, ◌∙◌, sym, ap, arith, is_some}
use Rattle.hurd_creds.proofs.StepLaws.{on_success}
use Rattle.hurd_lessons.specs.Beside.{keyed}
use Rattle.std.proofs.Common.{map}
use Rattle.hurd_lessons.proofs.Keys.{key-added, key-there, lookup-keyed}
use Rattle.hurd_lessons.proofs.beside.note_key.Goals as goal

pub returns-then-contains_key : goal.returns-then-contains_key
returns-then-contains_key c =
    key-there (map keyed c.args.things.now.entries) c.args.key.items c.args.name
    (ap is_some (sym (lookup-keyed c.args.key.items c.args.things.now.entries)) ∙ sym (rw c.as_slice.ensures.value at c.if-contains_key.ensures))

pub returns : goal.returns
returns c =
    let ok = c.insert.ensures.succeeds (omega (arith, c.in_ok-reserve.ensures.ok)) in
    key-added c.reserve.new.self c.args.things.now.entries c.insert.new.self.entries c.args.key c.args.name c.in_ok-reserve.ensures.entries
    (ap is_some (sym (lookup-keyed c.args.key.items c.args.things.now.entries)) ∙ sym (rw c.as_slice.ensures.value at c.if-contains_key.ensures))
    (on_success c.insert.result ok c.insert.ensures.entries)
