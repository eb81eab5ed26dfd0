use Rattle.std.proofs.Common.{◌∙◌, ap}
use Rattle.hurd_lessons.specs.Lessons.{note_body, note_empty, note_ends, note_node, note_open, note_server, note_text, note_total, note_users}
use Rattle.hurd_lessons.proofs.differences.parts.Goals as goal

pub returns : goal.returns
returns c =
    let a = c.args.before.now in
    let b = c.args.after.now in
    let x = c.args.old.now in
    let y = c.args.new.now in
    let d = c.args.change.now in
    c.in_ok-note_number-2.ensures
    ∙ ap (note_total x y d)
    (c.in_ok-note_number.ensures
    ∙ ap (note_users x y d)
    (c.in_ok-note_text.ensures
    ∙ ap (note_text x y d)
    (c.in_ok-note_server.ensures
    ∙ ap (note_server a b x y d)
    (c.in_ok-note_open.ensures
    ∙ ap (note_open x y d)
    ((rw c.emptiness.ensures at c.in_ok-note_empty.ensures)
    ∙ ap (note_empty y d)
    (c.in_ok-note_body.ensures
    ∙ ap (note_body x y d)
    ((rw c.ends_beside.ensures at c.in_ok-note_ends.ensures)
    ∙ ap (note_ends x y d) (c.in_ok-note_node.ensures ∙ ap (note_node a b x y d) c.new-words.ensures.items))))))))
