use Rattle.std.proofs.lemmas.Result.{on_ok_weaker}
use Rattle.hurd_lessons.proofs.LineLaws.{changed_line, kept_line}
use Rattle.hurd_lessons.proofs.lines.add_line_by.Goals as goal

pub returns-then-is_kept : goal.returns-then-is_kept
returns-then-is_kept c =
    kept_line c.args.who.now c.args.before.now c.args.after.now c.args.name c.args.text.now.items c.row_at-old.result.now c.row_at-new.result.now c.of-change.result
    c.row_at-old.ensures c.row_at-new.ensures c.of-change.ensures c.if-is_kept.ensures

pub returns : goal.returns
returns c =
    on_ok_weaker c.add_from.result
    (λ added.
    changed_line c.args.who.now c.args.before.now c.args.after.now c.args.name c.args.text.now.items c.add_from.new.text.items c.row_at-old.result.now c.row_at-new.result.now c.of-change.result
    c.in_ok-place.place.items c.in_ok-said.said.items c.row_at-old.ensures c.row_at-new.ensures c.of-change.ensures c.if-is_kept.ensures c.in_ok-place.ensures c.in_ok-said.ensures added)
    (rw (c.as_slice.ensures.value, c.as_slice-2.ensures.value) at c.add_from.ensures)
