use Rattle.std.proofs.lemmas.Result.{on_ok_weaker}
use Rattle.hurd_lessons.proofs.SideLaws.{alone_said, alone_unseen}
use Rattle.hurd_lessons.proofs.beside.add_alone.Goals as goal

pub returns-then-not-shows : goal.returns-then-not-shows
returns-then-not-shows c =
    alone_unseen c.args.who.now c.args.word.now c.args.other.now c.args.side.now.view.now c.args.name c.args.side.now.nothing.now c.row-row.result.now c.of-change.result c.args.text.now.items
    c.requires.1 c.row-row.ensures c.of-change.ensures c.if-not-shows.ensures

pub returns : goal.returns
returns c =
    on_ok_weaker c.add_from.result
    (λ added.
    alone_said c.args.who.now c.args.word.now c.args.other.now c.args.side.now.view.now c.args.name c.args.side.now.nothing.now c.row-row.result.now c.of-change.result
    c.in_ok-place.place.items c.in_ok-parts.parts.items c.extend_from_slice.new.self.items c.args.text.now.items c.add_from.new.text.items
    c.requires.1 c.row-row.ensures c.of-change.ensures c.if-not-shows.ensures c.in_ok-place.ensures c.in_ok-parts.ensures
    (rw (c.in_ok-said.ensures.items, c.as_slice.ensures.value) at c.in_ok-extend_from_slice.ensures.items) added)
    (rw (c.as_slice-2.ensures.value, c.as_slice-3.ensures.value) at c.add_from.ensures)
