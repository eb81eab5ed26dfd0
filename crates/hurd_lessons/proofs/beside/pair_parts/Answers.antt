use Rattle.hurd_lessons.proofs.SideLaws.{pair_made}
use Rattle.hurd_lessons.proofs.beside.pair_parts.Goals as goal

pub returns : goal.returns
returns c =
    pair_made c.args.first.now.view.now c.args.second.now.view.now c.args.one c.args.two c.row-old.result.now c.row-new.result.now c.of.result c.between-change.result
    c.in_ok-words.words.items c.add_number.new.words.items c.row-old.ensures c.row-new.ensures c.of.ensures c.between-change.ensures c.in_ok-words.ensures
    (rw (c.from.ensures, c.from-2.ensures) at c.in_ok-add_number.ensures)
