use Rattle.hurd_pictures.proofs.PictureLaws.{coloured}
use Rattle.hurd_pictures.proofs.drawing.push_colours.Goals as goal

pub returns : goal.returns
returns c =
    coloured c.push_text-4.result c.args.text.now.items c.push_text.new.text.items c.push_shown.new.text.items c.push_text-2.new.text.items c.push_text-3.new.text.items
    c.push_text-4.new.text.items c.args.who.now c.args.more.now c.in_ok-push_text.ensures c.in_ok-push_shown.ensures c.in_ok-push_text-2.ensures c.in_ok-push_text-3.ensures
    c.push_text-4.ensures
