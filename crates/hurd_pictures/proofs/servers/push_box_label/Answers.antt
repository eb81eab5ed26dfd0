use Rattle.hurd_pictures.proofs.BoxLaws.{box_labelled}
use Rattle.hurd_pictures.proofs.servers.push_box_label.Goals as goal

pub returns : goal.returns
returns c =
    box_labelled c.push_text-3.result c.args.text.now.items c.push_text.new.text.items c.push_called.new.text.items c.push_text-2.new.text.items c.push_runner.new.text.items c.push_text-3.new.text.items
    c.args.titles.now c.args.server.now c.args.words.now c.in_ok-push_text.ensures c.in_ok-push_called.ensures c.in_ok-push_text-2.ensures c.in_ok-push_runner.ensures c.push_text-3.ensures
