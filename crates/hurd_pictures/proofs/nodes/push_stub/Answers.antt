use Rattle.hurd_pictures.proofs.StubLaws.{stubbed}
use Rattle.hurd_pictures.proofs.nodes.push_stub.Goals as goal

pub returns : goal.returns
returns c =
    stubbed c.push_text-3.result c.args.text.now.items c.push_text.new.text.items c.push_node_name.new.text.items c.push_text-2.new.text.items c.push_plain_title.new.text.items
    c.push_text-3.new.text.items c.args.view.now c.args.node c.in_ok-push_text.ensures c.in_ok-push_node_name.ensures c.in_ok-push_text-2.ensures c.in_ok-push_plain_title.ensures
    c.push_text-3.ensures
