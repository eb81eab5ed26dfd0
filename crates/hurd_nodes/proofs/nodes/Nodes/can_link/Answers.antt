use Rattle.std.proofs.Common.{◌∙◌, ap, ap₂, sym}
use Rattle.std.specs.FinMap as fin
use Rattle.hurd_trans_iface.specs.Answers.{link_of}
use Rattle.hurd_trans_iface.specs.Meaning.{keeps_tree, space_of}
use Rattle.hurd_nodes.specs.Shown.{are_kin, shown}
use Rattle.hurd_nodes.proofs.EditLaws.{can_link-nowhere, can_link-told}
use Rattle.hurd_nodes.proofs.nodes.Nodes.can_link.Goals as goal

pub returns-in-Some : goal.returns-in-Some
returns-in-Some g c =
    let f = g.S.Server.meaning in
    let m = f c.in-Some.server.now in
    let file = fin.get (shown f c.args.self.now).nodes c.args.node in
    c.can_link_in.ensures file c.attrs.ensures.all
    ∙ ap (λ kin. link_of (keeps_tree m.kind) (space_of m) c.args.name.now kin (fin.get m.nodes c.args.dir) file) (c.are_kin-kin.ensures ∙ ap₂ are_kin c.home-home.ensures c.home.ensures)
    ∙ sym (can_link-told _ _ c.boxes_hide_nothing.ensures _ _ _ _ (rw c.home-home.ensures at c.in-Some.ensures))

pub returns-in-None : goal.returns-in-None
returns-in-None g c = can_link-nowhere _ _ c.args.dir c.args.name.now c.args.node (rw c.home-home.ensures at c.in-None.ensures)
