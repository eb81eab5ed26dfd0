use Rattle.std.proofs.Common.{◌≡◌, ◌∙◌, true, ap, sym}
use Rattle.std.specs.Prelude.{Result, Ok}
use Rattle.hurd_creds.specs.declared.errno.Errno.{Errno}
use Rattle.hurd_trans_iface.specs.declared.header_edit.HeaderEdit.{HeaderEdit}
use Rattle.hurd_trans_iface.specs.Answers.{header_after, header_edited}
use Rattle.hurd_trans_iface.specs.Nodes.{Node, with_header}
use Rattle.hurd_trans_iface.specs.Totals.{counts_for}
use Rattle.hurd_tmpfs.specs.Tree.{tree}
use Rattle.hurd_tmpfs.proofs.NamelessLaws.{list-changed, room-kept}
use Rattle.hurd_tmpfs.proofs.StoredLaws.{changed-in, found-in, node-absent, stored-in}
use Rattle.hurd_tmpfs.proofs.TotalLaws as totals
use Rattle.hurd_trans_iface.proofs.NodeSteps.{edited-entered, header-here, header-nowhere}
use Rattle.hurd_tmpfs.proofs.serve.TmpfsServer.edit_header.Goals as goal

-- the answer and the node that an edit leaves
abbrev Done : Type 0
Done = Result (Unit {0}) Errno × Node

-- a node whose header is edited is what an edit leaves that is made
done_as : (e : HeaderEdit) (x y : Node) → y ≡ with_header (header_after e) x → ◌≡◌ {A = Done} (Ok tt, y) (header_edited true e x)
done_as e x y is = ap (λ (z : Node). let d : Done = (Ok tt, z) in d) is

pub invariant_of-self : goal.invariant_of-self
invariant_of-self c =
    let s = c.args.self.now in
    let at = c.in-Some.ensures.is in
    let value = c.index_mut.ensures.value in
    let entered = edited-entered true c.args.edit _ _ _ (done_as c.args.edit _ _ c.edit_header.ensures.is) in
    let counts = ap (λ (z : Node). counts_for z.header) c.edit_header.ensures.is ∙ totals.after-counts c.args.edit _ in
    let changed = changed-in s.nodes c.args.node _ _ at value c.edit_header.new.self in
    let same = totals.insert-counts c.args.node _ _ _ (found-in s.nodes c.args.node _ _ at value) counts in (
      ((stored-in s.nodes c.args.node _ _ at value c.edit_header.new.self).stored, tt),
      (
        room-kept s.nodes c.args.node _ _ at value s.root s.room c.edit_header.new.self,
        (totals.total-kept _ _ _ _ changed same s.summed, (list-changed s.nodes c.args.node _ _ at value s.nameless s.listed c.edit_header.new.self entered, tt)),
      ),
    )

pub returns-in-Some : goal.returns-in-Some
returns-in-Some c =
    let t = c.args.self.now.nodes in
    let at = c.in-Some.ensures.is in
    let value = c.index_mut.ensures.value in
    header-here (tree c.args.self.now) c.args.node _ (found-in t c.args.node _ _ at value) c.args.edit _ _ _ (done_as c.args.edit _ _ c.edit_header.ensures.is) (changed-in t c.args.node _ _ at value _)

pub returns-in-None : goal.returns-in-None
returns-in-None c =
    let t = c.args.self.now.nodes in header-nowhere c.args.edit (tree c.args.self.now) c.args.node (node-absent t.slots c.args.node t.keys (sym c.in-None.ensures.is))
