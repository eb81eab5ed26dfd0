use Rattle.std.proofs.Common.{inl, inr, sym, ap, ◌∙◌, arith}
use Rattle.hurd_nodes.specs.Held.{home_in, sites_of}
use Rattle.hurd_nodes.proofs.GoneLaws.{clearing-both, clearing-still, listed-more}
use Rattle.hurd_nodes.proofs.leaving.clear_sites.Goals as goal

pub loop-node-preserved : goal.loop-node-preserved
loop-node-preserved g c =
    let s = c.args.server in
    let a = sites_of c.args.sites.now.entries in
    let b = sites_of c.loop-node.sites.entries in
    let d = sites_of c.clear_site-asked-in-loop-node.new.sites.entries in
    let inv = c.loop-node.invariant in
    let one = c.clear_site-asked-in-loop-node.ensures in (
      clearing-both s a b d _ _ _ _ _ _ inv.0 one.step,
      λ n on. elim (listed-more n c.args.root _ c.args.own.now c.loop-node.node-index c.loop-node-test.true on) [
        | inl before ↦ clearing-still s b d _ _ _ _ one.step n (inv.1 n before)
        | inr here ↦ λ is. one.gone (ap (home_in d) (sym here) ∙ is)
      ],
      λ apart. one.sites_apart (inv.2 apart),
      one.is ∙ inv.3,
      one.apart,
      omega (arith, inv.5, one.room.0),
      omega (arith, inv.6, one.room.1),
    )
