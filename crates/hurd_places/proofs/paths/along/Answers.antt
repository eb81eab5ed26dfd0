use Rattle.std.proofs.Common.{◌<◌, ◌++◌, ◌∷◌, [], List, ◌∙◌, length, sym, ap, append_assoc, arith, rules, length-append}
use Rattle.hurd_creds.specs.declared.name.Name.{Name}
use Rattle.hurd_sight.specs.Found.{why_of}
use Rattle.hurd_places.proofs.PlaceLaws.{level_goes, level_most, path_goes}
use Rattle.hurd_places.proofs.paths.along.Goals as goal

pub next_level-level-requires : goal.next_level-level-requires
next_level-level-requires c =
    let fits : length c.args.way.items < 9223372036854775808 = search rules in
    let least = level_most c.args.view.now c.loop-node.invariant.0 in
    let all = ap length c.loop-node.invariant.1 in
    let both = length-append c.loop-node.way.items c.loop-node.invariant.0 in
    omega (arith, fits, least, all, both, c.loop-node.invariant.3)

pub loop-node-preserved : goal.loop-node-preserved
loop-node-preserved c =
    let behind = c.loop-node.invariant.0 in
    let is_why = c.why-why.ensures ∙ ap (why_of c.in-Some.node) c.nodes.ensures in (
      c.in-Some.node ∷ behind,
      sym (append_assoc c.pop.new.self.items (c.in-Some.node ∷ []) behind) ∙ (ap (λ (ns : List Name). ns ++ behind) (sym c.in-Some.ensures.items) ∙ c.loop-node.invariant.1),
      c.in_ok-step.ensures ∙ path_goes c.args.view.now c.in-Some.node behind c.loop-node.path.items c.loop-node.level c.why-why.result c.loop-node.invariant.2 c.loop-node.invariant.3 is_why,
      c.next_level-level.ensures ∙ level_goes c.args.view.now c.in-Some.node behind c.loop-node.level c.why-why.result c.loop-node.invariant.3 is_why,
    )
