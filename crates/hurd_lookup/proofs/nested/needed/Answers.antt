-- Where the words have no targets none is needed, nor by a node that isn't there.
use Rattle.std.proofs.Common.{◌≡◌, ◌∙◌, length, ap, arith, sym}
use Rattle.std.proofs.lemmas.Bool.Decides.{nat_tests}
use Rattle.hurd_core.specs.Core.{world_of}
use Rattle.hurd_lookup.specs.Nested.{words_aims}
use Rattle.hurd_lookup.proofs.NestedLaws.{needed_gone, needed_none}
use Rattle.hurd_lookup.proofs.nested.needed.Goals as goal

pub returns-then-is_empty : goal.returns-then-is_empty
returns-then-is_empty g c =
    let none : length c.aims-paths.result.now ≡ 0 = grind (arith, nat_tests, c.is_empty.ensures, c.if-is_empty.true) in
    (needed_none (world_of g.S.Server.meaning c.args.core.now) c.args.ids.now c.args.node c.aims-paths.result.now (c.aims-paths.ensures ∙ ap words_aims c.words_at.ensures) none, tt)

pub returns-in_default : goal.returns-in_default
returns-in_default g c = (needed_gone (world_of g.S.Server.meaning c.args.core.now) c.args.ids.now c.args.node (sym c.in_default.ensures.header), tt)
