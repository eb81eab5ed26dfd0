use Rattle.std.proofs.Common.{◌∙◌, ◌++◌, ◌∷◌, [], List, if◌then◌else◌, sym, ap, subst}
use Rattle.indexmap.specs.IndexMap.{insert_entry}
use Rattle.hurd_creds.proofs.StepLaws.{on_success}
use Rattle.hurd_machine.proofs.Common.{Name, same_name}
use Rattle.hurd_sight.specs.Parts.{is_in}
use Rattle.hurd_looks.specs.Pairings.{IsOneToOne, Pairing}
use Rattle.hurd_looks.proofs.PairLaws.{key_last, one_more, put_last, seconds}
use Rattle.hurd_looks.proofs.pairs.Pairs.add.Goals as goal

pub returns : goal.returns
returns c =
    on_success c.insert.result (c.insert.ensures.succeeds c.in_ok-reserve.ensures.ok) c.insert.ensures.entries
    ∙ ap (λ (es : Pairing). insert_entry same_name es c.args.name c.args.other) (c.in_ok-reserve.ensures.entries ∙ c.self.view_is)
    ∙ put_last c.args.self.now c.args.name c.args.other c.requires.new

pub invariant_of-self-2 : goal.invariant_of-self-2
invariant_of-self-2 c = (
  on_success c.insert-2.result (c.insert-2.ensures.succeeds c.in_ok-reserve-2.ensures.ok) c.insert-2.ensures.keys
      ∙ ap (λ (ks : List Name). if is_in c.args.other ks then ks else ks ++ c.args.other ∷ []) c.in_ok-reserve-2.ensures.keys
      ∙ key_last c.args.self.now c.args.name c.args.other c.self.inside.taken.keys (c.self.invariant.0 ∙ ap seconds c.self.view_is) c.requires.free
      ∙ ap seconds (sym (returns c)),
  subst IsOneToOne (sym (returns c)) (one_more c.args.self.now c.args.name c.args.other (subst IsOneToOne c.self.view_is c.self.invariant.1) c.requires.new c.requires.free c.requires.maker),
)
