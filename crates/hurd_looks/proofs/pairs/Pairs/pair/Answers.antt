use Rattle.std.proofs.Common.{◌∙◌, true≢false, sym, ap}
use Rattle.std.specs.Prelude.{not}
use Rattle.std.specs.Map.{lookup}
use Rattle.std.specs.Option.{option_copied}
use Rattle.std.specs.Cmp.{unsigned_Decides}
use Rattle.hurd_machine.proofs.Common.{same_name}
use Rattle.hurd_sight.specs.Parts.{is_in}
use Rattle.hurd_looks.specs.Pairings.{Pairing}
use Rattle.hurd_looks.proofs.PairLaws.{is_paired, other_maker, seconds, was_paired, was_taken}
use Rattle.hurd_looks.proofs.pairs.Pairs.pair.Goals as goal

pub returns-then-ne : goal.returns-then-ne
returns-then-ne c = other_maker c.args.name c.args.other c.args.self.now (λ e.
    true≢false (sym c.if-ne.true ∙ c.ne.ensures ∙ ap not ((unsigned_Decides c.args.name.task.0 c.args.other.task.0).1 e)))

pub returns-in-Some : goal.returns-in-Some
returns-in-Some c = was_paired c.args.name c.args.other c.args.self.now c.in-Some.paired.now c.eq.result
    (ap (λ (es : Pairing). lookup (same_name c.args.name) es) (sym c.self.view_is) ∙ sym c.get.ensures.value ∙ ap option_copied c.in-Some.is) c.eq.ensures

pub returns-then-contains : goal.returns-then-contains
returns-then-contains c = was_taken c.args.name c.args.other c.args.self.now
    (ap (λ (es : Pairing). lookup (same_name c.args.name) es) (sym c.self.view_is) ∙ sym c.get.ensures.value ∙ ap option_copied c.in_default.is)
    (ap (is_in c.args.other) (ap seconds (sym c.self.view_is) ∙ sym c.self.invariant.0) ∙ sym c.contains.ensures ∙ c.if-contains.true)

pub returns : goal.returns
returns c = is_paired c.args.name c.args.other c.args.self.now c.add.new.self c.in_ok-add.ensures
