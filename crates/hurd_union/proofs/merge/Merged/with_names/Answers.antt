-- The name that comes is the first of those that are left.
use Rattle.std.proofs.Common.{List, ℕ, ap, sym, ◌∙◌}
use Rattle.hurd_union.specs.Merge.{merge}
use Rattle.hurd_union.proofs.merge.Merged.with_names.Goals as goal

pub loop-name-preserved : goal.loop-name-preserved
loop-name-preserved c = record {
  tells = c.in_ok-add.ensures.tells;
  comes =
      ap (λ (all : List (List ℕ)). merge all c.next.new.self.rest.items) c.in_ok-add.ensures.adds
      ∙ sym (ap (merge c.loop-name.names) c.in-Some.ensures.steps.0)
      ∙ c.loop-name.invariant.comes;
}
