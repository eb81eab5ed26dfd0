use Rattle.std.proofs.Common.{◌∙◌, ◌≤◌, ℕ, length, true≢false, refl, sym, ap, subst}
use Rattle.hurd_sight.specs.Reach.{among}
use Rattle.hurd_looks.specs.Pairings.{Pairing}
use Rattle.hurd_looks.proofs.PairLaws.{KeepsAt, keep_at}
use Rattle.hurd_looks.proofs.LookLaws.{keep_all, one_further}
use Rattle.hurd_looks.proofs.pairs.Pairs.keep_own.Goals as goal

pub returns-then-not-keeps_own_at-clause-keep : goal.returns-then-not-keeps_own_at-clause-keep
returns-then-not-keeps_own_at-clause-keep c = (
  λ bad. absurd (true≢false (sym bad)),
  λ keep. sym c.if-not-keeps_own_at.true ∙ c.keeps_own_at.ensures.1 (keep_at (among c.args.tasks.now) c.args.self.now keep c.loop-i.i),
)

pub loop-i-preserved : goal.loop-i-preserved
loop-i-preserved c =
    one_further (KeepsAt (among c.args.tasks.now) c.args.self.now) c.loop-i.i c.loop-i.invariant (c.keeps_own_at.ensures.0 c.if-not-keeps_own_at.false)

pub returns-clause-keep : goal.returns-clause-keep
returns-clause-keep c = (
  λ is. keep_all (among c.args.tasks.now) c.args.self.now c.loop-i.i
      (subst (λ (k : ℕ). k ≤ c.loop-i.i) (c.len-i-end.ensures.len ∙ ap (λ (ps : Pairing). length ps) c.self.view_is) c.loop-i-test.false) c.loop-i.invariant,
  λ keep. refl,
)
