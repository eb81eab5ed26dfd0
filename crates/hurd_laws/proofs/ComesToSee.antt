-- The bound is met: whatever a set of tasks sees together, each of them can be shown, and nothing else.
use Rattle.std.proofs.Common.{◌∙◌, ℕ, Bool, true≢false, List, [], ◌∷◌, sym}
use Rattle.hurd_machine.proofs.Common.{World}
use Rattle.hurd_laws.specs.Step.{after}
use Rattle.hurd_laws.specs.Runs.{TaskCall, Quiet}
use Rattle.hurd_laws.specs.ComesToSee.{sendings, AllOf, AllFrom, ComesToSee}
use Rattle.hurd_laws.proofs.Coalitions.{only_together}
use Rattle.hurd_laws.proofs.Sent.{reached_by_sending}

-- where all calls are of G, there are no others
alone_quiet : (G : ℕ → Bool) (ns : List TaskCall) (w : World) → AllOf G ns → Quiet G w ns
alone_quiet G [] w all = tt
alone_quiet G (n ∷ ns) w all = (λ out. absurd (true≢false (sym all.0 ∙ out)), alone_quiet G ns (after w n.task n.call) all.1)

all_sent : (G : ℕ → Bool) (q : ℕ) (ms : List (ℕ × ℕ)) → AllFrom G ms → AllOf G (sendings q ms)
all_sent G q [] all = tt
all_sent G q (m ∷ ms) all = (all.0, all_sent G q ms all.1)

pub comes_to_see : ComesToSee
comes_to_see S G w ms q x p sound more ours there listed from thing old = (
  λ can. only_together S G w can.0 p sound more (alone_quiet G can.0 w can.1) old can.2,
  λ sees. (sendings q ms, all_sent G q ms from, reached_by_sending S G w ms q x p ours there listed thing sees),
)
