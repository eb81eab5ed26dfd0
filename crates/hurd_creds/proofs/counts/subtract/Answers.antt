use Rattle.std.proofs.Common.{◌≡◌, ◌-◌, ◌<◌, cond, Some, None, ap, ◌∙◌, arith}
use Rattle.indexmap.specs.IndexMap.{get, with_value_at}
use Rattle.indexmap.proofs.CallerLemmas.{updates-with_value_at}
use Rattle.hurd_creds.specs.Counts.{counted, or_none}
use Rattle.hurd_creds.specs.Names.{same_name}
use Rattle.hurd_creds.specs.declared.name.Name.{Name}
use Rattle.hurd_creds.proofs.NameLaws.{names-alike}
use Rattle.hurd_creds.proofs.CountLaws.{count-lowered, count-written, goes, name-found, one_entry, stays}
use Rattle.hurd_creds.proofs.counts.subtract.Goals as goal
use Rattle.hurd_creds.proofs.counts.subtract.Goals.{After-counts-1, After-swap_remove_index}

-- where it is counted on: its pair is the one that was found, and so often it is counted then

one : (c : After-counts-1) → (c.in-Some.field-0-1.now ≡ c.pair_mut-count.result.0.now) × (c.in-Some.count.now ≡ c.pair_mut-count.result.1.now)
one c = one_entry _ _ _ _ _ c.in-Some.ensures.entry c.pair_mut-count.ensures.value

written : (c : After-counts-1) (q : Name)
    → get same_name (with_value_at c.args.counts.now c.in-Some.index (c.pair_mut-count.result.1.now - c.args.less)) q ≡ cond (same_name c.args.name q) (Some (c.pair_mut-count.result.1.now - c.args.less)) (get same_name c.args.counts.now q)
written c q =
    let name : c.args.name ≡ c.in-Some.field-0-1.now = name-found _ _ _ c.in-Some.ensures.key in
    rw (name ∙ (one c).0) ((updates-with_value_at c.args.counts.now c.in-Some.index (c.pair_mut-count.result.1.now - c.args.less) names-alike c.pair_mut-count.ensures.unique _ _ c.pair_mut-count.ensures.value).0 q)

some_left : (c : After-counts-1) → 0 < c.pair_mut-count.result.1.now - c.args.less
some_left c = omega (arith, (one c).1, c.if-count-less.true)

left : (c : After-counts-1) → counted (with_value_at c.args.counts.now c.in-Some.index (c.pair_mut-count.result.1.now - c.args.less)).entries c.args.name ≡ c.pair_mut-count.result.1.now - c.args.less
left c = ap or_none (count-written c.args.counts.now.entries _ c.args.name _ (written c))

pub returns-then-count-less-clause-less : goal.returns-then-count-less-clause-less
returns-then-count-less-clause-less c =
    let count = ap or_none c.in-Some.ensures.value in
    count-lowered c.args.counts.now.entries _ c.args.name _ c.args.less (omega (arith, (one c).1, c.if-count-less.true)) (written c)

pub returns-then-count-less-clause-gone : goal.returns-then-count-less-clause-gone
returns-then-count-less-clause-gone c = stays _ c.args.name (omega (arith, left c, some_left c))

pub returns-then-count-less-clause-forgotten : goal.returns-then-count-less-clause-forgotten
returns-then-count-less-clause-forgotten c none = absurd (omega (arith, left c, some_left c))

-- and where it goes

taken : (c : After-swap_remove_index) (q : Name) → get same_name c.swap_remove_index.new.self q ≡ cond (same_name c.args.name q) None (get same_name c.args.counts.now q)
taken c q =
    let updates = rw (c.swap_remove_index.ensures.entry, c.in-Some.ensures.entry) at c.swap_remove_index.ensures.updates in
    let name : c.args.name ≡ c.in-Some.field-0-1.now = name-found _ _ _ c.in-Some.ensures.key in
    rw name (updates.0 q)

pub returns-else-count-less-clause-less : goal.returns-else-count-less-clause-less
returns-else-count-less-clause-less c =
    let count = ap or_none c.in-Some.ensures.value in
    count-lowered c.args.counts.now.entries _ c.args.name None c.args.less (omega (arith, c.requires, c.if-count-less.false)) (taken c)

pub returns-else-count-less-clause-gone : goal.returns-else-count-less-clause-gone
returns-else-count-less-clause-gone c = goes _ c.args.name (ap or_none (count-written c.args.counts.now.entries _ c.args.name None (taken c)))

pub returns-else-count-less-clause-forgotten : goal.returns-else-count-less-clause-forgotten
returns-else-count-less-clause-forgotten c none = count-written c.args.counts.now.entries _ c.args.name None (taken c)
