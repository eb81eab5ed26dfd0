-- The value that is lent is the one that is counted.
use Rattle.std.proofs.Common.{◌∙◌, ap, arith}
use Rattle.std.proofs.lemmas.Grind.{common_steps}
use Rattle.std.specs.Map.{lookup}
use Rattle.std.specs.Option.{unwrap_or}
use Rattle.hurd_creds.specs.Names.{same_name}
use Rattle.hurd_creds.proofs.CountLaws.{lent-count, count-added}
use Rattle.hurd_creds.proofs.counts.add.Goals as goal

pub returns-clause-more : goal.returns-clause-more
returns-clause-more c =
    let there = rw c.unwrap.ensures at c.entry.ensures.value in
    count-added c.args.counts.now.entries _ c.args.name c.or_insert.result.now c.args.more (c.or_insert.ensures.value ∙ ap (λ o. unwrap_or o 0) there ∙ lent-count (lookup (same_name c.args.name) c.args.counts.now.entries)) (λ q. grind (arith, common_steps))
