use Rattle.std.proofs.Common.{rules, ◌≤◌, ◌∙◌, ap, length}
use Rattle.hurd_sample.proofs.ScriptLaws.{as_many_commands, good_by_construction}
use Rattle.hurd_sample.proofs.scripts.sample_script.Goals as goal

pub returns-clause-good : goal.returns-clause-good
returns-clause-good c =
    let within : length c.in_ok-text.text.items ≤ 1048576 = search rules in
    good_by_construction c.as_slice.result.now c.in_ok-text.text.items c.in_ok-text.ensures within

pub returns-clause-count : goal.returns-clause-count
returns-clause-count c =
    as_many_commands c.as_slice.result.now c.in_ok-text.text.items c.in_ok-text.ensures ∙ (ap length c.as_slice.ensures.value ∙ c.in_ok-commands.ensures)
