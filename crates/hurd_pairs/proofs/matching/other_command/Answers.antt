use Rattle.std.proofs.Common.{inl, inr}
use Rattle.hurd_sight.specs.Reach.{among}
use Rattle.hurd_pairs.proofs.PairLaws.{matching_begun, matching_more, none_differ, other_found}
use Rattle.hurd_pairs.proofs.matching.other_command.Goals.{then-first-one-via-then-first-one, then-first-one-via-else-first-one+then-second-two}
use Rattle.hurd_pairs.proofs.matching.other_command.Goals as goal

pub commands-init : goal.commands-init
commands-init c = matching_begun (among c.args.learners.now.tasks.items) c.args.one.now c.args.two.now c.next_own-first.result c.next_own-second.result c.next_own-first.ensures c.next_own-second.ensures

pub returns-then-not-same_command : goal.returns-then-not-same_command
returns-then-not-same_command c =
    let same = (rw (c.if-not-same_command.true, c.command_at.ensures, c.command_at-in-commands.ensures) at c.same_command.ensures).1 in
    other_found (among c.args.learners.now.tasks.items) c.args.one.now c.args.two.now c.commands.first c.commands.second c.commands.invariant (λ is. absurd (let none = same is in cc))

pub returns-then-first-one : goal.returns-then-first-one
returns-then-first-one c =
    let S = among c.args.learners.now.tasks.items in
    let same = (rw (c.if-not-same_command.false, c.command_at.ensures, c.command_at-in-commands.ensures) at c.same_command.ensures).0 cc in
    elim c.then-first-one.branch [
      | then-first-one-via-then-first-one w ↦ none_differ S c.args.one.now c.args.two.now c.commands.first c.commands.second c.commands.invariant same (inl w.if-first-one.true)
      | then-first-one-via-else-first-one+then-second-two w ↦ none_differ S c.args.one.now c.args.two.now c.commands.first c.commands.second c.commands.invariant same (inr w.if-second-two.true)
    ]

pub commands-preserved : goal.commands-preserved
commands-preserved c =
    let same = (rw (c.if-not-same_command.false, c.command_at.ensures, c.command_at-in-commands.ensures) at c.same_command.ensures).0 cc in
    matching_more (among c.args.learners.now.tasks.items) c.args.one.now c.args.two.now c.commands.first c.commands.second c.commands.invariant same c.if-first-one.false c.if-second-two.false
    c.next_own-first-in-commands.result c.next_own-second-in-commands.result c.next_own-first-in-commands.ensures c.next_own-second-in-commands.ensures
