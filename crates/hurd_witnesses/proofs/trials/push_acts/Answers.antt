use Rattle.hurd_witnesses.proofs.JoinLaws.{one_behind}
use Rattle.hurd_witnesses.proofs.trials.push_acts.Goals as goal

pub returns : goal.returns
returns c =
    let old = c.args.commands.now.items in
    let one = c.in_ok-push_command.ensures in
    let two = one_behind old _ _ _ _ one c.in_ok-push_command-2.ensures in
    let three = one_behind old _ _ _ _ two c.in_ok-push_command-3.ensures in
    let four = one_behind old _ _ _ _ three c.in_ok-push_command-4.ensures in
    let five = one_behind old _ _ _ _ four c.in_ok-push_command-5.ensures in
    let six = one_behind old _ _ _ _ five c.in_ok-push_command-6.ensures in
    let seven = one_behind old _ _ _ _ six c.in_ok-push_command-7.ensures in
    one_behind old _ _ _ _ seven c.in_ok-push_command-8.ensures
