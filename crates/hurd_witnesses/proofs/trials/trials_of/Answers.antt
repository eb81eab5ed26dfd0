use Rattle.std.proofs.Common.{◌≡◌, ◌∙◌, IfOk, List, subst, ℕ}
use Rattle.hurd_witnesses.specs.Trials.{place_of, scripted, trials_on}
use Rattle.hurd_witnesses.proofs.trials.trials_of.Goals as goal

pub returns : goal.returns
returns c =
    let by_path = subst (λ (path : List ℕ). IfOk c.trials_on.result (λ trials. trials.items ≡ trials_on c.args.users.now path c.as_slice-2.result.now)) (c.as_slice.ensures ∙ c.in_ok-path.ensures) c.trials_on.ensures in
    subst (λ (name : List ℕ). IfOk c.trials_on.result (λ trials. trials.items ≡ trials_on c.args.users.now (scripted (place_of c.args.line.now)) name)) (c.as_slice-2.ensures ∙ c.in_ok-name.ensures) by_path
