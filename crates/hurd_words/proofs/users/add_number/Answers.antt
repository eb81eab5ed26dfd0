use Rattle.std.proofs.Common.{◌≡◌, ◌++◌, ◌∷◌, [], arith, inr}
use Rattle.hurd_words.proofs.UserLemmas.{no_number, number_taken}
use Rattle.hurd_words.proofs.users.add_number.Goals as goal

pub returns-in_default-clause-err : goal.returns-in_default-clause-err
returns-in_default-clause-err c = inr (λ rest. no_number _ rest c.in_default.ensures)

pub returns-clause-ok : goal.returns-clause-ok
returns-clause-ok c = λ rest.
    let e : c.push.new.self.items ≡ c.args.numbers.now.items ++ c.in-Some.number ∷ [] = grind arith in
    number_taken _ _ _ _ rest c.in-Some.ensures e
