use Rattle.std.proofs.Common.{◌≡◌, ◌++◌, ◌∷◌, [], arith, inr}
use Rattle.hurd_lists.proofs.WordLemmas.{pair_refused, pair_taken}
use Rattle.hurd_lists.proofs.words.take_pair.Goals as goal

pub returns-in_default-clause-err : goal.returns-in_default-clause-err
returns-in_default-clause-err c = inr (λ rest. pair_refused _ _ rest c.in_default.ensures)

pub returns-clause-ok : goal.returns-clause-ok
returns-clause-ok c = λ rest.
    let e : c.push.new.self.items ≡ c.args.bytes.now.items ++ c.in-Some.code ∷ [] = grind arith in
    pair_taken _ _ _ _ _ rest c.in-Some.ensures e
