use Rattle.std.proofs.Common.{◌≡◌, ◌++◌, ◌∷◌, [], ap, arith, inr}
use Rattle.hurd_words.specs.Reading.{behind}
use Rattle.hurd_lists.proofs.WordLemmas.{at_hex, code_refused, code_taken}
use Rattle.hurd_lists.proofs.words.take_code.Goals as goal

pub returns-then-byte-eq120-clause-ok : goal.returns-then-byte-eq120-clause-ok
returns-then-byte-eq120-clause-ok c = λ rest. ap (behind _) (at_hex _ rest c.if-byte-eq120.true)

pub returns-in_default-clause-err : goal.returns-in_default-clause-err
returns-in_default-clause-err c = inr (λ rest. code_refused _ rest c.if-byte-eq120.false c.in_default.ensures.code)

pub returns-clause-ok : goal.returns-clause-ok
returns-clause-ok c = λ rest.
    let e : c.push.new.self.items ≡ c.args.bytes.now.items ++ c.in-Some.code ∷ [] = grind arith in
    code_taken _ _ _ _ rest c.if-byte-eq120.false c.in-Some.ensures.code e
