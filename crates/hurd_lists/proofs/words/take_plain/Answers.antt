use Rattle.std.proofs.Common.{◌≡◌, ◌++◌, ◌∷◌, [], ap, arith}
use Rattle.hurd_words.specs.Reading.{behind}
use Rattle.hurd_lists.proofs.WordLemmas.{at_backslash, plain_taken}
use Rattle.hurd_lists.proofs.words.take_plain.Goals as goal

pub returns-then-byte-eq92-clause-ok : goal.returns-then-byte-eq92-clause-ok
returns-then-byte-eq92-clause-ok c = λ rest. ap (behind _) (at_backslash _ rest c.if-byte-eq92.true)

pub returns-clause-ok : goal.returns-clause-ok
returns-clause-ok c = λ rest.
    let e : c.push.new.self.items ≡ c.args.bytes.now.items ++ c.args.byte ∷ [] = grind arith in
    plain_taken _ _ _ rest c.if-byte-eq92.false e
