use Rattle.std.proofs.Common.{ap, inr}
use Rattle.hurd_words.specs.Reading.{behind}
use Rattle.hurd_words.proofs.WordLemmas.{at_backslash, escape_refused, escape_taken, plain_taken}
use Rattle.hurd_words.proofs.words.take_byte.Goals as goal

pub returns-in_default-clause-err : goal.returns-in_default-clause-err
returns-in_default-clause-err c = inr (λ rest. rw c.if-escaped.true (escape_refused _ rest c.in_default.ensures.code))

pub returns-then-escaped-clause-ok : goal.returns-then-escaped-clause-ok
returns-then-escaped-clause-ok c = λ rest. rw c.if-escaped.true (escape_taken _ _ _ _ rest c.in-Some.ensures.code c.in_ok-push_ascii.ensures.ok)

pub returns-then-byte-eq92-clause-ok : goal.returns-then-byte-eq92-clause-ok
returns-then-byte-eq92-clause-ok c = λ rest. rw c.if-escaped.false (ap (behind _) (at_backslash _ rest c.if-byte-eq92.true))

pub returns-clause-ok : goal.returns-clause-ok
returns-clause-ok c = λ rest. rw c.if-escaped.false (plain_taken _ _ _ rest c.if-byte-eq92.false c.in_ok-push_ascii-2.ensures.ok)
