use Rattle.std.specs.Prelude.{string_bytes}
use Rattle.hurd_script.proofs.TextLemmas.{shown_at}
use Rattle.hurd_script.proofs.command.same_texts.Goals as goal

pub returns-then-not-same_text : goal.returns-then-not-same_text
returns-then-not-same_text c = (
  λ no. absurd (cc),
  λ same. rw c.if-not-same_text.true at (c.same_text.ensures.1 (shown_at string_bytes c.args.some.now c.args.others.now c.loop-i.i _ _ c.if-some-others.false c.loop-i-test.true c.index-some-i.is c.index-others-i.is same)),
)
