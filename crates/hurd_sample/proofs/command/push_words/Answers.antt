use Rattle.std.proofs.Common.{◌≡◌, ◌++◌, ◌∷◌, [], string_bytes}
use Rattle.hurd_sample.specs.Written.{written}
use Rattle.hurd_sample.proofs.WordLaws.{spaced_more}
use Rattle.hurd_sample.proofs.command.push_words.Goals as goal

pub loop-word-preserved : goal.loop-word-preserved
loop-word-preserved c =
    let word = c.word-item.result in
    let before = c.loop-word.text.items in
    let grown : c.push_word.new.text.items ≡ (before ++ 32 ∷ []) ++ written (string_bytes word) =
    cc (c.in_ok-push_word.ensures, c.in_ok-push.ensures.items, c.as_bytes.ensures.value) in
    spaced_more string_bytes c.args.words.now c.loop-word.word-index word before c.push_word.new.text.items _ c.loop-word-test.true c.word-item.is c.loop-word.invariant grown
