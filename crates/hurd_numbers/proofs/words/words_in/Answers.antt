use Rattle.std.proofs.Common.{◌∙◌, ap, length, sym}
use Rattle.hurd_numbers.proofs.WordLemmas.{words_said}
use Rattle.hurd_numbers.proofs.words.words_in.Goals as goal

pub returns : goal.returns
returns c =
    let count = sym c.as_slice.ensures.len ∙ ap length c.as_slice.ensures.value in
    rw (c.truncate.ensures.items, c.saturating_sub-last.ensures, c.len.ensures)
    (words_said _ c.in_ok-words.words.items c.args.bytes.now count c.in_ok-words.ensures (rw (c.saturating_sub-last.ensures, c.len.ensures, c.as_slice.ensures.value) at (sym c.is_some_text.ensures ∙ c.if-is_some_text.false)))
