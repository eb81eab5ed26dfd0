use Rattle.std.proofs.Common.{◌∙◌, ap, arith, string_bytes, sym, Global}
use Rattle.hurd_script.specs.Flags.{is_flag_word}
use Rattle.hurd_script.proofs.LetterLemmas.{count_flag, count_node}
use Rattle.hurd_script.proofs.settrans.flag_count.Goals as goal

pub loop-count-preserved : goal.loop-count-preserved
loop-count-preserved c =
    let h = sym c.if-is_flag_word.true ∙ (c.is_flag_word.ensures ∙ ap is_flag_word c.as_str.ensures.value) in
    record {
      within = omega (arith, c.loop-count-test.true);
      so_far = count_flag (string_bytes {Z = Global}) c.args.words.now c.loop-count.count _ c.index-words-count.result c.loop-count-test.true c.index-words-count.is h c.loop-count.invariant.so_far;
    }

pub returns-else-is_flag_word-clause-count : goal.returns-else-is_flag_word-clause-count
returns-else-is_flag_word-clause-count c =
    let h = sym c.if-is_flag_word.false ∙ (c.is_flag_word.ensures ∙ ap is_flag_word c.as_str.ensures.value) in
    count_node (string_bytes {Z = Global}) c.args.words.now c.loop-count.count _ c.index-words-count.result c.loop-count-test.true c.index-words-count.is h c.loop-count.invariant.so_far
