use Rattle.std.proofs.Common.{◌∙◌, arith, map, refl, string_bytes, sym, Global}
use Rattle.std.proofs.lemmas.List.{length-map}
use Rattle.hurd_script.specs.Usage.{three}
use Rattle.hurd_script.proofs.UsageLemmas.{takes_no_flag, takes_operands, three_only, three_said}
use Rattle.hurd_script.proofs.usage.triple_of.Goals as goal

pub returns-then-has_flag : goal.returns-then-has_flag
returns-then-has_flag c = takes_no_flag three (map (string_bytes {Z = Global}) c.args.words.now) (λ f fs ws. refl) (sym c.has_flag.ensures ∙ c.if-has_flag.true)

pub returns-else-words-eq3 : goal.returns-else-words-eq3
returns-else-words-eq3 c =
    let ws = map (string_bytes {Z = Global}) c.args.words.now in
    three_only ws (λ e. omega (arith, e, length-map c.args.words.now (string_bytes {Z = Global}), c.if-words-eq3.false)) ∙ takes_operands three ws (sym c.has_flag.ensures ∙ c.if-has_flag.false)

pub returns-then-words-eq3 : goal.returns-then-words-eq3
returns-then-words-eq3 c =
    three_said (string_bytes {Z = Global}) c.args.words.now _ _ _ c.if-words-eq3.true c.index-words-0.is c.index-words-1.is c.index-words-2.is
    c.as_str.ensures.value c.as_str-then-words-eq3.ensures.value c.as_str-then-words-eq3-2.ensures.value
    ∙ takes_operands three (map (string_bytes {Z = Global}) c.args.words.now) (sym c.has_flag.ensures ∙ c.if-has_flag.false)
