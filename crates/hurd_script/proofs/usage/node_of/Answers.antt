use Rattle.std.proofs.Common.{◌∙◌, arith, map, refl, string_bytes, sym, Global}
use Rattle.std.proofs.lemmas.List.{length-map}
use Rattle.hurd_script.specs.Usage.{lone}
use Rattle.hurd_script.proofs.UsageLemmas.{lone_only, takes_no_flag, takes_operands}
use Rattle.hurd_script.proofs.usage.node_of.Goals as goal

pub returns-then-has_flag : goal.returns-then-has_flag
returns-then-has_flag c = takes_no_flag lone (map (string_bytes {Z = Global}) c.args.words.now) (λ f fs ws. refl) (sym c.has_flag.ensures ∙ c.if-has_flag.true)

pub returns-else-words-eq1 : goal.returns-else-words-eq1
returns-else-words-eq1 c =
    let ws = map (string_bytes {Z = Global}) c.args.words.now in
    lone_only ws (λ e. omega (arith, e, length-map c.args.words.now (string_bytes {Z = Global}), c.if-words-eq1.false)) ∙ takes_operands lone ws (sym c.has_flag.ensures ∙ c.if-has_flag.false)
