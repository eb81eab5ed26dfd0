use Rattle.std.proofs.Common.{◌∙◌, codes, map, string_bytes, sym, Global}
use Rattle.clap.specs.Words.{found_of, rows_of}
use Rattle.clap.proofs.WalkLemmas.{first_value-rows, one_text-rows}
use Rattle.hurd_script.specs.Flags.{flags_of, operands_of}
use Rattle.hurd_script.specs.Usage.{HasListed}
use Rattle.hurd_script.proofs.ListLemmas.{list_answer, listed_value, not_listed, other_listed}
use Rattle.hurd_script.proofs.UsageLemmas.{listed_alone, read, unread}
use Rattle.hurd_script.proofs.usage.listed_of.Goals as goal

pub returns-then-has_other_flag : goal.returns-then-has_other_flag
returns-then-has_other_flag c = other_listed (map (string_bytes {Z = Global}) c.args.words.now) (sym c.has_other_flag.ensures ∙ c.if-has_other_flag.true)

pub returns-in_default-2 : goal.returns-in_default-2
returns-in_default-2 c =
    unread _ _ _ HasListed _ c.in_ok-list_command.ensures (list_answer c.args.name.now (map (string_bytes {Z = Global}) c.args.words.now) (sym c.has_other_flag.ensures ∙ c.if-has_other_flag.false)) (rw c.in_default-2.is at c.in_ok-matches.ensures)

pub returns-in-Some-get_str : goal.returns-in-Some-get_str
returns-in-Some-get_str c =
    let p = rw c.in-Some-2.is at c.in_ok-matches.ensures in
    let r = read _ _ _ _ HasListed _ c.in_ok-list_command.ensures (list_answer c.args.name.now (map (string_bytes {Z = Global}) c.args.words.now) (sym c.has_other_flag.ensures ∙ c.if-has_other_flag.false)) p.0 p.1 in
    let said = sym (one_text-rows (found_of c.in-Some-2.matches) (codes "itself")) in
    listed_value c.in-Some-get_str.node.now c.get_flag-itself.result (rows_of (found_of c.in-Some-2.matches)) r.0 _ (c.in-Some-get_str.ensures ∙ first_value-rows (found_of c.in-Some-2.matches) (codes "node"))
    (λ t. c.get_flag-itself.ensures.value (sym said ∙ t)) (λ t. c.get_flag-itself.ensures.other (sym said ∙ t)) r.1

pub returns : goal.returns
returns c =
    let p = rw c.in-Some-2.is at c.in_ok-matches.ensures in
    let r = read _ _ _ _ HasListed _ c.in_ok-list_command.ensures (list_answer c.args.name.now (map (string_bytes {Z = Global}) c.args.words.now) (sym c.has_other_flag.ensures ∙ c.if-has_other_flag.false)) p.0 p.1 in
    not_listed (rows_of (found_of c.in-Some-2.matches)) r.0 _ (c.in-None.ensures ∙ first_value-rows (found_of c.in-Some-2.matches) (codes "node")) r.1

pub returns-in-Some : goal.returns-in-Some
returns-in-Some c =
    let ws = map (string_bytes {Z = Global}) c.args.words.now in
    listed_alone (flags_of ws) (operands_of ws) c.in-Some.node.now (rw c.in-Some.is at c.node_of.ensures)
