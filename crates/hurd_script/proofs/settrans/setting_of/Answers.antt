use Rattle.std.proofs.Common.{◌+◌, ◌∙◌, [], Some, get_or, ap, arith, codes, map, refl, string_bytes, sym, take, Global}
use Rattle.std.proofs.lemmas.List.{drop-map}
use Rattle.clap.specs.Words.{found_of, rows_of}
use Rattle.clap.proofs.WalkLemmas.{first_value-rows}
use Rattle.hurd_script.proofs.SettransLemmas.{HasFlags}
use Rattle.hurd_script.proofs.SettingLemmas.{found_flags, front_answer, not_some, refused, taken}
use Rattle.hurd_script.proofs.UsageLemmas.{read, unread}
use Rattle.hurd_script.proofs.settrans.setting_of.Goals as goal

pub returns-then-not-are_known_once : goal.returns-then-not-are_known_once
returns-then-not-are_known_once c =
    let n = c.flag_count-count.result in
    let xs = c.args.words.now in
    refused (string_bytes {Z = Global}) xs (take (n + 1) xs) n c.in_ok-letters.letters.items c.flag_count-count.ensures.count (omega arith) refl c.in_ok-letters.ensures (cc)

pub returns-in_default : goal.returns-in_default
returns-in_default c =
    let n = c.flag_count-count.result in
    let xs = c.args.words.now in
    let seen = c.in_ok-letters.letters.items in
    let answer = front_answer (string_bytes {Z = Global}) xs c.split_at.result.0.now n seen c.flag_count-count.ensures.count (omega arith) c.split_at.ensures.front c.in_ok-letters.ensures (cc) in
    not_some (unread _ _ _ (HasFlags seen) _ c.in_ok-settrans_command.ensures answer (rw c.in_default.is at c.in_ok-matches.ensures))

pub returns-in-Some-get_str : goal.returns-in-Some-get_str
returns-in-Some-get_str c =
    let n = c.flag_count-count.result in
    let xs = c.args.words.now in
    let seen = c.in_ok-letters.letters.items in
    let answer = front_answer (string_bytes {Z = Global}) xs c.split_at.result.0.now n seen c.flag_count-count.ensures.count (omega arith) c.split_at.ensures.front c.in_ok-letters.ensures (cc) in
    let p = rw c.in-Some.is at c.in_ok-matches.ensures in
    let r = read _ _ _ _ (HasFlags seen) _ c.in_ok-settrans_command.ensures answer p.0 p.1 in
    let node = c.in-Some-get_str.ensures ∙ (first_value-rows (found_of c.in-Some.matches) (codes "node") ∙ r.1.1.0) in
    let behind = ap (map (string_bytes {Z = Global})) c.split_at.ensures.back ∙ sym (drop-map (string_bytes {Z = Global}) (n + 1) xs) in
    taken (string_bytes {Z = Global}) xs c.split_at.result.0.now n seen c.flag_count-count.ensures.count (omega arith) c.split_at.ensures.front c.in_ok-letters.ensures
    c.flags_found.result c.in-Some-get_str.node.now _ (found_flags seen (rows_of (found_of c.in-Some.matches)) r.0 c.flags_found.result c.flags_found.ensures r.1.1) (r.1.0 ∙ sym node) behind (cc)

pub returns : goal.returns
returns c =
    let n = c.flag_count-count.result in
    let xs = c.args.words.now in
    let seen = c.in_ok-letters.letters.items in
    let answer = front_answer (string_bytes {Z = Global}) xs c.split_at.result.0.now n seen c.flag_count-count.ensures.count (omega arith) c.split_at.ensures.front c.in_ok-letters.ensures (cc) in
    let p = rw c.in-Some.is at c.in_ok-matches.ensures in
    let r = read _ _ _ _ (HasFlags seen) (Some (get_or (map (string_bytes {Z = Global}) xs) n [])) c.in_ok-settrans_command.ensures answer p.0 p.1 in
    not_some (c.in-None.ensures ∙ (first_value-rows (found_of c.in-Some.matches) (codes "node") ∙ r.1.1.0))
