use Rattle.std.proofs.Common.{◌∙◌, ap, map, sym, string_bytes, Global}
use Rattle.hurd_trans_iface.specs.Words.{words_of}
use Rattle.hurd_script.proofs.ActionLemmas.{limits_kept}
use Rattle.hurd_script.proofs.actions.words_from.Goals as goal

pub returns-in-Ok : goal.returns-in-Ok
returns-in-Ok c =
    let said = ap (map (λ t. t.now)) c.as_slice.ensures.value ∙ c.in_ok-texts.ensures in
    limits_kept (map (string_bytes {Z = Global}) c.args.words.now) c.in-Ok.words (ap words_of (sym said) ∙ c.in-Ok.ensures)
