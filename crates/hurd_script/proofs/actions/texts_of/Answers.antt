use Rattle.std.proofs.Common.{rules, string_bytes, Bor, List, ℕ, Global}
use Rattle.std.proofs.lemmas.Iterator.Consumers.{map_from_collect}
use Rattle.std.proofs.lemmas.Iterator.{YieldsList-from_map_by, YieldsList-from_slice}
use Rattle.hurd_script.proofs.actions.texts_of.Goals as goal

pub returns : goal.returns
returns c =
    map_from_collect _ c.collect.ensures.ran
    (YieldsList-from_map_by _ (λ (text : Bor (List ℕ)). text.now) (string_bytes {Z = Global}) (YieldsList-from_slice c.args.words.now (cc)) (cc) (λ x r q k. search rules))
