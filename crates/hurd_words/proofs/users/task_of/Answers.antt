use Rattle.std.proofs.Common.{◌∙◌, bytes_eq, rules, string_bytes, tests, Global, String}
use Rattle.std.proofs.lemmas.Iterator.{YieldsList-from_slice}
use Rattle.std.proofs.lemmas.Iterator.Adapters.{position_from-zero}
use Rattle.std.proofs.lemmas.Iterator.Search.{position_from_yields_List}
use Rattle.hurd_words.proofs.UserLemmas.{position_from-map}
use Rattle.hurd_words.proofs.users.task_of.Goals as goal

pub returns-clause-place : goal.returns-clause-place
returns-clause-place c =
    let test = λ (s : String Global). bytes_eq (string_bytes {Z = Global} s) c.args.name.now in
    position_from_yields_List test _ _ c.position.result c.position.ensures.ran (YieldsList-from_slice c.args.names.now cc) (λ x b q k. search (rules, tests))
    ∙ (position_from-zero test c.args.names.now ∙ position_from-map (string_bytes {Z = Global}) (λ n. bytes_eq n c.args.name.now) 0 c.args.names.now)
