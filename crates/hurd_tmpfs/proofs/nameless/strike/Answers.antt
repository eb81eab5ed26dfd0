-- What is left are the other names.
use Rattle.std.proofs.Common.{rules}
use Rattle.std.specs.Prelude.{not}
use Rattle.std.proofs.lemmas.Fn.{filter_same}
use Rattle.hurd_creds.specs.Names.{same_name}
use Rattle.hurd_creds.specs.declared.name.Name.{Name}
use Rattle.hurd_tmpfs.proofs.NamelessLaws.{listed-off, listed-others}
use Rattle.hurd_tmpfs.proofs.nameless.strike.Goals as goal

pub returns-clause-off : goal.returns-clause-off
returns-clause-off c =
    let less = filter_same _ (λ (q : Name). not (same_name q c.args.node)) _ (λ x b f' k. search rules) _ _ c.retain.ensures.filtered in
    rw less (listed-off c.args.node c.args.names.now.items)

pub returns-clause-others : goal.returns-clause-others
returns-clause-others c =
    let less = filter_same _ (λ (q : Name). not (same_name q c.args.node)) _ (λ x b f' k. search rules) _ _ c.retain.ensures.filtered in
    rw less (listed-others c.args.node c.args.names.now.items)
