use Rattle.std.proofs.Common.{rules, sym, ap, ◌∙◌}
use Rattle.std.proofs.lemmas.Fn.{filter_same}
use Rattle.hurd_creds.specs.declared.name.Name.{Name}
use Rattle.hurd_creds.proofs.NameLaws.{same_name-itself}
use Rattle.hurd_creds.specs.Names.{is_one}
use Rattle.hurd_nodes.specs.Held.{home_in, sites_of}
use Rattle.hurd_nodes.proofs.OwnLaws.{listed-kept}
use Rattle.hurd_nodes.proofs.own.weed.Goals as goal

pub returns-in-Some : goal.returns-in-Some
returns-in-Some c =
    let m = sites_of c.args.sites.now.entries in
    let s = c.in-Some.server in
    let own = λ (q : Name). is_one s (home_in m q) in
    let less = filter_same _ own _ (λ x b f' k. search rules) _ _ c.retain.ensures.filtered in
    λ n home on. rw less (listed-kept own n c.args.own.now.items (ap (is_one s) (home ∙ sym c.in-Some.ensures) ∙ same_name-itself s) on)
