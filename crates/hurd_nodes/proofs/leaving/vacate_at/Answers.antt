use Rattle.std.proofs.Common.{sym, ap, ◌∙◌}
use Rattle.std.specs.Prelude.{Option}
use Rattle.hurd_creds.specs.declared.name.Name.{Name}
use Rattle.hurd_nodes.specs.Held.{sites_of}
use Rattle.hurd_nodes.specs.Quiet.{vacated_at}
use Rattle.hurd_nodes.proofs.GoneLaws.{vacated-active, vacated-other}
use Rattle.hurd_nodes.proofs.leaving.vacate_at.Goals as goal

pub returns-then-is_active_on-clause-is : goal.returns-then-is_active_on-clause-is
returns-then-is_active_on-clause-is c =
    let m = sites_of c.args.sites.now.entries in
    let s = c.args.server in
    let active = sym c.is_active_on.ensures ∙ c.if-is_active_on.true in
    c.set_active.ensures.is ∙ vacated-active m s c.in-Some.node active ∙ sym (ap (λ (o : Option Name). vacated_at s o m) c.in-Some.is)

pub returns-else-is_active_on-clause-is : goal.returns-else-is_active_on-clause-is
returns-else-is_active_on-clause-is c =
    let m = sites_of c.args.sites.now.entries in
    let s = c.args.server in
    let other = sym c.is_active_on.ensures ∙ c.if-is_active_on.false in
    vacated-other m s c.in-Some.node other ∙ sym (ap (λ (o : Option Name). vacated_at s o m) c.in-Some.is)
