use Rattle.std.proofs.Common.{◌≡◌, sym, ap, ◌∙◌}
use Rattle.hurd_nodes.specs.Held.{home_in, sites_of}
use Rattle.hurd_nodes.proofs.GoneLaws.{clearing-none, clearing-one, not_home, own_home}
use Rattle.hurd_nodes.proofs.Sites.{home-less}
use Rattle.hurd_nodes.proofs.leaving.clear_site.Given as given
use Rattle.hurd_nodes.proofs.leaving.clear_site.Goals as goal
use Rattle.hurd_nodes.proofs.leaving.clear_site.Goals.{After-is_one}
use Rattle.hurd_creds.specs.Names.{is_one}

-- what was asked of the home that was found is so of the node's
own : (g : given.Over) (c : After-is_one g) → is_one c.args.server (home_in (sites_of c.args.sites.now.entries) c.args.node) ≡ c.is_one.result
own g c = sym (c.is_one.ensures ∙ ap (is_one c.args.server) c.servers_at-home.ensures.home)

pub returns-then-not-is_one-clause-step : goal.returns-then-not-is_one-clause-step
returns-then-not-is_one-clause-step g c = clearing-none c.args.server (sites_of c.args.sites.now.entries) c.args.asked c.args.seats.now.entries

pub returns-then-not-is_one-clause-gone : goal.returns-then-not-is_one-clause-gone
returns-then-not-is_one-clause-gone g c =
    not_home c.args.server (home_in (sites_of c.args.sites.now.entries) c.args.node) (own g (goal.at.returns-then-not-is_one-clause-gone g c).After-is_one ∙ c.if-not-is_one.true)

pub returns-clause-step : goal.returns-clause-step
returns-clause-step g c =
    let sites = sites_of c.args.sites.now.entries in
    let home = own_home c.args.server (home_in sites c.args.node) (own g (goal.at.returns-clause-step g c).After-is_one ∙ c.if-not-is_one.false) in
    let less = rw c.servers_at-home.ensures.active at c.ask_given-asked.ensures.less in
    rw c.remove_site.ensures.is
    (clearing-one c.args.server sites c.args.asked c.ask_given-asked.result c.args.seats.now.entries c.ask_given-asked.new.seats.entries c.args.node home less c.ask_given-asked.ensures.among)

pub returns-clause-gone : goal.returns-clause-gone
returns-clause-gone g c =
    rw (c.remove_site.ensures.is, home-less (sites_of c.args.sites.now.entries) c.args.node) (λ is. absurd (cc))
