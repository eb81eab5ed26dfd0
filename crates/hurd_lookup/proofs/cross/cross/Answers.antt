-- What the root is says how it is crossed.
use Rattle.std.proofs.Common.{◌∙◌}
use Rattle.hurd_core.specs.Core.{world_of}
use Rattle.hurd_lookup.specs.Path.{names_in}
use Rattle.hurd_lookup.specs.Ends.{authority_of}
use Rattle.hurd_lookup.proofs.CrossLaws.{cross-along, cross-final, cross-firm, here_there, served}
use Rattle.hurd_lookup.proofs.cross.cross.Goals as goal

pub returns-in-Plain : goal.returns-in-Plain
returns-in-Plain g c =
    let w = world_of g.S.Server.meaning c.args.core.now in
    let h = here_there w c.args.root c.at-here.result c.at-here.ensures.node c.at-here.ensures.here c.is_none.result c.is_none.ensures c.if-is_none.false in
    rw (served w c.args.root h.0 h.1 c.in-Some.served c.in-Some.ensures (authority_of c.args.authority) c.args.request c.args.dir (names_in c.args.rest.now) _ c.in-Plain.is)
    (rw c.at-here.ensures.node at c.enter.ensures)

pub returns-in-Union : goal.returns-in-Union
returns-in-Union g c =
    let w = world_of g.S.Server.meaning c.args.core.now in
    let h = here_there w c.args.root c.at-here.result c.at-here.ensures.node c.at-here.ensures.here c.is_none.result c.is_none.ensures c.if-is_none.false in
    rw (served w c.args.root h.0 h.1 c.in-Some.served c.in-Some.ensures (authority_of c.args.authority) c.args.request c.args.dir (names_in c.args.rest.now) _ c.in-Union.is)
    (rw c.at-here.ensures.node at c.enter-in-Union.ensures)

pub returns-in-Firm : goal.returns-in-Firm
returns-in-Firm g c =
    let w = world_of g.S.Server.meaning c.args.core.now in
    let h = here_there w c.args.root c.at-here.result c.at-here.ensures.node c.at-here.ensures.here c.is_none.result c.is_none.ensures c.if-is_none.false in
    rw (cross-firm w c.args.root h.0 h.1 c.in-Some.served c.in-Some.ensures (authority_of c.args.authority) c.args.request c.args.dir (names_in c.args.rest.now) c.targets_at.result.now c.copied-target.result c.in-Firm.is
    c.targets_at.ensures (c.copied-target.ensures ∙ c.first.ensures.value))
    c.hold_on.ensures

pub returns-then-is_final : goal.returns-then-is_final
returns-then-is_final g c =
    let w = world_of g.S.Server.meaning c.args.core.now in
    let h = here_there w c.args.root c.at-here.result c.at-here.ensures.node c.at-here.ensures.here c.is_none.result c.is_none.ensures c.if-is_none.false in
    let final = rw c.if-is_final.true at c.is_final.ensures in
    rw (cross-final w c.args.root h.0 h.1 c.in-Some.served c.in-Some.ensures (authority_of c.args.authority) c.args.request c.args.dir (names_in c.args.rest.now) c.in-Link.absolute c.in-Link.is final)
    (rw c.at-here.ensures.node at c.enter-then-is_final.ensures)

pub returns-else-is_final : goal.returns-else-is_final
returns-else-is_final g c =
    let w = world_of g.S.Server.meaning c.args.core.now in
    let h = here_there w c.args.root c.at-here.result c.at-here.ensures.node c.at-here.ensures.here c.is_none.result c.is_none.ensures c.if-is_none.false in
    let final = rw c.if-is_final.false at c.is_final.ensures in
    rw (cross-along w c.args.root h.0 h.1 c.in-Some.served c.in-Some.ensures (authority_of c.args.authority) c.args.request c.args.dir (names_in c.args.rest.now) c.in-Link.absolute c.in-Link.is final)
    (c.follow.ensures (authority_of c.args.authority))
