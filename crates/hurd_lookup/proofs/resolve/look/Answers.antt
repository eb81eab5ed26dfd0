-- The walk's refusals, and its ends.
use Rattle.std.proofs.Common.{◌≡◌, ◌∙◌, ℕ, ap, sym}
use Rattle.std.proofs.lemmas.Result.{err_from_is_err_and}
use Rattle.hurd_machine.proofs.Common.{Mode, OpenFlags}
use Rattle.hurd_core.specs.Core.{world_of}
use Rattle.hurd_lookup.specs.Lookup.{no_modes}
use Rattle.hurd_lookup.specs.Legs.{leg_of}
use Rattle.hurd_lookup.proofs.CrossLaws.{here_there}
use Rattle.hurd_lookup.proofs.LegLaws.{leg_led, leg_refused}
use Rattle.hurd_lookup.proofs.resolve.look.Goals as goal

no_flags : (flags : OpenFlags) → flags.0 ≡ 0 → flags ≡ no_modes
no_flags flags is = ap (λ (n : ℕ). let z : OpenFlags = record { 0 = n } in z) is

no_mode : (mode : Mode) → mode.0 ≡ 0 → mode ≡ record { 0 = 0 }
no_mode mode is = ap (λ (n : ℕ). let z : Mode = record { 0 = n } in z) is

pub returns-in_err-outcome : goal.returns-in_err-outcome
returns-in_err-outcome g c =
    let w = world_of g.S.Server.meaning c.args.core.now in
    let h = here_there w c.args.leg.node c.at-here.result c.at-here.ensures.node c.at-here.ensures.here c.is_none.result c.is_none.ensures c.if-is_none.false in
    let short = rw c.as_slice.ensures at (sym c.if-not-is_short.false ∙ c.is_short.ensures) in
    let plain = rw (c.as_slice-2.ensures, no_flags c.empty.result (c.empty.ensures tt), no_mode c.empty-2.result (c.empty-2.ensures tt)) at c.new-request.ensures in
    let walked = rw (c.at-here.ensures.node, c.as_slice-3.ensures) at c.in_err-outcome.ensures in
    let p = err_from_is_err_and c.from_residual.result c.from_residual.ensures.1 in
    rw (p.1, p.2) (leg_refused w c.args.ids.now (leg_of c.args.leg) h.0 h.1 short c.new-request.result plain _ walked)

pub returns : goal.returns
returns g c =
    let w = world_of g.S.Server.meaning c.args.core.now in
    let h = here_there w c.args.leg.node c.at-here.result c.at-here.ensures.node c.at-here.ensures.here c.is_none.result c.is_none.ensures c.if-is_none.false in
    let short = rw c.as_slice.ensures at (sym c.if-not-is_short.false ∙ c.is_short.ensures) in
    let plain = rw (c.as_slice-2.ensures, no_flags c.empty.result (c.empty.ensures tt), no_mode c.empty-2.result (c.empty-2.ensures tt)) at c.new-request.ensures in
    let walked = rw (c.at-here.ensures.node, c.as_slice-3.ensures) at c.in_ok-outcome.ensures in
    leg_led w c.args.ids.now (leg_of c.args.leg) h.0 h.1 short c.new-request.result plain _ c.ended.result walked.0 c.ended.ensures
