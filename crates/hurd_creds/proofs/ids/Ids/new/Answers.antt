use Rattle.std.proofs.Common.{◌≤◌, length, arith}
use Rattle.hurd_creds.proofs.IdLaws.{length-each_once}
use Rattle.hurd_creds.proofs.ids.Ids.new.Goals as goal

pub returns-in_err-holding-clause-inline : goal.returns-in_err-holding-clause-inline
returns-in_err-holding-clause-inline c = λ few_uids few_gids is.
    let uids : length c.as_slice.result.now ≤ 8 = rw c.as_slice.ensures (omega (arith, length-each_once _ _ c.in-Some.ensures.found.0)) in
    let gids : length c.as_slice-2.result.now ≤ 8 = rw c.as_slice-2.ensures (omega (arith, length-each_once _ _ c.in-Some-each_once.ensures.found.0)) in
    let held = c.in_err-holding.ensures.inline uids gids in
    absurd (cc (held))
