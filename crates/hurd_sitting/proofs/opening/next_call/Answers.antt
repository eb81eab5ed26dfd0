use Rattle.std.proofs.lemmas.Result.{IfOk-weaker}
use Rattle.hurd_kinds.specs.Boxes.{box_meaning}
use Rattle.hurd_lists.specs.Lists.{listed_by}
use Rattle.hurd_sitting.proofs.LineLaws.{deallocate_line, lookup_line, reauthenticate_line}
use Rattle.hurd_sitting.proofs.opening.next_call.Goals as goal

pub returns-in-DirLookup : goal.returns-in-DirLookup
returns-in-DirLookup c =
    let said = rw (c.numbers.ensures, c.from.ensures, c.bits.ensures, c.bits-in-DirLookup.ensures, c.as_slice.ensures) at c.listed.ensures in
    rw c.in-DirLookup.is (IfOk-weaker c.listed.result _ _ (λ read is. lookup_line c.args.task c.in-DirLookup.dir (listed_by box_meaning read) c.in-DirLookup.how c.in-DirLookup.path is) said)

pub returns-in-IoReauthenticate : goal.returns-in-IoReauthenticate
returns-in-IoReauthenticate c =
    let said = rw c.numbers-in-IoReauthenticate.ensures at c.listed-in-IoReauthenticate.ensures in
    rw c.in-IoReauthenticate.is (IfOk-weaker c.listed-in-IoReauthenticate.result _ _ (λ read is. reauthenticate_line c.args.task c.in-IoReauthenticate.port (listed_by box_meaning read) is) said)

pub returns-in-PortDeallocate : goal.returns-in-PortDeallocate
returns-in-PortDeallocate c =
    let said = rw c.numbers-in-PortDeallocate.ensures at c.listed-in-PortDeallocate.ensures in
    rw c.in-PortDeallocate.is (IfOk-weaker c.listed-in-PortDeallocate.result _ _ (λ read is. deallocate_line c.args.task c.in-PortDeallocate.port (listed_by box_meaning read) is) said)
