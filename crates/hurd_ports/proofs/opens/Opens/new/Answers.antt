use Rattle.std.proofs.Common.{◌≡◌, sym, ap, ◌∙◌}
use Rattle.hurd_ports.specs.OpenTables.{open_key, open_value, opens_of}
use Rattle.std.specs.FinMap as fin
use Rattle.hurd_creds.specs.Bits.{READ, WRITE}
use Rattle.hurd_creds.proofs.KeyedLaws.{keyed-nothing}
use Rattle.hurd_ports.proofs.opens.Opens.new.Goals as goal
use Rattle.hurd_ports.proofs.EndLaws.{ends-nothing}

empty : (c : goal.After-new-3) → opens_of c.new.result.entries ≡ fin.empty
empty c = ap opens_of c.new.ensures.empty ∙ keyed-nothing open_key open_value

pub returns : goal.returns
returns c = empty c

pub invariant_of-result : goal.invariant_of-result
invariant_of-result c = rw (empty c, c.new-2.ensures.empty, c.new-3.ensures.empty) (record { read = λ n. sym (ends-nothing n READ); write = λ n. sym (ends-nothing n WRITE) })
