use Rattle.std.proofs.Common.{◌≡◌, ◌&&◌, Bool, ap, arith}
use Rattle.std.specs.FinMap as fin
use Rattle.hurd_creds.specs.Bits.{READ, WRITE}
use Rattle.hurd_creds.specs.Names.{same_name}
use Rattle.hurd_creds.specs.Weights.{one_if}
use Rattle.hurd_creds.proofs.StepLaws.{on_success}
use Rattle.hurd_ports.specs.OpenTables.{opens_of}
use Rattle.hurd_ports.specs.Steps.{new_open}
use Rattle.hurd_ports.proofs.EndLaws.{ends-few, ends-made}
use Rattle.hurd_ports.proofs.OpenLaws.{has_room, open-put, opens-few}
use Rattle.hurd_ports.proofs.opens.Opens.add.Goals as goal

pub add_if-requires-clause-fits : goal.add_if-requires-clause-fits
add_if-requires-clause-fits c =
    let es = c.self.inside.table.entries in
    omega (arith, c.self.invariant.read c.args.node, ends-few (opens_of es) c.args.node READ, opens-few es, c.len.ensures.len, c.len.ensures.small)

pub add_if-requires-2-clause-fits : goal.add_if-requires-2-clause-fits
add_if-requires-2-clause-fits c =
    let es = c.self.inside.table.entries in
    omega (arith, c.self.invariant.write c.args.node, ends-few (opens_of es) c.args.node WRITE, opens-few es, c.len.ensures.len, c.len.ensures.small)

put : (c : goal.After-add_if-2) → opens_of c.insert.new.self.entries ≡ fin.insert (opens_of c.self.inside.table.entries) c.args.name (new_open c.args.node c.args.modes)
put c =
    open-put c.self.inside.table c.insert.new.self c.args.name (new_open c.args.node c.args.modes) (on_success c.insert.result (c.insert.ensures.succeeds (has_room _ _ (rw (← c.self.view_is) at c.requires.room))) c.insert.ensures.updates).0

pub invariant_of-self : goal.invariant_of-self
invariant_of-self c =
    let m = opens_of c.self.inside.table.entries in
    let none = rw (← c.self.view_is) at c.requires.fresh in
    rw (put c) (record {
      read = λ n.
          let is = ap (λ (b : Bool). one_if (same_name n c.args.node && b)) c.asks.ensures in
          omega (arith, is, c.add_if.ensures n, c.self.invariant.read n, ends-made m n READ c.args.name (new_open c.args.node c.args.modes) none);
      write = λ n.
          let is = ap (λ (b : Bool). one_if (same_name n c.args.node && b)) c.asks-2.ensures in
          omega (arith, is, c.add_if-2.ensures n, c.self.invariant.write n, ends-made m n WRITE c.args.name (new_open c.args.node c.args.modes) none);
    })

pub returns : goal.returns
returns c = rw (← c.self.view_is) (put c)
