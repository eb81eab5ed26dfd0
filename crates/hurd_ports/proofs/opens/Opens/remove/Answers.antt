use Rattle.std.proofs.Common.{◌≡◌, ◌+◌, ◌&&◌, ℕ, Bool, Some, ap, sym, ◌∙◌, arith}
use Rattle.std.specs.FinMap as fin
use Rattle.hurd_creds.specs.Bits.{READ, WRITE}
use Rattle.hurd_creds.specs.Names.{same_name}
use Rattle.hurd_creds.specs.Weights.{one_if}
use Rattle.hurd_creds.specs.declared.name.Name.{Name}
use Rattle.hurd_ports.specs.OpenTables.{opens_of}
use Rattle.hurd_ports.specs.Tables.{ends, is_end}
use Rattle.hurd_ports.proofs.EndLaws.{end-counted, ends-gone}
use Rattle.hurd_ports.proofs.OpenLaws.{open-got, open-out}
use Rattle.hurd_ports.proofs.opens.Opens.remove.Goals as goal
use Rattle.hurd_ports.proofs.opens.Opens.remove.Goals.{In-Some}

-- what was there
was : (c : In-Some) → fin.get (opens_of c.self.inside.table.entries) c.args.name ≡ Some c.in-Some.opened
was c = open-got c.self.inside.table.entries c.args.name ∙ sym c.swap_remove.ensures.value ∙ c.in-Some.is

-- without it there are so many fewer
fewer : (c : In-Some) (n : Name) (mode : ℕ) → ends (fin.remove (opens_of c.self.inside.table.entries) c.args.name) n mode + one_if (is_end n mode c.in-Some.opened) ≡ ends (opens_of c.self.inside.table.entries) n mode
fewer c n mode = ends-gone (opens_of c.self.inside.table.entries) n mode c.args.name c.in-Some.opened (was c)

pub subtract_if-requires : goal.subtract_if-requires
subtract_if-requires c =
    let z = c.in-Some.opened in
    let is = ap one_if c.asks.ensures in
    omega (arith, is, end-counted z READ, c.self.invariant.read z.node, fewer (goal.at.subtract_if-requires c).In-Some z.node READ)

pub subtract_if-requires-in-Some : goal.subtract_if-requires-in-Some
subtract_if-requires-in-Some c =
    let z = c.in-Some.opened in
    let is = ap one_if c.asks-in-Some.ensures in
    omega (arith, is, end-counted z WRITE, c.self.invariant.write z.node, fewer (goal.at.subtract_if-requires-in-Some c).In-Some z.node WRITE)

pub invariant_of-self : goal.invariant_of-self
invariant_of-self c =
    let node = c.in-Some.opened.node in
    let before = (goal.at.invariant_of-self c).In-Some in
    rw (open-out c.self.inside.table c.swap_remove.new.self c.args.name c.swap_remove.ensures.updates.0) (record {
      read = λ n.
          let is = ap (λ (b : Bool). one_if (same_name n node && b)) c.asks.ensures in
          omega (arith, is, c.subtract_if.ensures n, c.self.invariant.read n, fewer before n READ);
      write = λ n.
          let is = ap (λ (b : Bool). one_if (same_name n node && b)) c.asks-in-Some.ensures in
          omega (arith, is, c.subtract_if-in-Some.ensures n, c.self.invariant.write n, fewer before n WRITE);
    })

pub returns-in-Some : goal.returns-in-Some
returns-in-Some c = rw (← c.self.view_is) (open-out c.self.inside.table c.swap_remove.new.self c.args.name c.swap_remove.ensures.updates.0)

pub returns-in_default : goal.returns-in_default
returns-in_default c = rw (← c.self.view_is) (open-out c.self.inside.table c.swap_remove.new.self c.args.name c.swap_remove.ensures.updates.0)
