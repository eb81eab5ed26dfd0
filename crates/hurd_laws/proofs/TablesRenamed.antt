-- Tables of ports, and what is open, hang together where things have other names.
use Rattle.std.proofs.Common.{◌≡◌, ◌∙◌, ◌<◌, ℕ, true, Some, ap, subst}
use Rattle.std.specs.Option.{option_map}
use Rattle.hurd_creds.specs.Bits.{WRITE, asks}
use Rattle.hurd_ports.specs.declared.table.Port.{Port}
use Rattle.hurd_ports.specs.Tables.{nodes_of as nodes_named}
use Rattle.hurd_machine.proofs.Common.{AreTables, CanBeAt, CanBeWritten, IoRight, IsAmong, Name, Opened, Right, Task, World, open_at, task_at}
use Rattle.hurd_machine.specs.World.{nodes_of}
use Rattle.hurd_machine.specs.Renamed.{OtherNames, open_renamed, port_renamed, renamed, task_renamed}
use Rattle.hurd_machine.proofs.RenamedServers.{open_at-renamed}
use Rattle.hurd_machine.proofs.RenamedTasks.{nodes_of-renamed, task_at-renamed}
use Rattle.hurd_laws.proofs.FoundRenamed.{of_among, of_ios, of_mapped, of_rights}
use Rattle.hurd_laws.proofs.HousedRenamed.{can_be-renamed, can_write-renamed}

module _ (f : OtherNames) (w : World) where
  abbrev other : World
  other = renamed f w

  -- what holds of an open that is there
  pub at_open : (o : Name) (P : Opened → Type 0) → ((z : Opened) → open_at w o ≡ Some z → P (open_renamed f.to z)) → (z : Opened) → open_at other (f.to o) ≡ Some z → P z
  at_open o = of_mapped (open_renamed f.to) (open_at w o) (open_at-renamed f w o)

  -- and of a task
  pub at_task : (t : ℕ) (P : Task → Type 0) → ((x : Task) → task_at w t ≡ Some x → P (task_renamed f.to (f.more t) x)) → (x : Task) → task_at other t ≡ Some x → P x
  at_task t = of_mapped (task_renamed f.to (f.more t)) (task_at w t) (task_at-renamed f w t)

  pub tables-renamed : AreTables w → AreTables other
  tables-renamed a = record {
    numbers = λ t x p is among. at_task t (λ (x : Task). (p : Port) → IsAmong p x.ports → p.number < x.next)
        (λ x is. of_among (port_renamed f.to) x.ports (λ (p : Port). p.number < x.next) (λ p among. a.numbers t x p is among)) x is p among;
    opened = λ t. of_ios f w t (λ (r : IoRight). (o : Opened) × (open_at other r.open_name ≡ Some o) × (o.node ≡ r.node)) (λ x r is among.
        let o = a.opened t x r is among in
        (open_renamed f.to o.0, open_at-renamed f w r.open_name ∙ ap (option_map (open_renamed f.to)) o.1, ap f.to o.2));
    written = λ t x r o is among. of_ios f w t (λ (r : IoRight). (o : Opened) → open_at other r.open_name ≡ Some o → asks o.modes WRITE ≡ true → CanBeWritten other r.node) (λ x r is among.
        at_open r.open_name (λ (o : Opened). asks o.modes WRITE ≡ true → CanBeWritten other (f.to r.node)) (λ o at write. can_write-renamed f w r.node (a.written t x r o is among at write)))
        x r is among o;
    held = λ t x r n is among named. of_rights f w t (λ (r : Right). (n : Name) → IsAmong n (nodes_named r) → CanBeAt (nodes_of other) n) (λ x r is among n named.
        of_among f.to (nodes_named r) (CanBeAt (nodes_of other)) (λ n named. can_be-renamed f w n (a.held t x r n is among named)) n (subst (IsAmong n) (nodes_of-renamed f r) named))
        x r is among n named;
  }
