use Rattle.std.proofs.Common.{◌≡◌, sym, ap, is_some}
use Rattle.hurd_creds.proofs.AppendLaws.{append_read, append_write}
use Rattle.hurd_creds.specs.NameMaps.{edit}
use Rattle.hurd_ports.specs.declared.opens.Opens.TheInside.{Inside}
use Rattle.hurd_ports.specs.OpenTables.{opens_of}
use Rattle.hurd_ports.specs.Steps.{appending}
use Rattle.hurd_ports.proofs.EndLaws.{end_by, still-ends}
use Rattle.hurd_ports.proofs.OpenLaws.{open-edited, open-unedited}
use Rattle.hurd_ports.proofs.opens.Opens.set_append.Goals as goal
use Rattle.hurd_ports.proofs.opens.Opens.set_append.Goals.{in-Some, in_default}

edited : (c : goal.Joined-get_mut) → opens_of c.match-get_mut.self-inside.table.entries ≡ edit c.args.name (appending c.args.append) (opens_of c.self.inside.table.entries)
edited c = elim c.match-get_mut.branch [
  | in-Some w ↦
      let f = appending c.args.append in
      let is = sym w.in-Some.ensures.value in
      let written = (c.get_mut.follows.holds (f w.in-Some.opened.now)).3 (ap is_some is) in
      rw w.self-inside-is
      rw w.with_append-opened.ensures
      (open-edited c.self.inside.table (c.get_mut.follows.lender (f w.in-Some.opened.now)) c.args.name f w.in-Some.opened.now is written.0)
  | in_default w ↦
      let none = sym w.in_default.ensures.value in
      rw w.self-inside-is (open-unedited c.self.inside.table c.get_mut.follows.lender-at-none c.args.name (appending c.args.append) none c.get_mut.follows.holds-at-none)
]

-- nothing else changes
kept : (c : goal.Joined-get_mut) → (c.match-get_mut.self-inside.readers ≡ c.self.inside.readers) × (c.match-get_mut.self-inside.writers ≡ c.self.inside.writers)
kept c = elim c.match-get_mut.branch [
  | in-Some w ↦ (ap (λ (o : Inside). o.readers) w.self-inside-is, ap (λ (o : Inside). o.writers) w.self-inside-is)
  | in_default w ↦ (ap (λ (o : Inside). o.readers) w.self-inside-is, ap (λ (o : Inside). o.writers) w.self-inside-is)
]

pub returns-clause-set : goal.returns-clause-set
returns-clause-set c = rw (← c.self.view_is) (edited c)

pub invariant_of-self : goal.invariant_of-self
invariant_of-self c = rw (edited c, (kept c).0, (kept c).1) (still-ends (opens_of c.self.inside.table.entries) c.args.name (appending c.args.append) (λ n z. end_by n z.node (append_read c.args.append z.modes)) (λ n z. end_by n z.node (append_write c.args.append z.modes)) c.self.invariant)
