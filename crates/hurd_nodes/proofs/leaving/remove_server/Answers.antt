use Rattle.std.proofs.Common.{List, ◌∷◌, ◌≡◌, sym, subst, ap, ap₂, ◌∙◌}
use Rattle.std.specs.Prelude.{Some, None}
use Rattle.std.specs.FinMap as fin
use Rattle.hurd_creds.specs.declared.name.Name.{Name}
use Rattle.hurd_creds.specs.NameMaps.{NameMap}
use Rattle.hurd_trans_iface.specs.Nodes.{is_listed}
use Rattle.hurd_nodes.specs.declared.seat.Site.{Site}
use Rattle.hurd_nodes.specs.Held.{Held, Seated, seat_value, seats_of, sites_of}
use Rattle.hurd_nodes.specs.Aims.{AreAims}
use Rattle.hurd_nodes.specs.Tables.{AreTables}
use Rattle.hurd_nodes.specs.Shown.{without_sites}
use Rattle.hurd_nodes.proofs.AimLaws.{aims-absent, aims-held, aims-less}
use Rattle.hurd_nodes.specs.Quiet.{IsRootless, IsTold}
use Rattle.hurd_nodes.proofs.AskedLaws.{absent-seat}
use Rattle.hurd_nodes.proofs.GoneLaws.{clearing-all, no-site, sites-gone, sites-stay, tables-left}
use Rattle.hurd_nodes.proofs.leaving.remove_server.Given as given
use Rattle.hurd_nodes.proofs.leaving.remove_server.Goals as goal
use Rattle.hurd_nodes.proofs.leaving.remove_server.Goals.{After-deref, After-vacate_at}

-- what is held, of its two tables
held : {S : Type 0} {a b : NameMap Site} {d e : NameMap (Seated S)} → a ≡ b → d ≡ e → ◌≡◌ {A = Held S} (record { sites = a; seats = d }) (record { sites = b; seats = e })
held {S} p q = ap₂ (λ (a : NameMap Site) (b : NameMap (Seated S)). let h : Held S = record { sites = a; seats = b } in h) p q

-- where it isn't there

missing : (g : given.Over) (c : goal.In_default g) → fin.get (seats_of c.args.seats.now.entries) c.args.server ≡ None
missing g c =
    sym (ap (λ (m : NameMap (Seated g.row.S.Denot)). fin.get m c.args.server) c.put_last-asked.ensures.is)
    ∙ absent-seat c.put_last-asked.new.seats.entries c.args.server (c.take_seat.ensures.none c.in_default.is)

sites_as : (g : given.Over) (c : goal.In_default g) → sites_of c.args.sites.now.entries ≡ without_sites c.args.server (sites_of c.args.sites.now.entries)
sites_as g c = sym (sites-stay c.args.sites.now.entries c.args.seats.now.entries c.args.asked c.requires.tables c.args.server (missing g c))

pub returns-in_default-clause-is : goal.returns-in_default-clause-is
returns-in_default-clause-is g c =
    held (sites_as g c) (c.take_seat.ensures.is ∙ ap (λ (m : NameMap (Seated g.row.S.Denot)). fin.remove m c.args.server) c.put_last-asked.ensures.is)

tables_as : (g : given.Over) (c : goal.In_default g) → AreTables c.args.sites.now.entries c.take_seat.new.seats.entries c.put_last-asked.result
tables_as g c =
    let p = c.put_last-asked.ensures in
    let t = c.take_seat.ensures in
    let rs = c.args.sites.now.entries in
    let ss = c.args.seats.now.entries in
    tables-left rs rs ss c.take_seat.new.seats.entries c.args.asked c.put_last-asked.result c.args.server c.requires.tables (sites_as g c)
    (t.is ∙ ap (λ (m : NameMap (Seated g.row.S.Denot)). fin.remove m c.args.server) p.is)
    c.requires.tables.sites_apart t.apart (λ x b. p.among x (t.less 0 x b).1)
    (λ x b. let l = t.less c.put_last-asked.result x b in (l.0, λ n home. absurd (no-site rs ss c.args.asked c.requires.tables c.args.server (missing g c) n home), p.but x l.1 l.0))

-- where it is

told : (g : given.Over) (c : After-vacate_at g) → IsTold (sites_of c.args.sites.now.entries) (c.args.server, c.in-Some.seat)
told g c = c.requires.tables.told (c.args.server, c.in-Some.seat) (c.put_last-asked.ensures.among (c.args.server, c.in-Some.seat) c.in-Some.ensures.taken)

rootless : (g : given.Over) (c : After-vacate_at g) → IsRootless (sites_of c.args.sites.now.entries) c.args.server (sites_of c.clear_sites-asked.new.sites.entries)
rootless g c =
    let e = c.clear_sites-asked.ensures in
    clearing-all c.args.server _ _ _ _ _ _ c.in-Some.seat e.step (told g c) (λ n on. e.gone n (ap (λ (ns : List Name). is_listed n (c.in-Some.seat.root ∷ ns)) c.deref-2.ensures.value ∙ on))

sites_then : (g : given.Over) (c : After-vacate_at g) → sites_of c.vacate_at.new.sites.entries ≡ without_sites c.args.server (sites_of c.args.sites.now.entries)
sites_then g c = c.vacate_at.ensures.is ∙ sites-gone _ _ c.args.server c.in-Some.seat.at (told g c).placed (rootless g c)

seats_then : (g : given.Over) (c : After-vacate_at g) → seats_of c.clear_sites-asked.new.seats.entries ≡ fin.remove (seats_of c.args.seats.now.entries) c.args.server
seats_then g c = c.clear_sites-asked.ensures.is ∙ c.take_seat.ensures.is ∙ ap (λ (m : NameMap (Seated g.row.S.Denot)). fin.remove m c.args.server) c.put_last-asked.ensures.is

pub returns-clause-is : goal.returns-clause-is
returns-clause-is g c = let v = (goal.at.returns-clause-is g c).After-vacate_at in held (sites_then g v) (seats_then g v)

tables_then : (g : given.Over) (c : After-vacate_at g) → AreTables c.vacate_at.new.sites.entries c.clear_sites-asked.new.seats.entries c.clear_sites-asked.result
tables_then g c =
    let p = c.put_last-asked.ensures in
    let t = c.take_seat.ensures in
    let e = c.clear_sites-asked.ensures in
    tables-left c.args.sites.now.entries c.vacate_at.new.sites.entries c.args.seats.now.entries c.clear_sites-asked.new.seats.entries c.args.asked c.clear_sites-asked.result c.args.server c.requires.tables
    (sites_then g c) (seats_then g c) (c.vacate_at.ensures.apart (e.sites_apart c.requires.tables.sites_apart)) e.apart (λ x b. p.among x (t.less 0 x (e.step.among x b)).1)
    (λ x b. let q = e.step.guests x b in let l = t.less c.put_last-asked.result x q.1 in (l.0, λ n home. q.0 n home ((rootless g c n).0 home), p.but x l.1 l.0))

-- targets are counted

pub returns-in_default-clause-kept : goal.returns-in_default-clause-kept
returns-in_default-clause-kept g c = record {
  tables = tables_as g c;
  aims = subst (λ (m : NameMap (Seated g.row.S.Denot)). AreAims c.args.aims.now.entries m)
      (sym (c.take_seat.ensures.is ∙ ap (λ (m : NameMap (Seated g.row.S.Denot)). fin.remove m c.args.server) c.put_last-asked.ensures.is))
      (aims-absent (seats_of c.args.seats.now.entries) c.args.server c.args.aims.now.entries (missing g c) c.requires.aims);
}

seated : (g : given.Over) (c : After-deref g) → fin.get (seats_of c.args.seats.now.entries) c.args.server ≡ Some (seat_value c.in-Some.seat)
seated g c = sym (ap (λ (m : NameMap (Seated g.row.S.Denot)). fin.get m c.args.server) c.put_last-asked.ensures.is) ∙ c.in-Some.ensures.found

pub subtract_targets-requires : goal.subtract_targets-requires
subtract_targets-requires g c =
    λ n. rw c.deref.ensures.value (aims-held (seats_of c.args.seats.now.entries) c.args.server (seat_value c.in-Some.seat) c.args.aims.now.entries (seated g c) c.requires.aims n)

pub returns-clause-kept : goal.returns-clause-kept
returns-clause-kept g c =
    let v = (goal.at.returns-clause-kept g c).After-vacate_at in
    let d = (goal.at.returns-clause-kept g c).After-deref in
    record {
      tables = tables_then g v;
      aims = subst (λ (m : NameMap (Seated g.row.S.Denot)). AreAims c.subtract_targets.new.aims.entries m) (sym (seats_then g v))
          (aims-less (seats_of c.args.seats.now.entries) c.args.server (seat_value c.in-Some.seat) c.args.aims.now.entries c.subtract_targets.new.aims.entries (seated g d) c.requires.aims
          (rw c.deref.ensures.value at c.subtract_targets.ensures.less));
    }

-- those that come after did so before

pub returns-in_default-clause-less : goal.returns-in_default-clause-less
returns-in_default-clause-less g c = λ x b. let l = c.take_seat.ensures.less c.put_last-asked.result x b in (l.0, c.put_last-asked.ensures.but x l.1 l.0)

pub returns-clause-less : goal.returns-clause-less
returns-clause-less g c = λ x b.
    let q = c.clear_sites-asked.ensures.step.guests x b in let l = c.take_seat.ensures.less c.put_last-asked.result x q.1 in (l.0, c.put_last-asked.ensures.but x l.1 l.0)
