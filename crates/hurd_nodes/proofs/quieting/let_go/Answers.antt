use Rattle.std.proofs.Common.{arith, inl, inr}
use Rattle.hurd_nodes.proofs.AskedLaws.{go-moved}
use Rattle.hurd_nodes.proofs.quieting.let_go.Goals as goal

pub returns-clause-tables : goal.returns-clause-tables
returns-clause-tables g c =
    let t = c.requires.tables in
    let e = c.exchange.ensures in
    record {
      sites_apart = t.sites_apart;
      seats_apart = e.apart;
      housed = rw e.is t.housed;
      known = rw e.is t.known;
      told = λ x b. t.told x (e.among x b);
      quiet = λ x b. elim (go-moved c.args.seats.now.entries c.args.asked c.args.i (omega arith) (omega arith) x (rw e.entries at b)) [
        | inl here ↦ (c.is_quiet.ensures c.if-not-is_quiet.false x here).0
        | inr old ↦ t.quiet x old
      ];
    }

pub returns-clause-calm : goal.returns-clause-calm
returns-clause-calm g c = λ x b. elim (go-moved c.args.seats.now.entries c.args.asked c.args.i (omega arith) (omega arith) x (rw c.exchange.ensures.entries at b)) [
  | inl here ↦ (c.is_quiet.ensures c.if-not-is_quiet.false x here).1
  | inr old ↦ c.requires.calm x old
]
