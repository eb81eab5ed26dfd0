use Rattle.std.proofs.Common.{sym, ap, ◌∙◌, arith, inl, inr, refl}
use Rattle.std.specs.Prelude.{Option, slice_get}
use Rattle.hurd_creds.specs.declared.name.Name.{Name}
use Rattle.indexmap.specs.IndexMap.{set_value_at}
use Rattle.hurd_nodes.specs.declared.seat.Seat.{Seat}
use Rattle.hurd_nodes.specs.Held.{place_of_home}
use Rattle.hurd_nodes.proofs.CalmLaws.{calm-put}
use Rattle.hurd_nodes.proofs.OwnLaws.{length-kept, on-ok, own-lists, own-tables, own-unseen}
use Rattle.hurd_nodes.proofs.RowLaws.{place-kept}
use Rattle.hurd_nodes.proofs.SeatLaws.{placed}
use Rattle.hurd_nodes.proofs.SeatedLaws.{value_got}
use Rattle.hurd_nodes.proofs.own.list_node.Goals as goal

pub returns-clause-is : goal.returns-clause-is
returns-clause-is g c =
    let ss = c.args.seats.now.entries in
    let p = placed ss _ c.args.i c.requires.place in
    own-unseen ss p.0 c.args.i c.index_mut.result.now p.2 c.index_mut.ensures.value c.push_own.new.own

pub returns-clause-place : goal.returns-clause-place
returns-clause-place g c =
    let ss = c.args.seats.now.entries in
    let p = placed ss _ c.args.i c.requires.place in
    let y : Seat g.row.S.Denot = record c.index_mut.result.now { own = c.push_own.new.own } in
    p.2 ∙ sym (place-kept ss c.args.i y p.0) ∙ sym (ap (λ (o : Option Name). place_of_home (set_value_at ss c.args.i y) o) p.1)

pub returns-clause-below : goal.returns-clause-below
returns-clause-below g c =
    let y : Seat g.row.S.Denot = record c.index_mut.result.now { own = c.push_own.new.own } in
    omega (arith, c.requires.below, length-kept c.args.seats.now.entries c.args.i y)

pub returns-clause-tables : goal.returns-clause-tables
returns-clause-tables g c =
    let ss = c.args.seats.now.entries in
    let p = placed ss _ c.args.i c.requires.place in
    λ k t. own-tables ss p.0 c.args.i c.index_mut.result.now p.2 c.index_mut.ensures.value c.push_own.new.own c.args.sites.now.entries k (λ n home. c.push_own.ensures.kept n (home ∙ sym p.1)) t

pub returns-clause-lists : goal.returns-clause-lists
returns-clause-lists g c =
    let ss = c.args.seats.now.entries in
    let p = placed ss _ c.args.i c.requires.place in
    on-ok c.push_own.result c.push_own.ensures.listed
    (own-lists ss p.0 c.args.i c.index_mut.result.now p.2 c.index_mut.ensures.value c.push_own.new.own c.requires.apart _ p.1 c.args.node)

pub returns-clause-calm : goal.returns-clause-calm
returns-clause-calm g c = λ f k calm. calm-put f c.args.seats.now.entries k c.args.i c.index_mut.result.now _ c.index_mut.ensures.value calm refl (λ s past is n bare. bare)

pub returns-clause-names : goal.returns-clause-names
returns-clause-names g c = λ k x b. elim (value_got c.args.seats.now.entries c.args.i c.index_mut.result.now _ c.index_mut.ensures.value b.at x b.is) [
  | inl here ↦ (c.index_mut.result.now, record { at = b.at; past = b.past; is = ap (slice_get c.args.seats.now.entries) here.0 ∙ here.2 })
  | inr other ↦ (x.1, record { at = b.at; past = b.past; is = other.1 })
]
