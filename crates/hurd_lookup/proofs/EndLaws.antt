-- The end of the names: what is asked there is the same in both worlds, what its answer shows, and that no refusal is ENOMEM.
use Rattle.std.proofs.Common.{◌≡◌, ℕ, Bool, true, not, ◌&&◌, List, Some, None, refl, ap, inr}
use Rattle.std.specs.Prelude.{Ok}
use Rattle.hurd_machine.proofs.Common.{BodyOf, File, Header, IdSets, Name, OpenFlags, Seen, Sees, Taken, WRITE, World, Write, asks, bare, header_at, home_at, info_at, is_dir, is_removed, makes_at, may, only_reads}
use Rattle.hurd_machine.proofs.Asks.{makes_plain}
use Rattle.hurd_ports.specs.declared.parents.Parent.{Parent}
use Rattle.hurd_core.specs.Core.{NewNodeAt}
use Rattle.hurd_lookup.specs.declared.request.Request.{Request}
use Rattle.hurd_lookup.specs.Lookup.{Authority, NewPort, Outcome, Opens, Makes, Retries, Starts, make_asks, may_open, open_asks}
use Rattle.hurd_lookup.proofs.FaceLaws.{only_face}
use Rattle.hurd_lookup.proofs.AlikeLaws.{Alike, ok_alike, on_alike, given_alike, first_alike}
use Rattle.hurd_lookup.proofs.WalkLaws.{Ground, WaysOn, PortOn}

-- where an outcome leads: to a port, the entries of a directory in which a file is made, and the node of what is to be started
abbrev pub OutcomeOn : (At Entries : Name → Type 0) → (IdSets → Type 0) → Outcome → Type 0
OutcomeOn At Entries T (Opens e) = PortOn At T e
OutcomeOn At Entries T (Makes s f ids ways) = Entries f.dir × T ids × WaysOn At ways
OutcomeOn At Entries T (Retries kind name None) = Unit {0}
OutcomeOn At Entries T (Retries kind name (Some e)) = PortOn At T e
OutcomeOn At Entries T (Starts s) = At s.node

-- a node that is opened stands, and may be opened
pub record OpenLeads (w : World) (flags : OpenFlags) (e : NewPort) : Type 0 where
  pub header : Header
  pub is_header : header_at w e.node ≡ Some header
  pub may : may_open e.ids header flags ≡ true
  pub fits : not (is_dir header.kind && asks flags WRITE) ≡ true
  pub more : not (asks flags WRITE && only_reads (info_at w e.node)) ≡ true

-- a file that is made has a name, and is of its directory's server, which lets it be made; the ids may write the directory, and that isn't removed
pub record MakeLeads (w : World) (s : Name) (f : NewNodeAt) (ids : IdSets) : Type 0 where
  pub name : List ℕ
  pub named : f.entry ≡ Some name
  pub header : Header
  pub is_header : header_at w f.dir ≡ Some header
  pub write : may ids (bare header) Write ≡ true
  pub may : makes_at w f.dir (Some name) File ≡ Ok tt
  pub home : home_at w f.dir ≡ Some s
  pub stands : not (is_removed w f.dir header) ≡ true

-- what an outcome shows of the world
abbrev pub OutcomeLeads : World → OpenFlags → Outcome → Type 0
OutcomeLeads w flags (Opens e) = OpenLeads w flags e
OutcomeLeads w flags (Makes s f ids ways) = MakeLeads w s f ids
OutcomeLeads w flags (Retries kind name at) = Unit {0}
OutcomeLeads w flags (Starts s) = Unit {0}

-- what is known of an outcome
pub record OutcomeShown (At Entries : Name → Type 0) (T : IdSets → Type 0) (v : World) (flags : OpenFlags) (o : Outcome) : Type 0 where
  pub on : OutcomeOn At Entries T o
  pub leads : OutcomeLeads v flags o

-- what S sees of one
abbrev pub OutcomeSeen : (ℕ → Bool) → World → OpenFlags → Outcome → Type 0
OutcomeSeen S v flags o = OutcomeShown (Seen S v) (λ d. Sees S v (BodyOf d)) (Taken S v) v flags o

-- what is asked at the end
module _ {v w : World} {At Near Entries : Name → Type 0} {T : IdSets → Type 0} (g : Ground v w At Near Entries T) (q : Authority) (taken : T q.ids) (ways : WaysOn At q.ways) (r : Request) where
  pub open_alike : (n : Name) (parents : List Parent) → At n → WaysOn At parents → Alike (OutcomeShown At Entries T v r.flags) (open_asks v q.ids r n parents) (open_asks w q.ids r n parents)
  open_alike n parents at along =
      let near = g.near n at in
      on_alike _ _ _ _ _ _ refl (g.header n near) (λ h is. given_alike _ _ _ _ _ _ refl refl (λ k. given_alike _ _ _ _ _ _ refl refl (λ fits.
      given_alike _ _ (not (asks r.flags WRITE && only_reads (info_at v n))) (not (asks r.flags WRITE && only_reads (info_at w n))) _ _ refl (ap (λ (b : Bool). not (asks r.flags WRITE && b)) (only_face (info_at v n) (info_at w n) (g.face n near))) (λ more.
      given_alike _ _ _ _ _ _ refl refl (λ may. ok_alike _ _ (record {
        on = record { node = at; ids = inr taken; ways = along };
        leads = record { header = h; is_header = is; may = may; fits = fits; more = more };
      }))))))

  pub make_alike : (d : Name) (name : List ℕ) → Entries d → Alike (OutcomeShown At Entries T v r.flags) (make_asks v q r d name) (make_asks w q r d name)
  make_alike d name at =
      let near = g.beside d at in
      first_alike (λ u. Unit {0}) _ _ _ _ _ (record { same = g.makes d name at; has = λ u made. tt; plain = makes_plain v d (Some name) File }) (λ u made none.
      on_alike _ _ _ _ _ _ refl (g.header d near) (λ h is. given_alike _ _ _ _ _ _ refl refl (λ writes. on_alike _ _ _ _ _ _ refl refl (λ owner least.
      given_alike _ _ (not (is_removed v d h)) (not (is_removed w d h)) _ _ refl (rw (g.is_root d near) refl) (λ stands.
      on_alike _ _ _ _ _ _ refl (g.home d near) (λ s home. ok_alike _ _ (record {
        on = (at, taken, ways);
        leads = record { name = name; named = refl; may = made; home = home; header = h; is_header = is; write = writes; stands = stands };
      })))))))
