-- What lookups touch, their callers may change.
use Rattle.std.proofs.Common.{◌≡◌, ◌∙◌, ℕ, Bool, true, List, Some, None, refl, sym, ap, subst, inl, inr}
use Rattle.std.specs.Prelude.{Result, Ok}
use Rattle.hurd_machine.proofs.Common.{BodyOf, EmptyOf, EndsOf, Errno, GidOfRight, Header, IdSets, Mode, Name, OpenFlags, Part, Seen, Sees, Taken, Task, UidOfRight, UsersOf, World}
use Rattle.hurd_machine.specs.Touched.{OnOpen}
use Rattle.hurd_creds.specs.declared.attrs.Kind.TheVariants.{File}
use Rattle.hurd_machine.proofs.Listed.{dir_kind}
use Rattle.hurd_machine.proofs.Makes.{may_make}
use Rattle.hurd_machine.proofs.Nodes.{header_in}
use Rattle.hurd_machine.proofs.Views.{Agree-refl}
use Rattle.hurd_machine.proofs.Asks.{first_ok, holds_io}
use Rattle.hurd_lookup.proofs.LookupLaws as lookup
use Rattle.hurd_lookup.proofs.GetrootLaws as getroot
use Rattle.hurd_lookup.proofs.NestedLaws.{seen_lends}
use Rattle.hurd_lookup.specs.Lookup.{Makes, Opens, Outcome, Retries, Starts, ending_asks, finding_parts, lookup_parts, whole_asks}
use Rattle.hurd_lookup.specs.Seeking.{seeking_asks, touches_lookup}
use Rattle.hurd_lookup.specs.Getroot.{getroot_asks, root_request, touches_getroot}
use Rattle.hurd_lookup.proofs.BeginLaws.{Begins, seen_begins}
use Rattle.hurd_lookup.proofs.EndLaws.{OutcomeShown}
use Rattle.hurd_lookup.proofs.FoundLaws.{FoundLaws}
use Rattle.hurd_lookup.proofs.WalkLaws.{seen_ground, taken_powers}
use Rattle.hurd_laws.specs.Integrity.{ActsWith, AsTask, ByOpens, ByRight, Entered, Enters, MayChange, ToEnter}
use Rattle.hurd_laws.proofs.Authority.{Allowed, ok_is, parts_may, may_at, node_may}

-- what was found with ids that S acts with, S may touch

opens_may : {S : ℕ → Bool} {w : World} (n : Name) → Seen S w n → (p : Part) → OnOpen w n p → MayChange S w p
opens_may n seen p (inl on) = node_may n seen p on
opens_may {S} {w} n seen p (inr on) = may_at S w p (EndsOf n) on.1 (ByOpens (record { counts = on.0; seen = seen }))

-- what S may do with what was found: it sees what is opened, and may enter the directory in which a file is made
abbrev pub OutcomeMay : (ℕ → Bool) → World → Outcome → Type 0
OutcomeMay S w (Opens e) = Seen S w e.node
OutcomeMay S w (Makes s f ids ways) = Enters S w f.dir
OutcomeMay S w (Retries kind name None) = Unit {0}
OutcomeMay S w (Retries kind name (Some e)) = Seen S w e.node
OutcomeMay S w (Starts s) = Unit {0}

-- S acts with ids that it has
acts_taken : {S : ℕ → Bool} {w : World} (ids : IdSets) → ActsWith S w ids → Taken S w ids
acts_taken {S} {w} ids (AsTask t ours x is same) = subst (Taken S w) (sym same) ((seen_begins (Agree-refl S w) t ours).ids x is)
acts_taken {S} {w} ids (ByRight r held same) = subst (Taken S w) (sym same) (record { uids = λ u has. UidOfRight r held has; gids = λ g has. GidOfRight r held has })

-- what S finds with ids that it acts with
abbrev pub OutcomeActed : (ℕ → Bool) → World → OpenFlags → Outcome → Type 0
OutcomeActed S w flags o = OutcomeShown (Seen S w) (λ d. Sees S w (BodyOf d)) (ActsWith S w) w flags o

found_may : {S : ℕ → Bool} {w : World} (flags : OpenFlags) (o : Outcome) → OutcomeActed S w flags o → OutcomeMay S w o
found_may flags (Opens e) shown = shown.on.node
found_may {S} {w} flags (Makes s f ids ways) shown =
    let l = shown.leads in
    let m = may_make w f.dir (Some l.name) File tt l.may in
    let same : m.node.header ≡ l.header = cc (ap header_in m.is_node, l.is_header) in
    record { seen = shown.on.0.0; ids = ids; acts = shown.on.1; header = l.header; is_header = l.is_header; kind = ap (λ (h : Header). h.kind) (sym same) ∙ dir_kind m.node.header.kind m.dir; may = l.write }
found_may flags (Retries kind name None) shown = tt
found_may flags (Retries kind name (Some e)) shown = shown.on.node
found_may flags (Starts s) shown = tt

outcome_may : {S : ℕ → Bool} {w : World} (flags : OpenFlags) (o : Outcome) → OutcomeActed S w flags o → (p : Part) → lookup_parts w o p → MayChange S w p
outcome_may flags (Opens e) shown p on = opens_may e.node shown.on.node p on
outcome_may {S} {w} flags (Makes s f ids ways) shown p (inl e) = may_at S w p (UsersOf s) e (inl (f.dir, shown.on.0.0, shown.leads.home))
outcome_may {S} {w} flags (Makes s f ids ways) shown p (inr (inl e)) = may_at S w p (BodyOf f.dir) e (ToEnter (Entered (found_may flags (Makes s f ids ways) shown)))
outcome_may {S} {w} flags (Makes s f ids ways) shown p (inr (inr e)) = may_at S w p (EmptyOf f.dir) e (Entered (found_may flags (Makes s f ids ways) shown))
outcome_may flags (Retries kind name None) shown p on = absurd on
outcome_may flags (Retries kind name (Some e)) shown p on = opens_may e.node shown.on.node p on
outcome_may flags (Starts s) shown p on = absurd on

-- a task of S begins by ids that S acts with
acts_begins : {S : ℕ → Bool} {w : World} (t : ℕ) → S t ≡ true → Begins t w w (Seen S w) (Seen S w) (ActsWith S w)
acts_begins {S} {w} t ours =
    let b = seen_begins (Agree-refl S w) t ours in
    record {
      task = refl;
      ids = λ x is. AsTask t ours x is refl;
      port = λ p. record { same = refl; has = λ q is. (let on = (b.port p).has q is in record { node = on.node; ids = ByRight q (holds_io t ours p q is) refl; ways = on.ways }); plain = (b.port p).plain };
      control = b.control;
    }

-- what was found is seen, with ids that S acts with
module _ (t : ℕ) (flags : OpenFlags) (found : World → Result Outcome Errno) (l : FoundLaws t flags found) where
  finds_seen : (S : ℕ → Bool) (w : World) → S t ≡ true → (got : Outcome × Task) → whole_asks w t (found w) ≡ Ok got → OutcomeActed S w flags got.0
  finds_seen S w ours got is =
      let o = first_ok (found w) _ got is in
      let x = first_ok (ending_asks w t o.0) _ got o.2 in
      let same : o.0 ≡ got.0 = ap (λ (z : Outcome × Task). z.0) (ok_is x.2) in
      let ground = seen_ground (Agree-refl S w) (ActsWith S w) (λ ids acts. taken_powers S w ids (acts_taken ids acts)) in
      subst (OutcomeActed S w flags) same ((l w w _ _ _ _ ground (acts_begins t ours) _ (seen_lends (Agree-refl S w) t ours)).has o.0 o.1)

  finding_may : Allowed t (λ w. finding_parts w t (found w))
  finding_may S w s ours p = parts_may (whole_asks w t (found w)) _ p (λ got is on. outcome_may flags got.0 (finds_seen S w ours got is) p on)

pub lookup_may : (t p : ℕ) (path : List ℕ) (flags : OpenFlags) (mode : Mode) → Allowed t (λ w. touches_lookup w t p path flags mode)
lookup_may t p path flags mode = finding_may t flags (λ w. seeking_asks w t p path flags mode) (lookup.found_alike t p path flags mode)

pub getroot_may : (t c dir : ℕ) (flags : OpenFlags) → Allowed t (λ w. touches_getroot w t c dir flags)
getroot_may t c dir flags = finding_may t flags (λ w. getroot_asks w t c dir (root_request flags)) (getroot.found_alike t c dir flags)

pub lookup_finds : (t p : ℕ) (path : List ℕ) (flags : OpenFlags) (mode : Mode) (S : ℕ → Bool) (w : World) → S t ≡ true → (got : Outcome × Task) → whole_asks w t (seeking_asks w t p path flags mode) ≡ Ok got → OutcomeMay S w got.0
lookup_finds t p path flags mode S w ours got is = found_may flags got.0 (finds_seen t flags (λ w. seeking_asks w t p path flags mode) (lookup.found_alike t p path flags mode) S w ours got is)

pub root_finds : (t c dir : ℕ) (flags : OpenFlags) (S : ℕ → Bool) (w : World) → S t ≡ true → (got : Outcome × Task) → whole_asks w t (getroot_asks w t c dir (root_request flags)) ≡ Ok got → OutcomeMay S w got.0
root_finds t c dir flags S w ours got is = found_may flags got.0 (finds_seen t flags (λ w. getroot_asks w t c dir (root_request flags)) (getroot.found_alike t c dir flags) S w ours got is)
