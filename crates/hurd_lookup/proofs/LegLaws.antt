-- One look along a path, as it is made.
use Rattle.std.proofs.Common.{◌≡◌, ◌∙◌, ◌<◌, ◌-◌, ℕ, zero, suc, Bool, true, Option, Some, inl, inr, sym, ap, arith}
use Rattle.std.specs.Prelude.{Result, Ok, Err}
use Rattle.hurd_machine.proofs.Common.{EDIED, ENAMETOOLONG, Errno, Header, IdSets, World, first, given, header_at, on}
use Rattle.hurd_lookup.specs.declared.request.Request.{Request}
use Rattle.hurd_lookup.specs.declared.resolve.Landing.{Landing}
use Rattle.hurd_lookup.specs.declared.resolve.Looked.{Looked}
use Rattle.hurd_lookup.specs.declared.resolve.Looked.TheVariants.{Ends, Goes}
use Rattle.hurd_lookup.specs.Path.{names_in, is_short}
use Rattle.hurd_lookup.specs.Lookup.{Outcome, walk}
use Rattle.hurd_lookup.specs.Legs.{Leads}
use Rattle.hurd_lookup.specs.Resolve.{Leg, landed, leg_asks, leg_by, leg_request, legs}

module _ (w : World) (ids : IdSets) (l : Leg) (h : Header) (there : header_at w l.node ≡ Some h) (short : true ≡ is_short l.path) (r : Request) (plain : r ≡ leg_request l.path) where
  abbrev walked : Request → Result Outcome Errno
  walked q = walk w (leg_by ids l) q l.node (names_in l.path)

  abbrev then_landed : Request → (Leg → Result Landing Errno) → Result Landing Errno
  then_landed q onward = first (walked q) (landed onward)

  leg_is : (onward : Leg → Result Landing Errno) → leg_asks w ids l onward ≡ then_landed r onward
  unfolding on given
  leg_is onward =
      ap (λ (o : Option Header). on EDIED o (λ h. given ENAMETOOLONG (is_short l.path) (then_landed (leg_request l.path) onward))) there
      ∙ ap (λ (b : Bool). given ENAMETOOLONG b (then_landed (leg_request l.path) onward)) (sym short)
      ∙ ap (λ (q : Request). then_landed q onward) (sym plain)

  pub leg_refused : (e : Errno) → walked r ≡ Err e → Leads w (leg_asks w ids l) (Err e)
  unfolding first
  leg_refused e is = inl (λ onward. leg_is onward ∙ ap (λ (p : Result Outcome Errno). first p (landed onward)) is)

  pub leg_led : (o : Outcome) (looked : Result Looked Errno) → walked r ≡ Ok o → Leads w (λ onward. landed onward o) looked → Leads w (leg_asks w ids l) looked
  unfolding first
  leg_led o looked is leads = go looked leads
    where
      same : (onward : Leg → Result Landing Errno) → leg_asks w ids l onward ≡ landed onward o
      same onward = leg_is onward ∙ ap (λ (p : Result Outcome Errno). first p (landed onward)) is

      go : (looked : Result Looked Errno) → Leads w (λ onward. landed onward o) looked → Leads w (leg_asks w ids l) looked
      go (Ok (Ends n)) ends = (λ onward. same onward ∙ ends.0 onward, ends.1)
      go (Ok (Goes m)) goes = λ onward. same onward ∙ goes onward
      go (Err e) refused = elim refused [ inl asked ↦ inl (λ onward. same onward ∙ asked onward) | inr lacks ↦ inr lacks ]

-- where a look is left, one is made
pub legs_one : (k : ℕ) (w : World) (ids : IdSets) (l : Leg) → 0 < k → legs k w ids l ≡ leg_asks w ids l (legs (k - 1) w ids)
legs_one zero w ids l more = absurd (omega (arith, more))
legs_one (suc k) w ids l more = let same : k ≡ suc k - 1 = omega arith in ap (λ (j : ℕ). leg_asks w ids l (legs j w ids)) same
