-- A server that is quiet stays so where sites change that it is not active on.
use Rattle.std.proofs.Common.{◌≡◌, ◌≢◌, inl, inr, true, refl, sym, ap, ◌∙◌}
use Rattle.std.specs.Prelude.{Option, Some, None, not}
use Rattle.std.specs.Option.{option_map}
use Rattle.std.specs.FinMap as fin
use Rattle.hurd_creds.specs.declared.name.Name.{Name}
use Rattle.hurd_creds.specs.NameMaps.{NameMap, edit}
use Rattle.hurd_creds.proofs.NameLaws.{same_or_apart, same_name-apart, edit_here, remove_apart}
use Rattle.hurd_creds.specs.Names.{is_one}
use Rattle.hurd_nodes.specs.declared.seat.Seat.{Seat}
use Rattle.hurd_nodes.specs.declared.seat.Site.{Site}
use Rattle.hurd_nodes.specs.Held.{active_in, home_in, new_site}
use Rattle.hurd_nodes.specs.Shown.{is_other, with_active, without_sites}
use Rattle.hurd_nodes.specs.Quiet.{IsQuiet}
use Rattle.hurd_nodes.proofs.Sites.{active-apart, active-edited_apart, active-left, active_by, home-apart, home-edited, active-inserted, active-was_edited}

module _ {S : Type 0} (sites : NameMap Site) (x : Name × Seat S) (q : IsQuiet sites x) where
  -- it isn't active on a node on which another is, or none
  elsewhere : (n : Name) → active_in sites n ≢ Some x.0 → q.seat ≢ n
  elsewhere n other same = other (ap (active_in sites) (sym same) ∙ q.active)

  -- without a site
  module _ (n : Name) (other : active_in sites n ≢ Some x.0) where
    less_there : (m : Name) → m ≢ n → active_in (fin.remove sites n) m ≡ active_in sites m
    less_there m apart = ap active_by (remove_apart sites n m apart)

    pub quiet-less : IsQuiet (fin.remove sites n) x
    quiet-less = record { seat = q.seat; at = q.at; active = less_there q.seat (elsewhere n other) ∙ q.active }

  -- with a site on which none is active yet
  module _ (n s : Name) (other : active_in sites n ≢ Some x.0) where
    pub quiet-put : IsQuiet (fin.insert sites n (new_site s)) x
    quiet-put = record { seat = q.seat; at = q.at; active = active-apart sites n (new_site s) q.seat (elsewhere n other) ∙ q.active }

  -- another active on a node, or none
  module _ (n : Name) (o : Option Name) (other : active_in sites n ≢ Some x.0) where
    pub quiet-active : IsQuiet (edit n (with_active o) sites) x
    quiet-active = record { seat = q.seat; at = q.at; active = active-edited_apart sites n o q.seat (elsewhere n other) ∙ q.active }

  -- without another server
  module _ (s : Name) (apart : x.0 ≢ s) (guests : (n : Name) → home_in sites n ≡ Some s → active_in sites n ≢ Some x.0) where
    seat_other : is_other s sites q.seat ≡ true
    seat_other = by (home_in sites q.seat) refl
      where
        by : (u : Option Name) → home_in sites q.seat ≡ u → not (is_one s u) ≡ true
        by None home = refl
        by (Some p) home = elim (same_or_apart s p) [
          | inl same ↦ absurd (guests q.seat (home ∙ ap Some (sym same)) q.active)
          | inr far ↦ rw (same_name-apart s p far) refl
        ]

    left_active : active_in (without_sites s sites) q.seat ≡ Some x.0
    left_active = active-left sites s q.seat ∙ rw (seat_other, q.active, same_name-apart s x.0 (λ e. apart (sym e))) refl

    pub quiet-left : IsQuiet (without_sites s sites) x
    quiet-left = record { seat = q.seat; at = q.at; active = left_active }

-- a server that comes: no site knows it yet
module _ (sites : NameMap Site) (s root seat : Name) where
  abbrev with_root : NameMap Site
  with_root = fin.insert sites root (new_site s)

  abbrev then_sites : NameMap Site
  then_sites = edit seat (with_active (Some s)) with_root

  -- it is active on one node alone
  pub new-only : ((n : Name) → active_in sites n ≢ Some s) → (n : Name) → active_in then_sites n ≡ Some s → n ≡ seat
  new-only idle n is = elim (active-was_edited with_root seat (Some s) n s is) [
    | inl here ↦ here.0
    | inr was ↦ absurd (idle n (active-inserted sites root (new_site s) n s refl was))
  ]

  module _ (homeless : (n : Name) → home_in sites n ≢ Some s) where
    -- and its root is its only node
    pub new-alone : (n : Name) → home_in then_sites n ≡ Some s → n ≡ root
    new-alone n is = elim (same_or_apart n root) [
      | inl here ↦ here
      | inr apart ↦ absurd (homeless n (sym (home-apart sites root (new_site s) n apart) ∙ sym (home-edited with_root seat (Some s) n) ∙ is))
    ]

  -- it is quiet, if the node on which it is active has a site
  pub quiet-new : {S : Type 0} (e : Seat S) → e.at ≡ Some seat → (r : Site) → fin.get with_root seat ≡ Some r → IsQuiet then_sites (s, e)
  quiet-new e at r there = record {
    seat = seat;
    at = at;
    active = ap active_by (edit_here with_root seat (with_active (Some s)) ∙ ap (option_map (with_active (Some s))) there);
  }

-- another server, where this one comes
pub quiet-old : {S : Type 0} (sites : NameMap Site) (x : Name × Seat S) → IsQuiet sites x → (root s node : Name) → active_in sites root ≢ Some x.0
    → active_in (fin.insert sites root (new_site s)) node ≢ Some x.0 → IsQuiet (edit node (with_active (Some s)) (fin.insert sites root (new_site s))) x
quiet-old sites x q root s node rootless nodeless =
    quiet-active (fin.insert sites root (new_site s)) x (quiet-put sites x q root s rootless) node (Some s) nodeless
