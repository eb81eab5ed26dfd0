-- What lookups leave where things have other names.
use Rattle.std.proofs.Common.{◌≡◌, ℕ, List, Option, Some, None, Result}
use Rattle.std.specs.Option.{option_map}
use Rattle.hurd_creds.specs.declared.mode.Mode.{Mode}
use Rattle.hurd_machine.proofs.Common.{Errno, OpenFlags, Task, World, open_modes}
use Rattle.hurd_machine.specs.Renamed.{OtherNames, renamed}
use Rattle.hurd_machine.proofs.RenamedPlans.{answer_renamed}
use Rattle.hurd_lookup.specs.Lookup.{Makes, NewPort, Opens, Outcome, Retries, Starts, finding, lookup_changes, no_modes, retry_changes}
use Rattle.hurd_lookup.specs.Getroot.{getroot_asks, plan_getroot, root_request}
use Rattle.hurd_lookup.specs.Seeking.{plan_lookup, seeking_asks}
use Rattle.hurd_laws.proofs.CoreRenamed.{caller_renamed}
use Rattle.hurd_laws.proofs.EndsRenamed.{whole_asks-renamed, whole_renamed}
use Rattle.hurd_laws.proofs.LookupRenamed.{new_port_renamed, outcome_renamed}
use Rattle.hurd_laws.proofs.LookupTold.{getroot_asks-renamed, seeking_asks-renamed}
use Rattle.hurd_laws.specs.After.{KeepsOwn}
use Rattle.hurd_laws.proofs.Changes.{Alike, none}
use Rattle.hurd_laws.proofs.MakingLeft.{making_open-left, opening-left}
use Rattle.hurd_laws.proofs.Plans.{Changing, answered-left}
use Rattle.hurd_laws.proofs.RightsLeft.{pending-left}

module _ (f : OtherNames) (t : ℕ) (keeps : KeepsOwn f t) where
  retry-left : (x : Task) (at : Option NewPort) → Alike f (retry_changes t x at) (retry_changes t (caller_renamed f x) (option_map (new_port_renamed f.to) at))
  retry-left x None = none f
  retry-left x (Some e) = opening-left f t keeps x e.node e.ids e.parents no_modes

  outcome-left : (x : Task) (modes : OpenFlags) (o : Outcome) → Alike f (lookup_changes t x modes o) (lookup_changes t (caller_renamed f x) modes (outcome_renamed f.to o))
  outcome-left x modes (Opens e) = opening-left f t keeps x e.node e.ids e.parents modes
  outcome-left x modes (Makes s n ids ways) = making_open-left f t keeps n ids ways modes (x, s)
  outcome-left x modes (Retries kind name at) = retry-left x at
  outcome-left x modes (Starts s) = pending-left f t (Some s)

  module _ (w : World) where
    finding-left : (flags : OpenFlags) (found other : Result Outcome Errno) → other ≡ answer_renamed (outcome_renamed f.to) found → Changing f (finding w t flags found) (finding (renamed f w) t flags other)
    finding-left flags found other is = answered-left f (whole_renamed f) _ _ _ (whole_asks-renamed f w t keeps.none found other is) (λ l. outcome-left l.1 (open_modes flags) l.0)

    pub lookup-left : (p : ℕ) (path : List ℕ) (flags : OpenFlags) (mode : Mode) → Changing f (plan_lookup w t p path flags mode) (plan_lookup (renamed f w) t p path flags mode)
    lookup-left p path flags mode = finding-left flags (seeking_asks w t p path flags mode) (seeking_asks (renamed f w) t p path flags mode) (seeking_asks-renamed f w t p path flags mode)

    pub getroot-left : (c dir : ℕ) (flags : OpenFlags) → Changing f (plan_getroot w t c dir flags) (plan_getroot (renamed f w) t c dir flags)
    getroot-left c dir flags =
        finding-left flags (getroot_asks w t c dir (root_request flags)) (getroot_asks (renamed f w) t c dir (root_request flags)) (getroot_asks-renamed f w t c dir (root_request flags))
