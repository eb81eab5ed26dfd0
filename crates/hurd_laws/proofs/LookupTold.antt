-- What lookups tell doesn't depend on how things are called.
use Rattle.std.proofs.Common.{◌≡◌, ℕ, List, [], refl}
use Rattle.hurd_creds.specs.declared.mode.Mode.{Mode}
use Rattle.hurd_creds.specs.declared.open_flags.OpenFlags.{OpenFlags}
use Rattle.hurd_creds.specs.declared.errno.Errno.TheVariants.{EDIED, ENAMETOOLONG, ENOTDIR, ESRCH}
use Rattle.hurd_machine.proofs.Common.{World}
use Rattle.hurd_machine.specs.Renamed.{OtherNames, info_renamed, renamed, task_renamed}
use Rattle.hurd_machine.proofs.RenamedHandles.{on_header-renamed, on_right-renamed}
use Rattle.hurd_machine.proofs.RenamedPlans.{answer_renamed, first-renamed, given-renamed, on-renamed}
use Rattle.hurd_machine.proofs.RenamedServers.{server_at-renamed}
use Rattle.hurd_machine.proofs.RenamedTasks.{task_at-renamed}
use Rattle.hurd_lookup.specs.Path.{names_in}
use Rattle.hurd_lookup.specs.Lookup.{by_right, found_asks, request}
use Rattle.hurd_lookup.specs.Getroot.{entrance_asks, getroot_asks, plan_getroot, root_request}
use Rattle.hurd_lookup.specs.Seeking.{plan_lookup, seeking_asks}
use Rattle.hurd_laws.proofs.LookupRenamed.{Asked, entrance_renamed, outcome_renamed}
use Rattle.hurd_laws.proofs.ControlRenamed.{control_of-renamed}
use Rattle.hurd_laws.proofs.EndsRenamed.{finding_told}
use Rattle.hurd_laws.proofs.NestedRenamed.{sooner-renamed}
use Rattle.hurd_laws.proofs.WalkRenamed.{cross-renamed, walk-renamed}

module _ (f : OtherNames) (w : World) (t : ℕ) where
  pub entrance_asks-renamed : (c dir : ℕ) → entrance_asks (renamed f w) t c dir ≡ answer_renamed (entrance_renamed f.to) (entrance_asks w t c dir)
  entrance_asks-renamed c dir =
      first-renamed f.to (entrance_renamed f.to) _ _ _ (control_of-renamed f w t c) (λ s.
      on_right-renamed f w (entrance_renamed f.to) t dir _ _ (λ q.
      on-renamed (info_renamed f.to) (entrance_renamed f.to) EDIED _ _ _ (server_at-renamed f w s) (λ i.
      on_header-renamed f w (entrance_renamed f.to) EDIED q.node _ _ (λ h.
      given-renamed (entrance_renamed f.to) ENOTDIR _ refl (
      on-renamed (task_renamed f.to (f.more t)) (entrance_renamed f.to) ESRCH _ _ _ (task_at-renamed f w t) (λ x. refl))))))

  -- along a path
  found_asks-renamed : (p : ℕ) (path : List ℕ) (r : Asked) → found_asks (renamed f w) t p path r ≡ answer_renamed (outcome_renamed f.to) (found_asks w t p path r)
  found_asks-renamed p path r =
      on_right-renamed f w (outcome_renamed f.to) t p _ _ (λ q.
      on_header-renamed f w (outcome_renamed f.to) EDIED q.node _ _ (λ h.
      given-renamed (outcome_renamed f.to) ENAMETOOLONG _ refl (walk-renamed f w (by_right q) r q.node (names_in path))))

  pub getroot_asks-renamed : (c dir : ℕ) (r : Asked) → getroot_asks (renamed f w) t c dir r ≡ answer_renamed (outcome_renamed f.to) (getroot_asks w t c dir r)
  getroot_asks-renamed c dir r =
      first-renamed (entrance_renamed f.to) (outcome_renamed f.to) _ _ _ (entrance_asks-renamed c dir) (λ e. cross-renamed f w e.authority r e.start e.root [])

  pub seeking_asks-renamed : (p : ℕ) (path : List ℕ) (flags : OpenFlags) (mode : Mode)
      → seeking_asks (renamed f w) t p path flags mode ≡ answer_renamed (outcome_renamed f.to) (seeking_asks w t p path flags mode)
  seeking_asks-renamed p path flags mode =
      first-renamed (outcome_renamed f.to) (outcome_renamed f.to) _ _ _ (found_asks-renamed p path (request path flags mode)) (sooner-renamed f w t)

  module _ (none : f.more t ≡ 0) where
    pub dir_lookup_told : (p : ℕ) (path : List ℕ) (flags : OpenFlags) (mode : Mode) → (plan_lookup (renamed f w) t p path flags mode).reply ≡ (plan_lookup w t p path flags mode).reply
    dir_lookup_told p path flags mode = finding_told f w t none flags _ _ (seeking_asks-renamed p path flags mode)

    pub fsys_getroot_told : (c dir : ℕ) (flags : OpenFlags) → (plan_getroot (renamed f w) t c dir flags).reply ≡ (plan_getroot w t c dir flags).reply
    fsys_getroot_told c dir flags = finding_told f w t none flags _ _ (getroot_asks-renamed c dir (root_request flags))
