-- What a lookup is to do at the end of the names, where things have other names.
use Rattle.std.proofs.Common.{◌≡◌, ℕ, Bool, not, List, Some, None, Result, refl, ap}
use Rattle.std.specs.Prelude.{◌&&◌}
use Rattle.hurd_creds.specs.declared.open_flags.OpenFlags.{OpenFlags}
use Rattle.hurd_creds.specs.declared.attrs.Kind.TheVariants.{File}
use Rattle.hurd_creds.specs.declared.errno.Errno.TheVariants.{EACCES, EDIED, EISDIR, ENOENT, ENOTDIR, EROFS, ESRCH}
use Rattle.hurd_creds.specs.Access.{IdSets}
use Rattle.hurd_creds.specs.Bits.{WRITE, asks}
use Rattle.hurd_ports.specs.declared.parents.Parent.{Parent}
use Rattle.hurd_machine.proofs.Common.{Errno, Name, Task, World}
use Rattle.hurd_machine.specs.declared.call.Reply.TheVariants.{Found}
use Rattle.hurd_machine.specs.Renamed.{OtherNames, renamed, task_renamed}
use Rattle.hurd_machine.proofs.RenamedAsks.{makes_at-renamed}
use Rattle.hurd_machine.proofs.RenamedHandles.{on_header-renamed}
use Rattle.hurd_machine.proofs.RenamedNodes.{home_at-renamed}
use Rattle.hurd_machine.proofs.RenamedPlans.{answer_renamed, answered-renamed, first-given, first-renamed, given-renamed, on-given, on-renamed}
use Rattle.hurd_machine.proofs.RenamedServers.{is_removed-renamed, only_reads-renamed}
use Rattle.hurd_machine.proofs.RenamedTasks.{caller-renamed}
use Rattle.hurd_lookup.specs.Lookup.{Authority, Makes, Opens, Outcome, Retries, Starts, ending_asks, finding, lookup_told, make_asks, open_asks, whole_asks}
use Rattle.hurd_laws.proofs.LookupRenamed.{Asked, authority_renamed, outcome_renamed, ways_renamed}
use Rattle.hurd_laws.proofs.CoreRenamed.{room_asks-renamed}

module _ (f : OtherNames) where
  -- what is told, once it is done
  pub lookup_told-renamed : (x : Task) (o : Outcome) → lookup_told (task_renamed f.to 0 x) (outcome_renamed f.to o) ≡ lookup_told x o
  lookup_told-renamed x (Opens e) = refl
  lookup_told-renamed x (Makes s m ids ways) = refl
  lookup_told-renamed x (Retries kind name None) = refl
  lookup_told-renamed x (Retries kind name (Some e)) = refl
  lookup_told-renamed x (Starts s) = refl

  -- an outcome, and the task that makes a port of it
  abbrev pub whole_renamed : Outcome × Task → Outcome × Task
  whole_renamed l = (outcome_renamed f.to l.0, task_renamed f.to 0 l.1)

  module _ (w : World) where
    pub open_asks-renamed : (ids : IdSets) (r : Asked) (n : Name) (ways : List Parent)
        → open_asks (renamed f w) ids r (f.to n) (ways_renamed f.to ways) ≡ answer_renamed (outcome_renamed f.to) (open_asks w ids r n ways)
    open_asks-renamed ids r n ways =
        on_header-renamed f w (outcome_renamed f.to) EDIED n _ _ (λ h.
        given-renamed (outcome_renamed f.to) ENOTDIR _ refl (
        given-renamed (outcome_renamed f.to) EISDIR _ refl (
        given-renamed (outcome_renamed f.to) EROFS _ (ap (λ (b : Bool). not (asks r.flags WRITE && b)) (only_reads-renamed f w n)) (
        given-renamed (outcome_renamed f.to) EACCES _ refl refl))))

    pub make_asks-renamed : (q : Authority) (r : Asked) (d : Name) (name : List ℕ)
        → make_asks (renamed f w) (authority_renamed f.to q) r (f.to d) name ≡ answer_renamed (outcome_renamed f.to) (make_asks w q r d name)
    make_asks-renamed q r d name =
        first-given (outcome_renamed f.to) _ _ (makes_at-renamed f w d (Some name) File) (λ u.
        on_header-renamed f w (outcome_renamed f.to) EDIED d _ _ (λ h.
        given-renamed (outcome_renamed f.to) EACCES _ refl (
        on-given (outcome_renamed f.to) EACCES _ _ refl (λ owner.
        given-renamed (outcome_renamed f.to) ENOENT _ (ap not (is_removed-renamed f w d h)) (
        on-renamed f.to (outcome_renamed f.to) EDIED _ _ _ (home_at-renamed f w d) (λ s. refl))))))

    -- of a task that has made no more
    module _ (t : ℕ) (none : f.more t ≡ 0) where
      pub ending_asks-renamed : (o : Outcome) → ending_asks (renamed f w) t (outcome_renamed f.to o) ≡ answer_renamed (task_renamed f.to 0) (ending_asks w t o)
      ending_asks-renamed (Opens e) = room_asks-renamed f w t none 1
      ending_asks-renamed (Makes s m ids ways) = room_asks-renamed f w t none 2
      ending_asks-renamed (Retries kind name None) = on-renamed (task_renamed f.to 0) (task_renamed f.to 0) ESRCH _ _ _ (caller-renamed f w t none) (λ x. refl)
      ending_asks-renamed (Retries kind name (Some e)) = room_asks-renamed f w t none 1
      ending_asks-renamed (Starts s) = on-renamed (task_renamed f.to 0) (task_renamed f.to 0) ESRCH _ _ _ (caller-renamed f w t none) (λ x. refl)

      pub whole_asks-renamed : (found other : Result Outcome Errno) → other ≡ answer_renamed (outcome_renamed f.to) found
          → whole_asks (renamed f w) t other ≡ answer_renamed whole_renamed (whole_asks w t found)
      whole_asks-renamed found other is =
          first-renamed (outcome_renamed f.to) whole_renamed _ _ _ is (λ o. first-renamed (task_renamed f.to 0) whole_renamed _ _ _ (ending_asks-renamed o) (λ x. refl))

      -- what was found is told alike
      pub finding_told : (flags : OpenFlags) (found other : Result Outcome Errno) → other ≡ answer_renamed (outcome_renamed f.to) found
          → (finding (renamed f w) t flags other).reply ≡ (finding w t flags found).reply
      finding_told flags found other is = answered-renamed whole_renamed _ _ _ (whole_asks-renamed found other is) (λ l. ap Found (lookup_told-renamed l.1 l.0))
