-- The laws of fsys_getroot.
use Rattle.std.proofs.Common.{ℕ, [], refl}
use Rattle.std.specs.Prelude.{Result}
use Rattle.hurd_machine.proofs.Common.{Errno, IdSets, Name, OpenFlags, World}
use Rattle.hurd_machine.proofs.CallLaws.{CallLaws}
use Rattle.hurd_lookup.specs.declared.request.Request.{Request}
use Rattle.hurd_lookup.specs.Lookup.{Outcome}
use Rattle.hurd_lookup.specs.Getroot.{Entrance, root_request, entrance_asks, getroot_asks, plan_getroot, touches_getroot}
use Rattle.hurd_lookup.proofs.AlikeLaws.{Alike, ok_alike, on_alike, given_alike, first_alike}
use Rattle.hurd_lookup.proofs.WalkLaws.{Ground, WaysOn}
use Rattle.hurd_lookup.proofs.AlongLaws.{cross_alike}
use Rattle.hurd_lookup.proofs.BeginLaws.{Begins}
use Rattle.hurd_lookup.proofs.FoundLaws.{FoundLaws, finding_laws}

module _ (t c dir : ℕ) where
  -- where the server is entered, by the ids of the task
  record EntranceOn (At Near : Name → Type 0) (T : IdSets → Type 0) (e : Entrance) : Type 0 where
    start : At e.start
    ids : T e.authority.ids
    ways : WaysOn At e.authority.ways
    root : Near e.root

  entrance_alike : {v w : World} {At Near Entries : Name → Type 0} {T : IdSets → Type 0} → Ground v w At Near Entries T → Begins t v w At Near T → Alike (EntranceOn At Near T) (entrance_asks v t c dir) (entrance_asks w t c dir)
  entrance_alike g b =
      first_alike _ _ _ _ _ _ (b.control c) (λ s controls server. first_alike _ _ _ _ _ _ (b.port dir) (λ q is on.
      on_alike _ _ _ _ _ _ refl server.same (λ i there. on_alike _ _ _ _ _ _ refl (g.header q.node (g.near q.node on.node)) (λ h eh.
      given_alike _ _ _ _ _ _ refl refl (λ k. on_alike _ _ _ _ _ _ refl b.task (λ x ex.
      ok_alike _ _ (record { start = on.node; ids = b.ids x ex; ways = on.ways; root = server.root i there })))))))

  module _ (flags : OpenFlags) where
    abbrev r : Request
    r = root_request flags

    abbrev found : World → Result Outcome Errno
    found w = getroot_asks w t c dir r

    pub found_alike : FoundLaws t flags found
    found_alike v w At Near Entries T g b P k =
        first_alike _ _ _ _ _ _ (entrance_alike g b) (λ e is s. cross_alike g e.authority s.ids s.ways r e.start e.root s.start s.root [])

    pub getroot_laws : CallLaws t (λ w. plan_getroot w t c dir flags) (λ w. touches_getroot w t c dir flags)
    getroot_laws = finding_laws t flags found found_alike
