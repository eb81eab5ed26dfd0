-- What sending servers away, getting control of them and giving them options leave where things have other names.
use Rattle.std.proofs.Common.{◌≡◌, ◌∙◌, ℕ, Bool, true, false, List, [], ◌∷◌, Option, Some, None, Result, refl, sym, ap}
use Rattle.hurd_creds.specs.declared.trans_flags.GoawayFlags.{GoawayFlags}
use Rattle.hurd_machine.proofs.Common.{Control, DropServer, Errno, Name, NodeMap, ServerInfo, Settle, Site, World, changes_of, edit_all, keeps_tree, own_nodes, retexting, server_at, size_of, sizing, sizing_unless, takes_options}
use Rattle.hurd_machine.specs.Renamed.{OtherNames, info_renamed, map_renamed, renamed, site_renamed, task_renamed}
use Rattle.hurd_machine.proofs.RenamedAsks.{takes_options-renamed}
use Rattle.hurd_machine.proofs.RenamedPlans.{answer_renamed}
use Rattle.hurd_machine.proofs.RenamedServers.{server_at-renamed}
use Rattle.hurd_machine.proofs.Retexting.{sizes_done}
use Rattle.hurd_creds.specs.NameMaps.{NameMap}
use Rattle.hurd_core.specs.Control.{plan_options}
use Rattle.hurd_fsys.specs.Fsys.{plan_cntl, plan_control, plan_getcontrol, plan_goaway, plan_set_options}
use Rattle.hurd_laws.proofs.ControlRenamed.{control_of-renamed}
use Rattle.hurd_laws.proofs.CoreRenamed.{room_asks-renamed}
use Rattle.hurd_laws.proofs.FsysTold.{goaway_asks-renamed, seated_asks-renamed, served_asks-renamed}
use Rattle.hurd_laws.specs.After.{KeepsOwn}
use Rattle.hurd_laws.proofs.Changes.{Alike, cons, drops_server, just, none, sets_text, settles}
use Rattle.hurd_laws.proofs.MapChanges.{sizes-renamed}
use Rattle.hurd_laws.proofs.Plans.{Changing, answered-left}
use Rattle.hurd_laws.proofs.RightsLeft.{porting-left}

module _ (f : OtherNames) where
  -- nodes of a server get a size: which these are was asked in the world that the call found

  sizes-left : (k : ℕ) (s : Name) (sites : NameMap Site) → Alike f (changes_of (sizing k (own_nodes s sites))) (changes_of (sizing k (own_nodes (f.to s) (map_renamed f.to (site_renamed f.to) sites))))
  sizes-left k s sites = record {
    same = λ w.
        sizes_done k (own_nodes (f.to s) (map_renamed f.to (site_renamed f.to) sites)) (renamed f w)
        ∙ ap (λ (m : NodeMap). record (renamed f w) { nodes = m }) (sym (sizes-renamed f k s sites w.nodes))
        ∙ ap (renamed f) (sym (sizes_done k (own_nodes s sites) w));
  }

  sizes_unless-left : (tree : Bool) (k : ℕ) (s : Name) (sites : NameMap Site)
      → Alike f (changes_of (sizing_unless tree k (own_nodes s sites))) (changes_of (sizing_unless tree k (own_nodes (f.to s) (map_renamed f.to (site_renamed f.to) sites))))
  sizes_unless-left true k s sites = none f
  sizes_unless-left false k s sites = sizes-left k s sites

  retexting-left : (w : World) (s : Name) (i : ServerInfo) (text : Option (List ℕ)) → Alike f (retexting w s i text) (retexting (renamed f w) (f.to s) (info_renamed f.to i) text)
  retexting-left w s i None = none f
  retexting-left w s i (Some text) = cons f (sets_text f s text) (sizes_unless-left (keeps_tree i.kind) (size_of i.kind text) s w.sites)

  pub dropped-left : (s : Name) → Alike f (DropServer s ∷ (Settle ∷ [])) (DropServer (f.to s) ∷ (Settle ∷ []))
  dropped-left s = cons f (drops_server f s) (just f (settles f))

  module _ (w : World) (t : ℕ) where
    pub goaway-left : (c : ℕ) (flags : GoawayFlags) → Changing f (plan_goaway w t c flags) (plan_goaway (renamed f w) t c flags)
    goaway-left c flags = answered-left f f.to _ _ _ (goaway_asks-renamed f w t c flags) dropped-left

    options-left : (s : Name) (words : List (List ℕ)) → Changing f (plan_options w s words) (plan_options (renamed f w) (f.to s) words)
    options-left s words = answered-left f (λ (a : ServerInfo × Option (List ℕ)). (info_renamed f.to a.0, a.1)) _ _ _
        (ap (takes_options words) (server_at-renamed f w s) ∙ takes_options-renamed f words (server_at w s)) (λ a. retexting-left w s a.0 a.1)

    pub set_options-left : (c : ℕ) (words : List (List ℕ)) → Changing f (plan_set_options w t c words) (plan_set_options (renamed f w) t c words)
    set_options-left c words = answered-left f f.to _ _ _ (control_of-renamed f w t c) (λ s. options-left s words)

    module _ (no_more : f.more t ≡ 0) where
      control-left : (here there : Result Name Errno) → there ≡ answer_renamed f.to here → Changing f (plan_control w t here) (plan_control (renamed f w) t there)
      control-left here there is = answered-left f f.to here _ _ is (λ s. answered-left f (task_renamed f.to 0) _ _ _ (room_asks-renamed f w t no_more 0) (λ x. porting-left f t (Control s)))

      pub cntl-left : (p : ℕ) → Changing f (plan_cntl w t p) (plan_cntl (renamed f w) t p)
      cntl-left p = control-left _ _ (seated_asks-renamed f w t p)

      pub getcontrol-left : (p : ℕ) → Changing f (plan_getcontrol w t p) (plan_getcontrol (renamed f w) t p)
      getcontrol-left p = control-left _ _ (served_asks-renamed f w t p)
