-- What tasks are told that send servers away, get control of them, or ask for their options, where things have other names.
use Rattle.std.proofs.Common.{◌≡◌, ◌||◌, ◌&&◌, ◌==◌, not, ℕ, Bool, List, Result, refl, ap₂}
use Rattle.hurd_creds.specs.declared.trans_flags.GoawayFlags.{GoawayFlags}
use Rattle.hurd_machine.proofs.Common.{EBUSY, EDIED, ENXIO, EPERM, Errno, FORCE, Name, World, asks_goaway}
use Rattle.hurd_machine.specs.Renamed.{OtherNames, info_renamed, renamed, task_renamed}
use Rattle.hurd_machine.proofs.RenamedHandles.{named_renamed, port_asks-renamed}
use Rattle.hurd_machine.proofs.RenamedNodes.{active_at-renamed, boot_name-renamed, home_at-renamed}
use Rattle.hurd_machine.proofs.RenamedPlans.{answer_renamed, answered-renamed, answered-given, first-renamed, first-told, given-renamed, on-renamed}
use Rattle.hurd_machine.proofs.RenamedServers.{server_at-renamed}
use Rattle.hurd_machine.proofs.RenamedTasks.{users-renamed}
use Rattle.hurd_fsys.specs.Controls.{Controlled, control_asks}
use Rattle.hurd_fsys.specs.Fsys.{goaway_asks, may_go, plan_cntl, plan_control, plan_get_options, plan_getcontrol, plan_goaway, plan_set_options, seated_asks, served_asks}
use Rattle.hurd_fsys.specs.Owned.{owned_asks}
use Rattle.hurd_laws.proofs.ControlRenamed.{control_of-renamed, options_told}
use Rattle.hurd_laws.proofs.CoreRenamed.{room_asks-renamed}

module _ (f : OtherNames) where
  -- a server that a port controls with other names
  abbrev pub controlled_renamed : Controlled → Controlled
  controlled_renamed k = record { server = f.to k.server; info = info_renamed f.to k.info }

  module _ (w : World) (t : ℕ) where
    pub control_asks-renamed : (c : ℕ) → control_asks (renamed f w) t c ≡ answer_renamed controlled_renamed (control_asks w t c)
    control_asks-renamed c =
        first-renamed f.to controlled_renamed _ _ _ (control_of-renamed f w t c) (λ s.
        on-renamed (info_renamed f.to) controlled_renamed EDIED _ _ _ (server_at-renamed f w s) (λ i. refl))

    pub owned_asks-renamed : (p : ℕ) → owned_asks (renamed f w) t p ≡ answer_renamed (named_renamed f) (owned_asks w t p)
    owned_asks-renamed p = first-renamed (named_renamed f) (named_renamed f) _ _ _ (port_asks-renamed f w t p) (λ n. given-renamed (named_renamed f) EPERM _ refl refl)

    -- fsys_goaway

    pub may_go-renamed : (s : Name) (force : Bool) → may_go (renamed f w) (f.to s) force ≡ may_go w s force
    may_go-renamed s force = ap₂ (λ (boot : Bool) (count : ℕ). not boot && (force || (count == 0))) (boot_name-renamed f s) (users-renamed f w s)

    pub goaway_asks-renamed : (c : ℕ) (flags : GoawayFlags) → goaway_asks (renamed f w) t c flags ≡ answer_renamed f.to (goaway_asks w t c flags)
    goaway_asks-renamed c flags =
        first-renamed controlled_renamed f.to _ _ _ (control_asks-renamed c) (λ k. given-renamed f.to EBUSY _ (may_go-renamed k.server (asks_goaway flags FORCE)) refl)

    pub goaway_told : (c : ℕ) (flags : GoawayFlags) → (plan_goaway (renamed f w) t c flags).reply ≡ (plan_goaway w t c flags).reply
    goaway_told c flags = answered-renamed f.to _ _ _ (goaway_asks-renamed c flags) (λ s. refl)

    -- fsys_get_options

    pub get_options_told : (c : ℕ) → (plan_get_options (renamed f w) t c).reply ≡ (plan_get_options w t c).reply
    get_options_told c = answered-given _ _ (first-told controlled_renamed _ _ _ (control_asks-renamed c) (λ k. refl)) (λ words. refl)

    -- fsys_set_options

    pub set_options_told : (c : ℕ) (words : List (List ℕ)) → (plan_set_options (renamed f w) t c words).reply ≡ (plan_set_options w t c words).reply
    set_options_told c words = answered-renamed f.to _ _ _ (control_of-renamed f w t c) (λ s. options_told f w s words)

    -- which server is asked for to control it

    pub seated_asks-renamed : (p : ℕ) → seated_asks (renamed f w) t p ≡ answer_renamed f.to (seated_asks w t p)
    seated_asks-renamed p = first-renamed (named_renamed f) f.to _ _ _ (owned_asks-renamed p) (λ n. on-renamed f.to f.to ENXIO _ _ _ (active_at-renamed f w n.right.node) (λ s. refl))

    pub served_asks-renamed : (p : ℕ) → served_asks (renamed f w) t p ≡ answer_renamed f.to (served_asks w t p)
    served_asks-renamed p =
        first-renamed (named_renamed f) f.to _ _ _ (port_asks-renamed f w t p) (λ n.
        on-renamed f.to f.to EDIED _ _ _ (home_at-renamed f w n.right.node) (λ s.
        on-renamed (info_renamed f.to) f.to EDIED _ _ _ (server_at-renamed f w s) (λ i. given-renamed f.to EPERM _ refl refl)))

    module _ (none : f.more t ≡ 0) where
      pub control_told : (there here : Result Name Errno) → there ≡ answer_renamed f.to here → (plan_control (renamed f w) t there).reply ≡ (plan_control w t here).reply
      control_told there here is = answered-renamed f.to here _ _ is (λ s. answered-renamed (task_renamed f.to 0) _ _ _ (room_asks-renamed f w t none 0) (λ x. refl))

      -- file_get_translator_cntl
      pub cntl_told : (p : ℕ) → (plan_cntl (renamed f w) t p).reply ≡ (plan_cntl w t p).reply
      cntl_told p = control_told _ _ (seated_asks-renamed p)

      -- file_getcontrol
      pub getcontrol_told : (p : ℕ) → (plan_getcontrol (renamed f w) t p).reply ≡ (plan_getcontrol w t p).reply
      getcontrol_told p = control_told _ _ (served_asks-renamed p)
