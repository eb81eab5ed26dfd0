-- What rooms ask of tasks and directories, and of the branches of unions, where things have other names.
use Rattle.std.proofs.Common.{◌≡◌, ℕ, List, Option, Some, None, map, refl, ap, ◌∙◌}
use Rattle.std.specs.Prelude.{nat_lt}
use Rattle.std.specs.Option.{option_map}
use Rattle.hurd_trans_iface.specs.declared.root.Crossing.TheVariants.{Union}
use Rattle.hurd_machine.proofs.Common.{Crossing, Dir, File, Name, ServerInfo, Task, World, info_at}
use Rattle.hurd_machine.specs.Renamed.{OtherNames, info_renamed, renamed, right_renamed, task_renamed}
use Rattle.hurd_machine.proofs.RenamedAsks.{makes_at-renamed}
use Rattle.hurd_machine.proofs.RenamedNodes.{home_at-renamed}
use Rattle.hurd_machine.proofs.RenamedPlans.{answer_renamed, first-given, first-renamed, given-renamed, on-renamed}
use Rattle.hurd_machine.proofs.RenamedServers.{info_at-renamed}
use Rattle.hurd_machine.proofs.RenamedTasks.{caller-renamed, can_name-renamed, first_sent-renamed, has_room-renamed, length-renamed, right_of-renamed}
use Rattle.hurd_laws.proofs.LookupRenamed.{new_node_renamed}
use Rattle.hurd_core.specs.Branches.{branches, branches_at, branches_by}
use Rattle.hurd_core.specs.Core.{NewNodeAt, making_asks, making_dir_asks, naming_asks, receive_asks, room_asks, send_asks}

module _ (f : OtherNames) where
  -- a task that has made no more
  abbrev pub caller_renamed : Task → Task
  caller_renamed x = task_renamed f.to 0 x

  -- a task that makes a node, and the server of it
  abbrev pub maker_renamed : Task × Name → Task × Name
  maker_renamed m = (caller_renamed m.0, f.to m.1)

  -- unions

  pub branches-renamed : (c : Crossing) (ns : List Name) → branches c (map f.to ns) ≡ map f.to (branches c ns)
  branches-renamed Union ns = refl
  branches-renamed _ ns = refl

  pub branches_by-renamed : (o : Option ServerInfo) → branches_by (option_map (info_renamed f.to) o) ≡ map f.to (branches_by o)
  branches_by-renamed None = refl
  branches_by-renamed (Some i) = branches-renamed _ i.targets

  pub branches_at-renamed : (w : World) (n : Name) → branches_at (renamed f w) (f.to n) ≡ map f.to (branches_at w n)
  branches_at-renamed w n = ap branches_by (info_at-renamed f w n) ∙ branches_by-renamed (info_at w n)

  -- what tasks send

  pub send_asks-renamed : (w : World) (t p q : ℕ) → send_asks (renamed f w) t p q ≡ answer_renamed (right_renamed f.to) (send_asks w t p q)
  send_asks-renamed w t p q = first-renamed (right_renamed f.to) (right_renamed f.to) _ _ _ (right_of-renamed f w t p) (λ r.
      given-renamed (right_renamed f.to) _ _ (ap (nat_lt q) (length-renamed f f.more w.tasks)) refl)

  -- the caller, which has made no more

  module _ (w : World) (t : ℕ) (none : f.more t ≡ 0) where
    pub room_asks-renamed : (names : ℕ) → room_asks (renamed f w) t names ≡ answer_renamed caller_renamed (room_asks w t names)
    room_asks-renamed names = on-renamed caller_renamed caller_renamed _ _ _ _ (caller-renamed f w t none) (λ x.
        given-renamed caller_renamed _ _ (has_room-renamed f names x) refl)

    pub naming_asks-renamed : (names : ℕ) → naming_asks (renamed f w) t names ≡ answer_renamed caller_renamed (naming_asks w t names)
    naming_asks-renamed names = on-renamed caller_renamed caller_renamed _ _ _ _ (caller-renamed f w t none) (λ x.
        given-renamed caller_renamed _ _ (can_name-renamed f names x) refl)

    pub receive_asks-renamed : receive_asks (renamed f w) t ≡ answer_renamed caller_renamed (receive_asks w t)
    receive_asks-renamed = on-renamed caller_renamed caller_renamed _ _ _ _ (caller-renamed f w t none) (λ x.
        on-renamed (right_renamed f.to) caller_renamed _ _ _ _ (first_sent-renamed f x.inbox) (λ r.
        given-renamed caller_renamed _ _ (has_room-renamed f 0 x) refl))

    -- it makes a file and opens it
    pub making_asks-renamed : (n : NewNodeAt) → making_asks (renamed f w) t (new_node_renamed f.to n) ≡ answer_renamed maker_renamed (making_asks w t n)
    making_asks-renamed n = first-renamed caller_renamed maker_renamed _ _ _ (room_asks-renamed 2) (λ x.
        first-given maker_renamed _ _ (makes_at-renamed f w n.dir n.entry File) (λ u.
        on-renamed f.to maker_renamed _ _ _ _ (home_at-renamed f w n.dir) (λ s. refl)))

    -- it makes a directory
    pub making_dir_asks-renamed : (n : NewNodeAt) → making_dir_asks (renamed f w) t (new_node_renamed f.to n) ≡ answer_renamed maker_renamed (making_dir_asks w t n)
    making_dir_asks-renamed n = first-given maker_renamed _ _ (makes_at-renamed f w n.dir n.entry Dir) (λ u.
        first-renamed caller_renamed maker_renamed _ _ _ (naming_asks-renamed 1) (λ x.
        on-renamed f.to maker_renamed _ _ _ _ (home_at-renamed f w n.dir) (λ s. refl)))
