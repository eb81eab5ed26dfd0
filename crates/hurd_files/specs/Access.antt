-- What ids may do with a node, and its owner, group and mode.
use Rattle.std.specs.Prelude.{◌≡◌, ℕ, Bool, [], ◌∷◌, Result, Ok}
use Rattle.hurd_creds.specs.declared.mode.Mode.{Mode}
use Rattle.hurd_creds.specs.declared.attrs.Attrs.{Attrs}
use Rattle.hurd_creds.specs.declared.errno.Errno.{Errno}
use Rattle.hurd_creds.specs.declared.errno.Errno.TheVariants.{EPERM}
use Rattle.hurd_creds.specs.Bits.{known_mode}
use Rattle.hurd_creds.specs.Access.{IdSets, access_of, owns, may_give}
use Rattle.hurd_trans_iface.specs.Nodes.{with_attrs}
use Rattle.hurd_machine.specs.Calls.{Reply}
use Rattle.hurd_machine.specs.declared.call.Reply.TheVariants.{Done, Modes}
use Rattle.hurd_machine.specs.World.{World, sets_attrs_at}
use Rattle.hurd_machine.specs.Change.{EditHeader}
use Rattle.hurd_machine.specs.Plan.{Plan, given, first, answered, looks}
use Rattle.hurd_machine.specs.Handle.{Named, port_asks}
use Rattle.hurd_machine.specs.Sight.{Part, AttrOf, bare}
use Rattle.hurd_machine.specs.Touched.{asked_parts, Nothing}

-- file_check_access: those of READ, WRITE and EXEC that the port's ids may, whatever its open is for
abbrev pub told_access : Named → Reply
told_access n = Modes (access_of n.right.ids (bare n.header))

abbrev pub plan_check_access : World → ℕ → ℕ → Plan
plan_check_access w t p = looks (port_asks w t p) told_access

abbrev pub touches_check_access : World → ℕ → ℕ → Part → Type 0
touches_check_access w t p = Nothing

-- all that setting asks, with its refusals in order: a port on a node that lets its attributes be set, by ids of which this is true
abbrev pub setting_asks : World → ℕ → ℕ → (IdSets → Attrs → Bool) → Result Named Errno
setting_asks w t p can =
    first (port_asks w t p) (λ n.
    first (sets_attrs_at w n.right.node) (λ u.
    given EPERM (can n.right.ids (bare n.header)) (Ok n)))

-- the node's owner, group and mode are set
abbrev pub setting : Named → ℕ → ℕ → Mode → Plan
setting n owner group mode = record { reply = Done; changes = EditHeader n.right.node (with_attrs owner group mode) ∷ [] }

abbrev pub touches_setting : World → ℕ → ℕ → (IdSets → Attrs → Bool) → Part → Type 0
touches_setting w t p can = asked_parts (setting_asks w t p can) (λ n q. q ≡ AttrOf n.right.node)

-- file_chmod: the known bits of the mode, by ids that own the node; owner and group stay
abbrev pub plan_chmod : World → ℕ → ℕ → Mode → Plan
plan_chmod w t p mode = answered (setting_asks w t p owns) (λ n. setting n n.header.owner n.header.group (known_mode mode))

abbrev pub touches_chmod : World → ℕ → ℕ → Mode → Part → Type 0
touches_chmod w t p mode = touches_setting w t p owns

-- ids that may give a node to this owner and group
abbrev pub gives : ℕ → ℕ → IdSets → Attrs → Bool
gives owner group ids a = may_give ids a owner group

-- file_chown: owner and group; the mode stays
abbrev pub plan_chown : World → ℕ → ℕ → ℕ → ℕ → Plan
plan_chown w t p owner group = answered (setting_asks w t p (gives owner group)) (λ n. setting n owner group n.header.mode)

abbrev pub touches_chown : World → ℕ → ℕ → ℕ → ℕ → Part → Type 0
touches_chown w t p owner group = touches_setting w t p (gives owner group)
