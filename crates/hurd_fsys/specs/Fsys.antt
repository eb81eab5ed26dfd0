-- Sending servers away, getting control of them, and their options: asked for, and given.
use Rattle.std.specs.Prelude.{◌≡◌, ◌⊎◌, ◌==◌, ◌||◌, ◌&&◌, not, ℕ, Bool, true, false, List, [], ◌∷◌, Option, Some, None, Result, Ok}
use Rattle.hurd_creds.specs.declared.name.Name.{Name}
use Rattle.hurd_creds.specs.declared.errno.Errno.{Errno}
use Rattle.hurd_creds.specs.declared.errno.Errno.TheVariants.{EBUSY, EDIED, ENXIO, EPERM}
use Rattle.hurd_creds.specs.declared.trans_flags.GoawayFlags.{GoawayFlags}
use Rattle.hurd_creds.specs.Access.{IdSets, holds_uid, is_root, least_uid}
use Rattle.hurd_creds.specs.Names.{same_name}
use Rattle.hurd_creds.specs.TransBits.{asks_goaway, FORCE}
use Rattle.hurd_trans_iface.specs.Meaning.{keeps_tree, options_of}
use Rattle.hurd_nodes.specs.Shown.{ServerInfo, boot_name, takes_options}
use Rattle.hurd_ports.specs.declared.table.Right.TheVariants.{Control}
use Rattle.hurd_ports.specs.Steps.{with_port}
use Rattle.hurd_machine.specs.declared.call.Reply.TheVariants.{Done, Port, Words}
use Rattle.hurd_machine.specs.World.{World, ports_of, active_at, home_at, server_at}
use Rattle.hurd_machine.specs.Change.{Change, EditTask, DropServer, Settle}
use Rattle.hurd_machine.specs.Plan.{Plan, on, given, first, answered, looks}
use Rattle.hurd_machine.specs.Handle.{port_asks}
use Rattle.hurd_machine.specs.Sight.{Part, AttrOf, OptionsOf, TextOf, users}
use Rattle.hurd_machine.specs.Touched.{asked_parts, Nothing, Goes}
use Rattle.hurd_core.specs.Core.{room_asks}
use Rattle.hurd_core.specs.Control.{control_of, plan_options}
use Rattle.hurd_fsys.specs.Controls.{control_asks}
use Rattle.hurd_fsys.specs.Owned.{owned_asks}

-- a server that may be sent away: not the boot server, and no users, or they are not asked for
abbrev pub may_go : World → Name → Bool → Bool
may_go w s force = not (same_name s boot_name) && (force || (users w s == 0))

-- fsys_goaway: a server that a port controls: EBADF, EDIED, EBUSY
abbrev pub goaway_asks : World → ℕ → ℕ → GoawayFlags → Result Name Errno
goaway_asks w t c flags =
    first (control_asks w t c) (λ k.
    given EBUSY (may_go w k.server (asks_goaway flags FORCE)) (Ok k.server))

-- it goes with its nodes, and what nothing keeps then goes too
abbrev pub sending_away : Name → List Change
sending_away s = DropServer s ∷ Settle ∷ []

abbrev pub plan_goaway : World → ℕ → ℕ → GoawayFlags → Plan
plan_goaway w t c flags = answered (goaway_asks w t c flags) (λ s. record { reply = Done; changes = sending_away s })

abbrev pub touches_goaway : World → ℕ → ℕ → GoawayFlags → Part → Type 0
touches_goaway w t c flags = asked_parts (goaway_asks w t c flags) (λ s. Goes w s)

-- file_get_translator_cntl: the server that is active on a node that the port's ids own: EBADF, EDIED, EPERM, ENXIO
abbrev pub seated_asks : World → ℕ → ℕ → Result Name Errno
seated_asks w t p =
    first (owned_asks w t p) (λ n.
    on ENXIO (active_at w n.right.node) (λ s. Ok s))

-- a port to control it
abbrev pub controlling : ℕ → Name → List Change
controlling t s = EditTask t (with_port (Control s)) ∷ []

-- such a port, of a server that was asked for
abbrev pub plan_control : World → ℕ → Result Name Errno → Plan
plan_control w t asks = answered asks (λ s. answered (room_asks w t 0) (λ x. record { reply = Port x.next; changes = controlling t s }))

abbrev pub plan_cntl : World → ℕ → ℕ → Plan
plan_cntl w t p = plan_control w t (seated_asks w t p)

abbrev pub touches_cntl : World → ℕ → ℕ → Part → Type 0
touches_cntl w t p = Nothing

-- whether a uid is held, if there is one
abbrev pub holds_any : IdSets → Option ℕ → Bool
holds_any ids None = false
holds_any ids (Some u) = holds_uid ids u

-- whether ids may control a server of these ids: they hold its uid, or 0
abbrev pub may_control : IdSets → IdSets → Bool
may_control ids served = is_root ids || holds_any ids (least_uid served)

-- file_getcontrol: the server of a port's node, whose uid the port's ids hold, or 0: EBADF, EDIED, EPERM
abbrev pub served_asks : World → ℕ → ℕ → Result Name Errno
served_asks w t p =
    first (port_asks w t p) (λ n.
    on EDIED (home_at w n.right.node) (λ s.
    on EDIED (server_at w s) (λ i.
    given EPERM (may_control n.right.ids i.ids) (Ok s))))

abbrev pub plan_getcontrol : World → ℕ → ℕ → Plan
plan_getcontrol w t p = plan_control w t (served_asks w t p)

abbrev pub touches_getcontrol : World → ℕ → ℕ → Part → Type 0
touches_getcontrol w t p = Nothing

-- fsys_get_options: the words of a server that a port controls: EBADF, EDIED
abbrev pub options_asks : World → ℕ → ℕ → Result (List (List ℕ)) Errno
options_asks w t c = first (control_asks w t c) (λ k. Ok (options_of k.info.kind k.info.text))

abbrev pub plan_get_options : World → ℕ → ℕ → Plan
plan_get_options w t c = looks (options_asks w t c) Words

abbrev pub touches_get_options : World → ℕ → ℕ → Part → Type 0
touches_get_options w t c = Nothing

-- fsys_set_options: a server that a port controls takes options: EBADF, EDIED, EINVAL
abbrev pub plan_set_options : World → ℕ → ℕ → List (List ℕ) → Plan
plan_set_options w t c words = answered (control_of (ports_of w) t c) (λ s. plan_options w s words)

-- the server's text; of a tree, that it is told to whoever knows the tree, of any other server its root's attributes
abbrev pub options_parts : Name → ServerInfo → Part → Type 0
options_parts s i p = (p ≡ TextOf s) ⊎ (((keeps_tree i.kind ≡ true) × (p ≡ OptionsOf s)) ⊎ ((keeps_tree i.kind ≡ false) × (p ≡ AttrOf i.root)))

abbrev pub touches_set_options : World → ℕ → ℕ → List (List ℕ) → Part → Type 0
touches_set_options w t c words =
    asked_parts (control_of (ports_of w) t c) (λ s. asked_parts (takes_options words (server_at w s)) (λ a. options_parts s a.0))
