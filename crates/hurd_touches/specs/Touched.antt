-- Which parts are noted, and what a call is noted as.
use Rattle.std.specs.Prelude.{◌≡◌, ◌⊎◌, ℕ, Bool, true, false, List, map, Option, Some, None, Ok}
use Rattle.hurd_creds.specs.declared.name.Name.{Name}
use Rattle.hurd_ports.specs.declared.table.IoRight.{IoRight}
use Rattle.hurd_ports.specs.declared.table.PendingStart.{PendingStart}
use Rattle.hurd_ports.specs.declared.table.Right.{Right}
use Rattle.hurd_ports.specs.Tables.{io_right_of, pending_of, right_of}
use Rattle.hurd_machine.specs.Calls.{Call}
use Rattle.hurd_trans_iface.specs.Answers.{entry_of}
use Rattle.hurd_machine.specs.World.{World, IsAmong, body_at, ports_of, stream_at}
use Rattle.hurd_machine.specs.Sight.{Part, AttrOf, BodyOf, EmptyOf, OpenOf, TaskOf}
use Rattle.hurd_machine.specs.Touched.{OnTotal}
use Rattle.hurd_laws.specs.Step.{touches}
use Rattle.hurd_sight.specs.Parts.{part_of}
use Rattle.hurd_sight.specs.declared.parts.SeenPart.{SeenPart}
use Rattle.hurd_touches.specs.declared.noted.Noted.{Noted}
use Rattle.hurd_touches.specs.declared.noted.Noted.TheVariants.{All, These}

-- it may be any part
abbrev pub is_all : Noted → Bool
is_all All = true
is_all (These parts) = false

-- the parts, if it is known which
abbrev pub listed : Noted → Option (List SeenPart)
listed All = None
listed (These parts) = Some parts

-- a part that is noted: any, or one of these
abbrev pub IsNoted : Noted → Part → Type 0
IsNoted All p = Unit {0}
IsNoted (These parts) p = IsAmong p (map part_of parts)

-- all that was noted stays noted, and all that P says is noted
pub record Adds (P : Part → Type 0) (old new : Noted) : Type 0 where
  pub kept : (p : Part) → IsNoted old p → IsNoted new p
  pub added : (p : Part) → P p → IsNoted new p

-- a call is noted: its task, and all that it touches
pub record Notes (w : World) (t : ℕ) (c : Call) (old new : Noted) : Type 0 where
  pub kept : (p : Part) → IsNoted old p → IsNoted new p
  pub caller : IsNoted new (TaskOf t)
  pub touched : (p : Part) → touches w t c p → IsNoted new p

-- what goes with the right under a port of task t, if that is one to use a node
abbrev pub OnPort : World → ℕ → ℕ → (IoRight → Part → Type 0) → Part → Type 0
OnPort w t p f k = (r : IoRight) × (io_right_of (ports_of w) t p ≡ Ok r) × f r k

-- what goes with the right under a port of task t, whatever that is for
abbrev pub OnItsRight : World → ℕ → ℕ → (Right → Part → Type 0) → Part → Type 0
OnItsRight w t p f k = (r : Right) × (right_of (ports_of w) t p ≡ Ok r) × f r k

-- the open of a right
abbrev pub IsItsOpen : IoRight → Part → Type 0
IsItsOpen r p = p ≡ OpenOf r.open_name

-- the attributes of its node
abbrev pub IsItsNode : IoRight → Part → Type 0
IsItsNode r p = p ≡ AttrOf r.node

-- all that its server may do to a node: to its bytes, its size, and what all files have in all
abbrev pub OnBytes : World → Name → Part → Type 0
OnBytes w n p = (p ≡ BodyOf n) ⊎ ((p ≡ AttrOf n) ⊎ OnTotal w n p)

-- a write: the cursor of its open, and the bytes
abbrev pub OnWrite : World → IoRight → Part → Type 0
OnWrite w r p = IsItsOpen r p ⊎ OnBytes w r.node p

-- a read: the cursor, and the bytes of a stream alone
abbrev pub OnRead : World → IoRight → Part → Type 0
OnRead w r p = IsItsOpen r p ⊎ ((stream_at w r.node ≡ true) × OnBytes w r.node p)

-- the attributes of the node whose translator task t is to start
abbrev pub OnStart : World → ℕ → Part → Type 0
OnStart w t p = (s : PendingStart) × (pending_of (ports_of w) t ≡ Some s) × (p ≡ AttrOf s.node)

-- the entries of its node, and whether there are none
abbrev pub AreItsEntries : IoRight → Part → Type 0
AreItsEntries r p = (p ≡ BodyOf r.node) ⊎ (p ≡ EmptyOf r.node)

-- a node gets or loses a link: its attributes, and the total
abbrev pub OnLinked : World → Name → Part → Type 0
OnLinked w n p = (p ≡ AttrOf n) ⊎ OnTotal w n p

-- a name in a directory comes to name nothing, or something else: the entries, and the links of what it named
abbrev pub OnTaken : World → Name → List ℕ → Part → Type 0
OnTaken w d name p =
    ((p ≡ BodyOf d) ⊎ (p ≡ EmptyOf d)) ⊎ ((n : Name) × (entry_of name (body_at w d) ≡ Some n) × OnLinked w n p)
