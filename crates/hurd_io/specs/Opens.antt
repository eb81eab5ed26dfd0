-- What an open is: its cursor, and what it is for.
use Rattle.std.specs.Prelude.{◌≡◌, ℕ, ℤ, pos, negsuc, ◌+ℤ◌, not, [], ◌∷◌, nat_le, Result, Ok, Err}
use Rattle.hurd_creds.specs.declared.name.Name.{Name}
use Rattle.hurd_creds.specs.declared.open_flags.OpenFlags.{OpenFlags}
use Rattle.hurd_creds.specs.declared.errno.Errno.{Errno}
use Rattle.hurd_creds.specs.declared.errno.Errno.TheVariants.{EINVAL, EISDIR}
use Rattle.hurd_creds.specs.Bits.{asks, READ, APPEND}
use Rattle.hurd_trans_iface.specs.Nodes.{is_dir}
use Rattle.hurd_ports.specs.Steps.{appending, at_cursor}
use Rattle.hurd_machine.specs.declared.handle.Handle.{Handle}
use Rattle.hurd_machine.specs.declared.call.Whence.{Whence}
use Rattle.hurd_machine.specs.declared.call.Whence.TheVariants.{Set, Current, End}
use Rattle.hurd_machine.specs.Calls.{Reply}
use Rattle.hurd_machine.specs.declared.call.Reply.TheVariants.{Count, Done, Modes}
use Rattle.hurd_machine.specs.World.{World, readable_at}
use Rattle.hurd_machine.specs.Change.{EditOpen}
use Rattle.hurd_machine.specs.Plan.{Plan, given, first, answered, looks}
use Rattle.hurd_machine.specs.Handle.{any_mode, handle_asks}
use Rattle.hurd_machine.specs.Sight.{Part, OpenOf}
use Rattle.hurd_machine.specs.Touched.{asked_parts, Nothing}
use Rattle.hurd_io.specs.Io.{i64_greatest}

-- from where a seek counts
abbrev pub origin : Whence → Handle → ℕ
origin Set a = 0
origin Current a = a.opened.cursor
origin End a = a.size

-- a place: not below 0, and not past the greatest
abbrev pub place_asks : ℤ → Result ℕ Errno
place_asks (pos n) = given EINVAL (nat_le n i64_greatest) (Ok n)
place_asks (negsuc n) = Err EINVAL

-- an open, and a place in it
abbrev pub seek_asks : World → ℕ → ℕ → ℤ → Whence → Result (Name × ℕ) Errno
seek_asks w t p offset whence =
    first (handle_asks w t p any_mode) (λ a.
    first (place_asks (pos (origin whence a) +ℤ offset)) (λ at. Ok (a.open_name, at)))

-- io_seek: the cursor goes there
abbrev pub plan_seek : World → ℕ → ℕ → ℤ → Whence → Plan
plan_seek w t p offset whence =
    answered (seek_asks w t p offset whence) (λ s. record { reply = Count s.1; changes = EditOpen s.0 (at_cursor s.1) ∷ [] })

abbrev pub touches_seek : World → ℕ → ℕ → ℤ → Whence → Part → Type 0
touches_seek w t p offset whence = asked_parts (seek_asks w t p offset whence) (λ s q. q ≡ OpenOf s.0)

-- of what is open to read, and no directory: how many bytes its server has to read from the cursor on
abbrev pub readable_asks : World → ℕ → ℕ → Result ℕ Errno
readable_asks w t p =
    first (handle_asks w t p READ) (λ a. given EISDIR (not (is_dir a.kind)) (Ok (readable_at w a.node a.opened.cursor)))

-- io_readable: so many
abbrev pub told_readable : ℕ → Reply
told_readable n = Count n

abbrev pub plan_readable : World → ℕ → ℕ → Plan
plan_readable w t p = looks (readable_asks w t p) told_readable

abbrev pub touches_readable : World → ℕ → ℕ → Part → Type 0
touches_readable w t p = Nothing

-- io_get_openmodes: what the open is for
abbrev pub told_modes : Handle → Reply
told_modes a = Modes a.opened.modes

abbrev pub plan_get_openmodes : World → ℕ → ℕ → Plan
plan_get_openmodes w t p = looks (handle_asks w t p any_mode) told_modes

abbrev pub touches_get_openmodes : World → ℕ → ℕ → Part → Type 0
touches_get_openmodes w t p = Nothing

-- io_set_all_openmodes: APPEND as it is given; the other modes stay
abbrev pub plan_set_openmodes : World → ℕ → ℕ → OpenFlags → Plan
plan_set_openmodes w t p flags =
    answered (handle_asks w t p any_mode) (λ a. record { reply = Done; changes = EditOpen a.open_name (appending (asks flags APPEND)) ∷ [] })

abbrev pub touches_set_openmodes : World → ℕ → ℕ → OpenFlags → Part → Type 0
touches_set_openmodes w t p flags = asked_parts (handle_asks w t p any_mode) (λ a q. q ≡ OpenOf a.open_name)
