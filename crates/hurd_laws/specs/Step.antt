-- One step of the machine: a call of a task. Each call has a row.
use Rattle.std.specs.Prelude.{ℕ, Bool, true, false, is_some}
use Rattle.hurd_trans_iface.specs.Nodes.{has_words}
use Rattle.hurd_machine.specs.Calls.{Call, Reply, box_in}
use Rattle.hurd_machine.specs.declared.call.Call.TheVariants.{Plain, FileSetTranslator, FsysStartup}
use Rattle.hurd_machine.specs.declared.call.PlainCall.TheVariants.{PortDeallocate, PortSend, PortReceive, AuthMakeauth, DirLookup, IoRead, IoWrite, IoSeek, IoStat, IoReadable, IoGetOpenmodes, IoSetAllOpenmodes, IoDuplicate, IoReauthenticate, IoRestrictAuth, IoIdentity, FileSetSize, FileChmod, FileChown, FileCheckAccess, FileGetTranslator, FileGetTranslatorCntl, FileGetcontrol, StartFailed, FsysGetroot, FsysGoaway, FsysGetOptions, FsysSetOptions, DirReaddir, DirMkdir, DirRmdir, DirUnlink, DirLink, DirMkfile, DirRename}
use Rattle.hurd_machine.specs.World.{World}
use Rattle.hurd_machine.specs.Plan.{Plan, after_plan, returning}
use Rattle.hurd_machine.specs.Sight.{Part}
use Rattle.hurd_rights.specs.Rights.{plan_deallocate, touches_deallocate, plan_send, touches_send, plan_receive, touches_receive, plan_makeauth, touches_makeauth}
use Rattle.hurd_lookup.specs.Seeking.{plan_lookup, touches_lookup}
use Rattle.hurd_lookup.specs.Getroot.{plan_getroot, touches_getroot}
use Rattle.hurd_fsys.specs.Fsys.{plan_cntl, touches_cntl, plan_getcontrol, touches_getcontrol, plan_goaway, touches_goaway, plan_get_options, touches_get_options, plan_set_options, touches_set_options}
use Rattle.hurd_fsys.specs.Setting.{plan_set_translator, touches_set_translator, plan_get_translator, touches_get_translator}
use Rattle.hurd_fsys.specs.Starting.{plan_startup, touches_startup, plan_start_failed, touches_start_failed}
use Rattle.hurd_io.specs.Io.{free_read, free_write, plan_read, touches_read, plan_write, touches_write, plan_stat, touches_stat}
use Rattle.hurd_io.specs.Opens.{plan_seek, touches_seek, plan_readable, touches_readable, plan_get_openmodes, touches_get_openmodes, plan_set_openmodes, touches_set_openmodes}
use Rattle.hurd_io.specs.Sharing.{plan_duplicate, plan_reauthenticate, plan_restrict_auth, touches_share, plan_identity, touches_identity}
use Rattle.hurd_files.specs.Files.{free_set_size, plan_set_size, touches_set_size, plan_readdir, touches_readdir}
use Rattle.hurd_files.specs.Access.{plan_chmod, touches_chmod, plan_chown, touches_chown, plan_check_access, touches_check_access}
use Rattle.hurd_dirs.specs.Make.{plan_mkdir, touches_mkdir}
use Rattle.hurd_dirs.specs.File.{plan_mkfile, touches_mkfile}
use Rattle.hurd_dirs.specs.Remove.{plan_rmdir, touches_rmdir, plan_unlink, touches_unlink}
use Rattle.hurd_dirs.specs.Link.{plan_link, touches_link}
use Rattle.hurd_dirs.specs.Rename.{plan_rename, touches_rename}

-- what a call is in a world: what it answers and changes, the parts that it touches beside the caller's own task, whether it takes memory, and so may find
-- none, and where it needs none
pub record Row : Type 1 where
  pub plan : Plan
  pub touches : Part → Type 0
  pub takes : Bool
  pub free : Type 0

-- it takes memory where this is so, and always needs some then
abbrev pub taking_if : Bool → Plan → (Part → Type 0) → Row
taking_if takes plan touches = record { plan = plan; touches = touches; takes = takes; free = ⊥ }

-- it takes memory, and always needs some
abbrev pub taking : Plan → (Part → Type 0) → Row
taking = taking_if true

-- it takes none
abbrev pub calm : Plan → (Part → Type 0) → Row
calm = taking_if false

-- it takes some, but where this is so it needs none: a read that gives nothing; a write of no data, over bytes that are there, or to a stream; a cut, and any
-- size of a stream
abbrev pub sparing : Type 0 → Plan → (Part → Type 0) → Row
sparing free plan touches = record { plan = plan; touches = touches; takes = true; free = free }

-- the row of a call of task t; it answers ESRCH where there is no such task, and a refused call touches nothing
abbrev pub row_of : World → ℕ → Call → Row
row_of w t (Plain (PortDeallocate p)) = calm (plan_deallocate w t p) (touches_deallocate w t p)
row_of w t (Plain (PortSend p q)) = taking (plan_send w t p q.0) (touches_send w t p q.0)
row_of w t (Plain PortReceive) = taking (plan_receive w t) (touches_receive w t)
row_of w t (Plain (AuthMakeauth ids)) = calm (plan_makeauth w t ids) (touches_makeauth w t ids)
row_of w t (Plain (DirLookup p path flags mode)) = taking (plan_lookup w t p path flags mode) (touches_lookup w t p path flags mode)
row_of w t (Plain (IoRead p amount offset)) = sparing (free_read w t p amount offset) (plan_read w t p amount offset) (touches_read w t p amount offset)
row_of w t (Plain (IoWrite p bytes offset)) = sparing (free_write w t p bytes offset) (plan_write w t p bytes offset) (touches_write w t p bytes offset)
row_of w t (Plain (IoSeek p offset whence)) = calm (plan_seek w t p offset whence) (touches_seek w t p offset whence)
row_of w t (Plain (IoStat p)) = calm (plan_stat w t p) (touches_stat w t p)
row_of w t (Plain (IoReadable p)) = calm (plan_readable w t p) (touches_readable w t p)
row_of w t (Plain (IoGetOpenmodes p)) = calm (plan_get_openmodes w t p) (touches_get_openmodes w t p)
row_of w t (Plain (IoSetAllOpenmodes p flags)) = calm (plan_set_openmodes w t p flags) (touches_set_openmodes w t p flags)
row_of w t (Plain (IoDuplicate p)) = taking (plan_duplicate w t p) (touches_share w t p)
row_of w t (Plain (IoReauthenticate p)) = taking (plan_reauthenticate w t p) (touches_share w t p)
row_of w t (Plain (IoRestrictAuth p ids)) = taking (plan_restrict_auth w t p ids) (touches_share w t p)
row_of w t (Plain (IoIdentity p q)) = calm (plan_identity w t p q) (touches_identity w t p q)
row_of w t (Plain (FileSetSize p size)) = sparing (free_set_size w t p size) (plan_set_size w t p size) (touches_set_size w t p size)
row_of w t (Plain (FileChmod p mode)) = calm (plan_chmod w t p mode) (touches_chmod w t p mode)
row_of w t (Plain (FileChown p owner group)) = calm (plan_chown w t p owner group) (touches_chown w t p owner group)
row_of w t (Plain (FileCheckAccess p)) = calm (plan_check_access w t p) (touches_check_access w t p)
row_of w t (FileSetTranslator p setting words server) = taking_if (is_some server) (plan_set_translator w t p setting words server) (touches_set_translator w t p setting server)
row_of w t (Plain (FileGetTranslator p)) = taking (plan_get_translator w t p) (touches_get_translator w t p)
row_of w t (Plain (FileGetTranslatorCntl p)) = taking (plan_cntl w t p) (touches_cntl w t p)
row_of w t (Plain (FileGetcontrol p)) = taking (plan_getcontrol w t p) (touches_getcontrol w t p)
row_of w t (FsysStartup server) = taking (plan_startup w t server) (touches_startup w t server)
row_of w t (Plain StartFailed) = calm (plan_start_failed w t) (touches_start_failed w t)
row_of w t (Plain (FsysGetroot c dir flags)) = taking (plan_getroot w t c dir flags) (touches_getroot w t c dir flags)
row_of w t (Plain (FsysGoaway c flags)) = calm (plan_goaway w t c flags) (touches_goaway w t c flags)
row_of w t (Plain (FsysGetOptions c)) = taking (plan_get_options w t c) (touches_get_options w t c)
row_of w t (Plain (FsysSetOptions c words)) = taking_if (has_words words) (plan_set_options w t c words) (touches_set_options w t c words)
row_of w t (Plain (DirReaddir p)) = taking (plan_readdir w t p) (touches_readdir w t p)
row_of w t (Plain (DirMkdir p name mode)) = taking (plan_mkdir w t p name mode) (touches_mkdir w t p name mode)
row_of w t (Plain (DirMkfile p flags mode)) = taking (plan_mkfile w t p flags mode) (touches_mkfile w t p flags mode)
row_of w t (Plain (DirRmdir p name)) = calm (plan_rmdir w t p name) (touches_rmdir w t p name)
row_of w t (Plain (DirUnlink p name)) = calm (plan_unlink w t p name) (touches_unlink w t p name)
row_of w t (Plain (DirLink p name q)) = taking (plan_link w t p name q) (touches_link w t p name q)
row_of w t (Plain (DirRename p name q new)) = taking (plan_rename w t p name q new) (touches_rename w t p name q new)

-- what a call answers and changes, before a refusal gives the box back that it brought
abbrev pub plan_of : World → ℕ → Call → Plan
plan_of w t c = (row_of w t c).plan

-- the parts that a call touches, beside its task
abbrev pub touches : World → ℕ → Call → Part → Type 0
touches w t c = (row_of w t c).touches

-- whether a call takes memory, and so may find none
abbrev pub takes_memory : World → ℕ → Call → Bool
takes_memory w t c = (row_of w t c).takes

-- a call that takes memory needs none in this world
abbrev pub NeedsNone : World → ℕ → Call → Type 0
NeedsNone w t c = (row_of w t c).free

-- with the box back that a refused call brought
abbrev pub plan : World → ℕ → Call → Plan
plan w t c = returning (box_in c) (plan_of w t c)

abbrev pub reply_of : World → ℕ → Call → Reply
reply_of w t c = (plan w t c).reply

-- the world after a call of task t
abbrev pub after : World → ℕ → Call → World
after w t c = after_plan w (plan w t c)

-- the reply and the world after it
abbrev pub step : World → ℕ → Call → Reply × World
step w t c = (reply_of w t c, after w t c)
