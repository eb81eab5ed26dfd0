-- In a sound world each call is refused by one of its errors, or not at all.
use Rattle.std.proofs.Common.{List, ◌≡◌, inl, ℕ, Option, Some, None, refl}
use Rattle.hurd_creds.specs.Access.{owns}
use Rattle.hurd_machine.proofs.Common.{Call, Errno, Meaning, Plan, Reply, Sound, World, any_mode, box_in, handing_back}
use Rattle.hurd_machine.specs.declared.call.Call.TheVariants.{Plain, FileSetTranslator, FsysStartup}
use Rattle.hurd_machine.specs.declared.call.PlainCall.TheVariants.{PortDeallocate, PortSend, PortReceive, AuthMakeauth, DirLookup, IoRead, IoWrite, IoSeek, IoStat, IoReadable, IoGetOpenmodes, IoSetAllOpenmodes, IoDuplicate, IoReauthenticate, IoRestrictAuth, IoIdentity, FileSetSize, FileChmod, FileChown, FileCheckAccess, FileGetTranslator, FileGetTranslatorCntl, FileGetcontrol, StartFailed, FsysGetroot, FsysGoaway, FsysGetOptions, FsysSetOptions, DirReaddir, DirMkdir, DirRmdir, DirUnlink, DirLink, DirMkfile, DirRename}
use Rattle.hurd_machine.specs.declared.call.Reply.TheVariants.{Refused}
use Rattle.hurd_machine.specs.Plan.{returning}
use Rattle.hurd_files.specs.Access.{gives}
use Rattle.hurd_laws.specs.Step.{plan_of}
use Rattle.hurd_refusals.specs.Errors.{RefusedByName, errors_of, refused_by}
use Rattle.hurd_refusals.proofs.In.{Among, answered_among, done_among, first_in, given_in, ok_in}
use Rattle.hurd_refusals.proofs.Asked.{both_in, handle_in, port_in, right_in-all, task_in}
use Rattle.hurd_refusals.proofs.Rooms.{receive_in, send_in}
use Rattle.hurd_refusals.proofs.Opens.{read_among, readable_in, readdir_in, seek_in, set_size_among, setting_in, share_in, stat_in, write_among}
use Rattle.hurd_refusals.proofs.Entries.{link_among, mkdir_among, mkfile_among, rename_in, rmdir_in, unlink_in}
use Rattle.hurd_refusals.proofs.Targets.{lookup_among}
use Rattle.hurd_refusals.proofs.Links.{Or, getroot_or}
use Rattle.hurd_refusals.proofs.Servers.{control_among, goaway_in, options_in, pending_in, seated_in, served_in, set_options_among, set_translator_among, startup_among, stored_in}

-- a reply that is refused by one of these errors, or by ENAMETOOLONG if there is a long link, or not at all
record Known (w : World) (es : List Errno) (r : Reply) : Type 0 where
  by : (e : Errno) → refused_by r ≡ Some e → Or w es e

known : {w : World} {es : List Errno} {r : Reply} → Among es r → Known w es r
known p = record { by = λ e is. inl (p.by e is) }

-- Each call is refused by one of its errors, or not at all, before a box goes back.
call_known : (w : World) → Sound w → (t : ℕ) (c : Call) → Known w (errors_of c) (plan_of w t c).reply
call_known w s t (Plain (PortDeallocate p)) = known (answered_among _ _ (right_in-all refl w t p) (λ r is. done_among refl))
call_known w s t (Plain (PortSend p q)) = known (answered_among _ _ (send_in refl w t p q.0) (λ r is. done_among refl))
call_known w s t (Plain PortReceive) = known (answered_among _ _ (receive_in w t) (λ x is. done_among refl))
call_known w s t (Plain (AuthMakeauth ids)) =
    known (answered_among _ _ (first_in _ _ (task_in refl w t) (λ x ex. given_in _ _ _ refl (λ may. ok_in))) (λ x is. done_among refl))
call_known w s t (Plain (DirLookup p path flags mode)) = known (lookup_among w t p path flags mode)
call_known w s t (Plain (IoRead p amount offset)) = known (read_among w t p amount offset)
call_known w s t (Plain (IoWrite p bytes offset)) = known (write_among w s t p bytes offset)
call_known w s t (Plain (IoSeek p offset whence)) = known (answered_among _ _ (seek_in w t p offset whence) (λ a is. done_among refl))
call_known w s t (Plain (IoStat p)) = known (answered_among _ _ (stat_in w t p) (λ a is. done_among refl))
call_known w s t (Plain (IoReadable p)) = known (answered_among _ _ (readable_in w t p) (λ a is. done_among refl))
call_known w s t (Plain (IoGetOpenmodes p)) = known (answered_among _ _ (handle_in refl w t p any_mode) (λ a is. done_among refl))
call_known w s t (Plain (IoSetAllOpenmodes p flags)) = known (answered_among _ _ (handle_in refl w t p any_mode) (λ a is. done_among refl))
call_known w s t (Plain (IoDuplicate p)) = known (answered_among _ _ (share_in w t p) (λ a is. done_among refl))
call_known w s t (Plain (IoReauthenticate p)) = known (answered_among _ _ (share_in w t p) (λ a is. done_among refl))
call_known w s t (Plain (IoRestrictAuth p ids)) = known (answered_among _ _ (share_in w t p) (λ a is. done_among refl))
call_known w s t (Plain (IoIdentity p q)) = known (answered_among _ _ (both_in refl w t p q) (λ a is. done_among refl))
call_known w s t (Plain (FileSetSize p size)) = known (set_size_among w s t p size)
call_known w s t (Plain (FileChmod p mode)) = known (answered_among _ _ (setting_in w t p owns) (λ n is. done_among refl))
call_known w s t (Plain (FileChown p owner group)) = known (answered_among _ _ (setting_in w t p (gives owner group)) (λ n is. done_among refl))
call_known w s t (Plain (FileCheckAccess p)) = known (answered_among _ _ (port_in refl w t p) (λ n is. done_among refl))
call_known w s t (FileSetTranslator p setting words server) = known (set_translator_among w t setting words p server)
call_known w s t (Plain (FileGetTranslator p)) = known (answered_among _ _ (stored_in w t p) (λ a is. done_among refl))
call_known w s t (Plain (FileGetTranslatorCntl p)) = known (control_among refl w t _ (seated_in w t p))
call_known w s t (Plain (FileGetcontrol p)) = known (control_among refl w t _ (served_in w t p))
call_known w s t (FsysStartup server) = known (startup_among w t server)
call_known w s t (Plain StartFailed) = known (answered_among _ _ (pending_in w t) (λ a is. done_among refl))
call_known w s t (Plain (FsysGetroot c dir flags)) = record { by = getroot_or w t c dir flags }
call_known w s t (Plain (FsysGoaway c flags)) = known (answered_among _ _ (goaway_in w t c flags) (λ a is. done_among refl))
call_known w s t (Plain (FsysGetOptions c)) = known (answered_among _ _ (options_in w t c) (λ a is. done_among refl))
call_known w s t (Plain (FsysSetOptions c words)) = known (set_options_among w t c words)
call_known w s t (Plain (DirReaddir p)) = known (answered_among _ _ (readdir_in w t p) (λ a is. done_among refl))
call_known w s t (Plain (DirMkdir p name mode)) = known (mkdir_among w t p name mode)
call_known w s t (Plain (DirMkfile p flags mode)) = known (mkfile_among w t p flags mode)
call_known w s t (Plain (DirRmdir p name)) = known (answered_among _ _ (rmdir_in w t p name) (λ a is. done_among refl))
call_known w s t (Plain (DirUnlink p name)) = known (answered_among _ _ (unlink_in w t p name) (λ a is. done_among refl))
call_known w s t (Plain (DirLink p name q)) = known (link_among w t p name q)
call_known w s t (Plain (DirRename p name q new)) = known (answered_among _ _ (rename_in w t p name q new) (λ a is. done_among refl))

-- A refusal has the same error with the box back.
handed : {w : World} {es : List Errno} (m : Meaning) (r : Reply) → Known w es r → Known w es (handing_back m r)
handed m (Refused e) p = record { by = p.by }
handed m r p = p

-- So has a plan that gives a box back, if one was brought.
returned : {w : World} {es : List Errno} (box : Option Meaning) (P : Plan) → Known w es P.reply → Known w es (returning box P).reply
returned None P p = p
returned (Some m) P p = handed m P.reply p

-- Each call is refused by one of its errors, or not at all.
pub refused_by_name : RefusedByName
refused_by_name w t c e s is = (returned (box_in c) (plan_of w t c) (call_known w s t c)).by e is
