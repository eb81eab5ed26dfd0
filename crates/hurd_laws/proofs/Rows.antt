-- What is proved of each call: each has its line here.
use Rattle.std.proofs.Common.{◌≡◌, ℕ, Option, Some, None, Result, inl}
use Rattle.hurd_machine.proofs.Common.{Call, Errno, Meaning, Nothing, Part, Plan, Reply, World, box_in, looks}
use Rattle.hurd_machine.specs.declared.call.Call.TheVariants.{Plain, FileSetTranslator, FsysStartup}
use Rattle.hurd_machine.specs.declared.call.PlainCall.TheVariants.{PortDeallocate, PortSend, PortReceive, AuthMakeauth, DirLookup, IoRead, IoWrite, IoSeek, IoStat, IoReadable, IoGetOpenmodes, IoSetAllOpenmodes, IoDuplicate, IoReauthenticate, IoRestrictAuth, IoIdentity, FileSetSize, FileChmod, FileChown, FileCheckAccess, FileGetTranslator, FileGetTranslatorCntl, FileGetcontrol, StartFailed, FsysGetroot, FsysGoaway, FsysGetOptions, FsysSetOptions, DirReaddir, DirMkdir, DirRmdir, DirUnlink, DirLink, DirMkfile, DirRename}
use Rattle.hurd_machine.specs.Plan.{returning}
use Rattle.hurd_machine.specs.Renamed.{OtherNames, renamed}
use Rattle.hurd_machine.proofs.CallLaws.{CallLaws, returning_laws}
use Rattle.hurd_machine.proofs.RenamedPlans.{returning-renamed}
use Rattle.hurd_rights.proofs.RightsLaws.{deallocate_laws, send_laws, receive_laws, makeauth_laws}
use Rattle.hurd_lookup.proofs.LookupLaws.{lookup_laws}
use Rattle.hurd_lookup.proofs.GetrootLaws.{getroot_laws}
use Rattle.hurd_fsys.specs.Fsys.{seated_asks, served_asks}
use Rattle.hurd_fsys.proofs.FsysLaws.{cntl_laws, getcontrol_laws, goaway_laws, get_options_laws}
use Rattle.hurd_fsys.proofs.OptionsLaws.{set_options_laws}
use Rattle.hurd_fsys.proofs.SettingLaws.{set_translator_laws, get_translator_laws}
use Rattle.hurd_fsys.proofs.StartingLaws.{startup_laws, start_failed_laws}
use Rattle.hurd_io.specs.Sharing.{ids_among, ids_of_port, ids_of_task}
use Rattle.hurd_io.proofs.IoLaws.{read_laws, write_laws, stat_laws}
use Rattle.hurd_io.proofs.OpensLaws.{seek_laws, readable_laws, get_openmodes_laws, set_openmodes_laws}
use Rattle.hurd_io.proofs.SharingLaws.{duplicate_laws, reauthenticate_laws, restrict_auth_laws, identity_laws}
use Rattle.hurd_files.proofs.FilesLaws.{set_size_laws, readdir_laws}
use Rattle.hurd_files.proofs.AccessLaws.{chmod_laws, chown_laws, check_access_laws}
use Rattle.hurd_dirs.proofs.MakeLaws.{mkdir_laws}
use Rattle.hurd_dirs.proofs.FileLaws.{mkfile_laws}
use Rattle.hurd_dirs.proofs.RemoveLaws.{rmdir_laws, unlink_laws}
use Rattle.hurd_dirs.proofs.LinkLaws.{link_laws}
use Rattle.hurd_dirs.proofs.RenameLaws.{rename_laws}
use Rattle.hurd_laws.specs.Step.{plan, plan_of, touches}
use Rattle.hurd_laws.specs.After.{KeepsOwn}
use Rattle.hurd_laws.proofs.Authority.{Allowed, Spares, deallocate_may, send_may, read_may, write_may, seek_may, set_openmodes_may, share_may, set_size_may, chmod_may, chown_may}
use Rattle.hurd_laws.proofs.MayDirs.{mkdir_may, mkfile_may, unlink_may, rmdir_may, link_may, rename_may}
use Rattle.hurd_laws.proofs.MayServers.{goaway_may, set_options_may, set_translator_may, startup_may}
use Rattle.hurd_laws.proofs.MayLookup.{lookup_may, getroot_may}
use Rattle.hurd_laws.proofs.CallReasons.{HasReasons, chmod_reasons, chown_reasons, control_reasons, deallocate_reasons, getroot_reasons, goaway_reasons, link_reasons, lookup_reasons, makeauth_reasons, mkdir_reasons, mkfile_reasons, none, read_reasons, reasoned, receive_reasons, rename_reasons, rmdir_reasons, seek_reasons, send_reasons, set_openmodes_reasons, set_options_reasons, set_size_reasons, set_translator_reasons, share_reasons, start_failed_reasons, startup_reasons, unlink_reasons, write_reasons}
use Rattle.hurd_laws.proofs.EntryTold.{mkdir_told, mkfile_told}
use Rattle.hurd_laws.proofs.FilesTold.{check_access_told, chmod_told, chown_told, readdir_told, set_size_told}
use Rattle.hurd_laws.proofs.FsysTold.{cntl_told, get_options_told, getcontrol_told, goaway_told, set_options_told}
use Rattle.hurd_laws.proofs.IoTold.{read_told, stat_told, write_told}
use Rattle.hurd_laws.proofs.LookupTold.{dir_lookup_told, fsys_getroot_told}
use Rattle.hurd_laws.proofs.OpensTold.{duplicate_told, get_openmodes_told, identity_told, readable_told, reauthenticate_told, restrict_auth_told, seek_told, set_openmodes_told}
use Rattle.hurd_laws.proofs.RemoveTold.{link_told, rmdir_told, unlink_told}
use Rattle.hurd_laws.proofs.RenameTold.{rename_told}
use Rattle.hurd_laws.proofs.ResolveRenamed.{resolve_all-renamed}
use Rattle.hurd_laws.proofs.RightsTold.{deallocate_told, makeauth_told, receive_told, send_told}
use Rattle.hurd_laws.proofs.SettingTold.{get_translator_told, set_translator_told}
use Rattle.hurd_laws.proofs.StartingTold.{start_failed_told, startup_told}
use Rattle.hurd_laws.proofs.DirsLeft.{link-left, rename-left, rmdir-left, unlink-left}
use Rattle.hurd_laws.proofs.IoLeft.{chmod-left, chown-left, read-left, set_size-left, write-left}
use Rattle.hurd_laws.proofs.LookupLeft.{getroot-left, lookup-left}
use Rattle.hurd_laws.proofs.MakingLeft.{mkdir-left, mkfile-left}
use Rattle.hurd_laws.proofs.Plans.{Changing, looks-left}
use Rattle.hurd_laws.proofs.RightsLeft.{deallocate-left, makeauth-left, receive-left, seek-left, send-left, set_openmodes-left, share-left}
use Rattle.hurd_laws.proofs.SeatsLeft.{cntl-left, getcontrol-left, goaway-left, set_options-left}
use Rattle.hurd_laws.proofs.SettingLeft.{set_translator-left, start_failed-left, startup-left}

-- its reply is the same where things have other names
abbrev pub IsTold : ℕ → (World → Plan) → Type 0
IsTold t plan = (f : OtherNames) (w : World) → f.more t ≡ 0 → (plan (renamed f w)).reply ≡ (plan w).reply

-- what it leaves is the same except for those
abbrev pub IsLeft : ℕ → (World → Plan) → Type 0
IsLeft t plan = (f : OtherNames) (w : World) → KeepsOwn f t → Changing f (plan w) (plan (renamed f w))

-- of a call of task t, which plans this and touches these parts
pub record RowLaws (t : ℕ) (plan : World → Plan) (touches : World → Part → Type 0) : Type 0 where
  pub laws : CallLaws t plan touches
  pub may : Spares t plan touches
  pub reasons : HasReasons t plan
  pub told : IsTold t plan
  pub left : IsLeft t plan

module _ {t : ℕ} where
  -- a call that only looks touches nothing, and changes nothing
  looking : {A : Type 0} (asks : World → Result A Errno) (reply : A → Reply) → CallLaws t (λ w. looks (asks w) reply) (λ w. Nothing) → IsTold t (λ w. looks (asks w) reply)
      → RowLaws t (λ w. looks (asks w) reply) (λ w. Nothing)
  looking asks reply laws told = record {
    laws = laws;
    may = λ S w s ours p out. inl (λ on. on);
    reasons = λ S w co ours. reasoned _ _ (λ a is. none);
    told = told;
    left = λ f w keeps. looks-left f _ _ _ _;
  }

  module _ {plan : World → Plan} {touches : World → Part → Type 0} where
    -- one that changes something, which its caller may
    changing : CallLaws t plan touches → Allowed t touches → HasReasons t plan → IsTold t plan → IsLeft t plan → RowLaws t plan touches
    changing laws may reasons told left =
        record { laws = laws; may = λ S w s ours p out. inl (λ on. out (may S w s ours p on)); reasons = reasons; told = told; left = left }

    -- with the box back that it brought
    boxed : (box : Option Meaning) → RowLaws t plan touches → RowLaws t (λ w. returning box (plan w)) touches
    boxed None r = r
    boxed (Some m) r = record {
      laws = returning_laws t plan touches (Some m) r.laws;
      may = r.may;
      reasons = r.reasons;
      told = λ f w none. returning-renamed (Some m) (plan w) (plan (renamed f w)) (r.told f w none);
      left = r.left;
    }

  -- nothing is touched
  none_may : Allowed t (λ w. Nothing)
  none_may S w s ours p on = absurd on

row_laws : (t : ℕ) (c : Call) → RowLaws t (λ w. plan_of w t c) (λ w. touches w t c)
row_laws t (Plain (PortDeallocate p)) =
    changing (deallocate_laws t p) (deallocate_may t p) (deallocate_reasons t p) (λ f w none. deallocate_told f w t p) (λ f w keeps. deallocate-left f w t p)
row_laws t (Plain (PortSend p q)) =
    record { laws = send_laws t p q.0; may = send_may t p q.0; reasons = send_reasons t p q.0; told = λ f w none. send_told f w t p q.0; left = λ f w keeps. send-left f w t p q.0 }
row_laws t (Plain PortReceive) =
    changing (receive_laws t) none_may (receive_reasons t) (λ f w none. receive_told f w t none) (λ f w keeps. receive-left f w t keeps.none)
row_laws t (Plain (AuthMakeauth ids)) =
    changing (makeauth_laws t ids) none_may (makeauth_reasons t ids) (λ f w none. makeauth_told f w t ids) (λ f w keeps. makeauth-left f w t ids)
row_laws t (Plain (DirLookup p path flags mode)) =
    changing (lookup_laws t p path flags mode) (lookup_may t p path flags mode) (lookup_reasons t p path flags mode)
    (λ f w none. dir_lookup_told f w t none p path flags mode) (λ f w keeps. lookup-left f t keeps w p path flags mode)
row_laws t (Plain (IoRead p amount offset)) =
    changing (read_laws t p amount offset) (read_may t p amount offset) (read_reasons t p amount offset) (λ f w none. read_told f w t p amount offset) (λ f w keeps. read-left f w t p amount offset)
row_laws t (Plain (IoWrite p bytes offset)) =
    changing (write_laws t p bytes offset) (write_may t p bytes offset) (write_reasons t p bytes offset) (λ f w none. write_told f w t p bytes offset) (λ f w keeps. write-left f w t p bytes offset)
row_laws t (Plain (IoSeek p offset whence)) =
    changing (seek_laws t p offset whence) (seek_may t p offset whence) (seek_reasons t p offset whence) (λ f w none. seek_told f w t p offset whence) (λ f w keeps. seek-left f w t p offset whence)
row_laws t (Plain (IoStat p)) = looking _ _ (stat_laws t p) (λ f w none. stat_told f w t p)
row_laws t (Plain (IoReadable p)) = looking _ _ (readable_laws t p) (λ f w none. readable_told f w t p)
row_laws t (Plain (IoGetOpenmodes p)) = looking _ _ (get_openmodes_laws t p) (λ f w none. get_openmodes_told f w t p)
row_laws t (Plain (IoSetAllOpenmodes p flags)) =
    changing (set_openmodes_laws t p flags) (set_openmodes_may t p flags) (set_openmodes_reasons t p flags) (λ f w none. set_openmodes_told f w t p flags) (λ f w keeps. set_openmodes-left f w t p flags)
row_laws t (Plain (IoDuplicate p)) =
    changing (duplicate_laws t p) (share_may t p) (share_reasons t p ids_of_port) (λ f w none. duplicate_told f w t none p) (λ f w keeps. share-left f w t keeps.none p ids_of_port)
row_laws t (Plain (IoReauthenticate p)) =
    changing (reauthenticate_laws t p) (share_may t p) (share_reasons t p ids_of_task) (λ f w none. reauthenticate_told f w t none p) (λ f w keeps. share-left f w t keeps.none p ids_of_task)
row_laws t (Plain (IoRestrictAuth p ids)) =
    changing (restrict_auth_laws t p ids) (share_may t p) (share_reasons t p (ids_among ids)) (λ f w none. restrict_auth_told f w t none p ids) (λ f w keeps. share-left f w t keeps.none p (ids_among ids))
row_laws t (Plain (IoIdentity p q)) = looking _ _ (identity_laws t p q) (λ f w none. identity_told f w t p q)
row_laws t (Plain (FileSetSize p size)) =
    changing (set_size_laws t p size) (set_size_may t p size) (set_size_reasons t p size) (λ f w none. set_size_told f w t p size) (λ f w keeps. set_size-left f w t p size)
row_laws t (Plain (FileChmod p mode)) =
    changing (chmod_laws t p mode) (chmod_may t p mode) (chmod_reasons t p mode) (λ f w none. chmod_told f w t p mode) (λ f w keeps. chmod-left f w t p mode)
row_laws t (Plain (FileChown p owner group)) =
    changing (chown_laws t p owner group) (chown_may t p owner group) (chown_reasons t p owner group) (λ f w none. chown_told f w t p owner group) (λ f w keeps. chown-left f w t p owner group)
row_laws t (Plain (FileCheckAccess p)) = looking _ _ (check_access_laws t p) (λ f w none. check_access_told f w t p)
row_laws t (FileSetTranslator p setting words server) =
    changing (set_translator_laws t p setting words server) (set_translator_may t p setting server) (set_translator_reasons t p setting words server)
    (λ f w none. set_translator_told f w (resolve_all-renamed f w) t none p setting words server) (λ f w keeps. set_translator-left f t keeps w (resolve_all-renamed f w) p setting words server)
row_laws t (Plain (FileGetTranslator p)) = looking _ _ (get_translator_laws t p) (λ f w none. get_translator_told f w t p)
row_laws t (Plain (FileGetTranslatorCntl p)) =
    changing (cntl_laws t p) none_may (control_reasons t (λ w. seated_asks w t p)) (λ f w none. cntl_told f w t none p) (λ f w keeps. cntl-left f w t keeps.none p)
row_laws t (Plain (FileGetcontrol p)) =
    changing (getcontrol_laws t p) none_may (control_reasons t (λ w. served_asks w t p)) (λ f w none. getcontrol_told f w t none p) (λ f w keeps. getcontrol-left f w t keeps.none p)
row_laws t (FsysStartup server) =
    changing (startup_laws t server) (startup_may t server) (startup_reasons t server)
    (λ f w none. startup_told f w (resolve_all-renamed f w) t none server) (λ f w keeps. startup-left f t keeps w (resolve_all-renamed f w) server)
row_laws t (Plain StartFailed) =
    changing (start_failed_laws t) none_may (start_failed_reasons t) (λ f w none. start_failed_told f w t) (λ f w keeps. start_failed-left f w t)
row_laws t (Plain (FsysGetroot c dir flags)) =
    changing (getroot_laws t c dir flags) (getroot_may t c dir flags) (getroot_reasons t c dir flags) (λ f w none. fsys_getroot_told f w t none c dir flags) (λ f w keeps. getroot-left f t keeps w c dir flags)
row_laws t (Plain (FsysGoaway c flags)) =
    changing (goaway_laws t c flags) (goaway_may t c flags) (goaway_reasons t c flags) (λ f w none. goaway_told f w t c flags) (λ f w keeps. goaway-left f w t c flags)
row_laws t (Plain (FsysGetOptions c)) = looking _ _ (get_options_laws t c) (λ f w none. get_options_told f w t c)
row_laws t (Plain (FsysSetOptions c words)) =
    changing (set_options_laws t c words) (set_options_may t c words) (set_options_reasons t c words) (λ f w none. set_options_told f w t c words) (λ f w keeps. set_options-left f w t c words)
row_laws t (Plain (DirReaddir p)) = looking _ _ (readdir_laws t p) (λ f w none. readdir_told f w t p)
row_laws t (Plain (DirMkdir p name mode)) =
    changing (mkdir_laws t p name mode) (mkdir_may t p name mode) (mkdir_reasons t p name mode) (λ f w none. mkdir_told f w t none p name mode) (λ f w keeps. mkdir-left f t keeps w p name mode)
row_laws t (Plain (DirMkfile p flags mode)) =
    changing (mkfile_laws t p flags mode) (mkfile_may t p flags mode) (mkfile_reasons t p flags mode) (λ f w none. mkfile_told f w t none p flags mode) (λ f w keeps. mkfile-left f t keeps w p flags mode)
row_laws t (Plain (DirRmdir p name)) =
    changing (rmdir_laws t p name) (rmdir_may t p name) (rmdir_reasons t p name) (λ f w none. rmdir_told f w t p name) (λ f w keeps. rmdir-left f w t p name)
row_laws t (Plain (DirUnlink p name)) =
    changing (unlink_laws t p name) (unlink_may t p name) (unlink_reasons t p name) (λ f w none. unlink_told f w t p name) (λ f w keeps. unlink-left f w t p name)
row_laws t (Plain (DirLink p name q)) =
    changing (link_laws t p name q) (link_may t p name q) (link_reasons t p name q) (λ f w none. link_told f w t p name q) (λ f w keeps. link-left f w t p name q)
row_laws t (Plain (DirRename p name q new)) =
    changing (rename_laws t p q name new) (rename_may t p name q new) (rename_reasons t p name q new) (λ f w none. rename_told f w t p name q new) (λ f w keeps. rename-left f w t p name q new)

-- with the box back
pub call_laws : (t : ℕ) (c : Call) → RowLaws t (λ w. plan w t c) (λ w. touches w t c)
call_laws t c = boxed (box_in c) (row_laws t c)
