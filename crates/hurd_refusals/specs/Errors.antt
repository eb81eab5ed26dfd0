-- By which errors each call may be refused. ENOMEM is none of them: the written machine never runs out of memory.
use Rattle.std.specs.Prelude.{◌≡◌, ◌⊎◌, ◌||◌, ◌==◌, ℕ, Bool, true, false, List, [], ◌∷◌, Option, Some, None, length, nat_le}
use Rattle.hurd_creds.specs.Errors.{number_of}
use Rattle.hurd_creds.specs.declared.errno.Errno.{Errno}
use Rattle.hurd_creds.specs.declared.errno.Errno.TheVariants.{EPERM, ENOENT, EIO, EBADF, EACCES, EBUSY, EEXIST, EXDEV, ENOTDIR, EISDIR, EINVAL, EFBIG, EROFS, EPIPE, EWOULDBLOCK, ELOOP, ENAMETOOLONG, ENOTEMPTY, EOPNOTSUPP, EDIED, ENXIO, ESRCH, EOVERFLOW, ENOSPC}
use Rattle.hurd_creds.specs.declared.name.Name.{Name}
use Rattle.hurd_creds.specs.Limits.{most_path}
use Rattle.hurd_trans_iface.specs.Meaning.{Begins, Meaning, root_of}
use Rattle.hurd_trans_iface.specs.Texts.{is_link}
use Rattle.hurd_nodes.specs.Shown.{ServerInfo}
use Rattle.hurd_machine.specs.Calls.{Call, Reply}
use Rattle.hurd_machine.specs.declared.call.Call.TheVariants.{Plain, FileSetTranslator, FsysStartup}
use Rattle.hurd_machine.specs.declared.call.PlainCall.TheVariants.{PortDeallocate, PortSend, PortReceive, AuthMakeauth, DirLookup, IoRead, IoWrite, IoSeek, IoStat, IoReadable, IoGetOpenmodes, IoSetAllOpenmodes, IoDuplicate, IoReauthenticate, IoRestrictAuth, IoIdentity, FileSetSize, FileChmod, FileChown, FileCheckAccess, FileGetTranslator, FileGetTranslatorCntl, FileGetcontrol, StartFailed, FsysGetroot, FsysGoaway, FsysGetOptions, FsysSetOptions, DirReaddir, DirMkdir, DirRmdir, DirUnlink, DirLink, DirMkfile, DirRename}
use Rattle.hurd_machine.specs.declared.call.Reply.TheVariants.{Refused, Back}
use Rattle.hurd_machine.specs.World.{World, info_at}
use Rattle.hurd_machine.specs.Sound.{Sound}
use Rattle.hurd_laws.specs.Step.{reply_of}

-- the errors of each call. A call that names new things has EOVERFLOW: its numbers are at their greatest
abbrev pub errors_of : Call → List Errno
errors_of (Plain (PortDeallocate p)) = EBADF ∷ ESRCH ∷ []
errors_of (Plain (PortSend p q)) = EBADF ∷ ESRCH ∷ []
errors_of (Plain PortReceive) = EWOULDBLOCK ∷ ESRCH ∷ EOVERFLOW ∷ []
errors_of (Plain (AuthMakeauth ids)) = EPERM ∷ ESRCH ∷ []
errors_of (Plain (IoRead p amount offset)) = EBADF ∷ EDIED ∷ EISDIR ∷ EINVAL ∷ EWOULDBLOCK ∷ EIO ∷ ESRCH ∷ []
errors_of (Plain (IoWrite p bytes offset)) = EBADF ∷ EDIED ∷ EINVAL ∷ EFBIG ∷ EPIPE ∷ EWOULDBLOCK ∷ ENOSPC ∷ ESRCH ∷ []
errors_of (Plain (IoSeek p offset whence)) = EBADF ∷ EDIED ∷ EINVAL ∷ ESRCH ∷ []
errors_of (Plain (IoStat p)) = EBADF ∷ EDIED ∷ ESRCH ∷ []
errors_of (Plain (IoReadable p)) = EBADF ∷ EDIED ∷ EISDIR ∷ ESRCH ∷ []
errors_of (Plain (IoGetOpenmodes p)) = EBADF ∷ EDIED ∷ ESRCH ∷ []
errors_of (Plain (IoSetAllOpenmodes p flags)) = EBADF ∷ EDIED ∷ ESRCH ∷ []
errors_of (Plain (IoDuplicate p)) = EBADF ∷ EDIED ∷ ESRCH ∷ EOVERFLOW ∷ []
errors_of (Plain (IoReauthenticate p)) = EBADF ∷ EDIED ∷ ESRCH ∷ EOVERFLOW ∷ []
errors_of (Plain (IoRestrictAuth p ids)) = EBADF ∷ EDIED ∷ ESRCH ∷ EOVERFLOW ∷ []
errors_of (Plain (IoIdentity p q)) = EBADF ∷ EDIED ∷ ESRCH ∷ []
errors_of (Plain (FileChmod p mode)) = EBADF ∷ EDIED ∷ EOPNOTSUPP ∷ EPERM ∷ ESRCH ∷ []
errors_of (Plain (FileChown p owner group)) = EBADF ∷ EDIED ∷ EOPNOTSUPP ∷ EPERM ∷ ESRCH ∷ []
errors_of (Plain (FileSetSize p size)) = EBADF ∷ EDIED ∷ EFBIG ∷ ENOSPC ∷ ESRCH ∷ []
errors_of (Plain (FileCheckAccess p)) = EBADF ∷ EDIED ∷ ESRCH ∷ []
errors_of (FileSetTranslator p setting words server) = EBADF ∷ EDIED ∷ EPERM ∷ EINVAL ∷ EOPNOTSUPP ∷ EBUSY ∷ ENXIO ∷ ENAMETOOLONG ∷ ENOTDIR ∷ EACCES ∷ ENOENT ∷ ELOOP ∷ ESRCH ∷ EOVERFLOW ∷ []
errors_of (Plain (FileGetTranslator p)) = EBADF ∷ EDIED ∷ EINVAL ∷ ESRCH ∷ []
errors_of (Plain (FileGetTranslatorCntl p)) = EBADF ∷ EDIED ∷ EPERM ∷ ENXIO ∷ ESRCH ∷ EOVERFLOW ∷ []
errors_of (Plain (FileGetcontrol p)) = EBADF ∷ EDIED ∷ EPERM ∷ ESRCH ∷ EOVERFLOW ∷ []
errors_of (FsysStartup server) = EDIED ∷ EBUSY ∷ ENAMETOOLONG ∷ ENOTDIR ∷ EACCES ∷ ENOENT ∷ ELOOP ∷ ESRCH ∷ EOVERFLOW ∷ []
errors_of (Plain StartFailed) = ESRCH ∷ []
errors_of (Plain (FsysGetroot control dir flags)) = EBADF ∷ EDIED ∷ ENOTDIR ∷ ELOOP ∷ EISDIR ∷ EROFS ∷ EACCES ∷ ESRCH ∷ EOVERFLOW ∷ []
errors_of (Plain (FsysGoaway control flags)) = EBADF ∷ EDIED ∷ EBUSY ∷ ESRCH ∷ []
errors_of (Plain (FsysGetOptions control)) = EBADF ∷ EDIED ∷ ESRCH ∷ []
errors_of (Plain (FsysSetOptions control words)) = EBADF ∷ EDIED ∷ EINVAL ∷ ESRCH ∷ []
errors_of (Plain (DirLookup dir path flags mode)) = EBADF ∷ EDIED ∷ ENAMETOOLONG ∷ ENOTDIR ∷ EACCES ∷ ENOENT ∷ EROFS ∷ EEXIST ∷ ELOOP ∷ EISDIR ∷ ESRCH ∷ EOVERFLOW ∷ []
errors_of (Plain (DirReaddir p)) = EBADF ∷ EDIED ∷ ENOTDIR ∷ ESRCH ∷ []
errors_of (Plain (DirMkdir dir name mode)) = EBADF ∷ EDIED ∷ EINVAL ∷ ENAMETOOLONG ∷ ENOTDIR ∷ EROFS ∷ EACCES ∷ ENOENT ∷ EEXIST ∷ ESRCH ∷ EOVERFLOW ∷ []
errors_of (Plain (DirMkfile dir flags mode)) = EBADF ∷ EDIED ∷ ENOTDIR ∷ EROFS ∷ EACCES ∷ ENOENT ∷ ESRCH ∷ EOVERFLOW ∷ []
errors_of (Plain (DirRmdir dir name)) = EBADF ∷ EDIED ∷ EINVAL ∷ ENAMETOOLONG ∷ ENOTDIR ∷ EROFS ∷ EACCES ∷ ENOENT ∷ EBUSY ∷ ENOTEMPTY ∷ ESRCH ∷ []
errors_of (Plain (DirUnlink dir name)) = EBADF ∷ EDIED ∷ EINVAL ∷ ENAMETOOLONG ∷ ENOTDIR ∷ EROFS ∷ EACCES ∷ ENOENT ∷ EISDIR ∷ ESRCH ∷ []
errors_of (Plain (DirLink dir name file)) = EBADF ∷ EDIED ∷ EINVAL ∷ ENAMETOOLONG ∷ ENOTDIR ∷ EROFS ∷ EACCES ∷ ENOENT ∷ EXDEV ∷ EISDIR ∷ EEXIST ∷ ENOSPC ∷ ESRCH ∷ EOVERFLOW ∷ []
errors_of (Plain (DirRename dir name to new)) = EBADF ∷ EDIED ∷ EINVAL ∷ ENAMETOOLONG ∷ ENOTDIR ∷ EROFS ∷ EXDEV ∷ EACCES ∷ ENOENT ∷ EISDIR ∷ EBUSY ∷ ENOTEMPTY ∷ ESRCH ∷ []

-- an error is one of these
abbrev pub is_among : Errno → List Errno → Bool
is_among e [] = false
is_among e (d ∷ ds) = (number_of d == number_of e) || is_among e ds

-- a call may be refused by this error
abbrev pub is_error_of : Call → Errno → Bool
is_error_of c e = is_among e (errors_of c)

-- the error of a refusal
abbrev pub refused_by : Reply → Option Errno
refused_by (Refused e) = Some e
refused_by (Back e m) = Some e
refused_by r = None

-- the text of a link is longer than a path, where this kind and text are a link's
abbrev pub IsLongLink : ServerInfo → Type 0
IsLongLink i = (is_link (root_of i.kind i.text).crossing ≡ true) × (nat_le (length i.text) most_path ≡ false)

-- the world has a link whose text is longer than a path
abbrev pub HasLongLink : World → Type 0
HasLongLink w = (n : Name) × (i : ServerInfo) × (info_at w n ≡ Some i) × IsLongLink i

-- in a sound world a call is refused by one of its errors, or not at all; or by ENAMETOOLONG, if the world has a link whose text is longer than a path
abbrev pub RefusedByName : Type 0
RefusedByName = (w : World) (t : ℕ) (c : Call) (e : Errno) → Sound w → refused_by (reply_of w t c) ≡ Some e → (is_error_of c e ≡ true) ⊎ ((e ≡ ENAMETOOLONG) × HasLongLink w)

-- no words make a link whose text is longer than a path
abbrev pub LinksAreShort : Type 0
LinksAreShort = (m : Meaning) → Begins m → is_link (root_of m.kind m.text).crossing ≡ true → nat_le (length m.text) most_path ≡ true
