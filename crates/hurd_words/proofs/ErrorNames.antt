-- Names of errors tell them apart.
use Rattle.std.proofs.Common.{◌≡◌, ◌∙◌, refl, sym, ap, ℕ, true, List, [], ◌∷◌, bytes_eq, if◌then◌else◌}
use Rattle.std.specs.List.{list_all}
use Rattle.hurd_creds.specs.Errors.{name_of}
use Rattle.hurd_creds.specs.declared.errno.Errno.{Errno}
use Rattle.hurd_creds.specs.declared.errno.Errno.TheVariants.{EPERM, ENOENT, EIO, EBADF, ENOMEM, EACCES, EBUSY, EEXIST, EXDEV, ENOTDIR, EISDIR, EINVAL, EFBIG, EROFS, EPIPE, EWOULDBLOCK, ELOOP, ENAMETOOLONG, ENOTEMPTY, EOPNOTSUPP, EDIED, ENXIO, ESRCH, EOVERFLOW, ENOSPC}
use Rattle.hurd_words.proofs.Bytes.{is_other}

-- the first of some errors that has a name
abbrev named : List Errno → List ℕ → Errno
named [] name = EPERM
named (e ∷ es) name = if bytes_eq (name_of e) name then e else named es name

abbrev errors : List Errno
errors =
    EPERM ∷ ENOENT ∷ EIO ∷ EBADF ∷ ENOMEM ∷ EACCES ∷ EBUSY ∷ EEXIST ∷ EXDEV ∷ ENOTDIR ∷ EISDIR ∷ EINVAL ∷ EFBIG ∷ EROFS ∷ EPIPE ∷ EWOULDBLOCK ∷ ELOOP ∷ ENAMETOOLONG
    ∷ ENOTEMPTY ∷ EOPNOTSUPP ∷ EDIED ∷ ENXIO ∷ ESRCH ∷ EOVERFLOW ∷ ENOSPC ∷ []

named_so : (e : Errno) → named errors (name_of e) ≡ e
named_so EPERM = refl
named_so _ = refl

pub error_once : (e f : Errno) → name_of e ≡ name_of f → e ≡ f
error_once e f is = sym (named_so e) ∙ (ap (named errors) is ∙ named_so f)

-- a name is one line, and begins with an E
pub error_line : (e : Errno) → list_all (is_other 10) (name_of e) ≡ true
error_line EPERM = refl
error_line _ = refl

pub error_begins : (e : Errno) → (t : List ℕ) × (name_of e ≡ 69 ∷ t)
error_begins EPERM = (_, refl)
error_begins _ = (_, refl)
