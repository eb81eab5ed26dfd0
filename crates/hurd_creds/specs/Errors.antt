-- The table of errors.
use Rattle.std.specs.Prelude.{ℕ, List, codes}
use Rattle.hurd_creds.specs.declared.errno.Errno.{Errno}
use Rattle.hurd_creds.specs.declared.errno.Errno.TheVariants.{EPERM, ENOENT, EIO, EBADF, ENOMEM, EACCES, EBUSY, EEXIST, EXDEV, ENOTDIR, EISDIR, EINVAL, EFBIG, EROFS, EPIPE, EWOULDBLOCK, ELOOP, ENAMETOOLONG, ENOTEMPTY, EOPNOTSUPP, EDIED, ENXIO, ESRCH, EOVERFLOW, ENOSPC}

-- an error's number
abbrev pub number_of : Errno → ℕ
number_of EPERM = 1
number_of ENOENT = 2
number_of EIO = 3
number_of EBADF = 4
number_of ENOMEM = 5
number_of EACCES = 6
number_of EBUSY = 7
number_of EEXIST = 8
number_of EXDEV = 9
number_of ENOTDIR = 10
number_of EISDIR = 11
number_of EINVAL = 12
number_of EFBIG = 13
number_of EROFS = 14
number_of EPIPE = 15
number_of EWOULDBLOCK = 16
number_of ELOOP = 17
number_of ENAMETOOLONG = 18
number_of ENOTEMPTY = 19
number_of EOPNOTSUPP = 20
number_of EDIED = 21
number_of ENXIO = 22
number_of ESRCH = 23
number_of EOVERFLOW = 24
number_of ENOSPC = 25

-- an error's name, in bytes
abbrev pub name_of : Errno → List ℕ
name_of EPERM = codes "EPERM"
name_of ENOENT = codes "ENOENT"
name_of EIO = codes "EIO"
name_of EBADF = codes "EBADF"
name_of ENOMEM = codes "ENOMEM"
name_of EACCES = codes "EACCES"
name_of EBUSY = codes "EBUSY"
name_of EEXIST = codes "EEXIST"
name_of EXDEV = codes "EXDEV"
name_of ENOTDIR = codes "ENOTDIR"
name_of EISDIR = codes "EISDIR"
name_of EINVAL = codes "EINVAL"
name_of EFBIG = codes "EFBIG"
name_of EROFS = codes "EROFS"
name_of EPIPE = codes "EPIPE"
name_of EWOULDBLOCK = codes "EWOULDBLOCK"
name_of ELOOP = codes "ELOOP"
name_of ENAMETOOLONG = codes "ENAMETOOLONG"
name_of ENOTEMPTY = codes "ENOTEMPTY"
name_of EOPNOTSUPP = codes "EOPNOTSUPP"
name_of EDIED = codes "EDIED"
name_of ENXIO = codes "ENXIO"
name_of ESRCH = codes "ESRCH"
name_of EOVERFLOW = codes "EOVERFLOW"
name_of ENOSPC = codes "ENOSPC"
