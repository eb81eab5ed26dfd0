-- What calls are named.
use Rattle.std.specs.Prelude.{ℕ, List, Option, Some, None, if◌then◌else◌, bytes_eq, codes}
use Rattle.std.specs.Option.{option_or}
use Rattle.hurd_lists.specs.declared.verb.Verb.{Verb}
use Rattle.hurd_lists.specs.declared.verb.Verb.TheVariants.{PortDeallocate, PortSend, PortReceive, AuthMakeauth, IoRead, IoWrite, IoSeek, IoStat, IoReadable, IoGetOpenmodes, IoSetAllOpenmodes, IoDuplicate, IoReauthenticate, IoRestrictAuth, IoIdentity, FileChmod, FileChown, FileSetSize, FileCheckAccess, FileSetTranslator, FileGetTranslator, FileGetTranslatorCntl, FileGetcontrol, FsysStartup, StartFailed, FsysGetroot, FsysGoaway, FsysGetOptions, FsysSetOptions, DirLookup, DirReaddir, DirMkdir, DirMkfile, DirRmdir, DirUnlink, DirLink, DirRename}

-- a call on a port as such, or on ids
abbrev pub port_verb : List ℕ → Option Verb
port_verb name =
    if bytes_eq name (codes "port_deallocate") then Some PortDeallocate
    else if bytes_eq name (codes "port_send") then Some PortSend
    else if bytes_eq name (codes "port_receive") then Some PortReceive
    else if bytes_eq name (codes "auth_makeauth") then Some AuthMakeauth
    else None

-- a call on what a port has open
abbrev pub io_verb : List ℕ → Option Verb
io_verb name =
    if bytes_eq name (codes "io_read") then Some IoRead
    else if bytes_eq name (codes "io_write") then Some IoWrite
    else if bytes_eq name (codes "io_seek") then Some IoSeek
    else if bytes_eq name (codes "io_stat") then Some IoStat
    else if bytes_eq name (codes "io_readable") then Some IoReadable
    else if bytes_eq name (codes "io_get_openmodes") then Some IoGetOpenmodes
    else if bytes_eq name (codes "io_set_all_openmodes") then Some IoSetAllOpenmodes
    else None

-- a call that makes a port like another, or compares two
abbrev pub share_verb : List ℕ → Option Verb
share_verb name =
    if bytes_eq name (codes "io_duplicate") then Some IoDuplicate
    else if bytes_eq name (codes "io_reauthenticate") then Some IoReauthenticate
    else if bytes_eq name (codes "io_restrict_auth") then Some IoRestrictAuth
    else if bytes_eq name (codes "io_identity") then Some IoIdentity
    else None

-- a call on the attributes of a node
abbrev pub file_verb : List ℕ → Option Verb
file_verb name =
    if bytes_eq name (codes "file_chmod") then Some FileChmod
    else if bytes_eq name (codes "file_chown") then Some FileChown
    else if bytes_eq name (codes "file_set_size") then Some FileSetSize
    else if bytes_eq name (codes "file_check_access") then Some FileCheckAccess
    else None

-- a call on the translators of a node
abbrev pub translator_verb : List ℕ → Option Verb
translator_verb name =
    if bytes_eq name (codes "file_set_translator") then Some FileSetTranslator
    else if bytes_eq name (codes "file_get_translator") then Some FileGetTranslator
    else if bytes_eq name (codes "file_get_translator_cntl") then Some FileGetTranslatorCntl
    else if bytes_eq name (codes "file_getcontrol") then Some FileGetcontrol
    else None

-- a call on a server, or on the start of one
abbrev pub fsys_verb : List ℕ → Option Verb
fsys_verb name =
    if bytes_eq name (codes "fsys_startup") then Some FsysStartup
    else if bytes_eq name (codes "start_failed") then Some StartFailed
    else if bytes_eq name (codes "fsys_getroot") then Some FsysGetroot
    else if bytes_eq name (codes "fsys_goaway") then Some FsysGoaway
    else if bytes_eq name (codes "fsys_get_options") then Some FsysGetOptions
    else if bytes_eq name (codes "fsys_set_options") then Some FsysSetOptions
    else None

-- a call on entries of a directory
abbrev pub dir_verb : List ℕ → Option Verb
dir_verb name =
    if bytes_eq name (codes "dir_lookup") then Some DirLookup
    else if bytes_eq name (codes "dir_readdir") then Some DirReaddir
    else if bytes_eq name (codes "dir_mkdir") then Some DirMkdir
    else if bytes_eq name (codes "dir_mkfile") then Some DirMkfile
    else if bytes_eq name (codes "dir_rmdir") then Some DirRmdir
    else if bytes_eq name (codes "dir_unlink") then Some DirUnlink
    else if bytes_eq name (codes "dir_link") then Some DirLink
    else if bytes_eq name (codes "dir_rename") then Some DirRename
    else None

-- the call of a name
abbrev pub verb_of : List ℕ → Option Verb
verb_of name =
    option_or (option_or (option_or (option_or (option_or (option_or (port_verb name) (io_verb name)) (share_verb name)) (file_verb name)) (translator_verb name)) (fsys_verb name)) (dir_verb name)
