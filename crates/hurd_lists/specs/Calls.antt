-- Which calls names and arguments make.
use Rattle.std.specs.Prelude.{ℕ, ◌+◌, List, [], ◌∷◌, Option, Some, None, if◌then◌else◌, bytes_eq, codes, drop, option_and_then, option_map, take}
use Rattle.std.specs.List.{position}
use Rattle.hurd_trans_iface.specs.Meaning.{Meaning, begin}
use Rattle.hurd_machine.specs.Calls.{Call, start_call}
use Rattle.hurd_machine.specs.declared.call.Call as machine
use Rattle.hurd_machine.specs.declared.call.Setting.{Setting}
use Rattle.hurd_machine.specs.declared.call.Call.TheVariants as call
use Rattle.hurd_machine.specs.declared.call.PlainCall.TheVariants as plain
use Rattle.hurd_lists.specs.Arguments.{bytes_of, goaway_flags_of, ids_of, long_number_of, mode_of, number_of, offset_of, open_flags_of, server_words, task_of, trans_flags_of, whence_of}
use Rattle.hurd_lists.specs.Reading.{◌>>=◌}
use Rattle.hurd_lists.specs.declared.verb.Verb.{Verb}
use Rattle.hurd_lists.specs.declared.verb.Verb.TheVariants as verb

-- a lone port
abbrev pub lone : List (List ℕ) → Option ℕ
lone (port ∷ []) = long_number_of port
lone _ = None

-- a port and a number
abbrev pub pair : List (List ℕ) → Option (ℕ × ℕ)
pair (port ∷ amount ∷ []) = do
  port ← long_number_of port
  amount ← long_number_of amount
  Some (port, amount)
pair _ = None

-- a directory, and a name in it
abbrev pub entry : List (List ℕ) → Option (ℕ × List ℕ)
entry (dir ∷ name ∷ []) = do
  dir ← long_number_of dir
  name ← bytes_of name
  Some (dir, name)
entry _ = None

-- no argument
abbrev pub port_receive : List (List ℕ) → Option Call
port_receive [] = Some (call.Plain plain.PortReceive)
port_receive _ = None

-- no argument
abbrev pub start_failed : List (List ℕ) → Option Call
start_failed [] = Some (call.Plain plain.StartFailed)
start_failed _ = None

-- `UIDS GIDS`
abbrev pub auth_makeauth : List (List ℕ) → Option Call
auth_makeauth (uids ∷ gids ∷ []) = do
  ids ← ids_of uids gids
  Some (call.Plain (plain.AuthMakeauth ids))
auth_makeauth _ = None

-- `PORT UIDS GIDS`
abbrev pub io_restrict_auth : List (List ℕ) → Option Call
io_restrict_auth (port ∷ uids ∷ gids ∷ []) = do
  port ← long_number_of port
  ids ← ids_of uids gids
  Some (call.Plain (plain.IoRestrictAuth port ids))
io_restrict_auth _ = None

-- `PORT TASK`
abbrev pub port_send : List (List ℕ) → Option Call
port_send (port ∷ to ∷ []) = do
  port ← long_number_of port
  to ← task_of to
  Some (call.Plain (plain.PortSend port to))
port_send _ = None

-- `PORT AMOUNT OFFSET`
abbrev pub io_read : List (List ℕ) → Option Call
io_read (port ∷ amount ∷ offset ∷ []) = do
  port ← long_number_of port
  amount ← long_number_of amount
  offset ← offset_of offset
  Some (call.Plain (plain.IoRead port amount offset))
io_read _ = None

-- `PORT =BYTES OFFSET`
abbrev pub io_write : List (List ℕ) → Option Call
io_write (port ∷ bytes ∷ offset ∷ []) = do
  port ← long_number_of port
  bytes ← bytes_of bytes
  offset ← offset_of offset
  Some (call.Plain (plain.IoWrite port bytes offset))
io_write _ = None

-- `PORT OFFSET WHENCE`
abbrev pub io_seek : List (List ℕ) → Option Call
io_seek (port ∷ offset ∷ whence ∷ []) = do
  port ← long_number_of port
  offset ← offset_of offset
  whence ← whence_of whence
  Some (call.Plain (plain.IoSeek port offset whence))
io_seek _ = None

-- `PORT FLAGS`
abbrev pub io_set_all_openmodes : List (List ℕ) → Option Call
io_set_all_openmodes (port ∷ flags ∷ []) = do
  port ← long_number_of port
  flags ← open_flags_of flags
  Some (call.Plain (plain.IoSetAllOpenmodes port flags))
io_set_all_openmodes _ = None

-- `PORT MODE`
abbrev pub file_chmod : List (List ℕ) → Option Call
file_chmod (port ∷ mode ∷ []) = do
  port ← long_number_of port
  mode ← mode_of mode
  Some (call.Plain (plain.FileChmod port mode))
file_chmod _ = None

-- `PORT OWNER GROUP`
abbrev pub file_chown : List (List ℕ) → Option Call
file_chown (port ∷ owner ∷ group ∷ []) = do
  port ← long_number_of port
  owner ← number_of owner
  group ← number_of group
  Some (call.Plain (plain.FileChown port owner group))
file_chown _ = None

-- `DIR =PATH FLAGS MODE`
abbrev pub dir_lookup : List (List ℕ) → Option Call
dir_lookup (dir ∷ path ∷ flags ∷ mode ∷ []) = do
  dir ← long_number_of dir
  path ← bytes_of path
  flags ← open_flags_of flags
  mode ← mode_of mode
  Some (call.Plain (plain.DirLookup dir path flags mode))
dir_lookup _ = None

-- `DIR =NAME MODE`
abbrev pub dir_mkdir : List (List ℕ) → Option Call
dir_mkdir (dir ∷ name ∷ mode ∷ []) = do
  dir ← long_number_of dir
  name ← bytes_of name
  mode ← mode_of mode
  Some (call.Plain (plain.DirMkdir dir name mode))
dir_mkdir _ = None

-- `DIR FLAGS MODE`
abbrev pub dir_mkfile : List (List ℕ) → Option Call
dir_mkfile (dir ∷ flags ∷ mode ∷ []) = do
  dir ← long_number_of dir
  flags ← open_flags_of flags
  mode ← mode_of mode
  Some (call.Plain (plain.DirMkfile dir flags mode))
dir_mkfile _ = None

-- `DIR =NAME`, an empty directory
abbrev pub dir_rmdir : List (List ℕ) → Option Call
dir_rmdir args = option_map (λ p. call.Plain (plain.DirRmdir p.0 p.1)) (entry args)

-- `DIR =NAME`, a file
abbrev pub dir_unlink : List (List ℕ) → Option Call
dir_unlink args = option_map (λ p. call.Plain (plain.DirUnlink p.0 p.1)) (entry args)

-- `DIR =NAME FILEPORT`
abbrev pub dir_link : List (List ℕ) → Option Call
dir_link (dir ∷ name ∷ file ∷ []) = do
  dir ← long_number_of dir
  name ← bytes_of name
  file ← long_number_of file
  Some (call.Plain (plain.DirLink dir name file))
dir_link _ = None

-- `DIR =NAME DIR2 =NEW`
abbrev pub dir_rename : List (List ℕ) → Option Call
dir_rename (dir ∷ name ∷ to ∷ new ∷ []) = do
  dir ← long_number_of dir
  name ← bytes_of name
  to ← long_number_of to
  new ← bytes_of new
  Some (call.Plain (plain.DirRename dir name to new))
dir_rename _ = None

-- `PORT PORT`
abbrev pub io_identity : List (List ℕ) → Option Call
io_identity args = option_map (λ p. call.Plain (plain.IoIdentity p.0 p.1)) (pair args)

-- `PORT SIZE`
abbrev pub file_set_size : List (List ℕ) → Option Call
file_set_size args = option_map (λ p. call.Plain (plain.FileSetSize p.0 p.1)) (pair args)

-- where the word `box` comes first
abbrev pub box_place : List (List ℕ) → Option ℕ
box_place words = position (λ w. bytes_eq w (codes "box")) words

-- the words before `box`, or all
abbrev pub words_until : List (List ℕ) → Option ℕ → List (List ℕ)
words_until words None = words
words_until words (Some place) = take place words

abbrev pub before_box : List (List ℕ) → List (List ℕ)
before_box words = words_until words (box_place words)

-- the words after `box`, where it stands
abbrev pub behind_box : List (List ℕ) → Option (List (List ℕ))
behind_box words = option_map (λ place. drop (place + 1) words) (box_place words)

-- what is asked for where a translator is set
abbrev pub setting_of : List ℕ → List ℕ → List ℕ → Option Setting
setting_of passive active goaway = do
  passive ← trans_flags_of passive
  active ← trans_flags_of active
  goaway ← goaway_flags_of goaway
  Some (record { passive = passive; active = active; goaway = goaway })

-- `PORT PASSIVE ACTIVE GOAWAY [=WORD ..] [box =WORD ..]`, without the server of the words after `box`
abbrev pub file_set_translator : List (List ℕ) → Option Call
file_set_translator (port ∷ passive ∷ active ∷ goaway ∷ words) = do
  port ← long_number_of port
  setting ← setting_of passive active goaway
  words ← server_words (before_box words)
  Some (call.FileSetTranslator port setting words None)
file_set_translator _ = None

-- `box =WORD ..`, without the server of the words after `box`: so far a start that failed
abbrev pub fsys_startup : List (List ℕ) → Option Call
fsys_startup [] = None
fsys_startup (word ∷ words) = if bytes_eq word (codes "box") then Some (call.Plain plain.StartFailed) else None

-- `CONTROL DIR FLAGS`
abbrev pub fsys_getroot : List (List ℕ) → Option Call
fsys_getroot (control ∷ dir ∷ flags ∷ []) = do
  control ← long_number_of control
  dir ← long_number_of dir
  flags ← open_flags_of flags
  Some (call.Plain (plain.FsysGetroot control dir flags))
fsys_getroot _ = None

-- `CONTROL GOAWAY`
abbrev pub fsys_goaway : List (List ℕ) → Option Call
fsys_goaway (control ∷ flags ∷ []) = do
  control ← long_number_of control
  flags ← goaway_flags_of flags
  Some (call.Plain (plain.FsysGoaway control flags))
fsys_goaway _ = None

-- `CONTROL [=WORD ..]`
abbrev pub fsys_set_options : List (List ℕ) → Option Call
fsys_set_options (control ∷ words) = do
  control ← long_number_of control
  words ← server_words words
  Some (call.Plain (plain.FsysSetOptions control words))
fsys_set_options _ = None

-- the call of a name with these arguments, without a server that it may bring
abbrev pub call_of : Verb → List (List ℕ) → Option Call
call_of verb.PortDeallocate args = option_map (λ port. call.Plain (plain.PortDeallocate port)) (lone args)
call_of verb.PortSend args = port_send args
call_of verb.PortReceive args = port_receive args
call_of verb.AuthMakeauth args = auth_makeauth args
call_of verb.IoRead args = io_read args
call_of verb.IoWrite args = io_write args
call_of verb.IoSeek args = io_seek args
call_of verb.IoStat args = option_map (λ port. call.Plain (plain.IoStat port)) (lone args)
call_of verb.IoReadable args = option_map (λ port. call.Plain (plain.IoReadable port)) (lone args)
call_of verb.IoGetOpenmodes args = option_map (λ port. call.Plain (plain.IoGetOpenmodes port)) (lone args)
call_of verb.IoSetAllOpenmodes args = io_set_all_openmodes args
call_of verb.IoDuplicate args = option_map (λ port. call.Plain (plain.IoDuplicate port)) (lone args)
call_of verb.IoReauthenticate args = option_map (λ port. call.Plain (plain.IoReauthenticate port)) (lone args)
call_of verb.IoRestrictAuth args = io_restrict_auth args
call_of verb.IoIdentity args = io_identity args
call_of verb.FileChmod args = file_chmod args
call_of verb.FileChown args = file_chown args
call_of verb.FileSetSize args = file_set_size args
call_of verb.FileCheckAccess args = option_map (λ port. call.Plain (plain.FileCheckAccess port)) (lone args)
call_of verb.FileSetTranslator args = file_set_translator args
call_of verb.FileGetTranslator args = option_map (λ port. call.Plain (plain.FileGetTranslator port)) (lone args)
call_of verb.FileGetTranslatorCntl args = option_map (λ port. call.Plain (plain.FileGetTranslatorCntl port)) (lone args)
call_of verb.FileGetcontrol args = option_map (λ port. call.Plain (plain.FileGetcontrol port)) (lone args)
call_of verb.FsysStartup args = fsys_startup args
call_of verb.StartFailed args = start_failed args
call_of verb.FsysGetroot args = fsys_getroot args
call_of verb.FsysGoaway args = fsys_goaway args
call_of verb.FsysGetOptions args = option_map (λ control. call.Plain (plain.FsysGetOptions control)) (lone args)
call_of verb.FsysSetOptions args = fsys_set_options args
call_of verb.DirLookup args = dir_lookup args
call_of verb.DirReaddir args = option_map (λ port. call.Plain (plain.DirReaddir port)) (lone args)
call_of verb.DirMkdir args = dir_mkdir args
call_of verb.DirMkfile args = dir_mkfile args
call_of verb.DirRmdir args = dir_rmdir args
call_of verb.DirUnlink args = dir_unlink args
call_of verb.DirLink args = dir_link args
call_of verb.DirRename args = dir_rename args

-- the server that these words make, if there are any
abbrev pub begun : Option (List (List ℕ)) → Option Meaning
begun words = option_and_then begin words

-- the server that words after `box` make; they are bad where no kind takes them
abbrev pub brought : Option (List (List ℕ)) → Option (Option Meaning)
brought None = Some None
brought (Some words) = option_map Some (option_and_then begin (server_words words))

-- the server that a call of a name with these arguments brings, if it brings one
abbrev pub server_of : Verb → List (List ℕ) → Option (Option Meaning)
server_of verb.FileSetTranslator args = brought (behind_box args)
server_of verb.FsysStartup args = brought (behind_box args)
server_of _ args = Some None

-- a call with this server in place of the one that it brings: a start without one is a start that failed
abbrev pub with_server : {S : Type 0} → Option S → machine.Call S → machine.Call S
with_server s (call.FileSetTranslator port setting words server) = call.FileSetTranslator port setting words s
with_server s (call.FsysStartup server) = start_call s
with_server s (call.Plain plain.StartFailed) = start_call s
with_server s c = c
