-- Which call numbers and bytes make.
use Rattle.std.specs.Prelude.{ℕ, ◌==◌, List, [], ◌∷◌, Option, Some, None, if◌then◌else◌, drop, length, nat_le, option_and_then, option_map, take}
use Rattle.hurd_creds.specs.declared.name.TaskId.{TaskId}
use Rattle.hurd_trans_iface.specs.Meaning.{Meaning, begin}
use Rattle.hurd_machine.specs.Calls.{Call}
use Rattle.hurd_machine.specs.declared.call.Setting.{Setting}
use Rattle.hurd_machine.specs.declared.call.Call.TheVariants as call
use Rattle.hurd_machine.specs.declared.call.PlainCall.TheVariants as plain
use Rattle.hurd_lists.specs.Arguments.{within_limits}
use Rattle.hurd_lists.specs.Calls.{with_server}
use Rattle.hurd_lists.specs.Lists.{Listed}
use Rattle.hurd_lists.specs.Reading.{◌>>=◌}
use Rattle.hurd_lists.specs.declared.verb.Verb.{Verb}
use Rattle.hurd_lists.specs.declared.verb.Verb.TheVariants as verb
use Rattle.hurd_numbers.specs.Flags.{goaway_flags_at, mode_at, open_flags_at, trans_flags_at, whence_at}
use Rattle.hurd_numbers.specs.Words.{after_first, first_of, ids_at, words_in}
use Rattle.hurd_numbers.specs.declared.calls.Numbers.{Numbers}

-- the call of a number, if there is one
abbrev pub verb_at : ℕ → Option Verb
verb_at n =
    if n == 1 then Some verb.PortDeallocate
    else if n == 2 then Some verb.PortSend
    else if n == 3 then Some verb.PortReceive
    else if n == 4 then Some verb.AuthMakeauth
    else if n == 5 then Some verb.IoRead
    else if n == 6 then Some verb.IoWrite
    else if n == 7 then Some verb.IoSeek
    else if n == 8 then Some verb.IoStat
    else if n == 9 then Some verb.IoReadable
    else if n == 10 then Some verb.IoGetOpenmodes
    else if n == 11 then Some verb.IoSetAllOpenmodes
    else if n == 12 then Some verb.IoDuplicate
    else if n == 13 then Some verb.IoReauthenticate
    else if n == 14 then Some verb.IoRestrictAuth
    else if n == 15 then Some verb.IoIdentity
    else if n == 16 then Some verb.FileChmod
    else if n == 17 then Some verb.FileChown
    else if n == 18 then Some verb.FileSetSize
    else if n == 19 then Some verb.FileCheckAccess
    else if n == 20 then Some verb.FileSetTranslator
    else if n == 21 then Some verb.FileGetTranslator
    else if n == 22 then Some verb.FileGetTranslatorCntl
    else if n == 23 then Some verb.FileGetcontrol
    else if n == 24 then Some verb.FsysStartup
    else if n == 25 then Some verb.StartFailed
    else if n == 26 then Some verb.FsysGetroot
    else if n == 27 then Some verb.FsysGoaway
    else if n == 28 then Some verb.FsysGetOptions
    else if n == 29 then Some verb.FsysSetOptions
    else if n == 30 then Some verb.DirLookup
    else if n == 31 then Some verb.DirReaddir
    else if n == 32 then Some verb.DirMkdir
    else if n == 33 then Some verb.DirMkfile
    else if n == 34 then Some verb.DirRmdir
    else if n == 35 then Some verb.DirUnlink
    else if n == 36 then Some verb.DirLink
    else if n == 37 then Some verb.DirRename
    else None

-- the words of the passive translator: all, or the first, if a server is brought too
abbrev pub passive_words : Numbers → List (List ℕ) → Option (List (List ℕ))
passive_words n words = if n.brings == 0 then Some words else first_of n.amount words

-- what is asked for where a translator is set
abbrev pub setting_at : Numbers → Option Setting
setting_at n = do
  passive ← trans_flags_at n.flags
  active ← trans_flags_at n.active
  goaway ← goaway_flags_at n.goaway
  Some (record { passive = passive; active = active; goaway = goaway })

-- a translator is set, without the server that is brought
abbrev pub set_translator : Numbers → List ℕ → Option Call
set_translator n bytes = do
  setting ← setting_at n
  words ← words_in bytes
  passive ← passive_words n words
  words ← within_limits passive
  Some (call.FileSetTranslator n.port setting words None)

-- the bytes are the name of an entry, and after so many bytes its new name
abbrev pub rename : Numbers → List ℕ → Option Call
rename n bytes =
    if nat_le n.amount (length bytes) then Some (call.Plain (plain.DirRename n.port (take n.amount bytes) n.other (drop n.amount bytes))) else None

-- the call of numbers and bytes, without a server that it may bring
abbrev pub call_at : Verb → Numbers → List ℕ → Option Call
call_at verb.PortDeallocate n bytes = Some (call.Plain (plain.PortDeallocate n.port))
call_at verb.PortSend n bytes = Some (call.Plain (plain.PortSend n.port (record { 0 = n.to })))
call_at verb.PortReceive n bytes = Some (call.Plain plain.PortReceive)
call_at verb.AuthMakeauth n bytes = option_map (λ ids. call.Plain (plain.AuthMakeauth ids)) (ids_at bytes)
call_at verb.IoRead n bytes = Some (call.Plain (plain.IoRead n.port n.amount n.offset))
call_at verb.IoWrite n bytes = Some (call.Plain (plain.IoWrite n.port bytes n.offset))
call_at verb.IoSeek n bytes = option_map (λ whence. call.Plain (plain.IoSeek n.port n.offset whence)) (whence_at n.flags)
call_at verb.IoStat n bytes = Some (call.Plain (plain.IoStat n.port))
call_at verb.IoReadable n bytes = Some (call.Plain (plain.IoReadable n.port))
call_at verb.IoGetOpenmodes n bytes = Some (call.Plain (plain.IoGetOpenmodes n.port))
call_at verb.IoSetAllOpenmodes n bytes = option_map (λ flags. call.Plain (plain.IoSetAllOpenmodes n.port flags)) (open_flags_at n.flags)
call_at verb.IoDuplicate n bytes = Some (call.Plain (plain.IoDuplicate n.port))
call_at verb.IoReauthenticate n bytes = Some (call.Plain (plain.IoReauthenticate n.port))
call_at verb.IoRestrictAuth n bytes = option_map (λ ids. call.Plain (plain.IoRestrictAuth n.port ids)) (ids_at bytes)
call_at verb.IoIdentity n bytes = Some (call.Plain (plain.IoIdentity n.port n.other))
call_at verb.FileChmod n bytes = Some (call.Plain (plain.FileChmod n.port (mode_at n.mode)))
call_at verb.FileChown n bytes = Some (call.Plain (plain.FileChown n.port n.owner n.group))
call_at verb.FileSetSize n bytes = Some (call.Plain (plain.FileSetSize n.port n.amount))
call_at verb.FileCheckAccess n bytes = Some (call.Plain (plain.FileCheckAccess n.port))
call_at verb.FileSetTranslator n bytes = set_translator n bytes
call_at verb.FileGetTranslator n bytes = Some (call.Plain (plain.FileGetTranslator n.port))
call_at verb.FileGetTranslatorCntl n bytes = Some (call.Plain (plain.FileGetTranslatorCntl n.port))
call_at verb.FileGetcontrol n bytes = Some (call.Plain (plain.FileGetcontrol n.port))
call_at verb.FsysStartup n bytes = Some (call.Plain plain.StartFailed)
call_at verb.StartFailed n bytes = Some (call.Plain plain.StartFailed)
call_at verb.FsysGetroot n bytes = option_map (λ flags. call.Plain (plain.FsysGetroot n.port n.other flags)) (open_flags_at n.flags)
call_at verb.FsysGoaway n bytes = option_map (λ flags. call.Plain (plain.FsysGoaway n.port flags)) (goaway_flags_at n.goaway)
call_at verb.FsysGetOptions n bytes = Some (call.Plain (plain.FsysGetOptions n.port))
call_at verb.FsysSetOptions n bytes = option_map (λ words. call.Plain (plain.FsysSetOptions n.port words)) (option_and_then within_limits (words_in bytes))
call_at verb.DirLookup n bytes = option_map (λ flags. call.Plain (plain.DirLookup n.port bytes flags (mode_at n.mode))) (open_flags_at n.flags)
call_at verb.DirReaddir n bytes = Some (call.Plain (plain.DirReaddir n.port))
call_at verb.DirMkdir n bytes = Some (call.Plain (plain.DirMkdir n.port bytes (mode_at n.mode)))
call_at verb.DirMkfile n bytes = option_map (λ flags. call.Plain (plain.DirMkfile n.port flags (mode_at n.mode))) (open_flags_at n.flags)
call_at verb.DirRmdir n bytes = Some (call.Plain (plain.DirRmdir n.port bytes))
call_at verb.DirUnlink n bytes = Some (call.Plain (plain.DirUnlink n.port bytes))
call_at verb.DirLink n bytes = Some (call.Plain (plain.DirLink n.port bytes n.other))
call_at verb.DirRename n bytes = rename n bytes

-- the server that words make: they are bad if no kind takes them
abbrev pub begun_by : Option (List (List ℕ)) → Option (Option Meaning)
begun_by words = option_map Some (option_and_then begin (option_and_then within_limits words))

-- the server that a translator is set with: that of the words after the first, if one is brought
abbrev pub box_at : Numbers → List ℕ → Option (Option Meaning)
box_at n bytes = if n.brings == 0 then Some None else begun_by (option_and_then (after_first n.amount) (words_in bytes))

-- the server that a call brings, if it brings one
abbrev pub server_at : Verb → Numbers → List ℕ → Option (Option Meaning)
server_at verb.FileSetTranslator n bytes = box_at n bytes
server_at verb.FsysStartup n bytes = begun_by (words_in bytes)
server_at _ n bytes = Some None

-- the call of numbers and bytes, with the task that makes it; it has no line
abbrev pub numbered : Numbers → List ℕ → Option Listed
numbered n bytes = do
  verb ← verb_at n.call
  call ← call_at verb n bytes
  server ← server_at verb n bytes
  Some (record { task = record { 0 = n.task }; call = with_server server call; line = [] })
