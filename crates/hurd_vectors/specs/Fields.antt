-- The fields of a line of a list, by its words.
use Rattle.std.specs.Prelude.{ℕ, List, [], ◌∷◌, ◌++◌, Option, Some, None, codes, drop, get_or}
use Rattle.hurd_lists.specs.Calls.{before_box, behind_box}
use Rattle.hurd_lists.specs.Lists.{verb_named}
use Rattle.hurd_lists.specs.declared.verb.Verb.{Verb}
use Rattle.hurd_lists.specs.declared.verb.Verb.TheVariants as verb
use Rattle.hurd_vectors.specs.Json.{names, number, numbers, quoted, texts}
use Rattle.hurd_vectors.specs.declared.field.Field.{Field}
use Rattle.hurd_vectors.specs.declared.field.Field.TheVariants.{Task, Call, Port, To, Uids, Gids, Dir, Path, Flags, Mode, Amount, Offset, Bytes, Whence, Other, Size, Owner, Group, Passive, Active, Goaway, Words, Control, Name, File, New}
use Rattle.hurd_vectors.specs.declared.field.Sort.{Sort}
use Rattle.hurd_vectors.specs.declared.field.Sort.TheVariants as sort

-- the fields of a call's arguments, in their order
abbrev pub fields : Verb → List Field
fields verb.PortDeallocate = Port ∷ []
fields verb.PortSend = Port ∷ To ∷ []
fields verb.PortReceive = []
fields verb.AuthMakeauth = Uids ∷ Gids ∷ []
fields verb.IoRead = Port ∷ Amount ∷ Offset ∷ []
fields verb.IoWrite = Port ∷ Bytes ∷ Offset ∷ []
fields verb.IoSeek = Port ∷ Offset ∷ Whence ∷ []
fields verb.IoStat = Port ∷ []
fields verb.IoReadable = Port ∷ []
fields verb.IoGetOpenmodes = Port ∷ []
fields verb.IoSetAllOpenmodes = Port ∷ Flags ∷ []
fields verb.IoDuplicate = Port ∷ []
fields verb.IoReauthenticate = Port ∷ []
fields verb.IoRestrictAuth = Port ∷ Uids ∷ Gids ∷ []
fields verb.IoIdentity = Port ∷ Other ∷ []
fields verb.FileChmod = Port ∷ Mode ∷ []
fields verb.FileChown = Port ∷ Owner ∷ Group ∷ []
fields verb.FileSetSize = Port ∷ Size ∷ []
fields verb.FileCheckAccess = Port ∷ []
fields verb.FileSetTranslator = Port ∷ Passive ∷ Active ∷ Goaway ∷ Words ∷ []
fields verb.FileGetTranslator = Port ∷ []
fields verb.FileGetTranslatorCntl = Port ∷ []
fields verb.FileGetcontrol = Port ∷ []
fields verb.FsysStartup = []
fields verb.StartFailed = []
fields verb.FsysGetroot = Control ∷ Dir ∷ Flags ∷ []
fields verb.FsysGoaway = Control ∷ Flags ∷ []
fields verb.FsysGetOptions = Control ∷ []
fields verb.FsysSetOptions = Control ∷ Words ∷ []
fields verb.DirLookup = Dir ∷ Path ∷ Flags ∷ Mode ∷ []
fields verb.DirReaddir = Port ∷ []
fields verb.DirMkdir = Dir ∷ Name ∷ Mode ∷ []
fields verb.DirMkfile = Dir ∷ Flags ∷ Mode ∷ []
fields verb.DirRmdir = Dir ∷ Name ∷ []
fields verb.DirUnlink = Dir ∷ Name ∷ []
fields verb.DirLink = Dir ∷ Name ∷ File ∷ []
fields verb.DirRename = Dir ∷ Name ∷ To ∷ New ∷ []

-- the same of a call that is named
abbrev pub fields_of : Option Verb → List Field
fields_of None = []
fields_of (Some v) = fields v

-- the name of a field
abbrev pub field_name : Field → List ℕ
field_name Task = codes "task"
field_name Call = codes "call"
field_name Port = codes "port"
field_name To = codes "to"
field_name Uids = codes "uids"
field_name Gids = codes "gids"
field_name Dir = codes "dir"
field_name Path = codes "path"
field_name Flags = codes "flags"
field_name Mode = codes "mode"
field_name Amount = codes "amount"
field_name Offset = codes "offset"
field_name Bytes = codes "bytes"
field_name Whence = codes "whence"
field_name Other = codes "other"
field_name Size = codes "size"
field_name Owner = codes "owner"
field_name Group = codes "group"
field_name Passive = codes "passive"
field_name Active = codes "active"
field_name Goaway = codes "goaway"
field_name Words = codes "words"
field_name Control = codes "control"
field_name Name = codes "name"
field_name File = codes "file"
field_name New = codes "new"

-- what sort of value a field has
abbrev pub sort_of : Field → Sort
sort_of Call = sort.Plain
sort_of Mode = sort.Plain
sort_of Whence = sort.Plain
sort_of Path = sort.Bytes
sort_of Bytes = sort.Bytes
sort_of Name = sort.Bytes
sort_of New = sort.Bytes
sort_of Flags = sort.Names
sort_of Passive = sort.Names
sort_of Active = sort.Names
sort_of Goaway = sort.Names
sort_of Uids = sort.Numbers
sort_of Gids = sort.Numbers
sort_of Words = sort.Texts
sort_of _ = sort.Number

-- a word by its place, counted from 0; nothing where there is none
abbrev pub word_at : List (List ℕ) → ℕ → List ℕ
word_at words place = get_or words place []

-- the value of a sort that words begin with: a word, or all texts before `box`. Bytes and texts come after `=`
abbrev pub value : Sort → List (List ℕ) → List ℕ
value sort.Number words = number (word_at words 0)
value sort.Plain words = quoted (word_at words 0)
value sort.Bytes words = quoted (drop 1 (word_at words 0))
value sort.Names words = names (word_at words 0)
value sort.Numbers words = numbers (word_at words 0)
value sort.Texts words = texts 1 (before_box words)

-- the words after a value: none is after texts but those that begin with `box`, which is found again
abbrev pub words_behind : Sort → List (List ℕ) → List (List ℕ)
words_behind sort.Texts words = words
words_behind _ words = drop 1 words

-- a field that words begin with, before the next
abbrev pub field_text : Field → List (List ℕ) → List ℕ
field_text field words = 34 ∷ field_name field ++ (codes "\": " ++ (value (sort_of field) words ++ codes ", "))

-- the words of a server that a call brings, as a field before the next
abbrev pub server_text : Option (List (List ℕ)) → List ℕ
server_text None = []
server_text (Some words) = codes "\"server\": " ++ (texts 1 words ++ codes ", ")

-- fields with the words that are their values, and after them the words of a server
unfoldable pub told_fields : List Field → List (List ℕ) → List ℕ
told_fields [] words = server_text (behind_box words)
told_fields (field ∷ more) words = field_text field words ++ told_fields more (words_behind (sort_of field) words)

-- all fields of a call's line of these words, before its reply: the second word is its name
abbrev pub call_fields : List (List ℕ) → List ℕ
call_fields words = told_fields (Task ∷ Call ∷ fields_of (verb_named (word_at words 1))) words
