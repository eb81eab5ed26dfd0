-- What each command does.
use Rattle.std.specs.Prelude.{ℕ, ◌+◌, ℤ, negsuc, zero, suc, Bool, true, false, not, ◌&&◌, ◌||◌, List, [], ◌∷◌, ◌++◌, bytes_eq, codes, filter, if◌then◌else◌, Option, Some, None, Result, Ok, Err}
use Rattle.std.specs.Int.RustNames.{bit_or}
use Rattle.hurd_creds.specs.declared.errno.Errno.{Errno}
use Rattle.hurd_creds.specs.declared.errno.Errno.TheVariants.{ENOENT}
use Rattle.hurd_creds.specs.declared.mode.Mode.{Mode}
use Rattle.hurd_creds.specs.declared.open_flags.OpenFlags.{OpenFlags}
use Rattle.hurd_creds.specs.Bits.{READ, WRITE, CREATE, NOTRANS, NOLINK, DIRECTORY}
use Rattle.hurd_creds.specs.declared.trans_flags.TransFlags.{TransFlags}
use Rattle.hurd_creds.specs.declared.trans_flags.GoawayFlags.{GoawayFlags}
use Rattle.hurd_creds.specs.TransBits as trans
use Rattle.hurd_creds.specs.Limits.{most_read}
use Rattle.hurd_trans_iface.specs.Meaning.{Meaning}
use Rattle.hurd_trans_iface.specs.Nodes.{has_words}
use Rattle.hurd_machine.specs.declared.call.Call.TheVariants.{Plain, FileSetTranslator}
use Rattle.hurd_machine.specs.declared.call.PlainCall.TheVariants.{IoRead, IoWrite, IoStat, FileSetSize, FileChmod, FileChown, FileGetTranslator, FileGetcontrol, FsysGetOptions, FsysSetOptions, DirReaddir, DirMkdir, DirRmdir, DirUnlink, DirLink, DirRename}
use Rattle.hurd_machine.specs.declared.call.Setting.{Setting}
use Rattle.hurd_script.specs.declared.command.Action.{Action}
use Rattle.hurd_script.specs.declared.command.Action.TheVariants.{Cat, Ls, Stat, Put, Mkdir, Rm, Rmdir, Ln, Mv, Chmod, Chown, Showtrans, Fsysopts, Settrans, Usage}
use Rattle.hurd_script.specs.declared.places.EntryPlace.{EntryPlace}
use Rattle.hurd_script.specs.declared.settrans.SettransFlags.{SettransFlags}
use Rattle.hurd_shell.specs.declared.commands.Printed.{Printed}
use Rattle.hurd_client.specs.Looking.{open_node}
use Rattle.hurd_client.specs.declared.opening.OpenHow.{OpenHow}
use Rattle.hurd_client.specs.Programs.{Prog, gives, asks, tried, bind, made, closing, data_of, names_of, port_of, stat_of, words_of, done_of, set_of}
use Rattle.hurd_words.specs.Printing.{stat_line, words_line}
use Rattle.hurd_words.specs.declared.answers.Content.TheVariants.{Text, Names}
use Rattle.hurd_words.specs.declared.answers.Ending.TheVariants as ending

-- the mode of directories that a command makes: 0o755
abbrev pub directory_mode : Mode
directory_mode = record { 0 = 493 }

-- the offset that stands for the cursor: -1
abbrev pub at_cursor : ℤ
at_cursor = negsuc 0

-- how many reads are made of a file at most
abbrev pub most_reads : ℕ
most_reads = 16

-- the port of a task's working directory
abbrev pub directory_port : ℕ
directory_port = 2

-- how a command opens a node: what it makes has mode 0o644
abbrev pub how : OpenFlags → OpenHow
how flags = record { flags = flags; mode = record { 0 = 420 } }

-- what a path leads to is opened, from the working directory if it doesn't begin with a slash
abbrev pub open_path : List ℕ → OpenFlags → Prog ℕ
open_path path flags = open_node directory_port path (how flags)

-- a node is opened, worked on, and given up
abbrev pub with_open : List ℕ → OpenFlags → (ℕ → Prog Printed) → Prog Printed
with_open path flags k = bind (open_path path flags) (λ p. closing p (k p))

-- this text is put out, and the command is done
abbrev pub prints : List ℕ → Printed
prints output = record { output = Text output; ending = ending.Done }

-- these names are, each kept apart
abbrev pub lists : List (List ℕ) → Printed
lists names = record { output = Names names; ending = ending.Done }

-- this text is put out, and then a call is refused
abbrev pub refuses : List ℕ → Errno → Printed
refuses output e = record { output = Text output; ending = ending.Refused e }

-- the words of a command are not those that it has
abbrev pub misused : Printed
misused = record { output = Text []; ending = ending.Usage }

-- a change is made, and nothing is printed
abbrev pub silent : Prog (Unit {0}) → Prog Printed
silent p = bind p (λ u. gives (Ok (prints [])))

-- what a read gave: a refusal, the end, or bytes after which there may be more
abbrev pub cat_read : List ℕ → (List ℕ → Prog Printed) → Result (List ℕ) Errno → Prog Printed
cat_read output more (Err e) = gives (Ok (refuses output e))
cat_read output more (Ok []) = gives (Ok (prints output))
cat_read output more (Ok (b ∷ bs)) = more (output ++ b ∷ bs)

-- with so many reads left, a file's bytes from the cursor on, after those that were read
unfoldable pub cat_from : ℕ → ℕ → List ℕ → Prog Printed
cat_from zero p output = gives (Ok (prints output))
cat_from (suc reads) p output = tried (made (Plain (IoRead p most_read at_cursor)) data_of) (cat_read output (cat_from reads p))

-- cat: reads until one gives no bytes, one is refused, or no more may be made
abbrev pub cat : ℕ → Prog Printed
cat p = cat_from most_reads p []

-- neither `.` nor `..`
abbrev pub is_shown : List ℕ → Bool
is_shown name = not (bytes_eq name (codes ".") || bytes_eq name (codes ".."))

-- ls: the names in a directory but `.` and `..`
abbrev pub ls : ℕ → Prog Printed
ls p = bind (made (Plain (DirReaddir p)) names_of) (λ names. gives (Ok (lists (filter is_shown names))))

-- put: the file is cut to nothing, and the text written
abbrev pub put : List ℕ → ℕ → Prog Printed
put text p = bind (made (Plain (FileSetSize p 0)) done_of) (λ u. bind (made (Plain (IoWrite p text at_cursor)) done_of) (λ v. gives (Ok (prints []))))

-- ls -d: what is told of the node itself
abbrev pub stat : ℕ → Prog Printed
stat p = bind (made (Plain (IoStat p)) stat_of) (λ s. gives (Ok (prints (stat_line s))))

-- chmod: the node's mode is set
abbrev pub chmod : Mode → ℕ → Prog Printed
chmod mode p = bind (made (Plain (FileChmod p mode)) done_of) (λ u. gives (Ok (prints [])))

-- chown: the node's owner and group are set
abbrev pub chown : ℕ → ℕ → ℕ → Prog Printed
chown owner group p = bind (made (Plain (FileChown p owner group)) done_of) (λ u. gives (Ok (prints [])))

-- showtrans: the words of the passive translator are shown
abbrev pub showtrans : ℕ → Prog Printed
showtrans p = bind (made (Plain (FileGetTranslator p)) words_of) (λ words. gives (Ok (prints (words_line words))))

-- with no words, a server's options are shown; else these are given to it
abbrev pub options : List (List ℕ) → ℕ → Prog Printed
options [] c = bind (made (Plain (FsysGetOptions c)) words_of) (λ shown. gives (Ok (prints (words_line shown))))
options (word ∷ words) c = silent (made (Plain (FsysSetOptions c (word ∷ words))) done_of)

-- fsysopts: the control port of the node's server is got, worked on, and given up
abbrev pub fsysopts : List (List ℕ) → ℕ → Prog Printed
fsysopts words p = bind (made (Plain (FileGetcontrol p)) port_of) (λ c. closing c (options words c))

-- a half of a translator that is set: only where none is there, or whatever is; ORPHAN lets an old server live on
abbrev pub set_half : Bool → Bool → TransFlags
set_half exclusive orphan = record { 0 = trans.SET + (if exclusive then trans.EXCL else 0) + (if orphan then trans.ORPHAN else 0) }

-- a half that is left alone
abbrev pub no_half : TransFlags
no_half = record { 0 = 0 }

-- the passive half: with `-p`, or without `-a`
abbrev pub passive_half : SettransFlags → TransFlags
passive_half f = if f.passive || not f.active then set_half f.exclusive false else no_half

-- the active half: with `-a` another server, with `-g` or `-o` none, with `-k` it stays; else there may be none
abbrev pub active_half : SettransFlags → TransFlags
active_half f =
    if f.active then set_half f.exclusive f.orphan
    else if f.goaway || f.orphan then set_half false f.orphan
    else if f.keep then no_half
    else set_half true false

-- how an old server goes: with `-f` also under its users
abbrev pub old_goes : SettransFlags → GoawayFlags
old_goes f = record { 0 = if f.force then trans.FORCE else 0 }

-- what settrans asks for
abbrev pub setting_of : SettransFlags → Setting
setting_of f = record { passive = passive_half f; active = active_half f; goaway = old_goes f }

-- setting a translator
abbrev pub set : ℕ → Setting → List (List ℕ) → Option Meaning → Prog (Unit {0})
set p setting words server = made (FileSetTranslator p setting words server) set_of

-- with the server that was asked for; without one nothing is set
abbrev pub set_with : ℕ → Setting → List (List ℕ) → Option Meaning → Prog (Unit {0})
set_with p setting words (Some server) = set p setting words (Some server)
set_with p setting words None = gives (Err ENOENT)

-- setting a translator with a server of these words, which is asked for, or with none
abbrev pub setting_with : Bool → ℕ → Setting → List (List ℕ) → Prog (Unit {0})
setting_with true p setting words = asks words (set_with p setting words)
setting_with false p setting words = set p setting words None

-- settrans: with `-a` and words, a server of these words is asked for
abbrev pub settrans : SettransFlags → List (List ℕ) → ℕ → Prog Printed
settrans f words p = silent (setting_with (f.active && has_words words) p (setting_of f) words)

abbrev pub to_read : OpenFlags
to_read = record { 0 = READ }

abbrev pub to_list : OpenFlags
to_list = record { 0 = bit_or READ DIRECTORY }

-- the file is made where it isn't there
abbrev pub to_write : OpenFlags
to_write = record { 0 = bit_or WRITE CREATE }

-- a symbolic link is not followed
abbrev pub to_show : OpenFlags
to_show = record { 0 = NOLINK }

-- the node itself, whatever translator is on it
abbrev pub to_change : OpenFlags
to_change = record { 0 = bit_or NOTRANS NOLINK }

-- the node itself whatever translator is on it, a symbolic link's too
abbrev pub to_look_behind : OpenFlags
to_look_behind = record { 0 = NOTRANS }

-- the server of the node
abbrev pub to_control : OpenFlags
to_control = record { 0 = 0 }

-- the node itself, which is made with `-c` where it isn't there
abbrev pub to_set : SettransFlags → OpenFlags
to_set f = record { 0 = if f.create then bit_or NOTRANS CREATE else NOTRANS }

-- the directory of an entry that is made, removed or moved
abbrev pub to_enter : OpenFlags
to_enter = record { 0 = DIRECTORY }

-- the directory of a place is opened, worked on with the name in it, and given up
abbrev pub in_place : EntryPlace → (ℕ → List ℕ → Prog Printed) → Prog Printed
in_place place k = with_open place.directory to_enter (λ p. k p place.name)

-- mkdir: a directory is made
abbrev pub mkdir : ℕ → List ℕ → Prog Printed
mkdir p name = silent (made (Plain (DirMkdir p name directory_mode)) done_of)

-- rm: the name of a file is taken away
abbrev pub rm : ℕ → List ℕ → Prog Printed
rm p name = silent (made (Plain (DirUnlink p name)) done_of)

-- rmdir: a directory is removed
abbrev pub rmdir : ℕ → List ℕ → Prog Printed
rmdir p name = silent (made (Plain (DirRmdir p name)) done_of)

-- ln: an open file is given another name
abbrev pub ln : EntryPlace → ℕ → Prog Printed
ln new file = in_place new (λ p name. silent (made (Plain (DirLink p name file)) done_of))

-- mv: an entry of an open directory is moved to another name, there or elsewhere
abbrev pub mv : EntryPlace → ℕ → List ℕ → Prog Printed
mv new p name = in_place new (λ q fresh. silent (made (Plain (DirRename p name q fresh)) done_of))

-- the program of what a command asks for
abbrev pub program_of : Action → Prog Printed
program_of (Cat node) = with_open node to_read cat
program_of (Ls node) = with_open node to_list ls
program_of (Stat node) = with_open node to_show stat
program_of (Put node text) = with_open node to_write (put text)
program_of (Mkdir place) = in_place place mkdir
program_of (Rm place) = in_place place rm
program_of (Rmdir place) = in_place place rmdir
program_of (Ln file new) = with_open file to_change (ln new)
program_of (Mv old new) = in_place old (mv new)
program_of (Chmod mode node) = with_open node to_change (chmod mode)
program_of (Chown owner group node) = with_open node to_change (chown owner group)
program_of (Showtrans node) = with_open node to_look_behind showtrans
program_of (Fsysopts node words) = with_open node to_control (fsysopts words)
program_of (Settrans flags node words) = with_open node (to_set flags) (settrans flags words)
program_of Usage = gives (Ok misused)
