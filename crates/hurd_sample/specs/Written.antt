-- How a sample's script is written.
use Rattle.std.specs.Prelude.{ℕ, ◌==◌, ◌&&◌, ◌++◌, List, [], ◌∷◌, codes, if◌then◌else◌, map, nat_le, string_bytes}
use Rattle.hurd_script.specs.declared.command.Verb.{Verb}
use Rattle.hurd_script.specs.declared.command.Verb.TheVariants.{Cat, Ls, Put, Mkdir, Rm, Rmdir, Ln, Mv, Chmod, Chown, Settrans, Showtrans, Fsysopts}
use Rattle.hurd_sample.specs.declared.command.Drawn.{Drawn}
use Rattle.hurd_sample.specs.declared.command.User.{User}
use Rattle.hurd_sample.specs.declared.command.User.TheVariants.{Root, Alice, Bob, Carol}

-- the name of a user
abbrev pub user_word : User → List ℕ
user_word Root = codes "root"
user_word Alice = codes "alice"
user_word Bob = codes "bob"
user_word Carol = codes "carol"

-- what a command is called
abbrev pub verb_word : Verb → List ℕ
verb_word Cat = codes "cat"
verb_word Ls = codes "ls"
verb_word Put = codes "put"
verb_word Mkdir = codes "mkdir"
verb_word Rm = codes "rm"
verb_word Rmdir = codes "rmdir"
verb_word Ln = codes "ln"
verb_word Mv = codes "mv"
verb_word Chmod = codes "chmod"
verb_word Chown = codes "chown"
verb_word Settrans = codes "settrans"
verb_word Showtrans = codes "showtrans"
verb_word Fsysopts = codes "fsysopts"

-- a byte of a word as a script spells it; a question mark where it can't
abbrev pub written_byte : ℕ → List ℕ
written_byte b =
    if b == 32 then 92 ∷ 115 ∷ []
    else if b == 10 then 92 ∷ 110 ∷ []
    else if b == 92 then 92 ∷ 92 ∷ []
    else if nat_le 33 b && nat_le b 126 then b ∷ []
    else 63 ∷ []

-- a word as a script spells it
abbrev pub written : List ℕ → List ℕ
written [] = []
written (b ∷ bs) = written_byte b ++ written bs

-- words, each after a space
abbrev pub spaced : List (List ℕ) → List ℕ
spaced [] = []
spaced (word ∷ words) = 32 ∷ (written word ++ spaced words)

-- a command without its newline
abbrev pub command_line : Drawn → List ℕ
command_line c = user_word c.user ++ (32 ∷ (verb_word c.verb ++ spaced (map string_bytes c.words.items)))

-- a command on a line of its own
abbrev pub command_text : Drawn → List ℕ
command_text c = command_line c ++ (10 ∷ [])

-- commands one after another
abbrev pub commands_text : List Drawn → List ℕ
commands_text [] = []
commands_text (c ∷ cs) = command_text c ++ commands_text cs

-- the users of each script
abbrev pub user_lines : List ℕ
user_lines = codes "user alice 1000 1000,100\nuser bob 1001 1001,100\nuser carol 1002 1002\n"

-- the script of these commands
abbrev pub script_text : List Drawn → List ℕ
script_text commands = user_lines ++ commands_text commands
