-- The text of replies.
use Rattle.std.specs.Prelude.{ℕ, ◌/◌, ◌==◌, ◌&&◌, ◌++◌, Bool, true, false, not, List, [], ◌∷◌, Option, Some, None, if◌then◌else◌, codes}
use Rattle.hurd_creds.specs.Bits as bit
use Rattle.hurd_creds.specs.Errors.{name_of}
use Rattle.hurd_creds.specs.declared.attrs.Stat.{Stat}
use Rattle.hurd_creds.specs.declared.open_flags.OpenFlags.{OpenFlags}
use Rattle.hurd_words.specs.Escapes.{escaped}
use Rattle.hurd_words.specs.declared.answers.Answer.{Answer}
use Rattle.hurd_words.specs.declared.answers.Content.TheVariants.{Text}
use Rattle.hurd_words.specs.declared.answers.Ending.TheVariants.{Done}
use Rattle.hurd_words.specs.Printing.{octal_digit, six_octal_digits, spaced, text_if}
use Rattle.hurd_machine.specs.declared.call.Lookup.{Lookup}
use Rattle.hurd_machine.specs.declared.call.Lookup.TheVariants as lookup
use Rattle.hurd_machine.specs.Calls.{Reply}
use Rattle.hurd_machine.specs.declared.call.Reply.TheVariants as reply
use Rattle.hurd_machine.specs.declared.call.RetryKind.{RetryKind}
use Rattle.hurd_machine.specs.declared.call.RetryKind.TheVariants.{Normal, Reauth, Magical}
use Rattle.hurd_creds.specs.declared.attrs.Kind.{Kind}
use Rattle.hurd_creds.specs.declared.attrs.Kind.TheVariants.{File, Dir, Link, Fifo, Char}

-- bytes after `=`
abbrev pub shown : List ℕ → List ℕ
shown bytes = 61 ∷ escaped bytes

-- names or words, each after a space
unfoldable pub shown_names : List (List ℕ) → List ℕ
shown_names [] = []
shown_names (name ∷ names) = 32 ∷ shown name ++ shown_names names

-- the name of a kind
abbrev pub kind_name : Kind → List ℕ
kind_name File = codes "File"
kind_name Dir = codes "Dir"
kind_name Link = codes "Link"
kind_name Fifo = codes "Fifo"
kind_name Char = codes "Char"

-- the last octal digit of a number that is not zero
abbrev pub high_digit : ℕ → List ℕ
high_digit n = if n == 0 then [] else octal_digit n ∷ []

-- the octal digits of a number below 2 to the 32nd above its last six, as far as it has them
abbrev pub high_digits : ℕ → List ℕ
high_digits n =
    high_digit (n / 1073741824) ++ (high_digit (n / 134217728) ++ (high_digit (n / 16777216) ++ (high_digit (n / 2097152) ++ high_digit (n / 262144))))

-- the name of a flag, if it is there, after a comma where it is not the first
abbrev pub flag_text : Bool → Bool → List ℕ → List ℕ
flag_text first false name = []
flag_text true true name = name
flag_text false true name = 44 ∷ name

-- the rows of flags and their names, each after a comma except for the first that is there, and `-` where none is
abbrev pub listed_flags : Bool → OpenFlags → List (ℕ × List ℕ) → List ℕ
listed_flags first f [] = if first then codes "-" else []
listed_flags first f (row ∷ rows) = flag_text first (bit.asks f row.0) row.1 ++ listed_flags (first && not (bit.asks f row.0)) f rows

-- the names of flags, in the order of the bits
abbrev pub flags_text : OpenFlags → List ℕ
flags_text f = listed_flags true f ((bit.READ, codes "READ") ∷ (bit.WRITE, codes "WRITE") ∷ (bit.EXEC, codes "EXEC") ∷ (bit.APPEND, codes "APPEND") ∷ (bit.CREATE, codes "CREATE") ∷ (bit.EXCL, codes "EXCL") ∷ (bit.NOTRANS, codes "NOTRANS") ∷ (bit.NOLINK, codes "NOLINK") ∷ (bit.DIRECTORY, codes "DIRECTORY") ∷ [])

-- a mode after a space, as six octal digits, or more where it has them
unfoldable pub mode_text : ℕ → List ℕ
mode_text n = 32 ∷ high_digits n ++ six_octal_digits n

-- how many entries name a node, its size and its translators
unfoldable pub stat_rest : Stat → List ℕ
stat_rest s = spaced s.links ++ (spaced s.size ++ (text_if s.passive (codes " passive") ++ text_if s.active (codes " active")))

-- attributes
abbrev pub stat_text : Stat → List ℕ
stat_text s = codes "Stat " ++ (kind_name s.kind ++ (spaced s.owner ++ (spaced s.group ++ (mode_text s.mode.0 ++ stat_rest s))))

-- the name of a kind of retry
abbrev pub retry_name : RetryKind → List ℕ
retry_name Normal = codes "NORMAL"
retry_name Reauth = codes "REAUTH"
retry_name Magical = codes "MAGICAL"

-- a port after a space, where there is one
abbrev pub port_text : Option ℕ → List ℕ
port_text None = []
port_text (Some port) = spaced port

-- what a lookup found: its port, or a retry's kind, its name and its port, or the words of what is to be started
abbrev pub lookup_text : Lookup → List ℕ
lookup_text (lookup.Done port) = codes "Done" ++ spaced port
lookup_text (lookup.Retry kind name port) = codes "Retry " ++ (retry_name kind ++ (32 ∷ shown name ++ port_text port))
lookup_text (lookup.Start words) = codes "Start" ++ shown_names words

-- a reply
abbrev pub reply_text : Reply → List ℕ
reply_text reply.Done = codes "Done"
reply_text (reply.Found found) = codes "Found " ++ lookup_text found
reply_text (reply.Port port) = codes "Port" ++ spaced port
reply_text (reply.Data bytes) = codes "Data " ++ shown bytes
reply_text (reply.Count count) = codes "Count" ++ spaced count
reply_text (reply.Names names) = codes "Names" ++ shown_names names
reply_text (reply.Words words) = codes "Words" ++ shown_names words
reply_text (reply.Stat stat) = stat_text stat
reply_text (reply.Modes flags) = codes "Modes " ++ flags_text flags
reply_text (reply.Same true) = codes "Same true"
reply_text (reply.Same false) = codes "Same false"
reply_text (reply.Refused e) = codes "Refused " ++ name_of e
reply_text (reply.Back e s) = codes "Back " ++ name_of e

-- a reply, on a line after two spaces
abbrev pub reply_line : Reply → List ℕ
reply_line r = codes "  " ++ reply_text r ++ 10 ∷ []

-- what a call is answered: to its line, its reply. That is one line in which no bytes of users pass for anything else, a refusal too
abbrev pub answered : List ℕ → Reply → Answer
answered line r = record { line = line; content = Text (reply_line r); ending = Done }
