-- The lines that `ls -d`, `showtrans` and `fsysopts` print, and what they are made of.
use Rattle.std.specs.Prelude.{ℕ, ◌+◌, ◌/◌, ◌%◌, ◌==◌, if◌then◌else◌, Bool, true, false, List, [], ◌∷◌, ◌++◌, decimal}
use Rattle.hurd_creds.specs.declared.attrs.Kind.{Kind}
use Rattle.hurd_creds.specs.declared.attrs.Kind.TheVariants.{File, Dir, Link, Fifo, Char}
use Rattle.hurd_creds.specs.declared.attrs.Stat.{Stat}

-- the letter of a kind: `-`, `d`, `l`, `p` and `c`
abbrev pub kind_letter : Kind → ℕ
kind_letter File = 45
kind_letter Dir = 100
kind_letter Link = 108
kind_letter Fifo = 112
kind_letter Char = 99

-- the last octal digit of a number
abbrev pub octal_digit : ℕ → ℕ
octal_digit n = 48 + n % 8

-- the last six octal digits of a number; no known bits of a mode are above them
abbrev pub six_octal_digits : ℕ → List ℕ
six_octal_digits n =
    octal_digit (n / 32768) ∷ octal_digit (n / 4096) ∷ octal_digit (n / 512) ∷ octal_digit (n / 64) ∷ octal_digit (n / 8) ∷ octal_digit n ∷ []

-- a number in decimal digits, after a space
abbrev pub spaced : ℕ → List ℕ
spaced n = 32 ∷ decimal n

-- a text, where something holds
abbrev pub text_if : Bool → List ℕ → List ℕ
text_if true text = text
text_if false text = []

-- a node's kind and mode, then its links, owner, group and size
abbrev pub stat_words : Stat → List ℕ
stat_words s = kind_letter s.kind ∷ (six_octal_digits s.mode.0 ++ (spaced s.links ++ (spaced s.owner ++ (spaced s.group ++ spaced s.size))))

-- the same on a line
abbrev pub stat_line : Stat → List ℕ
stat_line s = stat_words s ++ 10 ∷ []

-- a byte as it is written in a script: `\s` for a space, `\n` for a newline, and `\\` for a backslash
abbrev pub spelled_byte : ℕ → List ℕ
spelled_byte b =
    if b == 32 then 92 ∷ 115 ∷ []
    else if b == 10 then 92 ∷ 110 ∷ []
    else if b == 92 then 92 ∷ 92 ∷ []
    else b ∷ []

-- a word as it is written in a script
abbrev pub spelled : List ℕ → List ℕ
spelled [] = []
spelled (b ∷ bs) = spelled_byte b ++ spelled bs

-- words, each after a space
abbrev pub spaced_words : List (List ℕ) → List ℕ
spaced_words [] = []
spaced_words (word ∷ words) = 32 ∷ spelled word ++ spaced_words words

-- words on a line, with a space between them
abbrev pub words_line : List (List ℕ) → List ℕ
words_line [] = 10 ∷ []
words_line (word ∷ words) = spelled word ++ (spaced_words words ++ 10 ∷ [])
