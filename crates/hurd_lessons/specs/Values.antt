-- What is said of values, in parts of a sentence.
use Rattle.std.specs.Prelude.{ℕ, ◌/◌, ◌==◌, ◌&&◌, Bool, true, false, not, List, [], ◌∷◌, ◌++◌, Option, Some, None, if◌then◌else◌, bytes_eq, codes, length, map, nat_le, nat_lt}
use Rattle.hurd_creds.specs.declared.attrs.Kind.{Kind}
use Rattle.hurd_creds.specs.declared.name.Name.{Name}
use Rattle.hurd_words.specs.Printing.{kind_letter, octal_digit, six_octal_digits, spaced}
use Rattle.hurd_words.specs.Spelling.{spelled, spelled_words}
use Rattle.hurd_views.specs.declared.view.View.{View}
use Rattle.hurd_places.specs.Places.{node_path, server_path}

-- words, and a comma where some stand already
abbrev pub parted : List ℕ → List ℕ
parted [] = []
parted (b ∷ bs) = (b ∷ bs) ++ codes ", "

-- one part more, if there is one, after a comma where some stand already
abbrev pub with_part : List ℕ → Option (List ℕ) → List ℕ
with_part words None = words
with_part words (Some part) = parted words ++ part

-- a part, where something holds
abbrev pub part_if : Bool → List ℕ → Option (List ℕ)
part_if true part = Some part
part_if false part = None

-- a value by its word, before and after, unless both are told in one way
abbrev pub turned_part : List ℕ → List ℕ → List ℕ → Option (List ℕ)
turned_part word old new = part_if (not (bytes_eq old new)) (word ++ (32 ∷ (old ++ (codes " -> " ++ new))))

-- the same of a number
abbrev pub number_part : List ℕ → ℕ → ℕ → Option (List ℕ)
number_part word m n = part_if (not (m == n)) (word ++ (spaced m ++ (codes " ->" ++ spaced n)))

-- a kind by its letter
abbrev pub kind_part : Kind → Kind → Option (List ℕ)
kind_part k l = turned_part (codes "kind") (kind_letter k ∷ []) (kind_letter l ∷ [])

-- a mode by three octal digits, or as many more as it wants
abbrev pub short_mode : ℕ → List ℕ
short_mode n =
    if nat_lt n 512 then octal_digit (n / 64) ∷ octal_digit (n / 8) ∷ octal_digit n ∷ []
    else if nat_lt n 4096 then octal_digit (n / 512) ∷ octal_digit (n / 64) ∷ octal_digit (n / 8) ∷ octal_digit n ∷ []
    else six_octal_digits n

abbrev pub mode_part : ℕ → ℕ → Option (List ℕ)
mode_part m n = turned_part (codes "mode") (short_mode m) (short_mode n)

-- bytes as they are spelled, or that there are none
abbrev pub spelled_or_none : List ℕ → List ℕ
spelled_or_none [] = codes "(none)"
spelled_or_none (b ∷ bs) = spelled (b ∷ bs)

-- words as they are spelled, or that there are none
abbrev pub words_or_none : List (List ℕ) → List ℕ
words_or_none [] = codes "(none)"
words_or_none (word ∷ words) = spelled word ++ spelled_words words

-- where a node is, and where a server is, if there is one
abbrev pub path_or_none : View → Option Name → List ℕ
path_or_none v None = codes "(none)"
path_or_none v (Some n) = node_path v n

abbrev pub server_or_none : View → Option Name → List ℕ
server_or_none v None = codes "(none)"
server_or_none v (Some s) = server_path v s

-- bytes before and after, where both are short
abbrev pub bytes_change : List ℕ → List ℕ → List ℕ
bytes_change old new =
    if nat_le (length old) 24 && nat_le (length new) 24 then codes "bytes " ++ (spelled_or_none old ++ (codes " -> " ++ spelled_or_none new)) else codes "bytes"

-- a line, which says to whom, where and what
abbrev pub line_from : List ℕ → List ℕ → List ℕ → List ℕ
line_from who place said = codes "  " ++ (who ++ (codes ": " ++ (place ++ (codes ": " ++ (said ++ 10 ∷ [])))))

-- the names of a view, in its order
abbrev pub names_of : View → List Name
names_of v = map (λ e. e.0) v.rows
