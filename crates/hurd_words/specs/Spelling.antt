-- How bytes of users are spelled in a sentence.
use Rattle.std.specs.Prelude.{ℕ, ◌/◌, ◌%◌, ◌==◌, ◌&&◌, ◌||◌, Bool, true, false, List, [], ◌∷◌, ◌++◌, if◌then◌else◌}
use Rattle.hurd_words.specs.Escapes.{escaped_byte, hex_letter}

-- a byte by its number, as `\x2c`
abbrev pub by_number : ℕ → List ℕ
by_number b = 92 ∷ 120 ∷ hex_letter (b / 16) ∷ hex_letter (b % 16) ∷ []

-- the bytes by which what a sentence says is told apart from what users wrote: a comma and a colon, brackets and the head of an arrow; and where a name
-- is in a path, a slash
abbrev pub is_joint : Bool → ℕ → Bool
is_joint path b = b == 44 || (b == 58 || (b == 40 || (b == 41 || (b == 62 || (path && b == 47)))))

-- a byte as it is spelled in a word, or in a path
abbrev pub spelled_byte : Bool → ℕ → List ℕ
spelled_byte path b = if is_joint path b then by_number b else escaped_byte b

-- bytes one after another
unfoldable pub spelled_by : Bool → List ℕ → List ℕ
spelled_by path [] = []
spelled_by path (b ∷ bs) = spelled_byte path b ++ spelled_by path bs

-- a word of a user, and a name that is in a path
abbrev pub spelled : List ℕ → List ℕ
spelled word = spelled_by false word

abbrev pub spelled_name : List ℕ → List ℕ
spelled_name name = spelled_by true name

-- words of users, each after a space
abbrev pub spelled_words : List (List ℕ) → List ℕ
spelled_words [] = []
spelled_words (word ∷ words) = (32 ∷ spelled word) ++ spelled_words words
