-- The words of `settrans`: flags, a node, and the words after it.
use Rattle.std.specs.Prelude.{ℕ, ◌==◌, ◌&&◌, ◌||◌, Bool, true, not, List, [], ◌∷◌, Option, Some, None, if◌then◌else◌, codes, drop, map, take}
use Rattle.std.specs.List.{concat, list_any, prefix_len}
use Rattle.hurd_script.specs.Flags.{is_flag_word}
use Rattle.hurd_script.specs.declared.settrans.SettransFlags.{SettransFlags}

-- how many flag words stand in front
abbrev pub flag_count : List (List ℕ) → ℕ
flag_count words = prefix_len is_flag_word words

-- the flag words in front of the node
abbrev pub leading_flags : List (List ℕ) → List (List ℕ)
leading_flags words = take (flag_count words) words

-- the node, and the words after it
abbrev pub from_node : List (List ℕ) → List (List ℕ)
from_node words = drop (flag_count words) words

-- the letters of flag words, after each one's hyphen
abbrev pub letters_of : List (List ℕ) → List ℕ
letters_of flags = concat (map (drop 1) flags)

-- a letter is among these
abbrev pub has_letter : List ℕ → ℕ → Bool
has_letter letters letter = list_any (λ other. other == letter) letters

-- the letter of a flag that there is
abbrev pub is_known : ℕ → Bool
is_known letter = has_letter (codes "apcxgkfo") letter

-- each letter is a flag's, and none is there twice
abbrev pub are_known_once : List ℕ → Bool
are_known_once [] = true
are_known_once (letter ∷ letters) = is_known letter && (not (has_letter letters letter) && are_known_once letters)

-- the flags of these letters: `-a` is 97, `-p` 112, `-c` 99, `-x` 120, `-g` 103, `-k` 107, `-f` 102 and `-o` 111
abbrev pub flags_from : List ℕ → SettransFlags
flags_from letters =
    record {
      active = has_letter letters 97;
      passive = has_letter letters 112;
      create = has_letter letters 99;
      exclusive = has_letter letters 120;
      goaway = has_letter letters 103;
      keep = has_letter letters 107;
      force = has_letter letters 102;
      orphan = has_letter letters 111;
    }

-- an active translator is to stay as it is, and another flag is about it
abbrev pub is_at_odds : SettransFlags → Bool
is_at_odds flags = flags.keep && (flags.active || (flags.goaway || flags.orphan))

-- the flags, the node and the words after it, of flag words in front and the words from the node on
abbrev pub setting_of : List ℕ → List (List ℕ) → Option (SettransFlags × (List ℕ × List (List ℕ)))
setting_of letters [] = None
setting_of letters (node ∷ words) = if are_known_once letters then Some (flags_from letters, (node, words)) else None
