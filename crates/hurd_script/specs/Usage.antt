-- What clap is told of the commands, and what it makes of their words.
use Rattle.std.specs.Prelude.{◌≡◌, ◌≢◌, ◌&&◌, ℕ, Bool, true, false, not, List, [], ◌∷◌, Option, Some, None, bytes_eq, codes, fold, if◌then◌else◌}
use Rattle.clap.specs.Words.{App, Row, Rule, Text, fault_of, first_of, matches_of, new_app, new_rule, one_of, with_rule}
use Rattle.clap.specs.Simple.{on_top}
use Rattle.clap.specs.declared.builder.ArgAction.TheVariants.{Set, SetTrue}
use Rattle.hurd_script.specs.Flags.{is_flag_word}
use Rattle.hurd_script.specs.declared.settrans.SettransFlags.{SettransFlags}

-- a command without clap's own flags, whose words begin after its name
abbrev pub bare_app : Text → App
bare_app name = on_top (λ top. record top { no_binary_name = true; disable_help_flag = true; disable_version_flag = true }) (new_app name)

-- a word that has to be there
abbrev pub operand : Text → Rule
operand id = record (new_rule id) { action = Some Set; required = true }

-- a flag of one letter
abbrev pub letter_flag : Text → ℕ → Rule
letter_flag id letter = record (new_rule id) { short = Some letter; action = Some SetTrue }

-- a command that takes one word, a node
abbrev pub node_app : Text → App
node_app name = with_rule (bare_app name) (operand (codes "node"))

-- a command that takes a node, and the flag `-d`
abbrev pub list_app : Text → App
list_app name = with_rule (node_app name) (letter_flag (codes "itself") 100)

-- clap finds no fault with these words, and reads them as these rows
abbrev pub ReadsAs : App → List Text → List Row → Type 0
ReadsAs app words rows = (fault_of app words ≡ []) × (rows ≡ matches_of app words)

-- a flag, and not `-d`
abbrev pub is_other_flag : Text → Bool
is_other_flag word = is_flag_word word && not (bytes_eq word (codes "-d"))

-- no flag and one word
abbrev pub lone : List Text → List Text → Option Text
lone [] (x ∷ []) = Some x
lone _ _ = None

-- no flag and two words
abbrev pub both : List Text → List Text → Option (Text × Text)
both [] (x ∷ y ∷ []) = Some (x, y)
both _ _ = None

-- no flag and three words
abbrev pub three : List Text → List Text → Option (Text × (Text × Text))
three [] (x ∷ y ∷ z ∷ []) = Some (x, (y, z))
three _ _ = None

-- one word, and whether the flag `-d` is there
abbrev pub listed : List Text → List Text → Option (Text × Bool)
listed [] (x ∷ []) = Some (x, false)
listed (flag ∷ []) (x ∷ []) = if bytes_eq flag (codes "-d") then Some (x, true) else None
listed _ _ = None

-- what clap makes of words that are read as a value, or as none: it finds no fault and has that value, or it finds one
abbrev pub Answer : {X : Type 0} → App → List Text → (List Row → X → Type 0) → Option X → Type 0
Answer app words Has None = fault_of app words ≢ []
Answer app words Has (Some x) = (fault_of app words ≡ []) × Has (matches_of app words) x

-- the value of the operand
abbrev pub HasNode : List Row → Text → Type 0
HasNode rows node = first_of (codes "node") rows ≡ Some node

-- what a flag's row has
abbrev pub flag_text : Bool → Text
flag_text true = codes "true"
flag_text false = codes "false"

abbrev pub HasListed : List Row → Text × Bool → Type 0
HasListed rows listed = HasNode rows listed.0 × (one_of (codes "itself") rows ≡ Some (flag_text listed.1))

-- a flag that is called by its letter
abbrev pub own_flag : ℕ → Rule
own_flag letter = letter_flag (letter ∷ []) letter

-- with a flag for each of these letters
abbrev pub with_letters : App → List ℕ → App
with_letters app letters = fold (λ app letter. with_rule app (own_flag letter)) app letters

-- `settrans`, which takes a node and eight flags
abbrev pub settrans_app : App
settrans_app = with_letters (node_app (codes "settrans")) (codes "apcxgkfo")

-- the row of a flag says what is told of it, where it says anything
abbrev pub Tells : List Row → ℕ → Bool → Type 0
Tells rows letter flag = (set : Bool) → one_of (letter ∷ []) rows ≡ Some (flag_text set) → flag ≡ set

-- the flags are those that the rows tell
pub record IsFound (rows : List Row) (flags : SettransFlags) : Type 0 where
  pub active : Tells rows 97 flags.active
  pub passive : Tells rows 112 flags.passive
  pub create : Tells rows 99 flags.create
  pub exclusive : Tells rows 120 flags.exclusive
  pub goaway : Tells rows 103 flags.goaway
  pub keep : Tells rows 107 flags.keep
  pub force : Tells rows 102 flags.force
  pub orphan : Tells rows 111 flags.orphan
