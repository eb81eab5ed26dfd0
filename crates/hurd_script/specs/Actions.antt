-- What the words of a command ask for.
use Rattle.std.specs.Prelude.{ℕ, List, [], ◌∷◌, Option, Some, None, if◌then◌else◌, bytes_eq, codes}
use Rattle.std.specs.Option.{option_map_or}
use Rattle.hurd_creds.specs.declared.mode.Mode.{Mode}
use Rattle.hurd_trans_iface.specs.Words.{is_within_limits}
use Rattle.hurd_creds.specs.Numbers.{number_of}
use Rattle.hurd_words.specs.Modes.{mode_of}
use Rattle.hurd_script.specs.Places.{place_of}
use Rattle.hurd_script.specs.Commands.{CommandLine}
use Rattle.hurd_script.specs.Flags.{flags_of, is_flag_word, operands_of}
use Rattle.hurd_script.specs.Settrans.{from_node, is_at_odds, leading_flags, letters_of, setting_of}
use Rattle.hurd_script.specs.declared.command.Verb.{Verb}
use Rattle.hurd_script.specs.declared.command.Verb.TheVariants.{Cat, Ls, Put, Mkdir, Rm, Rmdir, Ln, Mv, Chmod, Chown, Settrans, Showtrans, Fsysopts}
use Rattle.hurd_script.specs.declared.command.Action.{Action}
use Rattle.hurd_script.specs.declared.command.Action.TheVariants as action
use Rattle.hurd_script.specs.declared.settrans.SettransFlags.{SettransFlags}

-- `chmod MODE NODE`
abbrev pub chmod_action : Option Mode → List ℕ → Action
chmod_action None node = action.Usage
chmod_action (Some mode) node = action.Chmod mode node

-- `chown OWNER GROUP NODE`
abbrev pub chown_action : Option ℕ → Option ℕ → List ℕ → Action
chown_action (Some owner) (Some group) node = action.Chown owner group node
chown_action _ _ node = action.Usage

-- what words without flags ask for
abbrev pub plain_action : Verb → List (List ℕ) → Action
plain_action Cat (node ∷ []) = action.Cat node
plain_action Ls (node ∷ []) = action.Ls node
plain_action Put (node ∷ text ∷ []) = action.Put node text
plain_action Mkdir (node ∷ []) = action.Mkdir (place_of node)
plain_action Rm (node ∷ []) = action.Rm (place_of node)
plain_action Rmdir (node ∷ []) = action.Rmdir (place_of node)
plain_action Ln (file ∷ new ∷ []) = action.Ln file (place_of new)
plain_action Mv (old ∷ new ∷ []) = action.Mv (place_of old) (place_of new)
plain_action Chmod (mode ∷ node ∷ []) = chmod_action (mode_of mode) node
plain_action Chown (owner ∷ group ∷ node ∷ []) = chown_action (number_of owner) (number_of group) node
plain_action Showtrans (node ∷ []) = action.Showtrans node
plain_action _ _ = action.Usage

-- what words with one flag ask for: `ls -d NODE`, and no other command takes a flag
abbrev pub flagged_action : Verb → List ℕ → List (List ℕ) → Action
flagged_action Ls flag (node ∷ []) = if bytes_eq flag (codes "-d") then action.Stat node else action.Usage
flagged_action _ flag _ = action.Usage

-- what flags and other words ask for
abbrev pub asked : Verb → List (List ℕ) → List (List ℕ) → Action
asked verb [] operands = plain_action verb operands
asked verb (flag ∷ []) operands = flagged_action verb flag operands
asked verb _ operands = action.Usage

-- words of a translator, unless they are past their limits
abbrev pub within_limits : List (List ℕ) → Option (List (List ℕ))
within_limits words = if is_within_limits words then Some words else None

-- an action with these words, where they are within their limits
abbrev pub with_words : (List (List ℕ) → Action) → List (List ℕ) → Action
with_words made words = option_map_or made (within_limits words) action.Usage

-- `fsysopts NODE [WORD..]`, without a flag in front; the words may be any
abbrev pub fsysopts_action : List (List ℕ) → Action
fsysopts_action [] = action.Usage
fsysopts_action (node ∷ words) = if is_flag_word node then action.Usage else with_words (action.Fsysopts node) words

-- `settrans` with flags that are not at odds, a node, and any words
abbrev pub settrans_action : Option (SettransFlags × (List ℕ × List (List ℕ))) → Action
settrans_action None = action.Usage
settrans_action (Some (flags, (node, words))) = if is_at_odds flags then action.Usage else with_words (action.Settrans flags node) words

-- what these words after a command's name ask for: flags may stand anywhere among them, but where words of a
-- translator come on a node, those in front of it are its flags
abbrev pub asked_by : Verb → List (List ℕ) → Action
asked_by Settrans words = settrans_action (setting_of (letters_of (leading_flags words)) (from_node words))
asked_by Fsysopts words = fsysopts_action words
asked_by verb words = asked verb (flags_of words) (operands_of words)

-- what a command asks for
abbrev pub action_of : CommandLine → Action
action_of command = asked_by command.verb command.words
