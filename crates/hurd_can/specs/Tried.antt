-- What is left of a script that shows some tasks a part, if each line is left out that can be; and which command shows by its replies that it does.
use Rattle.std.specs.Prelude.{◌≡◌, ◌⊎◌, ℕ, ◌-◌, List, [], ◌∷◌, ◌++◌, Option, Some, None, Ok, codes}
use Rattle.std.specs.Option.{option_or}
use Rattle.hurd_creds.specs.declared.name.TaskId.{TaskId}
use Rattle.hurd_dialogue.specs.Sorts.{Sort, last_world}
use Rattle.hurd_machine.specs.Sight.{Sees}
use Rattle.hurd_sight.specs.Parts.{part_of}
use Rattle.hurd_sight.specs.Reach.{among}
use Rattle.hurd_sight.specs.declared.parts.SeenPart.{SeenPart}
use Rattle.hurd_witnesses.specs.Trials.{trials_on}
use Rattle.hurd_witnesses.specs.Witnesses.{shown_text, text_up_to, witness_of}
use Rattle.hurd_witnesses.specs.declared.witness.Witness.{Witness}
use Rattle.hurd_words.specs.declared.answers.Ending.{Ending}
use Rattle.hurd_words.specs.declared.answers.Ending.TheVariants.{Done}
use Rattle.hurd_can.specs.Ways.{called, each_does, helper_names, set_name, way_by_all, way_by_helpers}
use Rattle.hurd_can.specs.declared.ways.HelpSet.{HelpSet}

-- a text is good, and shows some tasks a part at its end
pub record Shows (sort : Sort) (who : List TaskId) (p : SeenPart) (text : List ℕ) : Type 0 where
  pub good : sort.bad text ≡ None
  pub boots : sort.boot text ≡ Ok tt
  pub sees : Sees (among who) (last_world sort text) (part_of p)

-- a text with these lines after it
abbrev pub with_lines : List ℕ → List (List ℕ) → List ℕ
with_lines text [] = text
with_lines text (line ∷ lines) = with_lines ((text ++ line) ++ 10 ∷ []) lines

-- these lines after a text show the part
abbrev pub ShowsWith : Sort → List TaskId → SeenPart → List ℕ → List (List ℕ) → Type 0
ShowsWith sort who p text lines = Shows sort who p (with_lines (text ++ 10 ∷ []) lines)

-- lines without those that can be left out, tried one after another: some are kept already, and some are still to be tried
abbrev pub Pared : (List (List ℕ) → Type 0) → List (List ℕ) → List (List ℕ) → List (List ℕ) → Type 0
Pared P kept [] pared = pared ≡ kept
Pared P kept (line ∷ lines) pared =
    (P (kept ++ lines) × Pared P kept lines pared) ⊎ ((P (kept ++ lines) → ⊥) × Pared P (kept ++ line ∷ []) lines pared)

-- what is left of lines that do; none, if they don't
abbrev pub Tried : (List (List ℕ) → Type 0) → List (List ℕ) → Option (List (List ℕ)) → Type 0
Tried P lines None = P lines → ⊥
Tried P lines (Some pared) = P lines × Pared P [] lines pared

-- what is left of the first of two scripts that do
abbrev pub FirstTried : (List (List ℕ) → Type 0) → List (List ℕ) → List (List ℕ) → Option (List (List ℕ)) → Type 0
FirstTried P one other way = ((P one → ⊥) × Tried P other way) ⊎ ((pared : List (List ℕ)) × (way ≡ Some pared) × Tried P one (Some pared))

-- lines that are moved in
abbrev pub moved_in : List ℕ → List (List ℕ) → List ℕ
moved_in text [] = text
moved_in text (line ∷ lines) = moved_in (text ++ (codes "      " ++ (line ++ 10 ∷ []))) lines

-- EVIDENCE

-- with these lines after it, the first of some commands that is answered otherwise at the end of a script than after so many of its commands
abbrev pub witness_at : Sort → List ℕ → Option ℕ → List (List ℕ) → List (List ℕ) → Option Witness
witness_at sort script None lines trials = None
witness_at sort script (Some made) lines trials =
    witness_of sort (with_lines (text_up_to script (sort.heading script - 1) made) lines) (with_lines (script ++ 10 ∷ []) lines) trials

-- a command that is done at the end
abbrev pub if_done : Witness → Ending → Option Witness
if_done w Done = Some w
if_done w _ = None

abbrev pub done_only : Option Witness → Option Witness
done_only None = None
done_only (Some w) = if_done w w.after.ending

-- what shows it: after a script that was found, a look of one of WHO, or else another command of theirs; if none was found, a look of a helper who is told something by it
abbrev pub evidence : Sort → List ℕ → List (List ℕ) → List TaskId → Option ℕ → List ℕ → List ℕ → HelpSet → Option (List (List ℕ)) → Option Witness
evidence sort script names who made look path set (Some lines) =
    option_or (witness_at sort script made lines (each_does look path [] (called names [] who))) (witness_at sort script made lines (trials_on (called names [] who) path []))
evidence sort script names who made look path set None = done_only (witness_at sort script made [] (each_does look path [] (helper_names names set)))

-- WHAT IS SAID

-- a command that is answered otherwise, and both replies, if there is one
abbrev pub evidence_text : Option Witness → List ℕ
evidence_text None = []
evidence_text (Some w) = shown_text w

-- that no script was found; calls show the part, or telling what the command says that follows
abbrev pub none_found : Option Witness → List ℕ
none_found None = codes ": no command found; calls do\n"
none_found (Some w) = codes ": no command found; calls do, or telling what this says:\n"

-- what is said of a set of helpers: the script that was found, or that none was; and the evidence
abbrev pub way_text : List ℕ → Option (List (List ℕ)) → Option Witness → List ℕ
way_text set None w = (codes "    with " ++ (set ++ none_found w)) ++ evidence_text w
way_text set (Some lines) w = moved_in (codes "    with " ++ (set ++ codes ":\n")) lines ++ evidence_text w

-- the texts of some things, one after another
abbrev pub AllSaid : {X : Type 0} → (X → List ℕ → Type 0) → List X → List ℕ → Type 0
AllSaid Says [] text = text ≡ []
AllSaid Says (x ∷ xs) text = (first rest : List ℕ) × (text ≡ first ++ rest) × Says x first × AllSaid Says xs rest

-- what is said of a set of helpers, of a part that all users together see at this path, by this command, as the command made it that came after so many
abbrev pub SaysWay : Sort → List ℕ → List (List ℕ) → List TaskId → SeenPart → Option ℕ → List ℕ → List ℕ → HelpSet → List ℕ → Type 0
SaysWay sort script names who p made look path set text =
    (way : Option (List (List ℕ)))
    × FirstTried (ShowsWith sort who p script) (way_by_helpers names set path) (way_by_all names set who path) way
    × (text ≡ way_text (set_name names set) way (evidence sort script names who made look path set way))
