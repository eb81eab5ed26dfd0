-- What the lines of what could be shown mean.
use Rattle.std.specs.Prelude.{◌↔◌, ℕ, Bool, List, Some}
use Rattle.hurd_creds.specs.declared.name.TaskId.{TaskId}
use Rattle.hurd_dialogue.specs.Sorts.{Sort}
use Rattle.hurd_machine.specs.World.{IsAmong, World}
use Rattle.hurd_sight.specs.declared.parts.SeenPart.{SeenPart}
use Rattle.hurd_teaching.specs.Programs.{PrintsOneText}
use Rattle.hurd_can.specs.Help.{AreEnough, Help, IsEnough, IsHelped, pairs_of}
use Rattle.hurd_can.specs.Programs.{could}
use Rattle.hurd_can.specs.Tried.{FirstTried, ShowsWith}
use Rattle.hurd_can.specs.declared.helped.Pair.{Pair}

-- one of the others is a helper exactly where his help is enough, and two of them are a pair exactly where theirs is, and neither's alone
abbrev pub HelpersAreExact : Type 0
HelpersAreExact =
    (w : World) (who others : List TaskId) (p : SeenPart) (help : Help) → IsHelped w who others p help
    → ((d : TaskId) → IsAmong d help.ones ↔ (IsAmong d others × IsEnough w who p d))
    × ((pair : Pair) → IsAmong pair help.twos ↔ (IsAmong pair (pairs_of others) × AreEnough w who p pair))

-- of a text one such text is printed
abbrev pub OneCouldIsPrinted : Type 0
OneCouldIsPrinted = (sort : Sort) (every how : Bool) (word : List ℕ) → PrintsOneText (could sort every how word)

-- a script that is found, without the lines that can be left out, shows the part
abbrev pub FoundWaysShow : Type 0
FoundWaysShow =
    (sort : Sort) (who : List TaskId) (p : SeenPart) (text : List ℕ) (one other lines : List (List ℕ))
    → FirstTried (ShowsWith sort who p text) one other (Some lines) → ShowsWith sort who p text lines
