-- How a line of a record is judged.
use Rattle.std.specs.Prelude.{◌≡◌, ◌==◌, ℕ, List, Bool, Result, Err, if◌then◌else◌, length, nat_lt, not}
use Rattle.hurd_creds.specs.Limits.{most_script}
use Rattle.hurd_lists.specs.Lists.{Standing, with_line}
use Rattle.hurd_lists.specs.declared.flaw.ListFlaw.{ListFlaw}
use Rattle.hurd_lists.specs.declared.flaw.ListFlaw.TheVariants.{Length}

-- what was said with a line more, or why that is bad: it is longer than a list may be, or a list could not go on with it
abbrev pub said_with : Standing → List ℕ → Result Standing ListFlaw
said_with s line = if nat_lt most_script (length line) then Err Length else with_line s line

-- so many tasks were said, and whether a call was
abbrev pub Says : Standing → ℕ → Bool → Type 0
Says s tasks late = (length s.tasks ≡ tasks) × (not (length s.calls == 0) ≡ late)
