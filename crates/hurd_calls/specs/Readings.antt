-- What a list says, and where and why it is bad.
use Rattle.std.specs.Prelude.{ℕ, List, Option, Some, None, Result, Ok, Err}
use Rattle.hurd_lists.specs.Flaws.{BadLine, flaw_text}
use Rattle.hurd_lists.specs.Lists.{Standing, unsaid}

-- the line at which a list is bad
abbrev pub bad_line : Result Standing BadLine → Option ℕ
bad_line (Ok said) = None
bad_line (Err bad) = Some bad.line

-- why it is bad, in words
abbrev pub flaw_in : Result Standing BadLine → Option (List ℕ)
flaw_in (Ok said) = None
flaw_in (Err bad) = Some (flaw_text bad.flaw)

-- what a list says, and nothing where it is bad
abbrev pub said_in : Result Standing BadLine → Standing
said_in (Ok said) = said
said_in (Err bad) = unsaid
