-- What a program in C is said of one call, and what is copied for it.
use Rattle.std.specs.Prelude.{◌≡◌, ◌⊎◌, ℕ, List, Option, Some, None, Ok, length}
use Rattle.hurd_lists.specs.Lists.{Listed}
use Rattle.hurd_machine.specs.Calls.{Reply}
use Rattle.hurd_calls.specs.Making.{after_call}
use Rattle.hurd_numbers.specs.Calls.{numbered}
use Rattle.hurd_numbers.specs.Figures.{figures_of, plain, reply_bytes}
use Rattle.hurd_numbers.specs.Lines.{IsLineOf}
use Rattle.hurd_numbers.specs.declared.calls.Numbers.{Numbers}
use Rattle.hurd_sitting.specs.Kept.{learners_in, told_in, world_in}
use Rattle.hurd_sitting.specs.Replies.{Replies}
use Rattle.hurd_sitting.specs.declared.sitting.Sitting.{Sitting}
use Rattle.hurd_c.specs.Ends.{over, said_of, status_only}
use Rattle.hurd_c.specs.declared.calls.Answered.{Answered}
use Rattle.hurd_c.specs.declared.said.Said.{Said}

-- what is said of a call that was made, of which so many bytes are told
abbrev pub answered : Reply → ℕ → Answered
answered reply told = record { status = 0; reply = figures_of reply; length = length (reply_bytes reply); told = told }

-- what is said where there is no reply
abbrev pub unanswered : ℕ → Answered
unanswered status = record { status = status; reply = plain 0 0; length = 0; told = 0 }

-- a call was made in a sitting, and its reply is said and copied
pub record IsAnswered (c : Listed) (old : Sitting) (answer : Answered) (new : Sitting) (before after : List ℕ) : Type 0 where
  pub reply : Reply
  pub replies : Replies (learners_in old) c (world_in old) reply (told_in new) (world_in new)
  pub is : answer ≡ answered reply (length (told_in new))
  pub copied : after ≡ over (reply_bytes reply) before

-- memory was refused: nothing is copied, and the call was made, or nothing changed
pub record LacksMemory (c : Listed) (old : Sitting) (answer : Answered) (new : Sitting) (before after : List ℕ) : Type 0 where
  pub is : answer ≡ unanswered 3
  pub same : after ≡ before
  pub world : (world_in new ≡ world_in old) ⊎ (world_in new ≡ after_call c (world_in old))

-- numbers and bytes that make no call change nothing, and nothing is copied
pub record IsNoCall (old : Sitting) (answer : Answered) (new : Sitting) (before after : List ℕ) : Type 0 where
  pub is : (answer ≡ unanswered 7) ⊎ (answer ≡ unanswered 3)
  pub same : after ≡ before
  pub sitting : new ≡ old

-- what becomes of a call, if there is one, in a sitting
abbrev pub CalledIn : Option Listed → Sitting → Answered → Sitting → List ℕ → List ℕ → Type 0
CalledIn None old answer new before after = IsNoCall old answer new before after
CalledIn (Some c) old answer new before after = IsAnswered c old answer new before after ⊎ LacksMemory c old answer new before after

-- the line that makes the call of numbers and bytes is copied as far as there is room; or nothing is, and it is said why
abbrev pub Lined : Numbers → List ℕ → Said → List ℕ → List ℕ → Type 0
Lined n bytes said before after =
    ((line : List ℕ) × IsLineOf n bytes line × (said ≡ said_of (Ok tt) (length line)) × (after ≡ over line before))
    ⊎ (((said ≡ status_only 7) ⊎ (said ≡ status_only 3)) × (after ≡ before))

-- the same of what C keeps: where there is no world, nothing is made or copied, and there is none afterwards
abbrev pub CalledOf : Numbers → List ℕ → Option Sitting → Answered → Option Sitting → List ℕ → List ℕ → Type 0
CalledOf n bytes None answer None before after = (answer ≡ unanswered 4) × (after ≡ before)
CalledOf n bytes (Some old) answer (Some new) before after = CalledIn (numbered n bytes) old answer new before after
CalledOf n bytes _ answer _ before after = ⊥
