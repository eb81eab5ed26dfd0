-- The outputs of a session, and the answers that it was given.
use Rattle.std.specs.Prelude.{◌≡◌, ℕ, List, [], ◌∷◌, Option, Ok}
use Rattle.hurd_trans_iface.specs.Meaning.{Meaning}
use Rattle.hurd_words.specs.declared.answers.Answer.{Answer}
use Rattle.hurd_shell.specs.Session.{Takes, Tells, View}
use Rattle.hurd_shell.specs.declared.session.Want.TheVariants.{Output, Server}

-- what happens to a session: it gives an answer of its transcript, asks for a server of some words, or is given an answer
pub data Event : Type 0 where
  told : Answer → Event
  asked : List (List ℕ) → Event
  answered : Option Meaning → Event

-- the answers that were told
abbrev pub told_in : List Event → List Answer
told_in [] = []
told_in (told answer ∷ events) = answer ∷ told_in events
told_in (asked words ∷ events) = told_in events
told_in (answered server ∷ events) = told_in events

-- the answers that were given
abbrev pub answers_in : List Event → List (Option Meaning)
answers_in [] = []
answers_in (told answer ∷ events) = answers_in events
answers_in (asked words ∷ events) = answers_in events
answers_in (answered server ∷ events) = server ∷ answers_in events

-- one thing happened to a session: `next` gave a part or asked for a server, or `supply` or `supply_none` took an answer
abbrev pub Happened : {S : Type 0} → (S → Meaning) → View S → Event → View S → Type 0
Happened f s (told answer) x = Tells f s (Ok (Output answer)) x
Happened f s (asked words) x = Tells f s (Ok (Server words)) x
Happened f s (answered server) x = Takes f s server x

-- a session came from s to x, and these things happened on the way
abbrev pub Came : {S : Type 0} → (S → Meaning) → View S → List Event → View S → Type 0
Came f s [] x = x ≡ s
Came {S} f s (event ∷ events) x = (y : View S) × Happened f s event y × Came f y events x
