-- What is told of calls that are made one after another.
use Rattle.std.specs.Prelude.{ℕ, List, [], ◌∷◌}
use Rattle.hurd_machine.specs.World.{World}
use Rattle.hurd_laws.specs.Step.{after, reply_of}
use Rattle.hurd_dialogue.specs.Parts.{Part}
use Rattle.hurd_lists.specs.Lists.{Listed}
use Rattle.hurd_lists.specs.Replies.{answered}
use Rattle.hurd_words.specs.declared.answers.Answer.{Answer}

-- what a call is answered: to its line, the machine's reply
abbrev pub answer_to : Listed → World → Answer
answer_to c w = answered c.line (reply_of w c.task.0 c.call)

-- the world after a call
abbrev pub after_call : Listed → World → World
after_call c w = after w c.task.0 c.call

-- the parts of calls that are made one after another
unfoldable pub parts_of : List Listed → World → List Part
parts_of [] w = []
parts_of (c ∷ cs) w = record { task = c.task.0; answer = answer_to c w; world = after_call c w } ∷ parts_of cs (after_call c w)
