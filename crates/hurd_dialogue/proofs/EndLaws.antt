-- The world at the end of a text, from each point of its way on.
use Rattle.std.proofs.Common.{◌≡◌, ◌∙◌, ℕ, List, [], ◌∷◌, Some, None, refl, sym, ap}
use Rattle.hurd_machine.specs.World.{World}
use Rattle.hurd_words.specs.declared.answers.Answer.{Answer}
use Rattle.hurd_dialogue.specs.Parts.{Goes, Part, Way, world_behind}

no_more : (w : World) → world_behind w [] ≡ w
unfolding world_behind
no_more w = refl

one_more : (w : World) (p : Part) (rest : List Part) → world_behind w (p ∷ rest) ≡ world_behind p.world rest
unfolding world_behind
one_more w p rest = refl

-- where a text ends from some point on
abbrev pub end_of : Way → World
end_of way = world_behind way.world way.left

-- a part that is told doesn't change where it ends
pub end_stays : (old new : Way) (answer : Answer) → Goes old (Some answer) new → end_of new ≡ end_of old
end_stays old new answer goes = sym (ap (world_behind old.world) goes.1 ∙ one_more old.world _ new.left)

-- where none is left, it is there
pub at_end : (old new : Way) → Goes old None new → new.world ≡ end_of old
at_end old new none = ap (λ (way : Way). way.world) none.1 ∙ sym (ap (world_behind old.world) none.0 ∙ no_more old.world)
