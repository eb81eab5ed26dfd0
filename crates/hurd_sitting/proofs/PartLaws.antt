-- What calls tell in several texts, and in one.
use Rattle.std.specs.List.{concat}
use Rattle.std.proofs.Common.{◌≡◌, ◌∙◌, List, [], ◌∷◌, ◌++◌, ap, append-nil, map, refl}
use Rattle.std.proofs.lemmas.List.{map-append}
use Rattle.std.proofs.lemmas.List.Folds.{concat-append}
use Rattle.hurd_lists.specs.Lists.{Listed}
use Rattle.hurd_machine.specs.World.{World}
use Rattle.hurd_dialogue.specs.Parts.{Part, answers, joined, world_behind}
use Rattle.hurd_words.specs.Answers.{plain}
use Rattle.hurd_words.specs.declared.answers.Answer.{Answer}
use Rattle.hurd_calls.specs.Making.{after_call, answer_to, parts_of}
use Rattle.hurd_sitting.specs.Laws.{AreOne}
use Rattle.hurd_sitting.specs.Sittings.{behind, told_by}

-- the parts of the first, and then those of the others in the world after
parts_apart : (cs ds : List Listed) (w : World) → parts_of (cs ++ ds) w ≡ parts_of cs w ++ parts_of ds (behind cs w)
unfolding parts_of world_behind
parts_apart [] ds w = refl
parts_apart (c ∷ cs) ds w = ap (λ (ps : List Part). record { task = c.task.0; answer = answer_to c w; world = after_call c w } ∷ ps) (parts_apart cs ds (after_call c w))

behind_apart : (cs ds : List Listed) (w : World) → behind (cs ++ ds) w ≡ behind ds (behind cs w)
unfolding parts_of world_behind
behind_apart [] ds w = refl
behind_apart (c ∷ cs) ds w = behind_apart cs ds (after_call c w)

joined_apart : (ps qs : List Part) → joined (ps ++ qs) ≡ joined ps ++ joined qs
joined_apart ps qs =
    ap (λ (all : List Answer). concat (map plain all)) (map-append (λ (p : Part). p.answer) ps qs)
    ∙ (ap concat (map-append plain (answers ps) (answers qs)) ∙ concat-append (map plain (answers ps)) (map plain (answers qs)))

pub told_apart : (cs ds : List Listed) (w : World) → told_by (cs ++ ds) w ≡ told_by cs w ++ told_by ds (behind cs w)
told_apart cs ds w = ap joined (parts_apart cs ds w) ∙ joined_apart (parts_of cs w) (parts_of ds (behind cs w))

pub as_one : (first then : List Listed) (w : World) → AreOne first then w
as_one first then w = record { parts = parts_apart first then w; tells = told_apart first then w; leaves = behind_apart first then w }

-- of one call, and of none

pub one_told : (c : Listed) (w : World) → told_by (c ∷ []) w ≡ plain (answer_to c w)
unfolding parts_of
one_told c w = append-nil (plain (answer_to c w))

pub one_behind : (c : Listed) (w : World) → behind (c ∷ []) w ≡ after_call c w
unfolding parts_of world_behind
one_behind c w = refl

pub none_told : (w : World) → told_by [] w ≡ []
unfolding parts_of
none_told w = refl

pub none_behind : (w : World) → behind [] w ≡ w
unfolding parts_of world_behind
none_behind w = refl
