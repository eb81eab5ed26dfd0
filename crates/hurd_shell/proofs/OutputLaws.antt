-- What a session gave and was answered, along its transcript.
use Rattle.std.proofs.Common.{◌≡◌, ℕ, List, [], ◌∷◌, ◌++◌, Option, Ok, refl, sym, ◌∙◌, ap, append-nil}
use Rattle.hurd_trans_iface.specs.Meaning.{Meaning}
use Rattle.hurd_words.specs.declared.answers.Answer.{Answer}
use Rattle.hurd_shell.specs.Session.{Answers, Tells, View, left_in}
use Rattle.hurd_shell.specs.Outputs.{Came, Event, answered, answers_in, asked, told, told_in}
use Rattle.hurd_dialogue.specs.Parts.{Part}
use Rattle.hurd_shell.specs.Transcript.{Dialogue, Maker, ends, tells, wants, parts_by, parts_of, says_by, told_by, wanted_of}
use Rattle.hurd_shell.specs.declared.session.Want.TheVariants.{Done}

-- what is told after an answer is what follows it
answer_parts : (d left : Dialogue) (server : Option Meaning) (says : List (Option Meaning)) → Answers d server left → parts_of d (server ∷ says) ≡ parts_of left says
unfolding parts_of
answer_parts ends left server says a = absurd a
answer_parts (tells part rest) left server says a = absurd a
answer_parts (wants words rest) left server says a = ap (λ (e : Dialogue). parts_of e says) (sym a)

answer_wanted : (d left : Dialogue) (server : Option Meaning) (says : List (Option Meaning)) → Answers d server left → wanted_of d (server ∷ says) ≡ wanted_of left says
unfolding wanted_of
answer_wanted ends left server says a = absurd a
answer_wanted (tells part rest) left server says a = absurd a
answer_wanted (wants words rest) left server says a = ap (λ (e : Dialogue). wanted_of e says) (sym a)

told_parts : (d rest : Dialogue) (part : Part) (says : List (Option Meaning)) → d ≡ tells part rest → parts_of d says ≡ part.answer ∷ parts_of rest says
unfolding parts_of
told_parts d rest part says same = ap (λ (e : Dialogue). parts_of e says) same

told_wanted : (d rest : Dialogue) (part : Part) (says : List (Option Meaning)) → d ≡ tells part rest → wanted_of d says ≡ wanted_of rest says
unfolding wanted_of
told_wanted d rest part says same = ap (λ (e : Dialogue). wanted_of e says) same

-- what a session told, and what it has left, are what it had left
pub came_parts : {S : Type 0} (f : S → Meaning) (s x : View S) (events : List Event) → Came f s events x
    → (says : List (Option Meaning)) → parts_of (left_in f s) (answers_in events ++ says) ≡ told_in events ++ parts_of (left_in f x) says
came_parts f s x [] came says = ap (λ (y : View _). parts_of (left_in f y) says) (sym came)
came_parts f s x (told part ∷ events) (y, happened, came) says =
    told_parts _ _ _ _ happened.left ∙ ap (λ (ps : List Answer). part ∷ ps) (came_parts f y x events came says)
came_parts f s x (asked words ∷ events) (y, happened, came) says =
    ap (λ (d : Dialogue). parts_of d (answers_in events ++ says)) (sym happened.0) ∙ came_parts f y x events came says
came_parts f s x (answered server ∷ events) (y, happened, came) says = answer_parts _ _ server _ happened.0 ∙ came_parts f y x events came says

pub came_wanted : {S : Type 0} (f : S → Meaning) (s x : View S) (events : List Event) → Came f s events x
    → (says : List (Option Meaning)) → wanted_of (left_in f s) (answers_in events ++ says) ≡ wanted_of (left_in f x) says
came_wanted f s x [] came says = ap (λ (y : View _). wanted_of (left_in f y) says) (sym came)
came_wanted f s x (told part ∷ events) (y, happened, came) says = told_wanted _ _ _ _ happened.left ∙ came_wanted f y x events came says
came_wanted f s x (asked words ∷ events) (y, happened, came) says =
    ap (λ (d : Dialogue). wanted_of d (answers_in events ++ says)) (sym happened.0) ∙ came_wanted f y x events came says
came_wanted f s x (answered server ∷ events) (y, happened, came) says = answer_wanted _ _ server _ happened.0 ∙ came_wanted f y x events came says

no_parts : (d : Dialogue) (says : List (Option Meaning)) → d ≡ ends → parts_of d says ≡ []
unfolding parts_of
no_parts d says same = ap (λ (e : Dialogue). parts_of e says) same

-- at the end all is told
pub came_whole : {S : Type 0} (f : S → Meaning) (s x : View S) (events : List Event) → Came f s events x → Tells f x (Ok Done) x
    → told_in events ≡ parts_of (left_in f s) (answers_in events)
came_whole f s x events came done =
    let left = came_parts f s x events came [] in
    sym (ap (parts_of (left_in f s)) (sym (append-nil (answers_in events))) ∙ (left ∙ (ap (λ (ps : List Answer). told_in events ++ ps) (no_parts _ [] done.0) ∙ append-nil (told_in events))))

-- a maker's answers
pub maker_answers : (make : Maker) (d : Dialogue) → parts_by make d ≡ parts_of d (says_by make d)
unfolding told_by parts_of says_by
maker_answers make ends = refl
maker_answers make (tells part rest) = ap (λ (ps : List Answer). part.answer ∷ ps) (maker_answers make rest)
maker_answers make (wants words rest) = maker_answers make (rest (make words))
