-- Of a text one text is printed with how some could be told each thing.
use Rattle.std.proofs.Common.{◌≡◌, ◌∙◌, ℕ, ◌+◌, ◌==◌, List, [], ◌∷◌, None, if◌then◌else◌, length, refl, sym, subst, ap}
use Rattle.hurd_dialogue.specs.Sorts.{Sort}
use Rattle.hurd_teaching.specs.Programs.{PrintsOneText}
use Rattle.hurd_teaching.proofs.OneText.{one_text_is_printed}
use Rattle.hurd_terminal.specs.Faults.{IsFront}
use Rattle.hurd_words.specs.Lines.{lines_of}
use Rattle.hurd_witnesses.specs.Answers.{unended}
use Rattle.hurd_witnesses.specs.Finding.{Found, finding}
use Rattle.hurd_witnesses.specs.Trials.{trials_of}
use Rattle.hurd_witnesses.specs.Witnesses.{how_of, if_learned, IsWitnessed, said_by, witnessed}
use Rattle.hurd_witnesses.specs.declared.hunt.Hunt.{Hunt}

-- what is said goes by what is listed, however it is kept
record SameHunt (h g : Hunt) : Type 0 where
  users : h.users.items ≡ g.users.items
  head : h.head ≡ g.head
  front : h.front ≡ g.front
  commands : h.commands.items ≡ g.commands.items

module _ (sort : Sort) (h g : Hunt) (same : SameHunt h g) where
  same_said : (made : ℕ) (trials : List (List ℕ)) → said_by sort h made trials ≡ said_by sort g made trials
  same_said made trials = rw (same.front, same.commands) refl

  same_how : (made : ℕ) (line : List ℕ) → how_of sort h made line ≡ how_of sort g made line
  same_how made line =
      ap (λ (users : List (List ℕ)). said_by sort h made (trials_of users line)) same.users ∙ same_said made (trials_of g.users.items line)

  same_line : (made : ℕ) (line : List ℕ) → if_learned sort h made line ≡ if_learned sort g made line
  same_line made line = rw (same.head, same_how made line) refl

  same_lines : (made : ℕ) (lines : List (List ℕ)) → witnessed sort h made lines ≡ witnessed sort g made lines
  unfolding witnessed
  same_lines made [] = refl
  same_lines made (line ∷ lines) = rw (same_line made line, same_lines (if length line == 0 then made + 1 else made) lines) refl

module _ (sort : Sort) (word text : List ℕ) where
  one_printed : (learned s t : List ℕ) → IsWitnessed sort word text learned s → IsWitnessed sort word text learned t → s ≡ t
  one_printed learned s t a b =
      let same : SameHunt a.hunt b.hunt = record {
        users = a.is.users ∙ sym b.is.users;
        head = a.is.head ∙ sym b.is.head;
        front = a.is.front ∙ sym b.is.front;
        commands = a.is.commands ∙ sym b.is.commands;
      } in
      a.all ∙ (same_lines sort a.hunt b.hunt same 0 (lines_of (unended learned)) ∙ sym b.all)

  one_found : (s t : List ℕ) → Found sort word text s → Found sort word text t → s ≡ t
  one_found s t a b =
      let learned : a.0 ≡ b.0 = (one_text_is_printed sort None word).one text a.0 b.0 a.1 b.1 in
      one_printed b.0 s t (subst (λ (l : List ℕ). IsWitnessed sort word text l s) learned a.2) b.2

pub one_finding : (sort : Sort) (word : List ℕ) → PrintsOneText (finding sort word)
one_finding sort word = record {
  one = λ text s t a b. one_found sort word text s t a b;
  front = λ text s t part all. subst (IsFront s) (one_found sort word text part.0 t part.1 all) part.2;
}
