-- What a session tells, with the servers that the words make.
use Rattle.std.proofs.Common.{◌≡◌, ◌∙◌, ◌<◌, ◌+◌, length, slice_get, Bool, true, false, ℕ, zero, suc, List, [], ◌∷◌, Option, Some, None, IfSome, Ok, inl, inr, refl, sym, ap, subst, arith}
use Rattle.std.specs.Option.{option_map}
use Rattle.std.proofs.lemmas.Bool.{and_parts, ltb-true}
use Rattle.hurd_words.specs.declared.answers.Answer.{Answer}
use Rattle.hurd_trans_iface.specs.Meaning.{Begins, Meaning, begin}
use Rattle.hurd_kinds.specs.Boxes.{box_meaning}
use Rattle.hurd_kinds.specs.declared.server_box.ServerBox.{ServerBox}
use Rattle.hurd_dialogue.specs.Parts.{Goes, Part}
use Rattle.hurd_dialogue.specs.Parts as parts
use Rattle.hurd_script.specs.Commands.{CommandLine}
use Rattle.hurd_shell.specs.Session.{Answers, Takes, TakesUnlessFailed, Tells, View, has_failed, left_in, next_task, waits_for}
use Rattle.hurd_shell.specs.Transcript.{AsksFor, Dialogue, Maker, ends, tells, wants, told_by}
use Rattle.hurd_shell.specs.declared.session.Want.TheVariants.{Done, Output, Server}
use Rattle.hurd_world.specs.Held.{state_of}
use Rattle.hurd_world.specs.Noting.{NotesWhatIsTouched}
use Rattle.hurd_world.proofs.NotingLaws.{notes_refl, notes_trans}
use Rattle.hurd_shell.specs.Scripts.{way_of}
use Rattle.hurd_run.proofs.WayLaws.{task_next}

-- one part
part_told : (make : Maker) (d rest : Dialogue) (part : Part) → d ≡ tells part rest → told_by make d ≡ part ∷ told_by make rest
unfolding told_by
part_told make d rest part same = ap (told_by make) same

-- no part
ends_told : (make : Maker) (d : Dialogue) → d ≡ ends → told_by make d ≡ []
unfolding told_by
ends_told make d same = ap (told_by make) same

-- how many servers are asked for where a maker answers
unfoldable pub wants_by : Maker → Dialogue → ℕ
wants_by make ends = zero
wants_by make (tells part rest) = wants_by make rest
wants_by make (wants words rest) = suc (wants_by make (rest (make words)))

-- a server was asked for, and the maker answered

answered_told : (make : Maker) (d left : Dialogue) (words : List (List ℕ)) → AsksFor d words → Answers d (make words) left → told_by make d ≡ told_by make left
unfolding told_by
answered_told make ends left words asks answers = absurd asks
answered_told make (tells part rest) left words asks answers = absurd asks
answered_told make (wants asked rest) left words asks answers = ap (told_by make) (ap (λ (ws : List (List ℕ)). rest (make ws)) asks ∙ sym answers)

answered_counts : (make : Maker) (d left : Dialogue) (words : List (List ℕ)) → AsksFor d words → Answers d (make words) left → wants_by make d ≡ suc (wants_by make left)
unfolding wants_by
answered_counts make ends left words asks answers = absurd asks
answered_counts make (tells part rest) left words asks answers = absurd asks
answered_counts make (wants asked rest) left words asks answers =
    ap (λ (d : Dialogue). suc (wants_by make d)) (ap (λ (ws : List (List ℕ)). rest (make ws)) asks ∙ sym answers)

-- how often a session that is asked for its next part goes on: once more, and for each server; not at all where memory was refused
abbrev pub turns_by : Bool → ℕ → ℕ
turns_by true n = zero
turns_by false n = suc n

abbrev pub turns_left : View ServerBox → ℕ
turns_left s = turns_by (has_failed s) (wants_by begin (left_in box_meaning s))

fewer_by : (q : Bool) (n : ℕ) → turns_by q n < suc (suc n)
fewer_by true n = omega arith
fewer_by false n = omega arith

-- unless memory was refused, a session has still to tell what it had, and told no more; what is noted stays right
pub record Asking (start s : View ServerBox) : Type 0 where
  pub left : has_failed s ≡ false → told_by begin (left_in box_meaning s) ≡ told_by begin (left_in box_meaning start)
  pub given : has_failed s ≡ false → s.given ≡ start.given
  pub idle : has_failed s ≡ false → next_task s ≡ None → s ≡ start
  pub noted : has_failed s ≡ false → NotesWhatIsTouched (state_of box_meaning start.world) (state_of box_meaning s.world)

-- who waits for a server has a command on its way
got_some : (cs : List CommandLine) (n : ℕ) → n < length cs → option_map (λ (c : CommandLine). c.task) (slice_get cs n) ≡ None → ⊥
got_some [] n within none = omega (arith, within)
got_some (c ∷ cs) zero within none = cc
got_some (c ∷ cs) (suc n) within none = got_some cs n (omega (arith, within)) none

waits_next : (s : View ServerBox) → waits_for s ≡ true → next_task s ≡ None → ⊥
waits_next s waits none = got_some s.commands s.given (ltb-true _ _ (and_parts _ _ waits).1) none

pub asking_none : (s : View ServerBox) → Asking s s
asking_none s = record { left = λ _. refl; given = λ _. refl; idle = λ _ _. refl; noted = λ _. notes_refl _ }

module _ (start s x : View ServerBox) (so : Asking start s) (fine : has_failed s ≡ false) where
  -- a part was told
  pub asked_part : (answer : Answer) → Tells box_meaning s (Ok (Output answer)) x → (names : List (List ℕ)) → Goes (way_of start names) (Some answer) (way_of x names)
  asked_part text gives names = (
    gives.task,
    sym (so.left fine) ∙ part_told begin (left_in box_meaning s) (left_in box_meaning x) _ gives.left,
    gives.given ∙ ap (λ (n : ℕ). n + 1) (so.given fine),
  )

  -- all were
  pub asked_end : Tells box_meaning s (Ok Done) x → (names : List (List ℕ)) → Goes (way_of start names) None (way_of x names)
  asked_end done names =
      let none = ends_told begin (left_in box_meaning s) done.0 in
      let idle = so.idle fine (task_next s names ∙ ap parts.next_task none) in
      (sym (so.left fine) ∙ none, ap (λ (v : View ServerBox). way_of v names) (done.1 ∙ idle))

  -- a server was asked for, and what its words make was the answer
  module _ (words : List (List ℕ)) (wish : Tells box_meaning s (Ok (Server words)) x) (server : Option ServerBox) (made : option_map box_meaning server ≡ begin words) where
    pub asked_waits : waits_for x ≡ true
    asked_waits = wish.3

    asks : AsksFor (left_in box_meaning x) words
    asks = subst (λ (d : Dialogue). AsksFor d words) (sym wish.0) wish.1

    module _ (u : View ServerBox) (takes : TakesUnlessFailed box_meaning x (option_map box_meaning server) u) where
      answers : Takes box_meaning x (option_map box_meaning server) u → Answers (left_in box_meaning x) (begin words) (left_in box_meaning u)
      answers took = subst (λ (o : Option Meaning). Answers (left_in box_meaning x) o (left_in box_meaning u)) made took.0

      took_fine : has_failed u ≡ false → Takes box_meaning x (option_map box_meaning server) u
      took_fine still = elim takes [ inl failed ↦ absurd (let no = failed in cc) | inr took ↦ took ]

      pub asked_more : NotesWhatIsTouched (state_of box_meaning s.world) (state_of box_meaning x.world) → (has_failed u ≡ false → NotesWhatIsTouched (state_of box_meaning x.world) (state_of box_meaning u.world)) → Asking start u
      asked_more first next = record {
        left = λ still.
            sym (answered_told begin (left_in box_meaning x) (left_in box_meaning u) words asks (answers (took_fine still)))
            ∙ (ap (told_by begin) wish.0 ∙ so.left fine);
        given = λ still. (took_fine still).5 ∙ (wish.5 ∙ so.given fine);
        idle = λ still none. absurd (waits_next x asked_waits (sym (took_fine still).4 ∙ none));
        noted = λ still. notes_trans (so.noted fine) (notes_trans first (next still));
      }

      was : turns_left s ≡ suc (wants_by begin (left_in box_meaning x))
      was = ap (λ (q : Bool). turns_by q (wants_by begin (left_in box_meaning s))) fine ∙ ap (λ (d : Dialogue). suc (wants_by begin d)) (sym wish.0)

      pub asked_fewer : turns_left u < turns_left s
      asked_fewer = elim takes [
        | inl failed ↦
            let is : turns_left u ≡ zero = ap (λ (q : Bool). turns_by q (wants_by begin (left_in box_meaning u))) failed in
            omega (arith, was, is)
        | inr took ↦
            let more = answered_counts begin (left_in box_meaning x) (left_in box_meaning u) words asks (answers took) in
            let is : turns_left u < suc (suc (wants_by begin (left_in box_meaning u))) = fewer_by (has_failed u) (wants_by begin (left_in box_meaning u)) in
            omega (arith, was, more, is)
      ]

-- the server that words make begins as they say
pub made_begins : (words : List (List ℕ)) (server : Option ServerBox) → option_map box_meaning server ≡ begin words → IfSome server (λ box. Begins (box_meaning box))
made_begins words None made = tt
made_begins words (Some box) made = (words, sym made)
