-- The lines of a list.
use Rattle.std.proofs.Common.{◌≡◌, ◌+◌, ◌∷◌, [], ℕ, List, Option, Some, None, Result, Ok, Err, codes, false, ◌==◌, refl, sym, ◌∙◌, ap, option_map}
use Rattle.std.specs.List.{slice_split}
use Rattle.std.specs.Result.{result_flatten, result_map_both}
use Rattle.hurd_trans_iface.specs.Meaning.{Meaning}
use Rattle.hurd_words.specs.Lines.{is_skipped}
use Rattle.hurd_words.specs.Reading.{good_words}
use Rattle.hurd_words.specs.Users.{begins_with}
use Rattle.hurd_lists.specs.Flaws.{BadLine, Gives, found_or}
use Rattle.hurd_lists.specs.declared.flaw.LineFault.{LineFault}
use Rattle.hurd_lists.specs.declared.flaw.LineFault.TheVariants as told
use Rattle.hurd_lists.specs.declared.flaw.ListFlaw.{ListFlaw}
use Rattle.hurd_lists.specs.declared.flaw.ListFlaw.TheVariants.{Word}
use Rattle.hurd_lists.specs.Lists.{Parses, Standing, call_from, fault_at, bad_at, read_from, with_call, with_line}
use Rattle.hurd_lists.specs.Words.{bytes_of}

-- a line that is read, and one that is bad
pub read_next : (number : ℕ) (s next : Standing) (line : List ℕ) (lines : List (List ℕ)) → with_line s line ≡ Ok next
    → read_from number s (line ∷ lines) ≡ read_from (number + 1) next lines
unfolding read_from
read_next number s next line lines e = ap (λ (r : Result Standing ListFlaw). result_flatten (result_map_both (λ n. read_from (number + 1) n lines) (bad_at number) r)) e

read_bad : (number : ℕ) (s : Standing) (line : List ℕ) (lines : List (List ℕ)) (flaw : ListFlaw) → with_line s line ≡ Err flaw
    → read_from number s (line ∷ lines) ≡ Err (bad_at number flaw)
unfolding read_from
read_bad number s line lines flaw e = ap (λ (r : Result Standing ListFlaw). result_flatten (result_map_both (λ n. read_from (number + 1) n lines) (bad_at number) r)) e

pub read_ended : (number : ℕ) (s : Standing) → read_from number s [] ≡ Ok s
unfolding read_from
read_ended number s = refl

-- what a line that was not read says
pub line_not_read : {S : Type 0} (f : S → Meaning) (e : LineFault) (number : ℕ) (s after : Standing) (line : List ℕ) (lines : List (List ℕ)) (wanted : Result Standing BadLine) → read_from number s (line ∷ lines) ≡ wanted
    → Gives {X = Unit {0}} (λ _. after) (with_line s line) (Err e) → Parses f wanted (Err (fault_at e number))
line_not_read f told.Memory number s after line lines wanted same r = tt
line_not_read f (told.Bad flaw) number s after line lines wanted same r = sym same ∙ read_bad number s line lines flaw r

-- a line of these words that is no task's
pub call_line : (s : Standing) (line : List ℕ) (words : List (List ℕ)) → is_skipped line ≡ false → found_or Word (good_words bytes_of (slice_split (λ b. b == 32) line)) ≡ Ok words
    → begins_with (codes "task") words ≡ false → with_line s line ≡ with_call s (call_from line words)
call_line s line words said read no_task = rw (said, read, no_task) refl
