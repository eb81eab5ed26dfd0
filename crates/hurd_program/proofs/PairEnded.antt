-- How a run of two scripts ended.
use Rattle.std.proofs.Common.{◌≡◌, ◌≢◌, ◌∙◌, ◌⊎◌, inl, inr, refl, ap, subst, ℕ, List, [], ◌++◌, Option, Result, Err, codes, true}
use Rattle.std.specs.Io.KnownBytes.{Appends}
use Rattle.hurd_shell.specs.Scripts.{scripts}
use Rattle.hurd_words.specs.Escapes.{escaped}
use Rattle.hurd_terminal.specs.Faults.{Says, line_of, status_of}
use Rattle.hurd_terminal.specs.declared.fault.Fault.{Fault}
use Rattle.hurd_terminal.specs.declared.fault.Fault.TheVariants.{Read, Write, Bad, Unknown, Boot, Memory}
use Rattle.hurd_terminal.specs.declared.print.Output.{Output}
use Rattle.hurd_pairs.specs.Reports.{PairPrints}
use Rattle.hurd_pairs.specs.declared.difference.Mismatch.{Mismatch}
use Rattle.hurd_pairs.specs.declared.difference.PairFault.{PairFault}
use Rattle.hurd_pairs.specs.declared.difference.PairFault.TheVariants.{First, Second, NoPair}
use Rattle.hurd_pairs.specs.declared.difference.Verdict.{Verdict}
use Rattle.hurd_program.specs.Pairs.{IsBlamed, PairEnds, pair_line, pair_status}

-- what was printed of two scripts that are not told for this reason
abbrev pub Printed : List ℕ → List ℕ → List ℕ → Option (List ℕ) → Option (List ℕ) → PairFault → Type 0
Printed word one two before after fault = (printed : List ℕ) × Appends before after printed × PairPrints word one two (Err fault) printed

-- the first's fault
abbrev fault_in : Result Verdict PairFault → Fault
fault_in (Err (First fault)) = fault
fault_in _ = Memory

abbrev first_fault : Fault → Result Verdict PairFault
first_fault fault = Err (First fault)

pub told_as : {f g : Fault} → f ≡ g → first_fault f ≡ first_fault g
told_as is = ap first_fault is

-- nothing, but where a write is to blame

first_none : (word one two : List ℕ) (fault : Fault) (printed : List ℕ) → fault ≢ Write → PairPrints word one two (Err (First fault)) printed → printed ≡ []
unfolding PairPrints
first_none word one two Read printed other prints = prints.1
first_none word one two Write printed other prints = absurd (other refl)
first_none word one two (Bad line) printed other prints = prints.1
first_none word one two Unknown printed other prints = prints.1
first_none word one two (Boot e) printed other prints = prints.1
first_none word one two Memory printed other prints = prints.1

second_none : (word one two : List ℕ) (fault : Fault) (printed : List ℕ) → PairPrints word one two (Err (Second fault)) printed → printed ≡ []
unfolding PairPrints
second_none word one two fault printed prints = prints.2

no_pair_none : (word one two : List ℕ) (why : Mismatch) (printed : List ℕ) → PairPrints word one two (Err (NoPair why)) printed → printed ≡ []
unfolding PairPrints
no_pair_none word one two why printed prints = prints.2

memory_prints : (word one two printed : List ℕ) → printed ≡ [] → PairPrints word one two (Err (First Memory)) printed
unfolding PairPrints
memory_prints word one two printed none = (tt, none)

module _ (word first second one two : List ℕ) {W E : Type 0} (contents : W → Option (List ℕ)) (said : E → Option (List ℕ)) (output written : Output W) (errors told : Output E) (status : ℕ) where
  -- memory was refused where something was to be said
  no_memory_ends : (fault : PairFault) (prints : Printed word one two (contents output.writer) (contents written.writer) fault) → prints.0 ≡ []
      → Says said errors told (pair_line word first second one two (Err (First Memory))) → status ≡ status_of (Err Memory) → PairEnds word first second one two contents said output written errors told status
  no_memory_ends fault prints none says is = record {
    ended = Err (First Memory);
    printed = prints.0;
    adds = prints.1;
    prints = memory_prints word one two prints.0 none;
    write = λ wrong. absurd (cc);
    says = says;
    is = is;
  }

  pub first_ends : (fault : Fault) → Printed word one two (contents output.writer) (contents written.writer) (First fault) → (fault ≡ Write → written.failed ≡ true)
      → IsBlamed word first one fault said errors told status → PairEnds word first second one two contents said output written errors told status
  first_ends fault prints write blamed = elim blamed.why [
    | inl is ↦ record {
      ended = Err (First fault);
      printed = prints.0;
      adds = prints.1;
      prints = prints.2;
      write = λ is_write. write (ap fault_in is_write);
      says = subst (λ (f : Fault). Says said errors told (pair_line word first second one two (Err (First f)))) is blamed.says;
      is = blamed.is ∙ ap (λ (f : Fault). status_of (Err f)) is;
    }
    | inr is ↦ no_memory_ends (First fault) prints (first_none word one two fault prints.0 is.1 prints.2)
        (subst (λ (f : Fault). Says said errors told (pair_line word first second one two (Err (First f)))) is.0 blamed.says) (blamed.is ∙ ap (λ (f : Fault). status_of (Err f)) is.0)
  ]

  pub second_ends : (fault : Fault) → Printed word one two (contents output.writer) (contents written.writer) (Second fault)
      → IsBlamed word second two fault said errors told status → PairEnds word first second one two contents said output written errors told status
  second_ends fault prints blamed = elim blamed.why [
    | inl is ↦ record {
      ended = Err (Second fault);
      printed = prints.0;
      adds = prints.1;
      prints = prints.2;
      write = λ wrong. absurd (cc);
      says = subst (λ (f : Fault). Says said errors told (pair_line word first second one two (Err (Second f)))) is blamed.says;
      is = blamed.is ∙ ap (λ (f : Fault). status_of (Err f)) is;
    }
    | inr is ↦ no_memory_ends (Second fault) prints (second_none word one two fault prints.0 prints.2)
        (subst (λ (f : Fault). Says said errors told (line_of second (scripts.complaint two) (scripts.stranger ++ (escaped word ++ codes "\n")) (Err f))) is.0 blamed.says) (blamed.is ∙ ap (λ (f : Fault). status_of (Err f)) is.0)
  ]

  pub no_pair_ends : (why : Mismatch) → Printed word one two (contents output.writer) (contents written.writer) (NoPair why) → (ended : Result Verdict PairFault)
      → (ended ≡ Err (NoPair why)) ⊎ (ended ≡ Err (First Memory)) → Says said errors told (pair_line word first second one two ended) → status ≡ pair_status ended
      → PairEnds word first second one two contents said output written errors told status
  no_pair_ends why prints ended (inl is) says by = record {
    ended = Err (NoPair why);
    printed = prints.0;
    adds = prints.1;
    prints = prints.2;
    write = λ wrong. absurd (cc);
    says = subst (λ (e : Result Verdict PairFault). Says said errors told (pair_line word first second one two e)) is says;
    is = by ∙ ap pair_status is;
  }
  no_pair_ends why prints ended (inr is) says by =
      no_memory_ends (NoPair why) prints (no_pair_none word one two why prints.0 prints.2)
      (subst (λ (e : Result Verdict PairFault). Says said errors told (pair_line word first second one two e)) is says) (by ∙ ap pair_status is)

-- what is said of a bad script, and where somebody is named who isn't in it

module _ (word file text : List ℕ) {E : Type 0} (said : E → Option (List ℕ)) (errors told : Output E) (status : ℕ) where
  pub bad_blamed : (line : ℕ) (ended : Result (Unit {0}) Fault) → (ended ≡ Err (Bad line)) ⊎ (ended ≡ Err Memory) → Says said errors told (line_of file (scripts.complaint text) [] ended) → status ≡ status_of ended
      → IsBlamed word file text (Bad line) said errors told status
  bad_blamed line ended (inl is) says by = record {
    ended = Bad line;
    why = inl refl;
    says = subst (λ (e : Result (Unit {0}) Fault). Says said errors told (line_of file (scripts.complaint text) [] e)) is says;
    is = by ∙ ap status_of is;
  }
  bad_blamed line ended (inr is) says by = record {
    ended = Memory;
    why = inr (refl, λ wrong. absurd (cc));
    says = subst (λ (e : Result (Unit {0}) Fault). Says said errors told (line_of file (scripts.complaint text) [] e)) is says;
    is = by ∙ ap status_of is;
  }

  abbrev named : List ℕ
  named = scripts.stranger ++ (escaped word ++ codes "\n")

  pub stranger_blamed : (ended : Result (Unit {0}) Fault) → (ended ≡ Err Unknown) ⊎ (ended ≡ Err Memory) → ((complaint : List ℕ) → Says said errors told (line_of file complaint named ended)) → status ≡ status_of ended
      → IsBlamed word file text Unknown said errors told status
  stranger_blamed ended (inl is) says by = record {
    ended = Unknown;
    why = inl refl;
    says = subst (λ (e : Result (Unit {0}) Fault). Says said errors told (line_of file (scripts.complaint text) named e)) is (says (scripts.complaint text));
    is = by ∙ ap status_of is;
  }
  stranger_blamed ended (inr is) says by = record {
    ended = Memory;
    why = inr (refl, λ wrong. absurd (cc));
    says = subst (λ (e : Result (Unit {0}) Fault). Says said errors told (line_of file (scripts.complaint text) named e)) is (says (scripts.complaint text));
    is = by ∙ ap status_of is;
  }
