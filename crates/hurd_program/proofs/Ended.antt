-- How a run of a text ended.
use Rattle.std.proofs.Common.{◌≡◌, ◌≢◌, ◌∙◌, ◌⊎◌, inl, inr, refl, sym, ap, subst, take, true, ℕ, List, [], None, Some, Option, IfSome, Result, Ok, Err}
use Rattle.hurd_terminal.specs.Faults.{IsReadFault, Says, line_of, status_of}
use Rattle.hurd_terminal.specs.Runs.{Adds, Ends, Exits, Program}
use Rattle.hurd_terminal.specs.declared.fault.Fault.{Fault}
use Rattle.hurd_terminal.specs.declared.fault.Fault.TheVariants.{Read, Write, Bad, Unknown, Boot, Memory}
use Rattle.hurd_terminal.specs.declared.print.Output.{Output}
use Rattle.hurd_terminal.specs.declared.read.Input.{Input}
use Rattle.hurd_program.specs.Requests.{bad_line}
use Rattle.hurd_terminal.proofs.RunLaws.{HasLimit, bad_or_not, ran_whole, unread}

-- a bad text was told, or memory was refused for that
pub bad_ends : (p : Program) (file text : List ℕ) {W E : Type 0} (contents : W → Option (List ℕ)) (said : E → Option (List ℕ)) (output written : Output W) (errors told : Output E) (line status : ℕ)
    (ended : Result (Unit {0}) Fault) → Adds p text (contents output.writer) (contents written.writer) (Err (Bad line)) → (ended ≡ Err (Bad line)) ⊎ (ended ≡ Err Memory)
    → Says said errors told (line_of file (p.complaint text) [] ended) → status ≡ status_of ended → Ends p file text contents said output written errors told status
bad_ends p file text contents said output written errors told line status ended adds (inl is) says by = record {
  ended = Err (Bad line);
  adds = adds;
  read = λ no. absurd (cc);
  write = λ no. absurd (cc);
  says = subst (λ (e : Result (Unit {0}) Fault). Says said errors told (line_of file (p.complaint text) [] e)) is says;
  is = by ∙ ap status_of is;
}
bad_ends p file text contents said output written errors told line status ended adds (inr is) says by = record {
  ended = Err Memory;
  adds = bad_or_not p (contents output.writer) (contents written.writer) text line adds;
  read = λ no. absurd (cc);
  write = λ no. absurd (cc);
  says = subst (λ (e : Result (Unit {0}) Fault). Says said errors told (line_of file (p.complaint text) [] e)) is says;
  is = by ∙ ap status_of is;
}

-- of what is no bad text the same line is said, whatever would be said of one
other_line : (file complaint stranger : List ℕ) (ended : Result (Unit {0}) Fault) → bad_line ended ≡ None → line_of file [] stranger ended ≡ line_of file complaint stranger ended
other_line file complaint stranger (Ok u) other = refl
other_line file complaint stranger (Err Read) other = refl
other_line file complaint stranger (Err Write) other = refl
other_line file complaint stranger (Err (Bad line)) other = absurd (cc other)
other_line file complaint stranger (Err Unknown) other = refl
other_line file complaint stranger (Err (Boot e)) other = refl
other_line file complaint stranger (Err Memory) other = refl

-- a bad line is one of a run that ended so
pub was_bad : (ended : Result (Unit {0}) Fault) (line : ℕ) → bad_line ended ≡ Some line → ended ≡ Err (Bad line)
was_bad (Ok u) line is = absurd (cc is)
was_bad (Err Read) line is = absurd (cc is)
was_bad (Err Write) line is = absurd (cc is)
was_bad (Err (Bad l)) line is = let same : l ≡ line = cc is in rw same refl
was_bad (Err Unknown) line is = absurd (cc is)
was_bad (Err (Boot e)) line is = absurd (cc is)
was_bad (Err Memory) line is = absurd (cc is)

-- a text was told, or there was another fault
pub other_ends : (p : Program) (file text stranger : List ℕ) {W E : Type 0} (contents : W → Option (List ℕ)) (said : E → Option (List ℕ)) (output written : Output W) (errors told : Output E) (status : ℕ)
    (ended : Result (Unit {0}) Fault) → bad_line ended ≡ None → stranger ≡ p.stranger → Adds p text (contents output.writer) (contents written.writer) ended → ended ≢ Err Read → (ended ≡ Err Write → written.failed ≡ true)
    → Says said errors told (line_of file [] stranger ended) → status ≡ status_of ended → Ends p file text contents said output written errors told status
other_ends p file text stranger contents said output written errors told status ended other same adds read write says by = record {
  ended = ended;
  adds = adds;
  read = read;
  write = write;
  says = subst (λ (line : List ℕ). Says said errors told line) (other_line file (p.complaint text) stranger ended other ∙ ap (λ (s : List ℕ). line_of file (p.complaint text) s ended) same) says;
  is = by;
}

-- the first bytes of a text that were read, or all, stand for the text
pub exits_whole : (p : Program) → HasLimit p.bad p.complaint → (file ys : List ℕ) {R W E : Type 0} (remaining : R → Option (List ℕ)) (contents : W → Option (List ℕ)) (said : E → Option (List ℕ))
    (input read : Input R) (output written : Output W) (errors told : Output E) (status : ℕ) → IfSome (remaining input.reader) (λ xs. ys ≡ take 1048577 xs)
    → Ends p file ys contents said output written errors told status → Exits p file remaining contents said input read output written errors told status
exits_whole p limit file ys remaining contents said input read output written errors told status cut ends =
    let ran = ran_whole p limit (remaining input.reader) (contents output.writer) (contents written.writer) ends.ended ys cut ends.adds in
    record {
      ended = ends.ended;
      ran = ran.0;
      blames = record { read = λ no. absurd (ends.read no); write = λ is. ends.write is };
      says = subst (λ (c : List ℕ). Says said errors told (line_of file c p.stranger ends.ended)) (sym ran.1) ends.says;
      is = ends.is;
    }

-- the text could not be read
pub exits_unread : (p : Program) (file : List ℕ) {R W E : Type 0} (remaining : R → Option (List ℕ)) (contents : W → Option (List ℕ)) (said : E → Option (List ℕ))
    (input read : Input R) (output : Output W) (errors told : Output E) (status : ℕ) (fault : Fault) → IsReadFault read fault
    → Says said errors told (line_of file [] [] (Err fault)) → status ≡ status_of (Err fault) → Exits p file remaining contents said input read output output errors told status
exits_unread p file remaining contents said input read output errors told status fault (inl (is, why)) says by = record {
  ended = Err Read;
  ran = unread p read (remaining input.reader) (contents output.writer) Read (inl (refl, why));
  blames = record { read = λ _. why; write = λ no. absurd (cc) };
  says = subst (λ (f : Fault). Says said errors told (line_of file [] [] (Err f))) is says;
  is = by ∙ ap (λ (f : Fault). status_of (Err f)) is;
}
exits_unread p file remaining contents said input read output errors told status fault (inr is) says by = record {
  ended = Err Memory;
  ran = unread p read (remaining input.reader) (contents output.writer) Memory (inr refl);
  blames = record { read = λ no. absurd (cc); write = λ no. absurd (cc) };
  says = subst (λ (f : Fault). Says said errors told (line_of file [] [] (Err f))) is says;
  is = by ∙ ap (λ (f : Fault). status_of (Err f)) is;
}
