-- What was printed of vectors so far.
use Rattle.std.specs.Prelude.{IfErr, OnOk, Result}
use Rattle.std.specs.List.{concat}
use Rattle.std.specs.Io.KnownBytes.{Appends}
use Rattle.std.proofs.Common.{◌≡◌, ◌∙◌, ℕ, List, [], ◌∷◌, ◌++◌, Ok, Err, Option, true, ap, append-nil, append_assoc, inl, length, refl, subst, suc, sym}
use Rattle.std.proofs.KnownBytes.{Appends-nil, Appends-trans}
use Rattle.hurd_terminal.specs.Faults.{AppendsFront, IsPrintFault}
use Rattle.hurd_terminal.specs.Runs.{Adds, IsTaken}
use Rattle.hurd_terminal.specs.declared.fault.Fault.{Fault}
use Rattle.hurd_terminal.specs.declared.fault.Fault.TheVariants.{Write}
use Rattle.hurd_terminal.specs.declared.print.Output.{Output}
use Rattle.hurd_terminal.proofs.OutputLaws.{front_follows}
use Rattle.hurd_terminal.proofs.RunLaws.{adds_all, adds_part}
use Rattle.hurd_vectors.specs.Lines.{header_of}
use Rattle.hurd_vectors.specs.Vectors.{printed_of, vectors}
use Rattle.hurd_vectors.specs.Ways.{Begins, left_of}
use Rattle.hurd_vectors.specs.declared.printing.Calls.{Calls}

-- a front of the whole was printed, and the rest is still to be printed
pub record PrintedSoFar (whole : List ℕ) (before now : Option (List ℕ)) (left : List (List ℕ)) : Type 0 where
  pub printed : List ℕ
  pub split : whole ≡ printed ++ concat left
  pub appends : Appends before now printed

pub none_printed : (before : Option (List ℕ)) (left : List (List ℕ)) → PrintedSoFar (concat left) before before left
none_printed before left = record { printed = []; split = refl; appends = Appends-nil before }

module _ (whole : List ℕ) (before now : Option (List ℕ)) (old : List (List ℕ)) (so : PrintedSoFar whole before now old) where
  -- a front was printed
  pub front_printed : AppendsFront before now whole
  front_printed = (so.printed, (concat old, so.split), so.appends)

  -- no vector is left
  pub all_printed : old ≡ [] → Appends before now whole
  all_printed none = subst (λ (bs : List ℕ). Appends before now bs) (sym (so.split ∙ (ap (λ (vs : List (List ℕ)). so.printed ++ concat vs) none ∙ append-nil so.printed))) so.appends

  module _ (new : List (List ℕ)) (vector : List ℕ) (goes : old ≡ vector ∷ new) where
    split_on : whole ≡ (so.printed ++ vector) ++ concat new
    split_on = so.split ∙ (ap (λ (vs : List (List ℕ)). so.printed ++ concat vs) goes ∙ sym (append_assoc so.printed vector (concat new)))

    -- the next vector was printed
    pub vector_printed : (then : Option (List ℕ)) → Appends now then vector → PrintedSoFar whole before then new
    vector_printed then adds = record { printed = so.printed ++ vector; split = split_on; appends = Appends-trans before now then so.printed vector so.appends adds }

    -- or a front of it
    pub vector_cut : (then : Option (List ℕ)) → AppendsFront now then vector → AppendsFront before then whole
    vector_cut then cut = front_follows before now then whole so.printed vector (concat new, split_on) so.appends cut

-- one vector less is left
pub one_less : (old new : List (List ℕ)) (vector : List ℕ) → old ≡ vector ∷ new → length old ≡ suc (length new)
one_less old new vector goes = ap length goes

-- a list that was begun has its whole output before it: the line of its tasks, and what is left

module _ (text header : List ℕ) (calls : Calls) (begins : Begins text calls) (is : header ≡ header_of text) where
  taken : IsTaken vectors text
  taken = record { good = begins.good; known = refl }

  whole : header ++ concat (left_of calls) ≡ printed_of text
  whole = ap (λ (line : List ℕ). line ++ concat (left_of calls)) is ∙ ap (λ (vs : List (List ℕ)). header_of text ++ concat vs) begins.left

  -- a front of the first line was printed
  pub header_cut : {W : Type 0} (output : Output W) (before after : Option (List ℕ)) (fault : Fault) → (fault ≡ Write) → output.failed ≡ true → AppendsFront before after header
      → Adds vectors text before after (Err fault)
  header_cut output before after fault write failed (front, (rest, split), adds) =
      let all : printed_of text ≡ front ++ (rest ++ concat (left_of calls)) =
      sym whole ∙ (ap (λ (bs : List ℕ). bs ++ concat (left_of calls)) split ∙ append_assoc front rest (concat (left_of calls))) in
      adds_part vectors output before after text front fault (inl (write, failed)) taken (rest ++ concat (left_of calls), all) adds

  -- the first line was printed, and all that is left after it, or a front of that
  pub calls_add : {W : Type 0} (output : Output W) (before between after : Option (List ℕ)) (ended : Result (Unit {0}) Fault) → Appends before between header
      → OnOk ended (Appends between after (concat (left_of calls))) → IfErr ended (λ fault. IsPrintFault output fault × AppendsFront between after (concat (left_of calls)))
      → Adds vectors text before after ended
  calls_add output before between after (Ok u) first ok err =
      adds_all vectors before after text (header ++ concat (left_of calls)) u taken whole (Appends-trans before between after header (concat (left_of calls)) first ok)
  calls_add output before between after (Err fault) first ok err =
      let cut = front_follows before between after (printed_of text) header (concat (left_of calls)) ([], sym whole ∙ sym (append-nil (header ++ concat (left_of calls)))) first err.1 in
      adds_part vectors output before after text cut.0 fault err.0 taken cut.1 cut.2
