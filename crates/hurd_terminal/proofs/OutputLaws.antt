-- What was printed.
use Rattle.std.proofs.Common.{◌≡◌, ℕ, ◌-◌, List, [], ◌++◌, length, take, drop, Option, Result, Ok, Err, true, sym, ◌∙◌, ap, subst, append_assoc, append-nil, take-append-drop}
use Rattle.std.proofs.lemmas.List.{take_rest}
use Rattle.std.proofs.KnownBytes.{Appends-trans}
use Rattle.std.specs.Io.KnownBytes.{Appends}
use Rattle.std.specs.Prelude.{IfErr}
use Rattle.hurd_terminal.specs.Faults.{AppendsFront, IsFront}
use Rattle.hurd_terminal.specs.declared.fault.Fault.{Fault}
use Rattle.hurd_terminal.specs.declared.fault.Fault.TheVariants.{Write}
use Rattle.hurd_terminal.specs.declared.print.Output.{Output}

-- so many bytes of the rest were printed after a front
pub front_grows : (all front rest : List ℕ) (n : ℕ) → all ≡ front ++ rest → all ≡ (front ++ take n rest) ++ take (length rest - n) (drop n rest)
front_grows all front rest n split =
    split ∙ (ap (λ bs. front ++ bs) (sym (take-append-drop n rest)) ∙ (sym (append_assoc front (take n rest) (drop n rest)) ∙ ap (λ bs. (front ++ take n rest) ++ bs) (sym (take_rest rest n))))

-- all was printed once nothing is left
pub all_printed : (a b : Option (List ℕ)) (all front rest : List ℕ) → all ≡ front ++ rest → rest ≡ [] → Appends a b front → Appends a b all
all_printed a b all front rest split none printed = subst (λ bs. Appends a b bs) (sym (split ∙ (ap (λ bs. front ++ bs) none ∙ append-nil front))) printed

-- a front of what follows a front is a front of all
pub front_follows : (a b c : Option (List ℕ)) (all front more : List ℕ) → IsFront (front ++ more) all → Appends a b front → AppendsFront b c more → AppendsFront a c all
front_follows a b c all front more (rest, split) printed (few, (left, cut), next) =
    let whole : all ≡ (front ++ few) ++ (left ++ rest) =
    split ∙ (ap (λ bs. (front ++ bs) ++ rest) cut ∙ (ap (λ bs. bs ++ rest) (sym (append_assoc front few left)) ∙ append_assoc (front ++ few) left rest)) in
    (front ++ few, (left ++ rest, whole), Appends-trans a b c front few printed next)

-- and so where a print failed
pub follows_cut : {W : Type 0} (output : Output W) (a b c : Option (List ℕ)) (all front more : List ℕ) (r : Result (Unit {0}) Fault) → IsFront (front ++ more) all → Appends a b front
    → IfErr r (λ fault. (fault ≡ Write) × (output.failed ≡ true) × AppendsFront b c more) → IfErr r (λ fault. (output.failed ≡ true) × AppendsFront a c all)
follows_cut output a b c all front more (Ok u) split printed cut = tt
follows_cut output a b c all front more (Err fault) split printed cut = (cut.1, front_follows a b c all front more split printed cut.2)
