-- Names and flags as they are printed.
use Rattle.std.proofs.Math.Bool.{and-true}
use Rattle.hurd_creds.specs.Bits.{asks}
use Rattle.hurd_creds.specs.declared.open_flags.OpenFlags.{OpenFlags}
use Rattle.std.proofs.Common.{Bool, true, false, if◌then◌else◌, ◌≡◌, ◌<◌, ◌≤◌, ◌+◌, ◌++◌, ◌∷◌, [], ℕ, List, refl, sym, ◌∙◌, ap, append_assoc, append-nil, drop, get_or, length}
use Rattle.std.proofs.lemmas.List.{at_drop_all, at_drop_more}
use Rattle.hurd_lists.specs.Replies.{listed_flags, shown, shown_names}

more_names : (name : List ℕ) (names : List (List ℕ)) → shown_names (name ∷ names) ≡ (32 ∷ shown name) ++ shown_names names
unfolding shown_names
more_names name names = refl

-- the next name was printed
pub names_next : (front new : List ℕ) (names : List (List ℕ)) (i : ℕ) (name d : List ℕ) → i < length names → name ≡ get_or names i d → new ≡ front ++ 32 ∷ shown name
    → new ++ shown_names (drop (i + 1) names) ≡ front ++ shown_names (drop i names)
names_next front new names i name d h is e =
    ap (λ (n : List ℕ). n ++ shown_names (drop (i + 1) names)) e
    ∙ (append_assoc front (32 ∷ shown name) (shown_names (drop (i + 1) names))
    ∙ ap (λ (t : List ℕ). front ++ t) (sym (at_drop_more shown_names names i d h ∙ (more_names (get_or names i d) (drop (i + 1) names) ∙ ap (λ (n : List ℕ). (32 ∷ shown n) ++ shown_names (drop (i + 1) names)) (sym is)))))

no_names : shown_names [] ≡ []
unfolding shown_names
no_names = refl

pub names_ended : (front : List ℕ) (names : List (List ℕ)) (i : ℕ) → length names ≤ i → front ++ shown_names (drop i names) ≡ front
names_ended front names i h = ap (λ (t : List ℕ). front ++ t) (at_drop_all shown_names names i h ∙ no_names) ∙ append-nil front

-- a flag that is not there, and one that is
pub flag_absent : (text : List ℕ) (first : Bool) (f : OpenFlags) (flag : ℕ) (name : List ℕ) (rows : List (ℕ × List ℕ)) → asks f flag ≡ false
    → text ++ listed_flags first f rows ≡ text ++ listed_flags first f ((flag, name) ∷ rows)
flag_absent text first f flag name rows e = rw (e, and-true first) refl

there : (first : Bool) (f : OpenFlags) (flag : ℕ) (name : List ℕ) (rows : List (ℕ × List ℕ)) → asks f flag ≡ true
    → listed_flags first f ((flag, name) ∷ rows) ≡ (if first then name else 44 ∷ name) ++ listed_flags false f rows
there true f flag name rows e = rw e refl
there false f flag name rows e = rw e refl

pub flag_pushed : (text new : List ℕ) (first : Bool) (f : OpenFlags) (flag : ℕ) (name : List ℕ) (rows : List (ℕ × List ℕ)) → asks f flag ≡ true
    → new ≡ text ++ (if first then name else 44 ∷ name) → new ++ listed_flags false f rows ≡ text ++ listed_flags first f ((flag, name) ∷ rows)
flag_pushed text new first f flag name rows is e =
    ap (λ (t : List ℕ). t ++ listed_flags false f rows) e
    ∙ (append_assoc text (if first then name else 44 ∷ name) (listed_flags false f rows) ∙ ap (λ (t : List ℕ). text ++ t) (sym (there first f flag name rows is)))
