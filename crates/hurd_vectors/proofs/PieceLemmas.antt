-- Pieces that are printed one after another.
use Rattle.std.specs.Prelude.{OnOk, Result}
use Rattle.std.proofs.Common.{◌≡◌, ◌∙◌, ℕ, List, ◌++◌, ap, append_assoc}
use Rattle.std.proofs.lemmas.Result.{on_ok_weaker}

pub two_printed : {T E : Type 0} (r : Result T E) (front a e one two : List ℕ) → a ≡ front ++ one → OnOk r (e ≡ a ++ two) → OnOk r (e ≡ front ++ (one ++ two))
two_printed r front a e one two is last = on_ok_weaker r (λ (so : e ≡ a ++ two). so ∙ (ap (λ (t : List ℕ). t ++ two) is ∙ append_assoc front one two)) last

pub four_printed : {T E : Type 0} (r : Result T E) (front a b d e one two three four : List ℕ) → a ≡ front ++ one → b ≡ a ++ two → d ≡ b ++ three → OnOk r (e ≡ d ++ four)
    → OnOk r (e ≡ front ++ (one ++ (two ++ (three ++ four))))
four_printed r front a b d e one two three four i j k last =
    two_printed r front a e one (two ++ (three ++ four)) i (two_printed r a b e two (three ++ four) j (two_printed r b d e three four k last))

-- the same where all was printed
pub four_are : (front a b d e one two three four : List ℕ) → a ≡ front ++ one → b ≡ a ++ two → d ≡ b ++ three → e ≡ d ++ four → e ≡ front ++ (one ++ (two ++ (three ++ four)))
four_are front a b d e one two three four i j k l =
    l ∙ (ap (λ (t : List ℕ). t ++ four) (k ∙ ap (λ (t : List ℕ). t ++ three) (j ∙ ap (λ (t : List ℕ). t ++ two) i)) ∙ simp append_assoc)
