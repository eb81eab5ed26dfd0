-- What a union owes.
use Rattle.std.proofs.Common.{◌≡◌, ◌∙◌, ◌&&◌, true, List, ℕ, [], ◌∷◌, ◌++◌, zero, suc, length, nat_le, true≢false, refl, ap, sym, subst}
use Rattle.std.specs.Prelude.{Some}
use Rattle.std.specs.List.{list_all}
use Rattle.hurd_trans_iface.specs.declared.begun.ServerKind.TheVariants.{Union}
use Rattle.hurd_trans_iface.specs.Kinds.Firmlink.{is_firm}
use Rattle.hurd_trans_iface.specs.Kinds.Union.{marked, most_branches, onto_first, text_of, union, union_text, words_of, union_kind}
use Rattle.hurd_trans_iface.specs.Words.{IsWithinLimits}
use Rattle.hurd_trans_iface.proofs.Guards.{guards_none}
use Rattle.hurd_trans_iface.proofs.Owes.{Owes, or_none, without_options, told_if, SaysAgain}
use Rattle.hurd_trans_iface.proofs.StillOwes.{still_laws}

-- the words of a text are those that it was made of

word_back : (w rest : List ℕ) → words_of (marked w ++ 0 ∷ rest) ≡ w ∷ words_of rest
word_back [] rest = refl
word_back (zero ∷ w) rest = ap (onto_first 0) (word_back w rest)
word_back (suc zero ∷ w) rest = ap (onto_first 1) (word_back w rest)
word_back (suc (suc b) ∷ w) rest = ap (onto_first (suc (suc b))) (word_back w rest)

pub words_back : (ws : List (List ℕ)) → words_of (text_of ws) ≡ ws
words_back [] = refl
words_back (w ∷ ws) = word_back w (text_of ws) ∙ ap (λ vs. w ∷ vs) (words_back ws)

paths-told : (w : List ℕ) (ws : List (List ℕ)) (text : List ℕ) → union_text (w ∷ ws) ≡ Some text
    → ((nat_le (length (w ∷ ws)) most_branches && list_all is_firm (w ∷ ws)) ≡ true) × (text_of (w ∷ ws) ≡ text)
paths-told w ws text h = told_if (nat_le (length (w ∷ ws)) most_branches && list_all is_firm (w ∷ ws)) (text_of (w ∷ ws)) text h

paths-again : (ws : List (List ℕ)) (text : List ℕ) → union_text ws ≡ Some text → SaysAgain union text
paths-again [] text h = absurd (cc)
paths-again (w ∷ ws) text h = let told = paths-told w ws text h in subst (SaysAgain union) told.1 (rw (words_back (w ∷ ws)) (rw told.0 refl))

paths-fit : (ws : List (List ℕ)) (text : List ℕ) → IsWithinLimits (union.program ∷ ws) → union_text ws ≡ Some text → union.fits text ≡ true
paths-fit [] text within h = absurd (cc)
paths-fit (w ∷ ws) text within h =
    let told = paths-told w ws text h in
    subst (λ (vs : List (List ℕ)). IsWithinLimits (union.program ∷ vs)) (sym (words_back (w ∷ ws)) ∙ ap words_of told.1) within

pub union_owes : Owes Union
union_owes = record {
  named = refl;
  begins = λ ws. or_none _;
  laws = still_laws union_kind (record {
    rooted = λ text. refl;
    guards = guards_none union (λ old new. refl);
    gives = λ text at amount. refl;
    takes = λ bs. refl;
    cut = refl;
    said = record { fits = paths-fit; again = paths-again; aimless = λ no. absurd (true≢false no) };
    options = without_options union refl;
  });
}
