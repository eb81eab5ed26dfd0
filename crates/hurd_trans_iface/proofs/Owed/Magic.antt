-- What a magical link owes.
use Rattle.std.proofs.Common.{◌≡◌, List, ℕ, [], ◌∷◌, codes, true, refl, subst}
use Rattle.std.specs.Prelude.{Some}
use Rattle.std.specs.Str.{bytes_eq}
use Rattle.hurd_trans_iface.specs.declared.begun.ServerKind.TheVariants.{Magic}
use Rattle.hurd_trans_iface.specs.Kinds.Magic.{magic, magic_text, magic_kind}
use Rattle.hurd_trans_iface.specs.Words.{IsWithinLimits}
use Rattle.hurd_trans_iface.proofs.Guards.{guards_link}
use Rattle.hurd_trans_iface.proofs.Owes.{Owes, or_none, without_options, told_if, SaysAgain}
use Rattle.hurd_trans_iface.proofs.StillOwes.{still_laws}

fd-again : (ws : List (List ℕ)) (text : List ℕ) → magic_text ws ≡ Some text → SaysAgain magic text
fd-again [] text h = absurd (cc)
fd-again (w ∷ []) text h = let told = told_if (bytes_eq w (codes "fd")) (codes "fd") text h in subst (SaysAgain magic) told.1 refl
fd-again (w ∷ v ∷ ws) text h = absurd (cc)

fd-fits : (ws : List (List ℕ)) (text : List ℕ) → IsWithinLimits (magic.program ∷ ws) → magic_text ws ≡ Some text → bytes_eq text (codes "fd") ≡ true
fd-fits [] text within h = absurd (cc)
fd-fits (w ∷ []) text within h = let told = told_if (bytes_eq w (codes "fd")) (codes "fd") text h in subst (λ (t : List ℕ). bytes_eq t (codes "fd") ≡ true) told.1 refl
fd-fits (w ∷ v ∷ ws) text within h = absurd (cc)

pub magic_owes : Owes Magic
magic_owes = record {
  named = refl;
  begins = λ ws. or_none _;
  laws = still_laws magic_kind (record {
    rooted = λ text. refl;
    guards = guards_link magic (λ text. refl) (λ old new. refl) (λ old new. refl) (λ old new. refl);
    gives = λ text at amount. tt;
    takes = λ bs. refl;
    cut = refl;
    said = record { fits = fd-fits; again = fd-again; aimless = λ no text. refl };
    options = without_options magic refl;
  });
}
