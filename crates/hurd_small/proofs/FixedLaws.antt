-- What is said to kinds of which nothing but options changes.
use Rattle.std.proofs.Common.{◌≡◌, ◌≤◌, ◌&&◌, Bool, true, false, true≢false, List, ℕ, [], ◌∷◌, length, nat_le, codes, refl, ap, sym, arith}
use Rattle.std.proofs.lemmas.Bool.Decides.{nat_tests}
use Rattle.std.proofs.lemmas.Slice.Eq.{bytes_eq-Decides}
use Rattle.hurd_creds.specs.Limits.{most_path}
use Rattle.hurd_trans_iface.specs.Kinds.Hello.{most_text}
use Rattle.hurd_trans_iface.specs.Kinds.Symlink.{is_absolute}
use Rattle.hurd_trans_iface.specs.Arguments.{is_empty}
use Rattle.hurd_trans_iface.specs.declared.begun.ServerKind.{ServerKind}
use Rattle.hurd_trans_iface.specs.declared.begun.ServerKind.TheVariants as kind
use Rattle.hurd_trans_iface.specs.Sayings.{Fits}
use Rattle.hurd_small.specs.FixedKinds.{is_fixed}

empty_short : (text : List ℕ) → is_empty text ≡ true → length text ≤ most_text
empty_short [] h = omega arith
empty_short (b ∷ bs) h = absurd (true≢false (sym h))

path_short : (a : Bool) (text : List ℕ) → a && nat_le (length text) most_path ≡ true → length text ≤ most_text
path_short true text h = grind (arith, nat_tests)
path_short false text h = absurd (true≢false (sym h))

-- it is short enough for words
pub fixed_short : (k : ServerKind) (text : List ℕ) → is_fixed k ≡ true → Fits k text → length text ≤ most_text
fixed_short kind.Hello text is fits = grind (arith, nat_tests)
fixed_short kind.Null text is fits = empty_short text fits
fixed_short kind.Zero text is fits = empty_short text fits
fixed_short kind.Symlink text is fits = path_short (nat_le 1 (length text)) text fits
fixed_short kind.Firmlink text is fits = path_short (is_absolute text) text fits
fixed_short kind.Magic text is fits = let same : text ≡ codes "fd" = (bytes_eq-Decides text (codes "fd")).0 fits in let two : length text ≡ 2 = ap length same in omega (arith, two)
fixed_short _ text is fits = absurd (true≢false (sym is))

-- a kind that is none of them
pub not_fixed : (k : ServerKind) → (k ≡ kind.Hello → ⊥) → (k ≡ kind.Null → ⊥) → (k ≡ kind.Zero → ⊥) → (k ≡ kind.Symlink → ⊥) → (k ≡ kind.Firmlink → ⊥) → (k ≡ kind.Magic → ⊥) → is_fixed k ≡ false
not_fixed kind.Hello a b c d e f = absurd (a refl)
not_fixed kind.Null a b c d e f = absurd (b refl)
not_fixed kind.Zero a b c d e f = absurd (c refl)
not_fixed kind.Symlink a b c d e f = absurd (d refl)
not_fixed kind.Firmlink a b c d e f = absurd (e refl)
not_fixed kind.Magic a b c d e f = absurd (f refl)
not_fixed _ a b c d e f = refl
