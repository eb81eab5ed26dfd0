-- What words say to a tree: a size.
use Rattle.std.proofs.Common.{◌≡◌, ◌≤◌, ◌-◌, ◌&&◌, Bool, true, false, true≢false, if◌then◌else◌, List, ℕ, [], ◌∷◌, ◌++◌, length, nat_le, codes, slice_get, refl, sym, subst, arith}
use Rattle.std.proofs.lemmas.Bool.Decides.{nat_tests}
use Rattle.std.proofs.lemmas.List.{length-append}
use Rattle.std.specs.Prelude.{Option, Some, None, Result, Ok, Err}
use Rattle.std.specs.List.{list_all}
use Rattle.hurd_creds.specs.declared.errno.Errno.{Errno}
use Rattle.hurd_creds.specs.declared.errno.Errno.TheVariants.{EINVAL}
use Rattle.hurd_creds.specs.Memory.{is_no_memory}
use Rattle.hurd_trans_iface.specs.Arguments.{behind}
use Rattle.hurd_trans_iface.specs.Kinds.Tmpfs.{tmpfs, has_size, most_digits, says_size, sized_digits, size_in, size_said, size_word, tmpfs_options, tmpfs_text}
use Rattle.hurd_trans_iface.specs.Words.{IsWithinLimits}
use Rattle.hurd_trans_iface.proofs.Owes.{OptionLaws, SaysAgain, two-within}

-- the first of two tests that both hold
and_first : (a b : Bool) → (a && b) ≡ true → a ≡ true
and_first true b h = refl
and_first false b h = absurd (cc)

-- digits that say a size say it again; none say nothing

size_again : (b : Bool) (ds text : List ℕ) → says_size ds ≡ b → (let o : Option (List ℕ) = if b then Some ds else None in o) ≡ Some text → SaysAgain tmpfs text
size_again false ds text is h = absurd (cc)
size_again true [] text is h = absurd (true≢false (sym is))
size_again true (d ∷ ds) text is h = let same : d ∷ ds ≡ text = cc in subst (SaysAgain tmpfs) same (rw is refl)

digits_again : (o : Option (List ℕ)) (text : List ℕ) → sized_digits o ≡ Some text → SaysAgain tmpfs text
digits_again None text h = absurd (cc)
digits_again (Some ds) text h = size_again (says_size ds) ds text refl h

word_again : (w text : List ℕ) → size_word w ≡ Some text → SaysAgain tmpfs text
word_again w text h = digits_again (behind (codes "--size=") w) text h

pub text-again : (ws : List (List ℕ)) (text : List ℕ) → tmpfs_text ws ≡ Some text → SaysAgain tmpfs text
text-again [] text h = let none : [] ≡ text = cc in subst (SaysAgain tmpfs) none refl
text-again (w ∷ []) text h = word_again w text h
text-again (w ∷ v ∷ ws) text h = absurd (cc)

-- they are no more than twelve

few_digits : (b : Bool) (ds text : List ℕ) → says_size ds ≡ b → (let o : Option (List ℕ) = if b then Some ds else None in o) ≡ Some text → length text ≤ most_digits
few_digits false ds text is h = absurd (cc)
few_digits true ds text is h =
    let same : ds ≡ text = cc in
    let few : nat_le (length ds) 12 ≡ true = and_first (nat_le (length ds) 12) _ is in
    subst (λ (t : List ℕ). length t ≤ most_digits) same (grind (arith, nat_tests))

some_digits : (o : Option (List ℕ)) (text : List ℕ) → sized_digits o ≡ Some text → length text ≤ most_digits
some_digits None text h = absurd (cc)
some_digits (Some ds) text h = few_digits (says_size ds) ds text refl h

word_few : (w text : List ℕ) → size_word w ≡ Some text → length text ≤ most_digits
word_few w text h = some_digits (behind (codes "--size=") w) text h

pub digits-few : (ws : List (List ℕ)) (text : List ℕ) → tmpfs_text ws ≡ Some text → length text ≤ most_digits
digits-few [] text h = let none : [] ≡ text = cc in subst (λ (t : List ℕ). length t ≤ most_digits) none (omega arith)
digits-few (w ∷ []) text h = word_few w text h
digits-few (w ∷ v ∷ ws) text h = absurd (cc)

pub limit-within : (text : List ℕ) → length text ≤ most_digits → IsWithinLimits (tmpfs.options text)
limit-within [] few = refl
limit-within (d ∷ ds) few = let long = length-append (codes "--size=") (d ∷ ds) in two-within (codes "/hurd/tmpfs") (codes "--size=" ++ d ∷ ds) (omega (arith, long, few))

-- options that are taken say a size, and a refusal of others isn't ENOMEM

abbrev SaysSize : Result (Option (List ℕ)) Errno → Type 0
SaysSize (Ok None) = Unit {0}
SaysSize (Ok (Some text)) = (w : List ℕ) × (size_word w ≡ Some text)
SaysSize (Err e) = is_no_memory e ≡ false

says_said : (w : List ℕ) (o : Option (List ℕ)) → size_word w ≡ o → SaysSize (size_said o)
says_said w None is = refl
says_said w (Some ds) is = (w, is)

says_in : (o : Option (List ℕ)) → SaysSize (size_in o)
says_in None = tt
says_in (Some w) = says_said w (size_word w) refl

says_all : (b : Bool) (r : Result (Option (List ℕ)) Errno) → SaysSize r → SaysSize (if b then r else Err EINVAL)
says_all true r says = says
says_all false r says = refl

options_say : (ws : List (List ℕ)) → SaysSize (tmpfs_options ws)
options_say ws = let last = slice_get ws (length ws - 1) in says_all (list_all has_size ws) (size_in last) (says_in last)

pub size_options_laws : OptionLaws tmpfs
size_options_laws = record {
  no_words = refl;
  root = λ ws new is. record { rooted = λ text. refl; no_link = refl; aimed = λ text. refl; sized = λ lone. absurd (true≢false lone); grown = λ tree text c. refl };
  plain = λ ws e is. subst SaysSize is (options_say ws);
  again = λ ws text is. let said : (w : List ℕ) × (size_word w ≡ Some text) = subst SaysSize is (options_say ws) in word_again said.0 text said.1;
  within = λ ws text is. let said : (w : List ℕ) × (size_word w ≡ Some text) = subst SaysSize is (options_say ws) in limit-within text (word_few said.0 text said.1);
}
