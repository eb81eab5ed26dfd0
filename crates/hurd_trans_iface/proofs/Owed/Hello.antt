-- What a file that gives a text owes.
use Rattle.std.proofs.Common.{◌≡◌, ◌≤◌, ◌+◌, ◌-◌, Bool, true, false, true≢false, if◌then◌else◌, List, ℕ, [], ◌∷◌, ◌++◌, length, take, drop, nat_le, codes, slice_get, refl, ap, sym, subst, arith}
use Rattle.std.proofs.lemmas.Bool.Decides.{nat_tests}
use Rattle.std.proofs.lemmas.List.{length-append, length-take, length-drop}
use Rattle.std.proofs.lemmas.Slice.Eq.{bytes_eq-Decides}
use Rattle.std.specs.Prelude.{Option, Some, None, Result, Ok, Err}
use Rattle.std.specs.List.{list_all}
use Rattle.std.specs.Str.{bytes_eq}
use Rattle.hurd_creds.specs.declared.errno.Errno.{Errno}
use Rattle.hurd_creds.specs.declared.errno.Errno.TheVariants.{EINVAL}
use Rattle.hurd_creds.specs.Memory.{is_no_memory}
use Rattle.hurd_trans_iface.specs.Good.{GuardsText}
use Rattle.hurd_trans_iface.specs.Words.{IsWithinLimits}
use Rattle.hurd_trans_iface.specs.declared.begun.ServerKind.TheVariants.{Hello}
use Rattle.hurd_trans_iface.specs.Kinds.Hello.{behind, hello, hello_options, hello_text, most_text, says_text, short_text, text_in, hello_kind}
use Rattle.hurd_trans_iface.proofs.Owes.{Owes, or_none, told_if, within-two, two-within, OptionLaws}
use Rattle.hurd_trans_iface.proofs.StillOwes.{still_laws}

-- options that are taken

hello-within : (text : List ℕ) → length text ≤ most_text → IsWithinLimits (hello.options text)
hello-within text short =
    let long = length-append (codes "--contents=") text in
    two-within (codes "/hurd/hello") (codes "--contents=" ++ text) (omega (arith, long))

-- a text that is no longer than words can say, or a refusal that isn't ENOMEM
abbrev IsShort : Result (Option (List ℕ)) Errno → Type 0
IsShort (Ok None) = Unit {0}
IsShort (Ok (Some text)) = length text ≤ most_text
IsShort (Err e) = is_no_memory e ≡ false

short-if : (text : List ℕ) (b : Bool) → nat_le (length text) most_text ≡ b → IsShort (if b then Ok (Some text) else Err EINVAL)
short-if text true is = let short : length text ≤ most_text = grind (arith, nat_tests) in short
short-if text false is = refl

short-said : (o : Option (List ℕ)) → IsShort (short_text o)
short-said None = refl
short-said (Some text) = short-if text (nat_le (length text) most_text) refl

short-in : (o : Option (List ℕ)) → IsShort (text_in o)
short-in None = tt
short-in (Some w) = short-said (behind (codes "--contents=") w)

short-all : (b : Bool) (r : Result (Option (List ℕ)) Errno) → IsShort r → IsShort (if b then r else Err EINVAL)
short-all true r short = short
short-all false r short = refl

hello-short : (ws : List (List ℕ)) → IsShort (hello_options ws)
hello-short ws = let last = slice_get ws (length ws - 1) in short-all (list_all says_text ws) (text_in last) (short-in last)

hello-options-plain : (ws : List (List ℕ)) (e : Errno) → hello_options ws ≡ Err e → is_no_memory e ≡ false
hello-options-plain ws e is = subst IsShort is (hello-short ws)

hello-options-short : (ws : List (List ℕ)) (text : List ℕ) → hello_options ws ≡ Ok (Some text) → length text ≤ most_text
hello-options-short ws text is = subst IsShort is (hello-short ws)

hello_options_laws : OptionLaws hello
hello_options_laws = record {
  no_words = refl;
  root = λ ws new is. record { rooted = λ text. refl; no_link = refl; aimed = λ text. refl; sized = λ lone c. refl; grown = λ tree. absurd (true≢false (sym tree)) };
  plain = hello-options-plain;
  again = λ ws text is. refl;
  within = λ ws text is. hello-within text (hello-options-short ws text is);
}

-- what is after the first bytes of a word
behind-short : (first word text : List ℕ) → (let o : Option (List ℕ) = if bytes_eq (take (length first) word) first then Some (drop (length first) word) else None in o) ≡ Some text → length text + length first ≡ length word
behind-short first word text h =
    let told = told_if (bytes_eq (take (length first) word) first) (drop (length first) word) text h in
    let long : length (take (length first) word) ≡ length first = ap length ((bytes_eq-Decides (take (length first) word) first).0 told.0) in
    let rest : length text ≡ length (drop (length first) word) = ap length (sym told.1) in
    grind (arith, nat_tests, long, rest, length-take (length first) word, length-drop (length first) word)

text-short : (w : List ℕ) (ws : List (List ℕ)) (text : List ℕ) → IsWithinLimits (w ∷ ws) → w ≡ codes "/hurd/hello" → hello_text ws ≡ Some text → length text ≤ most_text
text-short w [] text within is h = let same : codes "Hello, world!\n" ≡ text = cc in subst (λ (t : List ℕ). length t ≤ most_text) same (omega arith)
text-short w (v ∷ []) text within is h =
    let all = within-two w v within in
    let name : length w ≡ 11 = ap length is in
    let rest = behind-short (codes "--contents=") v text h in
    omega arith
text-short w (v ∷ u ∷ ws) text within is h = absurd (cc)

text-fits : (ws : List (List ℕ)) (text : List ℕ) → IsWithinLimits (hello.program ∷ ws) → hello_text ws ≡ Some text → nat_le (length text) most_text ≡ true
text-fits ws text within h = let short = text-short hello.program ws text within refl h in grind (arith, nat_tests)

-- reading gives it
hello_guards : GuardsText hello
hello_guards = record {
  rooted = λ text. refl;
  reads_alike = λ old new. refl;
  read_untold = λ text out. absurd (true≢false out);
  readable_untold = λ text out. absurd (true≢false out);
  write_untold = λ old new x at bs readers. refl;
  set_size_untold = λ old new x size. refl;
}

pub hello_owes : Owes Hello
hello_owes = record {
  named = refl;
  begins = λ ws. or_none _;
  laws = still_laws hello_kind (record {
    rooted = λ text. refl;
    guards = hello_guards;
    gives = λ text at amount. tt;
    takes = λ bs. refl;
    cut = refl;
    said = record { fits = text-fits; again = λ ws text h. refl; aimless = λ no text. refl };
    options = hello_options_laws;
  });
}
