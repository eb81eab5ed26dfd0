-- What is read of the words of `settrans`.
use Rattle.std.proofs.Common.{ℕ, arith, ◌≡◌, ◌+◌, ◌<◌, ◌++◌, ◌∷◌, [], List, Option, Some, None, Bool, true, false, unwrap_or, refl, sym, ◌∙◌, ap, codes, drop, get_or, length, map, subst, take}
use Rattle.std.proofs.lemmas.List.{at_drop_more, length-map, take-map}
use Rattle.clap.specs.Words.{App, Row, Text, one_text, rows_of, with_rule}
use Rattle.clap.proofs.WalkLemmas.{one_text-rows}
use Rattle.clap.specs.declared.parser.matches.Found.{Found}
use Rattle.hurd_script.specs.Settrans.{are_known_once, flag_count, flags_from, from_node, has_letter, leading_flags, letters_of, setting_of}
use Rattle.hurd_script.specs.Usage.{Answer, IsFound, Tells, own_flag, settrans_app}
use Rattle.hurd_script.specs.declared.settrans.SettransFlags.{SettransFlags}
use Rattle.hurd_script.proofs.LetterLemmas.{front_of}
use Rattle.hurd_script.proofs.SettransLemmas.{HasFlags, settrans_answer}

-- the words up to the node, which is the n-th, and the letters of the flags in front of it
module _ {X : Type 0} (text : X → Text) (xs front : List X) (n : ℕ) (seen : Text)
    (count : n ≡ flag_count (map text xs)) (within : n < length xs)
    (part : front ≡ take (n + 1) xs) (said : seen ≡ letters_of (map text (take n xs))) where
  abbrev ws : List Text
  ws = map text xs

  abbrev pub node_in : Text
  node_in = get_or ws n []

  abbrev pub words_in : List Text
  words_in = drop (n + 1) ws

  from_here : from_node ws ≡ node_in ∷ words_in
  from_here =
      let inside : n < length ws = omega (arith, within, length-map xs text) in
      ap (λ k. drop k ws) (sym count) ∙ at_drop_more (λ (x : List Text). x) ws n [] inside

  leading : seen ≡ letters_of (leading_flags ws)
  leading = said ∙ ap letters_of (sym (take-map text n xs) ∙ ap (λ k. take k ws) count)

  pub front_answer : are_known_once seen ≡ true → Answer settrans_app (map text front) (HasFlags seen) (Some node_in)
  front_answer k =
      let f = front_of ws node_in words_in from_here in
      let parts : map text front ≡ leading_flags ws ++ node_in ∷ [] =
      ap (map text) part ∙ (sym (take-map text (n + 1) xs) ∙ (ap (λ m. take (m + 1) ws) count ∙ f.front)) in
      let answer = settrans_answer (leading_flags ws) node_in f.flags f.plain (ap are_known_once (sym leading) ∙ k) in
      subst (λ (x : List Text). Answer settrans_app x (HasFlags seen) (Some node_in)) (sym parts)
      (subst (λ (x : Text). Answer settrans_app (leading_flags ws ++ node_in ∷ []) (HasFlags x) (Some node_in)) (sym leading) answer)

  setting_is : setting_of (letters_of (leading_flags ws)) (from_node ws) ≡ setting_of seen (node_in ∷ words_in)
  setting_is = ap (λ (x : Text). setting_of x (from_node ws)) (sym leading) ∙ ap (setting_of seen) from_here

  pub refused : are_known_once seen ≡ false → None ≡ setting_of (letters_of (leading_flags ws)) (from_node ws)
  refused k = let e : setting_of seen (node_in ∷ words_in) ≡ None = rw k refl in sym (setting_is ∙ e)

  pub taken : (flags : SettransFlags) (node : Text) (words : List Text) → flags ≡ flags_from seen → Some node_in ≡ Some node → words ≡ words_in → are_known_once seen ≡ true
      → Some (flags, (node, words)) ≡ setting_of (letters_of (leading_flags ws)) (from_node ws)
  taken flags node words f n w k =
      let e : setting_of seen (node_in ∷ words_in) ≡ Some (flags_from seen, (node_in, words_in)) = rw k refl in
      let same = ap (λ (x : Option Text). unwrap_or x node_in) n in
      rw (f, sym same, w) (sym (setting_is ∙ e))

-- nothing is not something
pub not_some : {X : Type 0} {x : Text} → None ≡ Some x → X
not_some e = absurd (cc)

-- a flag more on the same command
pub flag_more : (before after name : App) (l : ℕ) → after ≡ with_rule before (own_flag l) → before ≡ name → after ≡ with_rule name (own_flag l)
flag_more before after name l e h = e ∙ ap (λ (a : App). with_rule a (own_flag l)) h

-- a flag of the matches
pub tells : (f : Found) (l : ℕ) (flag : Bool) → (one_text f (l ∷ []) ≡ Some (codes "true") → flag ≡ true) → (one_text f (l ∷ []) ≡ Some (codes "false") → flag ≡ false)
    → Tells (rows_of f) l flag
tells f l flag set unset true e = set (one_text-rows f (l ∷ []) ∙ e)
tells f l flag set unset false e = unset (one_text-rows f (l ∷ []) ∙ e)

-- the flags that are found are those of the letters
pub found_flags : (seen : Text) (rows : List Row) (node : Text) (flags : SettransFlags) → IsFound rows flags → HasFlags seen rows node → flags ≡ flags_from seen
found_flags seen rows node flags f h =
    rw (
      sym (f.active (has_letter seen 97) (h.1 97 refl)),
      sym (f.passive (has_letter seen 112) (h.1 112 refl)),
      sym (f.create (has_letter seen 99) (h.1 99 refl)),
      sym (f.exclusive (has_letter seen 120) (h.1 120 refl)),
      sym (f.goaway (has_letter seen 103) (h.1 103 refl)),
      sym (f.keep (has_letter seen 107) (h.1 107 refl)),
      sym (f.force (has_letter seen 102) (h.1 102 refl)),
      sym (f.orphan (has_letter seen 111) (h.1 111 refl)),
    ) refl
