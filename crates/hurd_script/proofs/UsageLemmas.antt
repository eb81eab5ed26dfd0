-- What a command takes that takes no flag, and what clap makes of words.
use Rattle.std.proofs.Common.{option_map, ℕ, ◌≡◌, ◌≢◌, ◌∷◌, [], List, Option, Some, None, true, false, refl, sym, ◌∙◌, ap, get_or, length, map, nat_eq, subst}
use Rattle.std.specs.List.{list_any}
use Rattle.std.specs.Str.{bytes_eq}
use Rattle.std.proofs.lemmas.Bool.{eqb-true, or_parts}
use Rattle.std.proofs.Math.Bool.{and-true}
use Rattle.clap.specs.Words.{App, Kinds, Row, Text, fault_of, matches_of}
use Rattle.clap.specs.Lexer.{long_of, short_of}
use Rattle.clap.specs.declared.error.kind.ErrorKind.{ErrorKind}
use Rattle.hurd_script.specs.Flags.{flags_of, is_flag_word, operands_of}
use Rattle.hurd_script.specs.Usage.{Answer, both, listed, lone, three}

-- to clap a word that is no flag is none either: no end of flags, no long one, no short one
abbrev pub IsNoFlag : List ℕ → Type 0
IsNoFlag word = (bytes_eq word (45 ∷ 45 ∷ []) ≡ false) × (long_of word ≡ None) × (short_of word ≡ None)

pub no_flag : (word : List ℕ) → is_flag_word word ≡ false → IsNoFlag word
no_flag [] h = (refl, refl, refl)
no_flag (b ∷ []) h = elim (nat_eq b 45) as (λ is. nat_eq b 45 ≡ is → IsNoFlag (b ∷ [])) [
  | true ↦ λ e. subst (λ (x : ℕ). IsNoFlag (x ∷ [])) (sym (eqb-true b 45 e)) (refl, refl, refl)
  | false ↦ λ e. rw e (refl, refl, refl)
] refl
no_flag (b ∷ c ∷ cs) h = let e : nat_eq b 45 ≡ false = rw and-true at h in rw e (refl, refl, refl)

-- words without flags are operands
flagless : (ws : List Text) → list_any is_flag_word ws ≡ false → (flags_of ws ≡ []) × (operands_of ws ≡ ws)
flagless [] h = (refl, refl)
flagless (w ∷ ws) h =
    let p = or_parts (is_flag_word w) (list_any is_flag_word ws) h in
    let rest = flagless ws p.1 in
    rw p.0 (rest.0, ap (λ (x : List Text). w ∷ x) rest.1)

-- words with a flag have it among their flags
flagged : (ws : List Text) → list_any is_flag_word ws ≡ true → (f : Text) × ((fs : List Text) × (flags_of ws ≡ f ∷ fs))
flagged [] h = absurd (cc)
flagged (w ∷ ws) h = elim (is_flag_word w) as (λ is. is_flag_word w ≡ is → (f : Text) × ((fs : List Text) × (flags_of (w ∷ ws) ≡ f ∷ fs))) [
  | true ↦ λ e. (w, (flags_of ws, rw e refl))
  | false ↦ λ e. let t : list_any is_flag_word ws ≡ true = (rw e at h) in let r = flagged ws t in (r.0, (r.1.0, rw e r.1.1))
] refl

-- what a command without flags takes
pub takes_no_flag : {X : Type 0} (read : List Text → List Text → Option X) (ws : List Text) → ((f : Text) (fs ws : List Text) → read (f ∷ fs) ws ≡ None)
    → list_any is_flag_word ws ≡ true → None ≡ read (flags_of ws) (operands_of ws)
takes_no_flag read ws none h =
    let r = flagged ws h in
    sym (ap (λ (x : List Text). read x (operands_of ws)) r.1.1 ∙ none r.0 r.1.0 (operands_of ws))

pub takes_operands : {X : Type 0} (read : List Text → List Text → Option X) (ws : List Text) → list_any is_flag_word ws ≡ false
    → read [] ws ≡ read (flags_of ws) (operands_of ws)
takes_operands read ws h = let r = flagless ws h in rw (r.0, r.1) refl

-- kinds of fault
pub faulty : {ks : Kinds} {k : ErrorKind} → ks ≡ k ∷ [] → ks ≢ []
faulty {ks} {k} f e = let clash : k ∷ [] ≡ [] = sym f ∙ e in absurd (cc)

-- what the matches of a command hold, where it was built as it should be
pub read : {X : Type 0} (app wanted : App) (ws : List Text) (rows : List Row) (Has : List Row → X → Type 0) (o : Option X) → app ≡ wanted → Answer wanted ws Has o
    → fault_of app ws ≡ [] → rows ≡ matches_of app ws → (x : X) × ((o ≡ Some x) × Has rows x)
read app wanted ws rows Has None e a f r = absurd (a (ap (λ (x : App). fault_of x ws) (sym e) ∙ f))
read app wanted ws rows Has (Some x) e a f r =
    (x, (refl, subst (λ (rs : List Row). Has rs x) (sym (r ∙ ap (λ (y : App). matches_of y ws) e)) a.1))

pub unread : {X : Type 0} (app wanted : App) (ws : List Text) (Has : List Row → X → Type 0) (o : Option X) → app ≡ wanted → Answer wanted ws Has o
    → fault_of app ws ≢ [] → None ≡ o
unread app wanted ws Has None e a f = refl
unread app wanted ws Has (Some x) e a f = absurd (f (ap (λ (y : App). fault_of y ws) e ∙ a.0))

-- words of another number are none of these
pub lone_only : (ws : List Text) → length ws ≢ 1 → None ≡ lone [] ws
lone_only (x ∷ []) h = absurd (h refl)
lone_only _ h = refl

pub both_only : (ws : List Text) → length ws ≢ 2 → None ≡ both [] ws
both_only (x ∷ y ∷ []) h = absurd (h refl)
both_only _ h = refl

pub three_only : (ws : List Text) → length ws ≢ 3 → None ≡ three [] ws
three_only (x ∷ y ∷ z ∷ []) h = absurd (h refl)
three_only _ h = refl

-- three words, each of them
pub three_said : {X : Type 0} (text : X → Text) (xs : List X) (x y z : X) {a b c : Text} → length xs ≡ 3
    → x ≡ get_or xs 0 x → y ≡ get_or xs 1 y → z ≡ get_or xs 2 z → a ≡ text x → b ≡ text y → c ≡ text z
    → Some (a, (b, c)) ≡ three [] (map text xs)
three_said text (u ∷ v ∷ w ∷ []) x y z n f s t a b c = rw (a, b, c, f, s, t) refl
three_said text _ x y z n f s t a b c = absurd (cc)

-- a node alone is listed without the flag
pub listed_alone : (flags operands : List Text) (node : Text) → Some node ≡ lone flags operands → Some (node, false) ≡ listed flags operands
listed_alone [] (x ∷ []) node h = ap (option_map (λ n. (n, false))) h
listed_alone _ _ node h = absurd (cc)
