-- What clap makes of the words of `settrans`: flags of one letter, also joined, and a node.
use Rattle.std.proofs.Common.{ℕ, suc, ◌≡◌, ◌++◌, ◌∷◌, [], List, Option, Some, None, Bool, true, false, refl, sym, ◌∙◌, ap, append-nil, append_assoc, codes, drop, fold, is_some, length, map, nat_eq, option_and_then, slice_get, subst}
use Rattle.std.specs.Char.{encode_utf8}
use Rattle.std.specs.List.{find, list_all}
use Rattle.std.specs.Option.{option_or}
use Rattle.std.specs.Str.{bytes_eq, chars}
use Rattle.std.proofs.lemmas.Bool.{and_parts, and_right, eq-eqb, eqb-true, or_parts}
use Rattle.std.proofs.lemmas.List.{map-append}
use Rattle.std.proofs.lemmas.List.Folds.{find-append}
use Rattle.clap.specs.Words.{App, Row, Rule, Shape, Text, built, matches_of, one_of}
use Rattle.clap.specs.Faults.{check_fault, default_fault, defaults_fault, entered_fault, flags_fault, settle_fault, turn_fault, walk_fault}
use Rattle.clap.specs.Kinds.{Kinds, or_else}
use Rattle.clap.specs.Simple.{entered, filled, with_index}
use Rattle.clap.specs.Walk.{Held, Outcome, Walk, arg_by_short, at_row, bundle_met, done, finished, has_row, idle, more_values, nothing_held, plain, reacted, reading_by, row_text, settled, walk, walk_from, walked, with_default}
use Rattle.clap.specs.declared.parser.matches.ValueSource.TheVariants.{CommandLine, DefaultValue}
use Rattle.clap.proofs.OnLiterals.{clap_on_literals}
use Rattle.hurd_script.specs.Settrans.{are_known_once, has_letter, is_known, letters_of}
use Rattle.hurd_script.specs.Flags.{is_flag_word}
use Rattle.hurd_script.specs.Usage.{Answer, HasNode, flag_text, operand, own_flag, settrans_app}
use Rattle.hurd_script.proofs.LetterLemmas.{IsFlag, each_letter, flag, is_flag, known_front, letter_next}
use Rattle.hurd_script.proofs.UsageLemmas.{no_flag}

-- the rules that clap builds
abbrev built_flag : ℕ → Rule
built_flag letter = filled (own_flag letter)

abbrev built_node : Rule
built_node = with_index 1 (filled (operand (codes "node")))

abbrev rules : List Rule
rules = built_node ∷ map built_flag (codes "apcxgkfo")

abbrev shape : Shape
shape = (built settrans_app).top

-- the row of a flag that is there, and of one that is not
abbrev true_row : ℕ → Row
true_row letter =
    record { id = letter ∷ []; values = codes "true" ∷ []; count = None; source = Some CommandLine; reading = reading_by (built_flag letter) }

abbrev false_row : ℕ → Row
false_row letter =
    record { id = letter ∷ []; values = codes "false" ∷ []; count = None; source = Some DefaultValue; reading = reading_by (built_flag letter) }

-- what is held after these letters
abbrev held : Text → Held
held seen = record { rows = map true_row seen; pending = None; skip = 0 }

abbrev standing : Text → Walk
standing seen = walk_from (held seen)

-- a row with a new id comes last
last_row : (id : Text) (change : Row → List Row) (missing rows : List Row) → has_row id rows ≡ false → at_row id change missing rows ≡ rows ++ missing
last_row id change missing [] h = refl
last_row id change missing (r ∷ rows) h =
    let p = or_parts (bytes_eq r.id id) (has_row id rows) h in
    rw p.0 (ap (λ (rs : List Row). r ∷ rs) (last_row id change missing rows p.1))

unused : (seen : Text) (l : ℕ) → has_letter seen l ≡ false → has_row (l ∷ []) (map true_row seen) ≡ false
unused [] l h = refl
unused (m ∷ seen) l h = let p = or_parts (nat_eq m l) (has_letter seen l) h in rw (p.0, unused seen l p.1) refl

-- a letter is one byte, and clap finds its flag
first_char : (l : ℕ) (ls : Text) → is_known l ≡ true → slice_get (chars (l ∷ ls)) 0 ≡ Some l
unfolding clap_on_literals
first_char l [] = each_letter (λ m. slice_get (chars (m ∷ [])) 0 ≡ Some m) refl refl refl refl refl refl refl refl l
first_char l (c ∷ cs) = each_letter (λ m. slice_get (chars (m ∷ c ∷ cs)) 0 ≡ Some m) refl refl refl refl refl refl refl refl l

one_byte : (l : ℕ) → is_known l ≡ true → length (encode_utf8 l) ≡ 1
unfolding clap_on_literals
one_byte = each_letter (λ m. length (encode_utf8 m) ≡ 1) refl refl refl refl refl refl refl refl

by_letter : (l : ℕ) → is_known l ≡ true → arg_by_short rules l ≡ Some (built_flag l)
by_letter = each_letter (λ m. arg_by_short rules m ≡ Some (built_flag m)) refl refl refl refl refl refl refl refl

no_hyphen : (l : ℕ) → is_known l ≡ true → nat_eq l 45 ≡ false
no_hyphen = each_letter (λ m. nat_eq m 45 ≡ false) refl refl refl refl refl refl refl refl

-- a flag is used
abbrev with_rows : List Row → Held
with_rows rows = record { rows = rows; pending = None; skip = 0 }

-- what the use of an argument with a new id adds to the rows
new_use : (id : Text) (change : Row → List Row) (missing rows : List Row) → has_row id rows ≡ false → at_row id change missing (at_row id (λ _. []) [] rows) ≡ rows ++ missing
new_use id change missing rows h =
    ap (at_row id change missing) (last_row id (λ _. []) [] rows h ∙ append-nil rows) ∙ last_row id change missing rows h

used_flag : (c : List Rule) (seen : Text) (l : ℕ) → has_letter seen l ≡ false → reacted c (built_flag l) [] (held seen) ≡ held (seen ++ l ∷ [])
used_flag c seen l h =
    ap with_rows (new_use (l ∷ []) (more_values CommandLine (codes "true" ∷ [])) (true_row l ∷ []) (map true_row seen) (unused seen l h)
    ∙ sym (map-append true_row seen (l ∷ [])))

letter_met : (l : ℕ) (ls seen : Text) (k : ℕ) (so_far : Outcome) → is_known l ≡ true → has_letter seen l ≡ false
    → bundle_met rules (suc k) (l ∷ ls) 0 so_far (held seen) ≡ bundle_met rules k ls 0 done (held (seen ++ l ∷ []))
unfolding clap_on_literals
letter_met l ls seen k so_far known new =
    rw (first_char l ls known, by_letter l known, one_byte l known) (ap (bundle_met rules k ls 0 done) (used_flag rules seen l new))

letter_passes : (l : ℕ) (ls seen : Text) (k : ℕ) → is_known l ≡ true → has_letter seen l ≡ false
    → flags_fault rules false (suc k) (l ∷ ls) 0 (held seen) ≡ flags_fault rules false k ls 0 (held (seen ++ l ∷ []))
unfolding clap_on_literals
letter_passes l ls seen k known new =
    rw (first_char l ls known, by_letter l known, one_byte l known, unused seen l new) (ap (flags_fault rules false k ls 0) (used_flag rules seen l new))

-- the letters of a word, one by one
letters_met : (ls seen : Text) → are_known_once (seen ++ ls) ≡ true
    → (bundle_met rules (length ls) ls 0 done (held seen) ≡ (held (seen ++ ls), done)) × (flags_fault rules false (length ls) ls 0 (held seen) ≡ [])
unfolding clap_on_literals
letters_met [] seen h = (ap (λ (x : Text). (held x, done)) (sym (append-nil seen)), refl)
letters_met (l ∷ ls) seen h =
    let p = letter_next seen ls l h in
    let e = append_assoc seen (l ∷ []) ls in
    let rest = letters_met ls (seen ++ l ∷ []) (ap are_known_once e ∙ h) in
    (letter_met l ls seen (length ls) done p.0 p.1 ∙ (rest.0 ∙ ap (λ (x : Text). (held x, done)) e), letter_passes l ls seen (length ls) p.0 p.1 ∙ rest.1)

flag_met : (l : ℕ) (ls seen : Text) → are_known_once (seen ++ l ∷ ls) ≡ true → bundle_met rules (length (l ∷ ls)) (l ∷ ls) 0 plain (held seen) ≡ (held (seen ++ l ∷ ls), done)
flag_met l ls seen h =
    let p = letter_next seen ls l h in
    let e = append_assoc seen (l ∷ []) ls in
    letter_met l ls seen (length ls) plain p.0 p.1 ∙ ((letters_met ls (seen ++ l ∷ []) (ap are_known_once e ∙ h)).0 ∙ ap (λ (x : Text). (held x, done)) e)

-- a flag word
word_turns : (word seen more : Text) → IsFlag word → are_known_once (seen ++ (drop 1 word ++ more)) ≡ true
    → (walked rules [] (standing seen) word ≡ standing (seen ++ drop 1 word)) × (turn_fault shape [] (standing seen) word ≡ [])
unfolding walked
word_turns _ seen more (flag l ls) h =
    let k = known_front (seen ++ l ∷ ls) more (ap are_known_once (append_assoc seen (l ∷ ls) more) ∙ h) in
    let other = no_hyphen l (letter_next seen ls l k).0 in
    let met = flag_met l ls seen k in
    (rw (other, other, met) refl, rw (other, other, (letters_met (l ∷ ls) seen k).1, met) refl)

-- flag words in front of others
flags_walked : (flags tail : List Text) (seen : Text) → list_all is_flag_word flags ≡ true → are_known_once (seen ++ letters_of flags) ≡ true
    → fold (walked rules []) (standing seen) (flags ++ tail) ≡ fold (walked rules []) (standing (seen ++ letters_of flags)) tail
flags_walked [] tail seen h k = ap (λ (x : Text). fold (walked rules []) (standing x) tail) (sym (append-nil seen))
flags_walked (w ∷ flags) tail seen h k =
    let p = and_parts (is_flag_word w) _ h in
    let turn = word_turns w seen (letters_of flags) (is_flag w p.0) k in
    let e = append_assoc seen (drop 1 w) (letters_of flags) in
    ap (λ (x : Walk). fold (walked rules []) x (flags ++ tail)) turn.0
    ∙ (flags_walked flags tail (seen ++ drop 1 w) p.1 (ap are_known_once e ∙ k) ∙ ap (λ (x : Text). fold (walked rules []) (standing x) tail) e)

flags_pass : (flags tail : List Text) (seen : Text) → list_all is_flag_word flags ≡ true → are_known_once (seen ++ letters_of flags) ≡ true
    → walk_fault shape [] (standing seen) (flags ++ tail) ≡ walk_fault shape [] (standing (seen ++ letters_of flags)) tail
unfolding walk_fault
flags_pass [] tail seen h k = ap (λ (x : Text). walk_fault shape [] (standing x) tail) (sym (append-nil seen))
flags_pass (w ∷ flags) tail seen h k =
    let p = and_parts (is_flag_word w) _ h in
    let turn = word_turns w seen (letters_of flags) (is_flag w p.0) k in
    let e = append_assoc seen (drop 1 w) (letters_of flags) in
    ap (λ (x : Kinds). or_else x (walk_fault shape [] (walked rules [] (standing seen) w) (flags ++ tail))) turn.1
    ∙ (ap (λ (x : Walk). walk_fault shape [] x (flags ++ tail)) turn.0
    ∙ (flags_pass flags tail (seen ++ drop 1 w) p.1 (ap are_known_once e ∙ k) ∙ ap (λ (x : Text). walk_fault shape [] (standing x) tail) e))

-- the node, after flags of these letters
abbrev pending_node : Text → Text → Held
pending_node seen node = record { rows = map true_row seen; pending = Some (codes "node", node ∷ []); skip = 0 }

abbrev at_end : Text → Text → Walk
at_end seen node = record { held = pending_node seen node; waiting = idle; position = 2; is_trailing = false; stopped = None }

node_turns : (node seen : Text) → is_flag_word node ≡ false → (walked rules [] (standing seen) node ≡ at_end seen node) × (turn_fault shape [] (standing seen) node ≡ [])
unfolding walked
node_turns node seen h = let first = no_flag node h in rw (first.0, first.1, first.2) (refl, refl)

-- the whole walk
all_walked : (flags : List Text) (node : Text) → list_all is_flag_word flags ≡ true → is_flag_word node ≡ false → are_known_once (letters_of flags) ≡ true
    → (walk rules [] nothing_held (flags ++ node ∷ []) ≡ at_end (letters_of flags) node) × (walk_fault shape [] (walk_from nothing_held) (flags ++ node ∷ []) ≡ [])
unfolding walk_fault
all_walked flags node h n k =
    let turn = node_turns node (letters_of flags) n in
    (flags_walked flags (node ∷ []) [] h k ∙ turn.0, flags_pass flags (node ∷ []) [] h k ∙ rw turn.1 refl)

-- the row of the node, which no flag has
abbrev node_row : Text → Row
node_row node =
    record { id = codes "node"; values = node ∷ []; count = None; source = Some CommandLine; reading = reading_by built_node }

abbrev rows_given : Text → Text → List Row
rows_given seen node = map true_row seen ++ node_row node ∷ []

no_node_row : (seen : Text) → has_row (codes "node") (map true_row seen) ≡ false
no_node_row [] = refl
no_node_row (m ∷ seen) = rw (and_right (nat_eq m 110) false refl, no_node_row seen) refl

settled_node : (seen node : Text) → settled rules (pending_node seen node) ≡ with_rows (rows_given seen node)
settled_node seen node = ap with_rows (new_use (codes "node") (more_values CommandLine (node ∷ [])) (node_row node ∷ []) (map true_row seen) (no_node_row seen))

-- what is in for the flags that are not there
-- the first row of an id
abbrev row_at : Text → List Row → Option Row
row_at id rows = find (λ r. bytes_eq r.id id) rows

row_at-append : (id : Text) (xs ys : List Row) → row_at id (xs ++ ys) ≡ option_or (row_at id xs) (row_at id ys)
row_at-append id xs ys = find-append (λ r. bytes_eq r.id id) xs ys

missing_row : (id : Text) (rows : List Row) → row_at id rows ≡ None → has_row id rows ≡ false
missing_row id [] h = refl
missing_row id (r ∷ rows) h = elim (bytes_eq r.id id) as (λ is. bytes_eq r.id id ≡ is → has_row id (r ∷ rows) ≡ false) [
  | true ↦ λ e. let clash : Some r ≡ None = rw e at h in absurd (cc)
  | false ↦ λ e. let t : row_at id rows ≡ None = rw e at h in rw (e, missing_row id rows t) refl
] refl

-- what the default of a flag adds to the rows
abbrev default_row : Bool → ℕ → List Row
default_row true l = []
default_row false l = false_row l ∷ []

with_default-is : (l : ℕ) (rows : List Row) → (with_default rows (built_flag l) ≡ rows ++ default_row (has_row (l ∷ []) rows) l) × (default_fault rows (built_flag l) ≡ [])
unfolding clap_on_literals
with_default-is l rows = elim (has_row (l ∷ []) rows) as (λ is. has_row (l ∷ []) rows ≡ is → (with_default rows (built_flag l) ≡ rows ++ default_row (has_row (l ∷ []) rows) l) × (default_fault rows (built_flag l) ≡ [])) [
  | true ↦ λ e. rw e (sym (append-nil rows), refl)
  | false ↦ λ e. rw e (last_row (l ∷ []) (more_values DefaultValue (codes "false" ∷ [])) (false_row l ∷ []) rows e, refl)
] refl

defaults_pass : (letters : Text) (rows : List Row) → defaults_fault rows (map built_flag letters) ≡ []
unfolding defaults_fault
defaults_pass [] rows = refl
defaults_pass (l ∷ letters) rows = rw (with_default-is l rows).1 (defaults_pass letters (with_default rows (built_flag l)))

abbrev with_defaults : Text → List Row → List Row
with_defaults letters rows = fold with_default rows (map built_flag letters)

row_kept : (id : Text) (letters : Text) (rows : List Row) (r : Row) → row_at id rows ≡ Some r → row_at id (with_defaults letters rows) ≡ Some r
row_kept id [] rows r h = h
row_kept id (l ∷ letters) rows r h =
    let more = default_row (has_row (l ∷ []) rows) l in
    row_kept id letters (with_default rows (built_flag l)) r
    (ap (row_at id) (with_default-is l rows).0 ∙ (row_at-append id rows more ∙ ap (λ (x : Option Row). option_or x (row_at id more)) h))

row_new : (l : ℕ) (rows : List Row) → row_at (l ∷ []) rows ≡ None → row_at (l ∷ []) (with_default rows (built_flag l)) ≡ Some (false_row l)
row_new l rows h =
    ap (row_at (l ∷ [])) (with_default-is l rows).0
    ∙ (row_at-append (l ∷ []) rows (default_row (has_row (l ∷ []) rows) l) ∙ rw (h, missing_row (l ∷ []) rows h, eq-eqb l l refl) refl)

row_other : (m l : ℕ) (rows : List Row) → nat_eq m l ≡ false → row_at (l ∷ []) rows ≡ None → row_at (l ∷ []) (with_default rows (built_flag m)) ≡ None
row_other m l rows e h =
    let more = elim (has_row (m ∷ []) rows) as (λ is. row_at (l ∷ []) (default_row is m) ≡ None) [ true ↦ refl | false ↦ rw e refl ] in
    ap (row_at (l ∷ [])) (with_default-is m rows).0 ∙ (row_at-append (l ∷ []) rows (default_row (has_row (m ∷ []) rows) m) ∙ rw (h, more) refl)

row_added : (l : ℕ) (letters : Text) (rows : List Row) → has_letter letters l ≡ true → row_at (l ∷ []) rows ≡ None → row_at (l ∷ []) (with_defaults letters rows) ≡ Some (false_row l)
row_added l [] rows k h = absurd (cc)
row_added l (m ∷ letters) rows k h = elim (nat_eq m l) as (λ is. nat_eq m l ≡ is → row_at (l ∷ []) (with_defaults (m ∷ letters) rows) ≡ Some (false_row l)) [
  | true ↦ λ e.
      let kept = row_kept (l ∷ []) letters (with_default rows (built_flag l)) (false_row l) (row_new l rows h) in
      subst (λ (x : ℕ). row_at (l ∷ []) (with_defaults (x ∷ letters) rows) ≡ Some (false_row l)) (sym (eqb-true m l e)) kept
  | false ↦ λ e. row_added l letters (with_default rows (built_flag m)) (rw e at k) (row_other m l rows e h)
] refl

-- the rows of the flags and the node that were given
row_seen : (seen : Text) (l : ℕ) → has_letter seen l ≡ true → row_at (l ∷ []) (map true_row seen) ≡ Some (true_row l)
row_seen [] l h = absurd (cc)
row_seen (m ∷ seen) l h = elim (nat_eq m l) as (λ is. nat_eq m l ≡ is → row_at (l ∷ []) (map true_row (m ∷ seen)) ≡ Some (true_row l)) [
  | true ↦ λ e. rw e (ap (λ x. Some (true_row x)) (eqb-true m l e))
  | false ↦ λ e. rw e (row_seen seen l (rw e at h))
] refl

row_unseen : (seen node : Text) (l : ℕ) → has_letter seen l ≡ false → row_at (l ∷ []) (rows_given seen node) ≡ None
row_unseen [] node l h = rw (and_right (nat_eq 110 l) false refl) refl
row_unseen (m ∷ seen) node l h = let p = or_parts (nat_eq m l) (has_letter seen l) h in rw p.0 (row_unseen seen node l p.1)

row_of_node : (seen node : Text) → row_at (codes "node") (rows_given seen node) ≡ Some (node_row node)
row_of_node [] node = refl
row_of_node (m ∷ seen) node = rw (and_right (nat_eq m 110) false refl) (row_of_node seen node)

-- the rows at the end
abbrev letters : Text
letters = codes "apcxgkfo"

abbrev rows_left : Text → Text → List Row
rows_left seen node = with_defaults letters (rows_given seen node)

node_default : (rows : List Row) → (with_default rows built_node ≡ rows) × (default_fault rows built_node ≡ [])
node_default rows = elim (has_row (codes "node") rows) as (λ is. has_row (codes "node") rows ≡ is → (with_default rows built_node ≡ rows) × (default_fault rows built_node ≡ [])) [
  | true ↦ λ e. rw e (refl, refl)
  | false ↦ λ e. rw e (refl, refl)
] refl

finished-is : (seen node : Text) → finished rules (pending_node seen node) ≡ rows_left seen node
finished-is seen node =
    ap (λ (h : Held). fold with_default h.rows rules) (settled_node seen node) ∙ ap (with_defaults letters) (node_default (rows_given seen node)).0

flag_told : (seen node : Text) (l : ℕ) → is_known l ≡ true → one_of (l ∷ []) (rows_left seen node) ≡ Some (flag_text (has_letter seen l))
flag_told seen node l known = elim (has_letter seen l) as (λ is. has_letter seen l ≡ is → one_of (l ∷ []) (rows_left seen node) ≡ Some (flag_text is)) [
  | true ↦ λ e.
      let given = row_at-append (l ∷ []) (map true_row seen) (node_row node ∷ []) ∙ ap (λ (x : Option Row). option_or x (row_at (l ∷ []) (node_row node ∷ []))) (row_seen seen l e) in
      ap (option_and_then row_text) (row_kept (l ∷ []) letters (rows_given seen node) (true_row l) given)
  | false ↦ λ e. ap (option_and_then row_text) (row_added l letters (rows_given seen node) known (row_unseen seen node l e))
] refl

node_told : (seen node : Text) → row_at (codes "node") (rows_left seen node) ≡ Some (node_row node)
node_told seen node = row_kept (codes "node") letters (rows_given seen node) (node_row node) (row_of_node seen node)

-- the checks at the end
abbrev app : App
app = built settrans_app

abbrev fault_at_end : Walk → Kinds → Kinds
fault_at_end end walking =
    or_else walking
    (or_else (entered_fault app end.stopped)
    (or_else (settle_fault rules false end.held)
    (or_else (defaults_fault (settled rules end.held).rows rules) (check_fault shape (finished rules end.held) (is_some (entered app end.stopped))))))

rules_pass : (rows : List Row) → defaults_fault rows rules ≡ []
unfolding defaults_fault
rules_pass rows = rw (node_default rows).1 (defaults_pass letters (with_default rows built_node))

end_passes : (seen node : Text) → fault_at_end (at_end seen node) [] ≡ []
end_passes seen node =
    let given = ap (λ (h : Held). defaults_fault h.rows rules) (settled_node seen node) ∙ rules_pass (rows_given seen node) in
    rw (no_node_row seen, given, finished-is seen node, node_told seen node) refl

-- what the matches have: the node, and whether the letter of each flag is among these
abbrev pub HasFlags : Text → List Row → Text → Type 0
HasFlags seen rows node = HasNode rows node × ((l : ℕ) → is_known l ≡ true → one_of (l ∷ []) rows ≡ Some (flag_text (has_letter seen l)))

pub settrans_answer : (flags : List Text) (node : Text) → list_all is_flag_word flags ≡ true → is_flag_word node ≡ false → are_known_once (letters_of flags) ≡ true
    → Answer settrans_app (flags ++ node ∷ []) (HasFlags (letters_of flags)) (Some node)
settrans_answer flags node h n k =
    let seen = letters_of flags in
    let turns = all_walked flags node h n k in
    let end = turns.0 in
    let clear = ap (λ (w : Walk). fault_at_end w (walk_fault shape [] (walk_from nothing_held) (flags ++ node ∷ []))) end ∙ (ap (fault_at_end (at_end seen node)) turns.1 ∙ end_passes seen node) in
    let left : matches_of settrans_app (flags ++ node ∷ []) ≡ rows_left seen node = ap (λ (w : Walk). finished rules w.held) end ∙ finished-is seen node in
    (clear, subst (λ (rows : List Row). HasFlags seen rows node) (sym left) (ap (option_and_then (λ (r : Row). slice_get r.values 0)) (node_told seen node), flag_told seen node))
