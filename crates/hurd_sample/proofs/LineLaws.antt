-- The line of a command that was drawn is good.
use Rattle.std.proofs.Common.{ℕ, ◌≡◌, ◌++◌, ◌∷◌, ◌&&◌, ◌||◌, [], if◌then◌else◌, List, Option, Some, None, Bool, true, false, not, refl, sym, ◌∙◌, ap, append_assoc, append-nil, codes, filter, filter_map, is_none, map, nat_eq}
use Rattle.std.specs.List.{All, list_any, slice_split}
use Rattle.std.proofs.lemmas.List.Elements.{All-append, All-cons, All-nil, filter_map-append}
use Rattle.std.proofs.lemmas.List.Splits.{slice_split_at, slice_split_none}
use Rattle.hurd_words.specs.Lines.{is_skipped}
use Rattle.hurd_words.specs.Words.{has_bytes, has_hidden_byte, is_bad_word, text_after, text_of, words_of, written_words}
use Rattle.hurd_words.specs.Users.{begins_with, declared_name, task_of}
use Rattle.hurd_script.specs.Commands.{command_at, command_from, verb_of}
use Rattle.hurd_script.specs.Script.{is_bad_line}
use Rattle.hurd_script.specs.declared.command.Verb.{Verb}
use Rattle.hurd_script.specs.declared.command.Verb.TheVariants.{Cat, Ls, Put, Mkdir, Rm, Rmdir, Ln, Mv, Chmod, Chown, Settrans, Showtrans, Fsysopts}
use Rattle.hurd_sample.specs.Written.{spaced, user_word, verb_word, written}
use Rattle.hurd_sample.specs.declared.command.User.{User}
use Rattle.hurd_sample.specs.declared.command.User.TheVariants.{Root, Alice, Bob, Carol}
use Rattle.hurd_sample.proofs.WordLaws.{IsGoodPart, not_hidden, written_good, written_word_good}

abbrev pub NoByte : ℕ → List ℕ → Type 0
NoByte c w = All (λ b. nat_eq b c ≡ false) w

-- a word that spells itself
record SpellsItself (w : List ℕ) : Type 0 where
  visible : has_hidden_byte w ≡ false
  text : text_of w ≡ Some w
  bytes : has_bytes w ≡ true

-- those of a sample, root first
abbrev pub sample_names : List (List ℕ)
sample_names = codes "root" ∷ codes "alice" ∷ codes "bob" ∷ codes "carol" ∷ []

-- these lines have declared the three
abbrev pub AreDeclared : List (List ℕ) → Type 0
AreDeclared earlier = filter_map declared_name earlier ≡ codes "alice" ∷ codes "bob" ∷ codes "carol" ∷ []

-- a user of a sample, whose line is neither skipped nor a user line
record IsName (w : List ℕ) : Type 0 where
  plain : SpellsItself w
  said : (rest : List ℕ) → is_skipped (w ++ rest) ≡ false
  other : (words : List (List ℕ)) → begins_with (codes "user") (w ∷ words) ≡ false
  known : is_none (task_of sample_names w) ≡ false

name : (u : User) → IsName (user_word u)
unfolding text_after
name Root = record { plain = record { visible = refl; text = refl; bytes = refl }; said = λ _. refl; other = λ _. refl; known = refl }
name _ = record { plain = record { visible = refl; text = refl; bytes = refl }; said = λ _. refl; other = λ _. refl; known = refl }

verb : (v : Verb) → SpellsItself (verb_word v) × (verb_of (verb_word v) ≡ Some v)
unfolding text_after
verb Cat = (record { visible = refl; text = refl; bytes = refl }, refl)
verb _ = (record { visible = refl; text = refl; bytes = refl }, refl)

-- a line of these words
abbrev pub line_of : User → Verb → List (List ℕ) → List ℕ
line_of u v ws = user_word u ++ (32 ∷ (verb_word v ++ spaced ws))

-- words after spaces are cut there again
cut : (x : List ℕ) (ws : List (List ℕ)) → NoByte 32 x → slice_split (λ b. nat_eq b 32) (x ++ spaced ws) ≡ x ∷ map written ws
cut x [] h = rw (append-nil x) (slice_split_none (λ b. nat_eq b 32) x h)
cut x (w ∷ ws) h =
    slice_split_at (λ b. nat_eq b 32) x 32 (written w ++ spaced ws) h refl
    ∙ ap (λ (parts : List (List ℕ)). x ∷ parts) (cut (written w) ws (not_hidden 32 refl (written w) (written_good w).visible))

line_cut : (u : User) (v : Verb) (ws : List (List ℕ)) → slice_split (λ b. nat_eq b 32) (line_of u v ws) ≡ user_word u ∷ verb_word v ∷ map written ws
line_cut u v ws =
    slice_split_at (λ b. nat_eq b 32) (user_word u) 32 (verb_word v ++ spaced ws) (not_hidden 32 refl (user_word u) (name u).plain.visible) refl
    ∙ ap (λ (parts : List (List ℕ)). user_word u ∷ parts) (cut (verb_word v) ws (not_hidden 32 refl (verb_word v) (verb v).0.visible))

-- a command of a task that there is
command_there : (task : Option ℕ) (v : Verb) (header : List ℕ) (words : List (List ℕ)) → is_none task ≡ false → is_none (command_from task (Some v) header words) ≡ false
command_there None v header words h = h
command_there (Some t) v header words h = refl

-- the words that are left where there are bytes
abbrev kept : List (List ℕ) → List (List ℕ)
kept ws = filter has_bytes (map written ws)

one_more : (x : List ℕ) (xs : List (List ℕ)) (b : Bool) → is_bad_word text_of x ≡ false → list_any (is_bad_word text_of) xs ≡ false
    → list_any (is_bad_word text_of) (if b then x ∷ xs else xs) ≡ false
one_more x xs true h t = rw (h, t) refl
one_more x xs false h t = t

kept_good : (ws : List (List ℕ)) → list_any (is_bad_word text_of) (kept ws) ≡ false
kept_good [] = refl
kept_good (w ∷ ws) = one_more (written w) (kept ws) (has_bytes (written w)) (written_word_good w) (kept_good ws)

line_written : (u : User) (v : Verb) (ws : List (List ℕ)) → written_words (line_of u v ws) ≡ user_word u ∷ verb_word v ∷ kept ws
line_written u v ws = ap (filter has_bytes) (line_cut u v ws) ∙ rw ((name u).plain.bytes, (verb v).0.bytes) refl

text_is_good : (w : List ℕ) → has_hidden_byte w ≡ false → text_of w ≡ Some w → is_bad_word text_of w ≡ false
text_is_good w h t = rw (h, t) refl

line_words_good : (u : User) (v : Verb) (ws : List (List ℕ)) → list_any (is_bad_word text_of) (written_words (line_of u v ws)) ≡ false
line_words_good u v ws =
    ap (list_any (is_bad_word text_of)) (line_written u v ws)
    ∙ rw (text_is_good (user_word u) (name u).plain.visible (name u).plain.text, text_is_good (verb_word v) (verb v).0.visible (verb v).0.text, kept_good ws) refl

line_words : (u : User) (v : Verb) (ws : List (List ℕ)) → words_of (line_of u v ws) ≡ user_word u ∷ verb_word v ∷ filter_map text_of (kept ws)
line_words u v ws = ap (filter_map text_of) (line_written u v ws) ∙ rw ((name u).plain.text, (verb v).0.text) refl

-- after the users of a sample a line is good, and declares nobody
pub line_good : (earlier : List (List ℕ)) (u : User) (v : Verb) (ws : List (List ℕ)) → AreDeclared earlier → is_bad_line earlier (line_of u v ws) ≡ false
line_good earlier u v ws names =
    rw ((name u).said (32 ∷ (verb_word v ++ spaced ws)), line_words_good u v ws, line_words u v ws, (name u).other (verb_word v ∷ filter_map text_of (kept ws)), names, (name u).known, (verb v).1) refl

pub line_declares : (u : User) (v : Verb) (ws : List (List ℕ)) → declared_name (line_of u v ws) ≡ None
line_declares u v ws =
    rw ((name u).said (32 ∷ (verb_word v ++ spaced ws)), line_words u v ws, (name u).other (verb_word v ∷ filter_map text_of (kept ws))) refl

pub names_stay : (earlier : List (List ℕ)) (u : User) (v : Verb) (ws : List (List ℕ)) → AreDeclared earlier
    → AreDeclared (earlier ++ line_of u v ws ∷ [])
names_stay earlier u v ws names =
    filter_map-append declared_name earlier (line_of u v ws ∷ []) ∙ (rw (line_declares u v ws) (append-nil (filter_map declared_name earlier)) ∙ names)

-- the line is a command
pub line_command : (u : User) (v : Verb) (ws : List (List ℕ)) (earlier : List (List ℕ)) → AreDeclared earlier
    → is_none (command_at (record { earlier = earlier; line = line_of u v ws })) ≡ false
line_command u v ws earlier names =
    rw ((name u).said (32 ∷ (verb_word v ++ spaced ws)), line_words u v ws, (name u).other (verb_word v ∷ filter_map text_of (kept ws)), names, (verb v).1)
    (command_there (task_of sample_names (user_word u)) v _ _ (name u).known)

-- no newline is in a line
spaced_whole : (ws : List (List ℕ)) → NoByte 10 (spaced ws)
spaced_whole [] = All-nil (λ b. nat_eq b 10 ≡ false)
spaced_whole (w ∷ ws) =
    All-cons (λ b. nat_eq b 10 ≡ false) 32 (written w ++ spaced ws) refl
    (All-append (λ b. nat_eq b 10 ≡ false) (written w) (spaced ws) (not_hidden 10 refl (written w) (written_good w).visible) (spaced_whole ws))

pub line_whole : (u : User) (v : Verb) (ws : List (List ℕ)) → NoByte 10 (line_of u v ws)
line_whole u v ws =
    All-append (λ b. nat_eq b 10 ≡ false) (user_word u) (32 ∷ (verb_word v ++ spaced ws)) (not_hidden 10 refl (user_word u) (name u).plain.visible)
    (All-cons (λ b. nat_eq b 10 ≡ false) 32 (verb_word v ++ spaced ws) refl
    (All-append (λ b. nat_eq b 10 ≡ false) (verb_word v) (spaced ws) (not_hidden 10 refl (verb_word v) (verb v).0.visible) (spaced_whole ws)))
