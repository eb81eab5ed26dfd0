-- What lines say, one line more each time.
use Rattle.std.proofs.Common.{ℕ, ◌≡◌, ◌<◌, ◌+◌, ◌++◌, ◌∷◌, ◌&&◌, ◌||◌, Err, [], if◌then◌else◌, List, Option, Some, None, Bool, true, false, not, refl, sym, ◌∙◌, ap, append_assoc, append-nil, codes, drop, filter_map, get_or, is_none, is_some, length, option_and_then, option_map, option_to_list, take}
use Rattle.std.specs.List.{cons_option, list_any, position_from}
use Rattle.std.proofs.lemmas.List.{at_drop_more, take_more}
use Rattle.std.proofs.lemmas.List.Elements.{filter_map-append}
use Rattle.std.proofs.lemmas.List.Folds.{list_any-append}
use Rattle.std.proofs.Math.Bool.{or-false, or-true}
use Rattle.std.proofs.Math.Nat.{add-sub_cancel}
use Rattle.hurd_creds.specs.Access.{IdSets}
use Rattle.hurd_words.specs.Lines.{Turn, is_skipped, turns, turns_after}
use Rattle.hurd_words.specs.Words.{is_bad_word, text_of, words_of, written_words}
use Rattle.hurd_words.specs.Users.{Declaration, begins_with, declaration_of, declared_ids, declared_name, has_room_for, may_declare_some, task_of}
use Rattle.hurd_script.specs.Commands.{CommandLine, command_at, command_from, command_of, header_of, is_bad_command, is_command_line, verb_of}
use Rattle.hurd_script.specs.Script.{first_bad, is_bad_line, user_at}
use Rattle.hurd_script.specs.Flaws.{TellsFlaw, LineFaultOf, ReadsLine, fault_at, line_flaw}
use Rattle.hurd_script.specs.Reading.{Standing, standing, with_command, with_declared, with_line, with_user}
use Rattle.hurd_script.specs.declared.command.Verb.{Verb}
use Rattle.hurd_script.specs.declared.flaw.LineFault.{LineFault}
use Rattle.hurd_script.specs.declared.flaw.LineFault.TheVariants as told

-- one thing more at the end of a list
filter_map-one : {Y : Type 0} (o : Option Y) → cons_option o [] ≡ option_to_list o
filter_map-one None = refl
filter_map-one (Some y) = refl

filter_map-push : {X Y : Type 0} (h : X → Option Y) (xs : List X) (x : X) → filter_map h (xs ++ x ∷ []) ≡ filter_map h xs ++ option_to_list (h x)
filter_map-push h xs x = rw filter_map-one at (filter_map-append h xs (x ∷ []))

list_any-push : {X : Type 0} (p : X → Bool) (xs : List X) (x : X) → list_any p (xs ++ x ∷ []) ≡ (list_any p xs || p x)
list_any-push p xs x = rw or-false at (list_any-append p xs (x ∷ []))

abbrev turn_of : List (List ℕ) → List ℕ → Turn
turn_of earlier line = record { earlier = earlier; line = line }

turns-push : (earlier lines : List (List ℕ)) (line : List ℕ) → turns_after earlier (lines ++ line ∷ []) ≡ turns_after earlier lines ++ turn_of (earlier ++ lines) line ∷ []
turns-push earlier [] line = ap (λ (e : List (List ℕ)). turn_of e line ∷ []) (sym (append-nil earlier))
turns-push earlier (l ∷ lines) line =
    ap (λ (ts : List Turn). turn_of earlier l ∷ ts) (turns-push (earlier ++ l ∷ []) lines line
    ∙ ap (λ (e : List (List ℕ)). turns_after (earlier ++ l ∷ []) lines ++ turn_of e line ∷ []) (append_assoc earlier (l ∷ []) lines))

-- what stands, with what one line may add
abbrev with_parts : Standing → Option (List ℕ) → Option IdSets → Option CommandLine → Bool → Standing
with_parts s name ids command is_command =
    record { names = s.names ++ option_to_list name; users = s.users ++ option_to_list ids; commands = s.commands ++ option_to_list command; begun = s.begun || is_command }

standing-push : (lines : List (List ℕ)) (line : List ℕ)
    → standing (lines ++ line ∷ []) ≡ with_parts (standing lines) (declared_name line) (user_at line) (command_at (turn_of lines line)) (is_command_line line)
standing-push lines line =
    let n = filter_map-push declared_name lines line in
    let u = filter_map-push user_at lines line in
    let c = ap (filter_map command_at) (turns-push [] lines line) ∙ filter_map-push command_at (turns lines) (turn_of lines line) in
    let b = list_any-push is_command_line lines line in
    rw (n, u, c, b) refl

with_nothing : (s : Standing) → with_parts s None None None false ≡ s
with_nothing s = rw (append-nil s.names, append-nil s.users, append-nil s.commands, or-false s.begun) refl

-- a user line
user_cases : (s : Standing) (name : List ℕ) (begun room : Bool) (ids : Option IdSets)
    → (if begun || not room then None else with_user s name ids) ≡ (if begun || not (room && is_some ids) then None else Some (with_parts s (Some name) ids None false))
user_cases s name false true (Some i) = rw (append-nil s.commands, or-false s.begun) refl
user_cases s name _ _ _ = refl

with_declared-is : (s : Standing) (d : Option Declaration)
    → with_declared s d ≡ (if s.begun || not (may_declare_some s.names d) then None
    else Some (with_parts s (option_map (λ user. user.name) d) (option_and_then declared_ids d) None false))
with_declared-is s None = rw (or-true s.begun) refl
with_declared-is s (Some user) = user_cases s user.name s.begun (has_room_for s.names user.name) (declared_ids user)

-- a command line
command_cases : (task : Option ℕ) (verb : Option Verb) (header : List ℕ) (words : List (List ℕ))
    → (is_none task || (false || is_none verb)) ≡ is_none (command_from task verb header words)
command_cases (Some t) (Some v) header words = refl
command_cases _ _ header words = refl

command-is : (names : List (List ℕ)) (line : List ℕ) (words : List (List ℕ)) → is_bad_command names words ≡ is_none (command_of names line words)
command-is names line [] = refl
command-is names line (name ∷ []) = or-true (is_none (task_of names name))
command-is names line (name ∷ verb ∷ words) = command_cases (task_of names name) (verb_of verb) (header_of name line) words

with_command-is : (s : Standing) (command : Option CommandLine)
    → with_command s command ≡ (if is_none command then None else Some (with_parts s None None command true))
with_command-is s None = refl
with_command-is s (Some command) = rw (append-nil s.names, append-nil s.users, or-true s.begun) refl

decided : {P : Type 0} (b : Bool) → (b ≡ true → P) → (b ≡ false → P) → P
decided true holds fails = holds refl
decided false holds fails = fails refl

-- what the reader makes of a line
abbrev LineIs : List (List ℕ) → List ℕ → Type 0
LineIs earlier line = with_line (standing earlier) line ≡ (if is_bad_line earlier line then None else Some (standing (earlier ++ line ∷ [])))

pub line-is : (earlier : List (List ℕ)) (line : List ℕ) → LineIs earlier line
line-is earlier line =
    let s = standing earlier in
    let d = declaration_of (words_of line) in
    let command = command_of s.names line (words_of line) in
    decided (is_skipped line)
    (λ h. let e : standing (earlier ++ line ∷ []) ≡ s = standing-push earlier line ∙ rw h (with_nothing s) in rw (h, e) refl)
    (λ h. decided (list_any (is_bad_word text_of) (written_words line)) (λ w. rw (h, w) refl) (λ w.
    decided (begins_with (codes "user") (words_of line))
    (λ u.
    let e : standing (earlier ++ line ∷ []) ≡ with_parts s (option_map (λ user. user.name) d) (option_and_then declared_ids d) None false = standing-push earlier line ∙ rw (h, u) refl in
    rw (h, w, u, e) (with_declared-is s d))
    (λ u.
    let e : standing (earlier ++ line ∷ []) ≡ with_parts s None None command true = standing-push earlier line ∙ rw (h, u) refl in
    rw (h, w, u, e, command-is s.names line (words_of line)) (with_command-is s command))))

some_unless : {X : Type 0} (b : Bool) (x y : X) → (if b then None else Some x) ≡ Some y → (b ≡ false) × (x ≡ y)
some_unless true x y h = absurd (cc)
some_unless false x y h = (refl, cc)

none_unless : {X : Type 0} (b : Bool) (x : X) → (if b then None else Some x) ≡ None → b ≡ true
none_unless true x h = refl
none_unless false x h = absurd (cc)

-- the first bad line of those that are left, the next of which is the one of this number
abbrev pub bad_from : ℕ → List (List ℕ) → List (List ℕ) → Option ℕ
bad_from number earlier lines = position_from (λ turn. is_bad_line turn.earlier turn.line) number (turns_after earlier lines)

bad_from-next : (number : ℕ) (lines : List (List ℕ)) (i : ℕ) → i < length lines
    → bad_from number (take i lines) (drop i lines) ≡ (if is_bad_line (take i lines) (get_or lines i []) then Some number else bad_from (number + 1) (take (i + 1) lines) (drop (i + 1) lines))
bad_from-next number lines i h =
    let e = take_more lines i [] h in
    rw e (at_drop_more (bad_from number (take i lines)) lines i [] h)

-- a line that was read
pub good_line : (lines : List (List ℕ)) (i : ℕ) (before after : Standing) → i < length lines → before ≡ standing (take i lines)
    → with_line before (get_or lines i []) ≡ Some after
    → (after ≡ standing (take (i + 1) lines)) × (bad_from (i + 1) (take i lines) (drop i lines) ≡ bad_from (i + 1 + 1) (take (i + 1) lines) (drop (i + 1) lines))
good_line lines i before after h b w =
    let p = some_unless _ _ _ (sym (line-is (take i lines) (get_or lines i [])) ∙ (ap (λ (s : Standing). with_line s (get_or lines i [])) (sym b) ∙ w)) in
    (sym p.1 ∙ ap standing (sym (take_more lines i [] h)), bad_from-next (i + 1) lines i h ∙ rw p.0 refl)

-- a line that is bad
bad_line : (lines : List (List ℕ)) (i : ℕ) (before : Standing) → i < length lines → before ≡ standing (take i lines)
    → with_line before (get_or lines i []) ≡ None → bad_from (i + 1) (take i lines) (drop i lines) ≡ Some (i + 1)
bad_line lines i before h b w =
    let p = none_unless _ _ (sym (line-is (take i lines) (get_or lines i [])) ∙ (ap (λ (s : Standing). with_line s (get_or lines i [])) (sym b) ∙ w)) in
    bad_from-next (i + 1) lines i h ∙ rw p refl

-- a line that was not read
pub line_fault : (lines : List (List ℕ)) (i : ℕ) (before after : Standing) (fault : LineFault) → i < length lines → before ≡ standing (take i lines)
    → bad_from (i + 1) (take i lines) (drop i lines) ≡ first_bad lines
    → ReadsLine {X = Unit {0}} (λ _. after) (with_line before (get_or lines i [])) (Err fault) → TellsFlaw {X = Unit {0}} (line_flaw before (get_or lines i [])) (Err fault)
    → LineFaultOf lines (fault_at fault (i + 1))
line_fault lines i before after told.Memory h b e w f = tt
line_fault lines i before after (told.Bad flaw) h b e w f =
    let same : line_flaw (standing (take i lines)) (get_or lines i []) ≡ Some flaw = ap (λ (s : Standing). line_flaw s (get_or lines i [])) (sym b) ∙ f in
    (sym e ∙ bad_line lines i before h b w, rw (add-sub_cancel i 1) same)
