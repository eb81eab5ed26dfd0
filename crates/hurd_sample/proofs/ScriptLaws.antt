-- The script of drawn commands is good, and has these commands.
use Rattle.std.proofs.Common.{ℕ, suc, arith, ◌≡◌, ◌≤◌, ◌+◌, ◌++◌, ◌∷◌, [], List, Option, Some, None, Bool, true, false, refl, sym, ◌∙◌, ap, append_assoc, codes, filter_map, is_none, length, map, nat_eq, string_bytes}
use Rattle.std.specs.List.{cons_option, position_from}
use Rattle.std.specs.FinSet as set
use Rattle.std.specs.Ordering.{nat_cmp}
use Rattle.std.specs.Prelude.{nat_le, if◌then◌else◌}
use Rattle.std.proofs.lemmas.Bool.{le-leb, le-ltb}
use Rattle.std.proofs.lemmas.List.Splits.{slice_split_at}
use Rattle.hurd_creds.proofs.IdLaws.{len-listed}
use Rattle.hurd_creds.specs.Limits.{most_script}
use Rattle.hurd_words.specs.Lines.{Turn, lines_of, turns_after}
use Rattle.hurd_words.specs.Words.{text_after}
use Rattle.hurd_words.specs.Users.{numbers_of}
use Rattle.hurd_script.specs.Commands.{CommandLine, command_at}
use Rattle.hurd_script.specs.Script.{bad, commands_of, first_bad, is_bad_line}
use Rattle.hurd_sample.specs.Written.{command_line, commands_text, script_text}
use Rattle.hurd_sample.specs.declared.command.Drawn.{Drawn}
use Rattle.hurd_sample.proofs.LineLaws.{line_command, line_good, line_whole, names_stay, AreDeclared}

-- the lines of commands: after the last newline stands an empty one
lines : List Drawn → List (List ℕ)
lines [] = [] ∷ []
lines (c ∷ cs) = command_line c ∷ lines cs

lines-are : (cs : List Drawn) → lines_of (commands_text cs) ≡ lines cs
unfolding lines
lines-are [] = refl
lines-are (c ∷ cs) =
    ap lines_of (append_assoc (command_line c) (10 ∷ []) (commands_text cs))
    ∙ (slice_split_at (λ b. nat_eq b 10) (command_line c) 10 (commands_text cs) (line_whole c.user c.verb (map string_bytes c.words.items)) refl
    ∙ ap (λ (ls : List (List ℕ)). command_line c ∷ ls) (lines-are cs))

abbrev turn_test : Turn → Bool
turn_test turn = is_bad_line turn.earlier turn.line

none_bad : (n : ℕ) (earlier : List (List ℕ)) (cs : List Drawn) → AreDeclared earlier → position_from turn_test n (turns_after earlier (lines cs)) ≡ None
unfolding lines
none_bad n earlier [] names = refl
none_bad n earlier (c ∷ cs) names =
    let ws = map string_bytes c.words.items in
    rw (line_good earlier c.user c.verb ws names) (none_bad (n + 1) (earlier ++ command_line c ∷ []) cs (names_stay earlier c.user c.verb ws names))

one_more : (o : Option CommandLine) (cs : List CommandLine) → is_none o ≡ false → length (cons_option o cs) ≡ suc (length cs)
one_more None cs h = absurd (cc)
one_more (Some c) cs h = refl

all_commands : (earlier : List (List ℕ)) (cs : List Drawn) → AreDeclared earlier → length (filter_map command_at (turns_after earlier (lines cs))) ≡ length cs
unfolding lines
all_commands earlier [] names = refl
all_commands earlier (c ∷ cs) names =
    let ws = map string_bytes c.words.items in
    one_more _ _ (line_command c.user c.verb ws earlier names) ∙ ap suc (all_commands (earlier ++ command_line c ∷ []) cs (names_stay earlier c.user c.verb ws names))

-- the lines of the three users
abbrev alice_line : List ℕ
alice_line = codes "user alice 1000 1000,100"

abbrev bob_line : List ℕ
bob_line = codes "user bob 1001 1001,100"

abbrev carol_line : List ℕ
carol_line = codes "user carol 1002 1002"

abbrev user_three : List (List ℕ)
user_three = alice_line ∷ bob_line ∷ carol_line ∷ []

three_names : AreDeclared user_three
unfolding text_after
three_names = refl

-- so few ids are not too many
few : (ids : List ℕ) → length ids ≤ 32 → nat_le (set.len (set.from_list {R = nat_cmp} ids)) 32 ≡ true
few ids h = le-leb _ _ (omega (arith, len-listed ids))

alice_good : is_bad_line [] alice_line ≡ false
unfolding text_after numbers_of
alice_good = rw (few (1000 ∷ []) (omega arith), few (1000 ∷ 100 ∷ []) (omega arith)) refl

bob_good : is_bad_line (alice_line ∷ []) bob_line ≡ false
unfolding text_after numbers_of
bob_good = rw (few (1001 ∷ []) (omega arith), few (1001 ∷ 100 ∷ []) (omega arith)) refl

carol_good : is_bad_line (alice_line ∷ bob_line ∷ []) carol_line ≡ false
unfolding text_after numbers_of
carol_good = rw (few (1002 ∷ []) (omega arith)) refl

three_no_commands : (ls : List (List ℕ)) → filter_map command_at (turns_after [] (alice_line ∷ bob_line ∷ carol_line ∷ ls)) ≡ filter_map command_at (turns_after user_three ls)
unfolding text_after
three_no_commands ls = refl

script_lines : (cs : List Drawn) → lines_of (script_text cs) ≡ alice_line ∷ bob_line ∷ carol_line ∷ lines cs
script_lines cs =
    let cut : lines_of (script_text cs) ≡ alice_line ∷ bob_line ∷ carol_line ∷ lines_of (commands_text cs) = refl in
    cut ∙ ap (λ (ls : List (List ℕ)). alice_line ∷ bob_line ∷ carol_line ∷ ls) (lines-are cs)

script_good : (cs : List Drawn) → first_bad (lines_of (script_text cs)) ≡ None
script_good cs = ap first_bad (script_lines cs) ∙ rw (alice_good, bob_good, carol_good) (none_bad 4 user_three cs three_names)

short : (o : Option ℕ) (b : Bool) → b ≡ false → o ≡ None → (if b then Some 0 else o) ≡ None
short o b e f = rw (e, f) refl

pub good_by_construction : (cs : List Drawn) (text : List ℕ) → text ≡ script_text cs → length text ≤ 1048576 → bad text ≡ None
good_by_construction cs text is within = short _ _ (le-ltb _ _ within) (ap (λ (t : List ℕ). first_bad (lines_of t)) is ∙ script_good cs)

pub as_many_commands : (cs : List Drawn) (text : List ℕ) → text ≡ script_text cs → length (commands_of text) ≡ length cs
as_many_commands cs text is =
    ap (λ (t : List ℕ). length (commands_of t)) is
    ∙ (ap (λ (ls : List (List ℕ)). length (filter_map command_at (turns_after [] ls))) (script_lines cs)
    ∙ (ap length (three_no_commands (lines cs)) ∙ all_commands user_three cs three_names))
