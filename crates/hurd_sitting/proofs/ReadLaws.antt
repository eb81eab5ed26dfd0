-- How a list and a text of calls are read that are joined by a newline.
use Rattle.std.specs.List.{onto_first, slice_split}
use Rattle.std.specs.Result.{result_flatten, result_map_both}
use Rattle.std.proofs.Common.{◌≡◌, ◌∙◌, ◌⊎◌, ◌+◌, ◌<◌, ◌≤◌, ◌==◌, ℕ, Bool, true, false, not, List, [], ◌∷◌, ◌++◌, Result, Ok, Err, inl, inr, ap, append-nil, append_assoc, arith, codes, cond, if◌then◌else◌, length, nat_le, nat_lt, refl, sym}
use Rattle.std.proofs.lemmas.List.{length-append}
use Rattle.std.proofs.lemmas.List.Splits.{length-slice_split}
use Rattle.hurd_creds.specs.Access.{IdSets}
use Rattle.hurd_creds.specs.Limits.{most_script, most_tasks}
use Rattle.hurd_words.specs.Lines.{is_skipped, lines_of}
use Rattle.hurd_words.specs.Reading.{good_words}
use Rattle.hurd_words.specs.Users.{begins_with}
use Rattle.hurd_lists.specs.Arguments.{ids_of}
use Rattle.hurd_lists.specs.Flaws.{◌>>=◌, found_or}
use Rattle.hurd_lists.specs.Lists.{Listed, Standing, bad_at, call_from, read_from, reading_of, unsaid, with_call, with_ids, with_line, with_task, with_words}
use Rattle.hurd_lists.specs.Words.{bytes_of}
use Rattle.hurd_lists.specs.declared.flaw.ListFlaw.{ListFlaw}
use Rattle.hurd_lists.specs.declared.flaw.ListFlaw.TheVariants.{LateTask, Length, TaskCount, TaskIds, Word}
use Rattle.hurd_lists.proofs.ListLemmas.{call_line, read_ended, read_next}

-- a front of a first part, and then others, however they are cut
onto_apart : (t : Bool) (x : ℕ) (ps qs : List (List ℕ)) → 0 < length ps → cond t ([] ∷ (ps ++ qs)) (onto_first x (ps ++ qs)) ≡ cond t ([] ∷ ps) (onto_first x ps) ++ qs
onto_apart true x ps qs some = refl
onto_apart false x [] qs some = absurd (omega (arith, some))
onto_apart false x (p ∷ ps) qs some = refl

-- the lines of two texts that a newline joins
lines_apart : (xs ys : List ℕ) → lines_of (xs ++ 10 ∷ ys) ≡ lines_of xs ++ lines_of ys
lines_apart [] ys = refl
lines_apart (x ∷ xs) ys =
    let count = length-slice_split (λ b. b == 10) xs in
    ap (λ (ls : List (List ℕ)). cond (x == 10) ([] ∷ ls) (onto_first x ls)) (lines_apart xs ys) ∙ onto_apart (x == 10) x (lines_of xs) (lines_of ys) (omega (arith, count))

-- with calls more
abbrev pub with_calls : Standing → List Listed → Standing
with_calls s calls = record { tasks = s.tasks; calls = s.calls ++ calls }

-- a line says a task, or calls alone, whatever was said before
abbrev Says : Standing → List ℕ → Standing → Type 0
Says u line v = (length u.tasks < length v.tasks) ⊎ ((some : List Listed) × (v ≡ with_calls u some) × ((s : Standing) → with_line s line ≡ Ok (with_calls s some)))

-- a line of a task says one more

task_grows : (u v : Standing) (words : List (List ℕ)) → with_task u words ≡ Ok v → length u.tasks < length v.tasks
task_grows u v [] e = cc
task_grows u v (a ∷ []) e = cc
task_grows u v (a ∷ b ∷ []) e = cc
task_grows u v (a ∷ b ∷ c ∷ d ∷ more) e = cc
task_grows u v (a ∷ b ∷ c ∷ []) e = go (not (length u.calls == 0)) (nat_le most_tasks (length u.tasks)) (found_or TaskIds (ids_of b c)) e
  where
    go : (late many : Bool) (ids : Result IdSets ListFlaw) → (if late then Err LateTask else if many then Err TaskCount else with_ids u ids) ≡ Ok v → length u.tasks < length v.tasks
    go true many ids e = cc
    go false true ids e = cc
    go false false (Err flaw) e = cc
    go false false (Ok i) e =
        let same : record u { tasks = u.tasks ++ i ∷ [] } ≡ v = cc in
        omega (arith, length-append u.tasks (i ∷ []), ap (λ (s : Standing). length s.tasks) same)

-- a line that is skipped says nothing, and one of a call says it

with_none : (s : Standing) → s ≡ with_calls s []
with_none s i = record { tasks = s.tasks; calls = sym (append-nil s.calls) i }

skipped_says : (u v : Standing) (line : List ℕ) → is_skipped line ≡ true → u ≡ v → Says u line v
skipped_says u v line skipped same = inr ([], sym same ∙ with_none u, λ s. rw skipped (ap Ok (with_none s)))

call_says : (u v : Standing) (line : List ℕ) (c : Listed) → with_call u (Ok c) ≡ Ok v → ((s : Standing) → with_line s line ≡ with_call s (Ok c)) → Says u line v
call_says u v line c e all =
    let same : with_calls u (c ∷ []) ≡ v = cc in
    inr (c ∷ [], sym same, all)

module _ (u v : Standing) (line : List ℕ) where
  by_call : (words : List (List ℕ)) (r : Result Listed ListFlaw) → call_from line words ≡ r → with_call u r ≡ Ok v → ((s : Standing) → with_line s line ≡ with_call s (call_from line words)) → Says u line v
  by_call words (Err flaw) is e all = cc
  by_call words (Ok c) is e all = call_says u v line c e (λ s. all s ∙ ap (with_call s) is)

  by_words : (words : List (List ℕ)) (t : Bool) → is_skipped line ≡ false → found_or Word (good_words bytes_of (slice_split (λ b. b == 32) line)) ≡ Ok words → begins_with (codes "task") words ≡ t
      → (if t then with_task u words else with_call u (call_from line words)) ≡ Ok v → Says u line v
  by_words words true said read is e = inl (task_grows u v words e)
  by_words words false said read is e = by_call words (call_from line words) refl e (λ s. call_line s line words said read is)

  by_reading : (r : Result (List (List ℕ)) ListFlaw) → is_skipped line ≡ false → found_or Word (good_words bytes_of (slice_split (λ b. b == 32) line)) ≡ r → (r >>= with_words u line) ≡ Ok v → Says u line v
  by_reading (Err flaw) said read e = cc
  by_reading (Ok words) said read e = by_words words (begins_with (codes "task") words) said read refl e

  by_skip : (t : Bool) → is_skipped line ≡ t → (if t then Ok u else found_or Word (good_words bytes_of (slice_split (λ b. b == 32) line)) >>= with_words u line) ≡ Ok v → Says u line v
  by_skip true said e = skipped_says u v line said (cc)
  by_skip false said e = by_reading (found_or Word (good_words bytes_of (slice_split (λ b. b == 32) line))) said refl e

  line_says : with_line u line ≡ Ok v → Says u line v
  line_says e = by_skip (is_skipped line) refl e

-- lines that were read: the first was, and then the others

first_read : (n : ℕ) (u t : Standing) (line : List ℕ) (lines : List (List ℕ)) → read_from n u (line ∷ lines) ≡ Ok t
    → (v : Standing) × (with_line u line ≡ Ok v) × (read_from (n + 1) v lines ≡ Ok t)
unfolding read_from
first_read n u t line lines e = go (with_line u line) refl e
  where
    go : (r : Result Standing ListFlaw) → with_line u line ≡ r → result_flatten (result_map_both (λ next. read_from (n + 1) next lines) (bad_at n) r) ≡ Ok t
        → (v : Standing) × (with_line u line ≡ Ok v) × (read_from (n + 1) v lines ≡ Ok t)
    go (Err flaw) is e = cc
    go (Ok v) is e = (v, is, e)

none_read : (n : ℕ) (u t : Standing) → read_from n u [] ≡ Ok t → u ≡ t
none_read n u t e = cc (read_ended n u)

-- other lines after them are read where these were
read_apart : (n : ℕ) (u t : Standing) (ls ms : List (List ℕ)) → read_from n u ls ≡ Ok t → (m : ℕ) × (read_from n u (ls ++ ms) ≡ read_from m t ms)
read_apart n u t [] ms e = (n, ap (λ (s : Standing). read_from n s ms) (none_read n u t e))
read_apart n u t (line ∷ ls) ms e =
    let first = first_read n u t line ls e in
    let rest = read_apart (n + 1) first.0 t ls ms first.2 in
    (rest.0, read_next n u first.0 line (ls ++ ms) first.1 ∙ rest.1)

-- no task is taken back

says_grows : (u v : Standing) (line : List ℕ) → Says u line v → length u.tasks ≤ length v.tasks
says_grows u v line (inl grows) = omega arith
says_grows u v line (inr (some, is, all)) = omega (arith, ap (λ (s : Standing). length s.tasks) is)

tasks_grow : (n : ℕ) (u t : Standing) (lines : List (List ℕ)) → read_from n u lines ≡ Ok t → length u.tasks ≤ length t.tasks
tasks_grow n u t [] e = omega (arith, ap (λ (s : Standing). length s.tasks) (none_read n u t e))
tasks_grow n u t (line ∷ lines) e =
    let first = first_read n u t line lines e in
    let here = says_grows u first.0 line (line_says u first.0 line first.1) in
    let there = tasks_grow (n + 1) first.0 t lines first.2 in
    omega arith

-- lines that say no task say the same calls, whatever was said before

abbrev SayCalls : ℕ → Standing → Standing → Standing → List (List ℕ) → Type 0
SayCalls m u t s lines = (some : List Listed) × (t.calls ≡ u.calls ++ some) × (read_from m s lines ≡ Ok (with_calls s some))

more_say : (m : ℕ) (u v t s : Standing) (line : List ℕ) (lines : List (List ℕ)) (some : List Listed) → v ≡ with_calls u some → with_line s line ≡ Ok (with_calls s some)
    → SayCalls (m + 1) v t (with_calls s some) lines → SayCalls m u t s (line ∷ lines)
more_say m u v t s line lines some is here (rest, calls, read) = (
  some ++ rest,
  calls ∙ (ap (λ (w : Standing). w.calls ++ rest) is ∙ append_assoc u.calls some rest),
  read_next m s (with_calls s some) line lines here ∙ (read ∙ (λ i. Ok (record { tasks = s.tasks; calls = append_assoc s.calls some rest i }))),
)

calls_read : (n m : ℕ) (u t s : Standing) (lines : List (List ℕ)) → read_from n u lines ≡ Ok t → t.tasks ≡ [] → SayCalls m u t s lines
calls_read n m u t s [] e none = (
  [],
  ap (λ (w : Standing). w.calls) (sym (none_read n u t e)) ∙ sym (append-nil u.calls),
  read_ended m s ∙ ap Ok (with_none s),
)
calls_read n m u t s (line ∷ lines) e none =
    let first = first_read n u t line lines e in
    go first.0 first.2 (line_says u first.0 line first.1) (λ (next : Standing). calls_read (n + 1) (m + 1) first.0 t next lines first.2 none)
  where
    go : (v : Standing) → read_from (n + 1) v lines ≡ Ok t → Says u line v → ((next : Standing) → SayCalls (m + 1) v t next lines) → SayCalls m u t s (line ∷ lines)
    go v rest (inl grows) others = absurd (omega (arith, tasks_grow (n + 1) v t lines rest, ap (λ (ids : List IdSets). length ids) none, grows))
    go v rest (inr (some, is, all)) others = more_say m u v t s line lines some is (all s) (others (with_calls s some))

-- a list that was read is not too long

is_short : (xs : List ℕ) (t : Standing) (long : Bool) → (if long then Err (bad_at 0 Length) else read_from 1 unsaid (lines_of xs)) ≡ Ok t → read_from 1 unsaid (lines_of xs) ≡ Ok t
is_short xs t true e = cc
is_short xs t false e = e

lines_read : (xs : List ℕ) (t : Standing) → reading_of xs ≡ Ok t → read_from 1 unsaid (lines_of xs) ≡ Ok t
lines_read xs t e = is_short xs t (nat_lt most_script (length xs)) e

-- a list and then a text of calls alone, joined by a newline, say what both say
pub joined_read : (list text : List ℕ) (said more : Standing) → reading_of list ≡ Ok said → reading_of text ≡ Ok more → more.tasks ≡ [] → nat_lt most_script (length (list ++ 10 ∷ text)) ≡ false
    → reading_of (list ++ 10 ∷ text) ≡ Ok (with_calls said more.calls)
joined_read list text said more list_reads text_reads none short =
    let front = read_apart 1 unsaid said (lines_of list) (lines_of text) (lines_read list said list_reads) in
    let back = calls_read 1 front.0 unsaid more said (lines_of text) (lines_read text more text_reads) none in
    rw short (ap (read_from 1 unsaid) (lines_apart list text) ∙ (front.1 ∙ (back.2 ∙ (λ i. Ok (with_calls said (sym back.1 i))))))
