-- What is learned and seen is said in sentences.
use Rattle.std.proofs.Common.{◌≡◌, ◌⊎◌, inl, inr, ◌∙◌, refl, sym, ap, subst, ℕ, ◌/◌, ◌==◌, ◌&&◌, Bool, true, false, List, [], ◌∷◌, ◌++◌, append_assoc, Option, Some, None, codes, decimal, if◌then◌else◌, length, not, bytes_eq, nat_lt, nat_le}
use Rattle.std.specs.Option.{option_map}
use Rattle.std.proofs.lemmas.Bool.{and_from}
use Rattle.hurd_creds.specs.Access.{IdSets, least_uid}
use Rattle.hurd_creds.specs.Bits as bit
use Rattle.hurd_creds.specs.Stats.{stat_of}
use Rattle.hurd_creds.specs.declared.attrs.Attrs.{Attrs}
use Rattle.hurd_creds.specs.declared.attrs.Kind.{Kind}
use Rattle.hurd_creds.specs.declared.attrs.Kind.TheVariants.{File, Dir, Link, Fifo, Char}
use Rattle.hurd_creds.specs.declared.attrs.Stat.{Stat}
use Rattle.hurd_creds.specs.declared.name.Name.{Name}
use Rattle.hurd_creds.specs.declared.open_flags.OpenFlags.{OpenFlags}
use Rattle.hurd_words.specs.Printing.{kind_letter, octal_digit, six_octal_digits, spaced, stat_words, text_if}
use Rattle.hurd_ports.specs.Tables.{Task}
use Rattle.hurd_ports.specs.declared.table.Ends.{Ends}
use Rattle.hurd_ports.specs.declared.table.Opened.{Opened}
use Rattle.hurd_ports.specs.declared.table.PendingStart.{PendingStart}
use Rattle.hurd_ports.specs.declared.table.Port.{Port}
use Rattle.hurd_lessons.specs.declared.seen_parts.Reads.{Reads}
use Rattle.hurd_lessons.specs.declared.seen_parts.Reads.TheVariants as reads
use Rattle.hurd_creds.specs.declared.name.TaskId.{TaskId}
use Rattle.hurd_words.specs.Sentences.{InSentences, is_letter, is_word}
use Rattle.hurd_words.specs.Spelling.{spelled, spelled_name, spelled_words}
use Rattle.hurd_words.proofs.ClauseLaws.{IsClauseText, both_fit, both_sentences, clause_more, clause_of_part, fits, no_sentences, one_clause, three_clauses, two_clauses, word_fits}
use Rattle.hurd_words.proofs.WordLaws.{decimal_is_word, octal_is_letter, spelled_is_word}
use Rattle.hurd_views.specs.Marks.{text_mark}
use Rattle.hurd_views.specs.Views.{row_at}
use Rattle.hurd_views.specs.declared.rows.BodyRow.{BodyRow}
use Rattle.hurd_views.specs.declared.rows.BodyRow.TheVariants as body
use Rattle.hurd_views.specs.declared.rows.EntryRow.{EntryRow}
use Rattle.hurd_views.specs.declared.rows.NodeRow.{NodeRow}
use Rattle.hurd_views.specs.declared.rows.OpenRow.{OpenRow}
use Rattle.hurd_views.specs.declared.rows.Row.{Row}
use Rattle.hurd_views.specs.declared.rows.ServerRow.{ServerRow}
use Rattle.hurd_views.specs.declared.rows.TextRow.{TextRow}
use Rattle.hurd_views.specs.declared.view.View.{View}
use Rattle.hurd_lessons.specs.Changes.{is_kept, shows}
use Rattle.hurd_lessons.specs.Differences.{body_change, changed_attrs, changed_body, changed_node, changed_open, changed_opened, changed_server, empty_change, ends_change, entries_gone, entries_new, modes_or_none, modes_part, noted, number_change, parent_at, server_change, signed_names, text_change}
use Rattle.hurd_lessons.specs.Lessons.{GoneLineOf, LineOf, Lines, Unless, body_word, emptiness, ends_beside, is_listing, line, moved, note_body, note_empty, note_ends, note_node, note_open, note_server, note_text, note_users, or_changed, parts_of, place_in, said_of}
use Rattle.hurd_lessons.specs.Values.{bytes_change, line_from, names_of, number_part, part_if, parted, path_or_none, server_or_none, short_mode, spelled_or_none, turned_part, with_part, words_or_none}
use Rattle.hurd_places.specs.Places.{node_path, place_of, server_path}
use Rattle.hurd_places.proofs.FitLaws.{node_path_fits, place_fits, server_path_fits}
use Rattle.hurd_lessons.specs.Seen.{active_part, attributes_text, body_part, body_text, cursor_text, empty_part, ends_part, ends_text, entry_names, held_text, home_part, marked_text, modes_text, node_places, node_text, number_text, opened_text, parent_of, parent_part, passive_text, places_text, program_text, given_text, on_part, opened_by_tasks, port_numbers, program_of, read_text, reads_of, seat_line, seat_lines, seat_text, seen_line, seen_lines, seen_of, server_named, server_parts, start_text, targets_part, task_text, text_part, uid_or_none, uid_text, words_behind, words_text}
use Rattle.hurd_lessons.specs.Told.{SeenInSentences, TaughtInSentences}
use Rattle.hurd_lessons.specs.declared.changes.Became.{Became}
use Rattle.hurd_lessons.specs.declared.changes.Became.TheVariants as became
use Rattle.hurd_lessons.specs.declared.changes.Change.{Change}

-- pieces

number_fits : (n : ℕ) → fits (decimal n) ≡ true
number_fits n = word_fits (decimal n) (decimal_is_word n)

spaced_fits : (n : ℕ) → fits (spaced n) ≡ true
spaced_fits n = both_fit (codes " ") (decimal n) refl (number_fits n)

name_fits : (name : List ℕ) → fits (spelled_name name) ≡ true
name_fits name = word_fits (spelled_name name) (spelled_is_word true name)

word_of_user_fits : (word : List ℕ) → fits (spelled word) ≡ true
word_of_user_fits word = word_fits (spelled word) (spelled_is_word false word)

words_fit : (words : List (List ℕ)) → fits (spelled_words words) ≡ true
words_fit [] = refl
words_fit (word ∷ words) = both_fit (32 ∷ spelled word) (spelled_words words) (both_fit (codes " ") (spelled word) refl (word_of_user_fits word)) (words_fit words)

if_fits : (b : Bool) (text : List ℕ) → fits text ≡ true → fits (text_if b text) ≡ true
if_fits true text fit = fit
if_fits false text fit = refl

octal_is_word : (n : ℕ) → is_word (six_octal_digits n) ≡ true
octal_is_word n =
    and_from (is_letter (octal_digit (n / 32768))) _ (octal_is_letter (n / 32768)) (and_from (is_letter (octal_digit (n / 4096))) _ (octal_is_letter (n / 4096))
    (and_from (is_letter (octal_digit (n / 512))) _ (octal_is_letter (n / 512)) (and_from (is_letter (octal_digit (n / 64))) _ (octal_is_letter (n / 64))
    (and_from (is_letter (octal_digit (n / 8))) _ (octal_is_letter (n / 8)) (and_from (is_letter (octal_digit n)) true (octal_is_letter n) refl)))))

kind_fits : (k : Kind) → fits (kind_letter k ∷ []) ≡ true
kind_fits File = refl
kind_fits Dir = refl
kind_fits Link = refl
kind_fits Fifo = refl
kind_fits Char = refl

stat_fits : (s : Stat) → fits (stat_words s) ≡ true
stat_fits s =
    both_fit (kind_letter s.kind ∷ []) (six_octal_digits s.mode.0 ++ (spaced s.links ++ (spaced s.owner ++ (spaced s.group ++ spaced s.size)))) (kind_fits s.kind)
    (both_fit (six_octal_digits s.mode.0) (spaced s.links ++ (spaced s.owner ++ (spaced s.group ++ spaced s.size))) (word_fits (six_octal_digits s.mode.0) (octal_is_word s.mode.0))
    (both_fit (spaced s.links) (spaced s.owner ++ (spaced s.group ++ spaced s.size)) (spaced_fits s.links)
    (both_fit (spaced s.owner) (spaced s.group ++ spaced s.size) (spaced_fits s.owner) (both_fit (spaced s.group) (spaced s.size) (spaced_fits s.group) (spaced_fits s.size)))))

-- parts

-- a part more, after a comma where some stand already
part_added : (words part : List ℕ) → (words ≡ []) ⊎ IsClauseText words → fits part ≡ true → IsClauseText (parted words ++ part)
part_added [] part said fit = clause_of_part part fit
part_added (b ∷ words) part (inl none) fit = absurd (cc)
part_added (b ∷ words) part (inr clause) fit =
    let it = clause_more (b ∷ words) part clause fit in
    (it.0, it.1, append_assoc (b ∷ words) (codes ", ") part ∙ it.2)

noted_said : (words word changed : List ℕ) (b : Became) → (words ≡ []) ⊎ IsClauseText words → fits word ≡ true → (changed ≡ []) ⊎ IsClauseText changed
    → (noted words word changed b ≡ []) ⊎ IsClauseText (noted words word changed b)
noted_said words word changed became.Same said fit turned = said
noted_said words word changed became.Changed said fit turned = turned
noted_said words word changed became.New said fit turned = inr (part_added words (word ++ []) said (both_fit word [] fit refl))
noted_said words word changed became.Lost said fit turned = inr (part_added words (word ++ codes " no longer seen") said (both_fit word (codes " no longer seen") fit refl))
noted_said words word changed became.First said fit turned = inr (part_added words (word ++ codes " only in the first") said (both_fit word (codes " only in the first") fit refl))
noted_said words word changed became.Second said fit turned = inr (part_added words (word ++ codes " only in the second") said (both_fit word (codes " only in the second") fit refl))

body_word_fits : (x y : Row) → fits (body_word x y) ≡ true
body_word_fits x y = go (is_listing x.body) (is_listing y.body)
  where
    go : (a b : Bool) → fits (if a then codes "entries" else if b then codes "entries" else codes "bytes") ≡ true
    go true b = refl
    go false true = refl
    go false false = refl

-- a part that may be there
part_said : (words : List ℕ) (part : Option (List ℕ)) → (words ≡ []) ⊎ IsClauseText words → ((p : List ℕ) → part ≡ Some p → fits p ≡ true) → (with_part words part ≡ []) ⊎ IsClauseText (with_part words part)
part_said words None said fit = said
part_said words (Some part) said fit = inr (part_added words part said (fit part refl))

some_fits : (text p : List ℕ) → fits text ≡ true → Some text ≡ Some p → fits p ≡ true
some_fits text p fit is = let same : text ≡ p = cc in ap fits (sym same) ∙ fit

if_part_fits : (t : Bool) (text p : List ℕ) → fits text ≡ true → part_if t text ≡ Some p → fits p ≡ true
if_part_fits true text p fit is = some_fits text p fit is
if_part_fits false text p fit is = absurd (cc)

turned_fits : (word old new p : List ℕ) → fits word ≡ true → fits old ≡ true → fits new ≡ true → turned_part word old new ≡ Some p → fits p ≡ true
turned_fits word old new p w x y is =
    if_part_fits (not (bytes_eq old new)) (word ++ (32 ∷ (old ++ (codes " -> " ++ new)))) p
    (both_fit word (32 ∷ (old ++ (codes " -> " ++ new))) w
    (both_fit (codes " ") (old ++ (codes " -> " ++ new)) refl (both_fit old (codes " -> " ++ new) x (both_fit (codes " -> ") new refl y)))) is

number_part_fits : (word : List ℕ) (m n : ℕ) (p : List ℕ) → fits word ≡ true → number_part word m n ≡ Some p → fits p ≡ true
number_part_fits word m n p w is =
    if_part_fits (not (m == n)) (word ++ (spaced m ++ (codes " ->" ++ spaced n))) p
    (both_fit word (spaced m ++ (codes " ->" ++ spaced n)) w (both_fit (spaced m) (codes " ->" ++ spaced n) (spaced_fits m) (both_fit (codes " ->") (spaced n) refl (spaced_fits n)))) is

turned_said : {words : List ℕ} (word old new : List ℕ) → (words ≡ []) ⊎ IsClauseText words → fits word ≡ true → fits old ≡ true → fits new ≡ true
    → (with_part words (turned_part word old new) ≡ []) ⊎ IsClauseText (with_part words (turned_part word old new))
turned_said {words} word old new said w x y = part_said words (turned_part word old new) said (λ t. turned_fits word old new t w x y)

number_said : {words : List ℕ} (word : List ℕ) (m n : ℕ) → (words ≡ []) ⊎ IsClauseText words → fits word ≡ true
    → (with_part words (number_part word m n) ≡ []) ⊎ IsClauseText (with_part words (number_part word m n))
number_said {words} word m n said w = part_said words (number_part word m n) said (λ t. number_part_fits word m n t w)

some_said : {words : List ℕ} (part : List ℕ) → (words ≡ []) ⊎ IsClauseText words → fits part ≡ true → (with_part words (Some part) ≡ []) ⊎ IsClauseText (with_part words (Some part))
some_said {words} part said fit = inr (part_added words part said fit)

short_mode_fits : (n : ℕ) → fits (short_mode n) ≡ true
short_mode_fits n = go (nat_lt n 512) (nat_lt n 4096)
  where
    three : is_word (octal_digit (n / 64) ∷ octal_digit (n / 8) ∷ octal_digit n ∷ []) ≡ true
    three =
        and_from (is_letter (octal_digit (n / 64))) (is_word (octal_digit (n / 8) ∷ octal_digit n ∷ [])) (octal_is_letter (n / 64))
        (and_from (is_letter (octal_digit (n / 8))) (is_word (octal_digit n ∷ [])) (octal_is_letter (n / 8)) (and_from (is_letter (octal_digit n)) true (octal_is_letter n) refl))

    go : (s t : Bool) → fits (if s then octal_digit (n / 64) ∷ octal_digit (n / 8) ∷ octal_digit n ∷ []
        else if t then octal_digit (n / 512) ∷ octal_digit (n / 64) ∷ octal_digit (n / 8) ∷ octal_digit n ∷ [] else six_octal_digits n) ≡ true
    go true t = word_fits (octal_digit (n / 64) ∷ octal_digit (n / 8) ∷ octal_digit n ∷ []) three
    go false true =
        word_fits (octal_digit (n / 512) ∷ octal_digit (n / 64) ∷ octal_digit (n / 8) ∷ octal_digit n ∷ [])
        (and_from (is_letter (octal_digit (n / 512))) (is_word (octal_digit (n / 64) ∷ octal_digit (n / 8) ∷ octal_digit n ∷ [])) (octal_is_letter (n / 512)) three)
    go false false = word_fits (six_octal_digits n) (octal_is_word n)

words_or_none_fit : (words : List (List ℕ)) → fits (words_or_none words) ≡ true
words_or_none_fit [] = refl
words_or_none_fit (word ∷ words) = both_fit (spelled word) (spelled_words words) (word_of_user_fits word) (words_fit words)

spelled_or_none_fits : (bs : List ℕ) → fits (spelled_or_none bs) ≡ true
spelled_or_none_fits [] = refl
spelled_or_none_fits (b ∷ bs) = word_of_user_fits (b ∷ bs)

path_or_none_fits : (v : View) (n : Option Name) → fits (path_or_none v n) ≡ true
path_or_none_fits v None = refl
path_or_none_fits v (Some n) = node_path_fits v n

server_or_none_fits : (v : View) (s : Option Name) → fits (server_or_none v s) ≡ true
server_or_none_fits v None = refl
server_or_none_fits v (Some s) = server_path_fits v s

attrs_said : (words : List ℕ) (x y : Option Attrs) → (words ≡ []) ⊎ IsClauseText words → (changed_attrs words x y ≡ []) ⊎ IsClauseText (changed_attrs words x y)
attrs_said words (Some p) (Some q) said =
    number_said (codes "size") p.size q.size
    (number_said (codes "links") p.links q.links
    (turned_said (codes "mode") (short_mode p.mode.0) (short_mode q.mode.0)
    (number_said (codes "group") p.group q.group
    (number_said (codes "owner") p.owner q.owner
    (turned_said (codes "kind") (kind_letter p.kind ∷ []) (kind_letter q.kind ∷ []) said refl (kind_fits p.kind) (kind_fits q.kind)) refl) refl)
    refl (short_mode_fits p.mode.0) (short_mode_fits q.mode.0)) refl) refl
attrs_said words None None said = said
attrs_said words (Some p) None said = inr (part_added words (codes "gone") said refl)
attrs_said words None (Some q) said = inr (part_added words (codes "attributes") said refl)

node_said : (a b : View) (words : List ℕ) (x y : Option NodeRow) → (words ≡ []) ⊎ IsClauseText words → (changed_node a b words x y ≡ []) ⊎ IsClauseText (changed_node a b words x y)
node_said a b words (Some x) (Some y) said =
    turned_said (codes "active") (server_or_none a x.active) (server_or_none b y.active)
    (turned_said (codes "served by") (server_or_none a x.home) (server_or_none b y.home)
    (turned_said (codes "passive") (words_or_none x.words) (words_or_none y.words)
    (turned_said (codes "parent") (path_or_none a (parent_at x.attrs)) (path_or_none b (parent_at y.attrs)) (attrs_said words x.attrs y.attrs said)
    refl (path_or_none_fits a (parent_at x.attrs)) (path_or_none_fits b (parent_at y.attrs)))
    refl (words_or_none_fit x.words) (words_or_none_fit y.words))
    refl (server_or_none_fits a x.home) (server_or_none_fits b y.home))
    refl (server_or_none_fits a x.active) (server_or_none_fits b y.active)
node_said a b words None y said = said
node_said a b words (Some x) None said = said

ends_said : (words : List ℕ) (x y : Option (Option Ends)) → (words ≡ []) ⊎ IsClauseText words → (ends_change words x y ≡ []) ⊎ IsClauseText (ends_change words x y)
ends_said words (Some (Some p)) (Some (Some q)) said = number_said (codes "writers") p.writers q.writers (number_said (codes "readers") p.readers q.readers said refl) refl
ends_said words (Some (Some p)) (Some None) said = inr (part_added words (codes "readers and writers") said refl)
ends_said words (Some (Some p)) None said = inr (part_added words (codes "readers and writers") said refl)
ends_said words (Some None) y said = inr (part_added words (codes "readers and writers") said refl)
ends_said words None y said = inr (part_added words (codes "readers and writers") said refl)

signed_fit : (sign : List ℕ) (es : List EntryRow) → fits sign ≡ true → fits (signed_names sign es) ≡ true
signed_fit sign [] fit = refl
signed_fit sign (e ∷ es) fit = both_fit (sign ++ spelled_name e.name) (signed_names sign es) (both_fit sign (spelled_name e.name) fit (name_fits e.name)) (signed_fit sign es fit)

bytes_change_fits : (old new : List ℕ) → fits (bytes_change old new) ≡ true
bytes_change_fits old new = go (nat_le (length old) 24 && nat_le (length new) 24)
  where
    go : (t : Bool) → fits (if t then codes "bytes " ++ (spelled_or_none old ++ (codes " -> " ++ spelled_or_none new)) else codes "bytes") ≡ true
    go true =
        both_fit (codes "bytes ") (spelled_or_none old ++ (codes " -> " ++ spelled_or_none new)) refl
        (both_fit (spelled_or_none old) (codes " -> " ++ spelled_or_none new) (spelled_or_none_fits old) (both_fit (codes " -> ") (spelled_or_none new) refl (spelled_or_none_fits new)))
    go false = refl

changed_body_fits : (t : Bool) (x y : BodyRow) → fits (changed_body t x y) ≡ true
changed_body_fits t (body.Entries old) (body.Entries new) =
    both_fit (codes "entries") (signed_names (codes " + ") (entries_new t old new) ++ signed_names (codes " - ") (entries_gone t old new)) refl
    (both_fit (signed_names (codes " + ") (entries_new t old new)) (signed_names (codes " - ") (entries_gone t old new)) (signed_fit (codes " + ") (entries_new t old new) refl)
    (signed_fit (codes " - ") (entries_gone t old new) refl))
changed_body_fits t (body.Bytes old) (body.Bytes new) = bytes_change_fits old new
changed_body_fits t (body.Bytes old) (body.Entries new) = refl
changed_body_fits t (body.Entries old) (body.Bytes new) = refl

body_change_fits : (t : Bool) (x y : Option (Option BodyRow)) → fits (body_change t x y) ≡ true
body_change_fits t (Some (Some x)) (Some (Some y)) = changed_body_fits t x y
body_change_fits t (Some (Some x)) (Some None) = refl
body_change_fits t (Some (Some x)) None = refl
body_change_fits t (Some None) y = refl
body_change_fits t None y = refl

empty_change_fits : (e : Option (Option Bool)) → fits (empty_change e) ≡ true
empty_change_fits (Some (Some true)) = refl
empty_change_fits (Some (Some false)) = refl
empty_change_fits (Some None) = refl
empty_change_fits None = refl

modes_fit : (f : OpenFlags) → fits (modes_text f) ≡ true
modes_fit f =
    both_fit (text_if (bit.asks f bit.READ) (codes " read")) _ (if_fits (bit.asks f bit.READ) (codes " read") refl)
    (both_fit (text_if (bit.asks f bit.WRITE) (codes " write")) _ (if_fits (bit.asks f bit.WRITE) (codes " write") refl)
    (both_fit (text_if (bit.asks f bit.EXEC) (codes " exec")) _ (if_fits (bit.asks f bit.EXEC) (codes " exec") refl) (if_fits (bit.asks f bit.APPEND) (codes " append") refl)))

modes_or_none_fit : (text : List ℕ) → fits text ≡ true → fits (modes_or_none text) ≡ true
modes_or_none_fit [] fit = refl
modes_or_none_fit (b ∷ bs) fit = fit

modes_part_fits : (old new p : List ℕ) → fits old ≡ true → fits new ≡ true → modes_part old new ≡ Some p → fits p ≡ true
modes_part_fits old new p x y is =
    if_part_fits (not (bytes_eq old new)) (codes "modes" ++ (modes_or_none old ++ (codes " ->" ++ modes_or_none new))) p
    (both_fit (codes "modes") (modes_or_none old ++ (codes " ->" ++ modes_or_none new)) refl
    (both_fit (modes_or_none old) (codes " ->" ++ modes_or_none new) (modes_or_none_fit old x) (both_fit (codes " ->") (modes_or_none new) refl (modes_or_none_fit new y)))) is

opened_said : (words : List ℕ) (x y : Option Opened) → (words ≡ []) ⊎ IsClauseText words → (changed_opened words x y ≡ []) ⊎ IsClauseText (changed_opened words x y)
opened_said words (Some p) (Some q) said =
    part_said _ (modes_part (modes_text p.modes) (modes_text q.modes)) (number_said (codes "cursor") p.cursor q.cursor said refl)
    (λ t. modes_part_fits (modes_text p.modes) (modes_text q.modes) t (modes_fit p.modes) (modes_fit q.modes))
opened_said words None None said = said
opened_said words (Some p) None said = inr (part_added words (codes "gone") said refl)
opened_said words None (Some q) said = inr (part_added words (codes "open") said refl)

open_said : (words : List ℕ) (x y : Option OpenRow) → (words ≡ []) ⊎ IsClauseText words → (changed_open words x y ≡ []) ⊎ IsClauseText (changed_open words x y)
open_said words (Some x) (Some y) said = number_said (codes "held") x.holders y.holders (opened_said words x.opened y.opened said) refl
open_said words None y said = said
open_said words (Some x) None said = said

places_fit : (v : View) (ns : List Name) → fits (node_places v ns) ≡ true
places_fit v [] = refl
places_fit v (n ∷ ns) = both_fit (32 ∷ node_path v n) (node_places v ns) (both_fit (codes " ") (node_path v n) refl (node_path_fits v n)) (places_fit v ns)

places_text_fits : (v : View) (ns : List Name) → fits (places_text v ns) ≡ true
places_text_fits v [] = refl
places_text_fits v (n ∷ ns) = both_fit (node_path v n) (node_places v ns) (node_path_fits v n) (places_fit v ns)

uid_fits : (ids : IdSets) → fits (uid_text ids) ≡ true
uid_fits ids = go (least_uid ids)
  where
    go : (u : Option ℕ) → fits (uid_or_none u) ≡ true
    go None = refl
    go (Some u) = number_fits u

mark_fits : (program : List ℕ) → fits (text_mark program) ≡ true
mark_fits program = go (bytes_eq program (codes "/hurd/tmpfs"))
  where
    go : (is : Bool) → fits (if is then codes "--size=" else []) ≡ true
    go true = refl
    go false = refl

marked_fits : (mark text : List ℕ) → fits mark ≡ true → fits (marked_text mark text) ≡ true
marked_fits mark [] fit = refl
marked_fits mark (b ∷ bs) fit = both_fit (32 ∷ []) (mark ++ spelled (b ∷ bs)) refl (both_fit mark (spelled (b ∷ bs)) fit (word_of_user_fits (b ∷ bs)))

program_fits : (s : ServerRow) → fits (program_text s) ≡ true
program_fits s = both_fit (spelled_or_none s.program) (marked_text (text_mark s.program) s.text) (spelled_or_none_fits s.program) (marked_fits (text_mark s.program) s.text (mark_fits s.program))

server_row_said : (a b : View) (words : List ℕ) (x y : Option ServerRow) → (words ≡ []) ⊎ IsClauseText words → (changed_server a b words x y ≡ []) ⊎ IsClauseText (changed_server a b words x y)
server_row_said a b words (Some x) (Some y) said =
    turned_said (codes "runs as") (uid_text x.ids) (uid_text y.ids)
    (turned_said (codes "root") (path_or_none a (Some x.root)) (path_or_none b (Some y.root))
    (turned_said (codes "targets") (places_text a x.targets) (places_text b y.targets)
    (turned_said (codes "program") (program_text x) (program_text y) said refl (program_fits x) (program_fits y))
    refl (places_text_fits a x.targets) (places_text_fits b y.targets))
    refl (path_or_none_fits a (Some x.root)) (path_or_none_fits b (Some y.root)))
    refl (uid_fits x.ids) (uid_fits y.ids)
server_row_said a b words None None said = said
server_row_said a b words (Some x) None said = inr (part_added words (codes "gone") said refl)
server_row_said a b words None (Some y) said = inr (part_added words (codes "program") said refl)

server_said : (a b : View) (words : List ℕ) (x y : Option (Option ServerRow)) → (words ≡ []) ⊎ IsClauseText words → (server_change a b words x y ≡ []) ⊎ IsClauseText (server_change a b words x y)
server_said a b words (Some x) (Some y) said = server_row_said a b words x y said
server_said a b words None y said = said
server_said a b words (Some x) None said = said

text_said : (words : List ℕ) (x y : Option (Option TextRow)) → (words ≡ []) ⊎ IsClauseText words → (text_change words x y ≡ []) ⊎ IsClauseText (text_change words x y)
text_said words (Some (Some x)) (Some (Some y)) said =
    turned_said (codes "text") (words_text x) (words_text y) said refl (words_or_none_fit (words_behind x.options)) (words_or_none_fit (words_behind y.options))
text_said words (Some (Some x)) (Some None) said = said
text_said words (Some (Some x)) None said = said
text_said words (Some None) y said = said
text_said words None y said = said

seen_number_said : (words word : List ℕ) (m n : Option ℕ) → fits word ≡ true → (words ≡ []) ⊎ IsClauseText words → (number_change words word m n ≡ []) ⊎ IsClauseText (number_change words word m n)
seen_number_said words word (Some m) (Some n) fit said = number_said word m n said fit
seen_number_said words word None n fit said = said
seen_number_said words word (Some m) None fit said = said

parts_said : (a b : View) (x y : Row) (c : Change) → (parts_of a b x y c ≡ []) ⊎ IsClauseText (parts_of a b x y c)
parts_said a b x y c =
    let one : List ℕ = note_node a b x y c [] in
    let told : List ℕ = note_ends x y c one in
    let two : List ℕ = note_body x y c told in
    let three : List ℕ = note_empty y c two in
    let four : List ℕ = note_open x y c three in
    let five : List ℕ = note_server a b x y c four in
    let six : List ℕ = note_text x y c five in
    let seven : List ℕ = note_users x y c six in
    let first : (one ≡ []) ⊎ IsClauseText one = noted_said [] (codes "attributes") _ c.attributes (inl refl) refl (node_said a b [] x.attributes y.attributes (inl refl)) in
    let ends : (told ≡ []) ⊎ IsClauseText told = noted_said one (codes "readers and writers") _ (ends_beside c.body c.ends) first refl (ends_said one x.ends y.ends first) in
    let second : (two ≡ []) ⊎ IsClauseText two =
    noted_said told (body_word x y) _ c.body ends (body_word_fits x y) (part_said told (Some (body_change c.by_name x.body y.body)) ends (λ t. some_fits (body_change c.by_name x.body y.body) t (body_change_fits c.by_name x.body y.body))) in
    let third : (three ≡ []) ⊎ IsClauseText three =
    noted_said two (codes "emptiness") _ (emptiness c.body c.empty) second refl (part_said two (Some (empty_change y.empty)) second (λ t. some_fits (empty_change y.empty) t (empty_change_fits y.empty))) in
    let fourth : (four ≡ []) ⊎ IsClauseText four = noted_said three (codes "open") _ c.opened third refl (open_said three x.opened y.opened third) in
    let fifth : (five ≡ []) ⊎ IsClauseText five = noted_said four (codes "program") _ c.server fourth refl (server_said a b four x.server y.server fourth) in
    let sixth : (six ≡ []) ⊎ IsClauseText six = noted_said five (codes "text") _ c.text fifth refl (text_said five x.text y.text fifth) in
    let seventh : (seven ≡ []) ⊎ IsClauseText seven = noted_said six (codes "users") _ c.users sixth refl (seen_number_said six (codes "users") x.users y.users refl sixth) in
    noted_said seven (codes "total") _ c.total seventh refl (seen_number_said seven (codes "total") x.total y.total refl seventh)

-- parts, where there are any, are a clause
changed_clause : (words : List ℕ) → (words ≡ []) ⊎ IsClauseText words → IsClauseText (or_changed words)
changed_clause [] said = clause_of_part (codes "changed") refl
changed_clause (b ∷ bs) (inl none) = absurd (cc)
changed_clause (b ∷ bs) (inr clause) = clause

-- words that may be none are a clause: of one part without a byte
clause_from : (words : List ℕ) → (words ≡ []) ⊎ IsClauseText words → IsClauseText words
clause_from words (inl none) = clause_of_part words (ap fits none)
clause_from words (inr clause) = clause

-- a line

line_said : (who place : List ℕ) (a b : View) (x y : Row) (c : Change) → fits place ≡ true → InSentences who (line_from who place (said_of a b x y c))
line_said who place a b x y c fit = go (shows y) (shows x)
  where
    parts : IsClauseText (or_changed (parts_of a b x y c))
    parts = changed_clause (parts_of a b x y c) (parts_said a b x y c)

    go : (t u : Bool) → InSentences who (line_from who place (if t then (if u then [] else codes "new: ") ++ or_changed (parts_of a b x y c) else codes "no longer seen"))
    go true true = two_clauses who place (or_changed (parts_of a b x y c)) (clause_of_part place fit) parts
    go true false = three_clauses who place (codes "new") (or_changed (parts_of a b x y c)) (clause_of_part place fit) (clause_of_part (codes "new") refl) parts
    go false u = two_clauses who place (codes "no longer seen") (clause_of_part place fit) (clause_of_part (codes "no longer seen") refl)

moved_fits : (old new : List ℕ) → fits old ≡ true → fits new ≡ true → fits (moved old new) ≡ true
moved_fits old new x y = go (bytes_eq old new)
  where
    go : (t : Bool) → fits (if t then old else old ++ (codes " -> " ++ new)) ≡ true
    go true = x
    go false = both_fit old (codes " -> " ++ new) x (both_fit (codes " -> ") new refl y)

place_in_fits : (a b : View) (n : Name) → fits (place_in a b n) ≡ true
place_in_fits a b n = go (shows (row_at a.rows n)) (shows (row_at b.rows n))
  where
    go : (t u : Bool) → fits (if t then (if u then moved (place_of a n) (place_of b n) else place_of a n) else place_of b n) ≡ true
    go true true = moved_fits (place_of a n) (place_of b n) (place_fits a n (row_at a.rows n)) (place_fits b n (row_at b.rows n))
    go true false = place_fits a n (row_at a.rows n)
    go false u = place_fits b n (row_at b.rows n)

one_said : (who : List ℕ) (a b : View) (n : Name) (text : List ℕ) → LineOf who a b n text → InSentences who text
one_said who a b n text (c, is, same) = subst (InSentences who) (sym same) (go (is_kept c))
  where
    go : (k : Bool) → InSentences who (if k then [] else line who a b n c)
    go true = no_sentences who
    go false = line_said who (place_in a b n) a b (row_at a.rows n) (row_at b.rows n) c (place_in_fits a b n)

gone_said : (who : List ℕ) (a b : View) (n : Name) (text : List ℕ) → GoneLineOf who a b n text → InSentences who text
gone_said who a b n text (inl here) = subst (InSentences who) (sym here.1) (no_sentences who)
gone_said who a b n text (inr gone) = one_said who a b n text gone.1

lines_said : (who : List ℕ) (P : Name → List ℕ → Type 0) (ns : List Name) (text : List ℕ) → ((n : Name) (t : List ℕ) → P n t → InSentences who t) → Lines P ns text → InSentences who text
lines_said who P [] text each is = subst (InSentences who) (sym is) (no_sentences who)
lines_said who P (n ∷ ns) text each (here, rest, is, p, lines) =
    subst (InSentences who) (sym is) (both_sentences who here rest (each n here p) (lines_said who P ns rest each lines))

unless_said : (who : List ℕ) (P : Type 0) (said text : List ℕ) → InSentences who said → Unless P said text → InSentences who text
unless_said who P said text is (inl none) = subst (InSentences who) (sym none.1) (no_sentences who)
unless_said who P said text is (inr some) = subst (InSentences who) (sym some.1) is

pub taught_in_sentences : TaughtInSentences
taught_in_sentences who a b text l =
    subst (InSentences who) (sym l.joined)
    (both_sentences who l.seen _ (lines_said who _ _ l.seen (one_said who a b) l.are_seen)
    (both_sentences who l.gone _ (lines_said who _ _ l.gone (gone_said who a b) l.are_gone)
    (both_sentences who l.tasks l.count (unless_said who _ _ l.tasks (one_clause who (codes "own ports") (clause_of_part (codes "own ports") refl)) l.are_tasks)
    (unless_said who _ _ l.count (one_clause who (codes "number of tasks") (clause_of_part (codes "number of tasks") refl)) l.is_count))))

-- what is seen

passive_fits : (words : List (List ℕ)) → fits (passive_text words) ≡ true
passive_fits [] = refl
passive_fits (word ∷ words) = both_fit (codes " passive") (spelled_words (word ∷ words)) refl (words_fit (word ∷ words))

attributes_fit : (a : Option Attrs) (words : List (List ℕ)) → fits (attributes_text a words) ≡ true
attributes_fit None words = refl
attributes_fit (Some a) words = both_fit (stat_words (stat_of a)) (passive_text words) (stat_fits (stat_of a)) (passive_fits words)

named_fits : (word : List ℕ) (v : View) (s : Option Name) (p : List ℕ) → fits word ≡ true → server_named word v s ≡ Some p → fits p ≡ true
named_fits word v None p fit is = absurd (cc)
named_fits word v (Some s) p fit is = some_fits (word ++ server_path v s) p (both_fit word (server_path v s) fit (server_path_fits v s)) is

home_fits : (v : View) (r : Option NodeRow) (p : List ℕ) → home_part v r ≡ Some p → fits p ≡ true
home_fits v None p is = absurd (cc)
home_fits v (Some r) p is = named_fits (codes "served by ") v r.home p refl is

active_fits : (v : View) (r : Option NodeRow) (p : List ℕ) → active_part v r ≡ Some p → fits p ≡ true
active_fits v None p is = absurd (cc)
active_fits v (Some r) p is = named_fits (codes "active ") v r.active p refl is

ends_fit : (e : Option (Option Ends)) (p : List ℕ) → ends_part e ≡ Some p → fits p ≡ true
ends_fit None p is = absurd (cc)
ends_fit (Some None) p is = absurd (cc)
ends_fit (Some (Some e)) p is =
    some_fits (ends_text e) p
    (both_fit (codes "readers") (spaced e.readers ++ (codes " writers" ++ spaced e.writers)) refl
    (both_fit (spaced e.readers) (codes " writers" ++ spaced e.writers) (spaced_fits e.readers) (both_fit (codes " writers") (spaced e.writers) refl (spaced_fits e.writers)))) is

parent_name_fits : (v : View) (n : Option Name) (p : List ℕ) → option_map (λ m. codes "parent " ++ node_path v m) n ≡ Some p → fits p ≡ true
parent_name_fits v None p is = absurd (cc)
parent_name_fits v (Some n) p is = some_fits (codes "parent " ++ node_path v n) p (both_fit (codes "parent ") (node_path v n) refl (node_path_fits v n)) is

parent_of_fits : (v : View) (a : Option Attrs) (p : List ℕ) → parent_of v a ≡ Some p → fits p ≡ true
parent_of_fits v None p is = absurd (cc)
parent_of_fits v (Some a) p is = parent_name_fits v a.parent p is

parent_fits : (v : View) (r : Option NodeRow) (p : List ℕ) → parent_part v r ≡ Some p → fits p ≡ true
parent_fits v None p is = absurd (cc)
parent_fits v (Some r) p is = parent_of_fits v r.attrs p is

names_fit : (es : List EntryRow) → fits (entry_names es) ≡ true
names_fit [] = refl
names_fit (e ∷ es) = both_fit (32 ∷ spelled_name e.name) (entry_names es) (both_fit (codes " ") (spelled_name e.name) refl (name_fits e.name)) (names_fit es)

body_fits : (b : BodyRow) → fits (body_text b) ≡ true
body_fits (body.Entries []) = refl
body_fits (body.Entries (e ∷ es)) = both_fit (codes "entries") (entry_names (e ∷ es)) refl (names_fit (e ∷ es))
body_fits (body.Bytes []) = refl
body_fits (body.Bytes (b ∷ bs)) = both_fit (codes "bytes ") (spelled (b ∷ bs)) refl (word_of_user_fits (b ∷ bs))

mapped_fits : {A : Type 0} (f : A → List ℕ) (o : Option A) → ((a : A) → fits (f a) ≡ true) → (p : List ℕ) → option_map f o ≡ Some p → fits p ≡ true
mapped_fits f None each p is = absurd (cc)
mapped_fits f (Some a) each p is = some_fits (f a) p (each a) is

given_fits : (b : BodyRow) → fits (given_text b) ≡ true
given_fits (body.Bytes bs) = both_fit (codes "given ") (spelled_or_none bs) refl (spelled_or_none_fits bs)
given_fits (body.Entries es) = body_fits (body.Entries es)

read_fits : (r : Reads) (b : BodyRow) → fits (read_text r b) ≡ true
read_fits reads.Text b = refl
read_fits reads.Entries b = refl
read_fits reads.Zeros b = refl
read_fits reads.Left b = given_fits b
read_fits reads.Kept b = body_fits b

body_part_fits : (program : List ℕ) (b : Option (Option BodyRow)) (p : List ℕ) → body_part program b ≡ Some p → fits p ≡ true
body_part_fits program None p is = absurd (cc)
body_part_fits program (Some None) p is = absurd (cc)
body_part_fits program (Some (Some b)) p is = some_fits (read_text (reads_of program) b) p (read_fits (reads_of program) b) is

empty_part_fits : (b : Option (Option BodyRow)) (e : Option (Option Bool)) (p : List ℕ) → empty_part b e ≡ Some p → fits p ≡ true
empty_part_fits None None p is = absurd (cc)
empty_part_fits None (Some None) p is = absurd (cc)
empty_part_fits None (Some (Some true)) p is = some_fits (codes "empty") p refl is
empty_part_fits None (Some (Some false)) p is = some_fits (codes "not empty") p refl is
empty_part_fits (Some b) e p is = absurd (cc)

on_fits : (v : View) (o : Name) (r : Option OpenRow) (p : List ℕ) → on_part v o r ≡ Some p → fits p ≡ true
on_fits v o None p is = absurd (cc)
on_fits v o (Some r) p is = mapped_fits (λ n. codes "on " ++ node_path v n) (opened_by_tasks o v.seats.items) (λ n. both_fit (codes "on ") (node_path v n) refl (node_path_fits v n)) p is

cursor_fits : (r : OpenRow) → fits (cursor_text r) ≡ true
cursor_fits r = go r.opened
  where
    go : (o : Option Opened) → fits (opened_text o) ≡ true
    go None = refl
    go (Some o) = both_fit (codes "cursor") (spaced o.cursor ++ modes_text o.modes) refl (both_fit (spaced o.cursor) (modes_text o.modes) (spaced_fits o.cursor) (modes_fit o.modes))

held_fits : (r : OpenRow) → fits (held_text r) ≡ true
held_fits r = go (r.holders == 1)
  where
    go : (t : Bool) → fits (if t then codes "held once" else codes "held" ++ (spaced r.holders ++ codes " times")) ≡ true
    go true = refl
    go false = both_fit (codes "held") (spaced r.holders ++ codes " times") refl (both_fit (spaced r.holders) (codes " times") (spaced_fits r.holders) refl)

targets_fit : (v : View) (ns : List Name) (p : List ℕ) → targets_part v ns ≡ Some p → fits p ≡ true
targets_fit v [] p is = absurd (cc)
targets_fit v (n ∷ ns) p is = some_fits (codes "targets " ++ places_text v (n ∷ ns)) p (both_fit (codes "targets ") (places_text v (n ∷ ns)) refl (places_text_fits v (n ∷ ns))) is

server_shown : (v : View) (words : List ℕ) (s : Option (Option ServerRow)) → (words ≡ []) ⊎ IsClauseText words → (server_parts v words s ≡ []) ⊎ IsClauseText (server_parts v words s)
server_shown v words None said = said
server_shown v words (Some None) said = inr (part_added words (codes "gone") said refl)
server_shown v words (Some (Some s)) said =
    some_said (codes "runs as " ++ uid_text s.ids)
    (some_said (codes "root " ++ node_path v s.root)
    (part_said (with_part words (Some (codes "program " ++ program_text s))) (targets_part v s.targets)
    (some_said (codes "program " ++ program_text s) said (both_fit (codes "program ") (program_text s) refl (program_fits s))) (targets_fit v s.targets))
    (both_fit (codes "root ") (node_path v s.root) refl (node_path_fits v s.root)))
    (both_fit (codes "runs as ") (uid_text s.ids) refl (uid_fits s.ids))

text_fits : (t : Option (Option TextRow)) (p : List ℕ) → text_part t ≡ Some p → fits p ≡ true
text_fits None p is = absurd (cc)
text_fits (Some None) p is = absurd (cc)
text_fits (Some (Some r)) p is = some_fits (codes "text " ++ words_text r) p (both_fit (codes "text ") (words_text r) refl (words_or_none_fit (words_behind r.options))) is

number_text_fits : (word : List ℕ) (n : ℕ) → fits word ≡ true → fits (number_text word n) ≡ true
number_text_fits word n fit = both_fit word (spaced n) fit (spaced_fits n)

node_fits : (r : NodeRow) → fits (node_text r) ≡ true
node_fits r = attributes_fit r.attrs r.words

row_said : (v : View) (n : Name) (r : Row) → (seen_of v n r ≡ []) ⊎ IsClauseText (seen_of v n r)
row_said v n r =
    part_said _ _
    (part_said _ _
    (part_said _ _
    (server_shown v _ r.server
    (part_said _ _
    (part_said _ _
    (part_said _ _
    (part_said _ _
    (part_said _ _
    (part_said _ _
    (part_said _ _
    (part_said _ _
    (part_said _ _ (part_said [] _ (inl refl) (mapped_fits node_text r.attributes node_fits)) (home_fits v r.attributes)) (active_fits v r.attributes)) (ends_fit r.ends))
    (parent_fits v r.attributes))
    (body_part_fits (program_of v n r.attributes) r.body)) (empty_part_fits r.body r.empty))
    (on_fits v n r.opened))
    (mapped_fits cursor_text r.opened cursor_fits))
    (mapped_fits held_text r.opened held_fits)))
    (text_fits r.text))
    (mapped_fits (number_text (codes "users")) r.users (λ n. number_text_fits (codes "users") n refl)))
    (mapped_fits (number_text (codes "total")) r.total (λ n. number_text_fits (codes "total") n refl))

one_seen : (who : List ℕ) (v : View) (n : Name) → InSentences who (seen_line who v n)
one_seen who v n = go (shows (row_at v.rows n))
  where
    go : (t : Bool) → InSentences who (if t then line_from who (place_of v n) (seen_of v n (row_at v.rows n)) else [])
    go true = two_clauses who (place_of v n) _ (clause_of_part (place_of v n) (place_fits v n (row_at v.rows n))) (clause_from _ (row_said v n (row_at v.rows n)))
    go false = no_sentences who

lines_seen : (who : List ℕ) (v : View) (ns : List Name) → InSentences who (seen_lines who v ns)
lines_seen who v [] = no_sentences who
lines_seen who v (n ∷ ns) = both_sentences who (seen_line who v n) (seen_lines who v ns) (one_seen who v n) (lines_seen who v ns)

-- the tasks

ports_fit : (ps : List Port) → fits (port_numbers ps) ≡ true
ports_fit [] = refl
ports_fit (p ∷ ps) = both_fit (spaced p.number) (port_numbers ps) (spaced_fits p.number) (ports_fit ps)

start_fits : (v : View) (s : PendingStart) → fits (start_text v s) ≡ true
start_fits v s =
    both_fit (codes "to start ") (words_or_none s.words ++ (codes " on " ++ node_path v s.node)) refl
    (both_fit (words_or_none s.words) (codes " on " ++ node_path v s.node) (words_or_none_fit s.words) (both_fit (codes " on ") (node_path v s.node) refl (node_path_fits v s.node)))

task_said : (v : View) (x : Task) → (task_text v x ≡ []) ⊎ IsClauseText (task_text v x)
task_said v x =
    part_said _ (option_map (start_text v) x.pending)
    (some_said (codes "made" ++ spaced x.made)
    (some_said (codes "next port" ++ spaced x.next)
    (some_said (codes "inbox" ++ spaced (length x.inbox))
    (some_said (codes "ports" ++ port_numbers x.ports)
    (some_said (codes "uid " ++ uid_text x.ids) (inl refl) (both_fit (codes "uid ") (uid_text x.ids) refl (uid_fits x.ids)))
    (both_fit (codes "ports") (port_numbers x.ports) refl (ports_fit x.ports)))
    (both_fit (codes "inbox") (spaced (length x.inbox)) refl (spaced_fits (length x.inbox))))
    (both_fit (codes "next port") (spaced x.next) refl (spaced_fits x.next)))
    (both_fit (codes "made") (spaced x.made) refl (spaced_fits x.made)))
    (mapped_fits (start_text v) x.pending (start_fits v))

seat_clause : (v : View) (x : Option Task) → IsClauseText (seat_text v x)
seat_clause v None = clause_of_part (codes "gone") refl
seat_clause v (Some x) = clause_from (task_text v x) (task_said v x)

seat_said : (who : List ℕ) (v : View) (t : TaskId) (x : Option Task) → InSentences who (seat_line who v t x)
seat_said who v t x = two_clauses who (codes "task" ++ spaced t.0) (seat_text v x) (clause_of_part (codes "task" ++ spaced t.0) (both_fit (codes "task") (spaced t.0) refl (spaced_fits t.0))) (seat_clause v x)

seats_said : (who : List ℕ) (v : View) (ts : List TaskId) (xs : List (Option Task)) → InSentences who (seat_lines who v ts xs)
seats_said who v [] xs = no_sentences who
seats_said who v (t ∷ ts) [] = no_sentences who
seats_said who v (t ∷ ts) (x ∷ xs) = both_sentences who (seat_line who v t x) (seat_lines who v ts xs) (seat_said who v t x) (seats_said who v ts xs)

count_said : (who : List ℕ) (n : ℕ) → InSentences who (line_from who (codes "tasks") (decimal n))
count_said who n = two_clauses who (codes "tasks") (decimal n) (clause_of_part (codes "tasks") refl) (clause_of_part (decimal n) (number_fits n))

pub seen_in_sentences : SeenInSentences
seen_in_sentences who v =
    both_sentences who (seen_lines who v (names_of v)) (seat_lines who v v.sight.tasks.items v.seats.items ++ line_from who (codes "tasks") (decimal v.count)) (lines_seen who v (names_of v))
    (both_sentences who (seat_lines who v v.sight.tasks.items v.seats.items) (line_from who (codes "tasks") (decimal v.count)) (seats_said who v v.sight.tasks.items v.seats.items)
    (count_said who v.count))
