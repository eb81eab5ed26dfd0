-- What became of the parts that are seen under a name, in words.
use Rattle.std.specs.Prelude.{ℕ, ◌||◌, Bool, false, not, List, [], ◌∷◌, ◌++◌, Option, Some, None, if◌then◌else◌, bytes_eq, codes, drop}
use Rattle.hurd_creds.specs.Names.{same_name}
use Rattle.hurd_creds.specs.declared.attrs.Attrs.{Attrs}
use Rattle.hurd_creds.specs.declared.name.Name.{Name}
use Rattle.hurd_ports.specs.declared.table.Ends.{Ends}
use Rattle.hurd_ports.specs.declared.table.Opened.{Opened}
use Rattle.hurd_words.specs.Spelling.{spelled_name}
use Rattle.hurd_views.specs.declared.rows.BodyRow.{BodyRow}
use Rattle.hurd_views.specs.declared.rows.BodyRow.TheVariants as body
use Rattle.hurd_views.specs.declared.rows.EntryRow.{EntryRow}
use Rattle.hurd_views.specs.declared.rows.NodeRow.{NodeRow}
use Rattle.hurd_views.specs.declared.rows.OpenRow.{OpenRow}
use Rattle.hurd_views.specs.declared.rows.ServerRow.{ServerRow}
use Rattle.hurd_views.specs.declared.rows.TextRow.{TextRow}
use Rattle.hurd_views.specs.declared.view.View.{View}
use Rattle.hurd_lessons.specs.Seen.{empty_text, modes_text, places_text, program_text, uid_text, words_text}
use Rattle.hurd_lessons.specs.Values.{bytes_change, kind_part, mode_part, number_part, part_if, parted, path_or_none, server_or_none, turned_part, with_part, words_or_none}
use Rattle.hurd_lessons.specs.declared.changes.Became.{Became}
use Rattle.hurd_lessons.specs.declared.changes.Became.TheVariants as became

-- what is said after the word of a part that is not seen both times, or not in both
abbrev pub ending : Became → List ℕ
ending became.Lost = codes " no longer seen"
ending became.First = codes " only in the first"
ending became.Second = codes " only in the second"
ending _ = []

-- one part more by its word, or what is said where it changed, unless it is as it was
abbrev pub noted : List ℕ → List ℕ → List ℕ → Became → List ℕ
noted words word changed became.Same = words
noted words word changed became.Changed = changed
noted words word changed b = parted words ++ (word ++ ending b)

-- what `io_stat` tells of a node, before and after
abbrev pub changed_attrs : List ℕ → Option Attrs → Option Attrs → List ℕ
changed_attrs words (Some p) (Some q) =
    with_part (with_part (with_part (with_part (with_part (with_part words
    (kind_part p.kind q.kind))
    (number_part (codes "owner") p.owner q.owner))
    (number_part (codes "group") p.group q.group))
    (mode_part p.mode.0 q.mode.0))
    (number_part (codes "links") p.links q.links))
    (number_part (codes "size") p.size q.size)
changed_attrs words None None = words
changed_attrs words _ None = parted words ++ codes "gone"
changed_attrs words None _ = parted words ++ codes "attributes"

-- the parent of a directory that is an entry
abbrev pub parent_at : Option Attrs → Option Name
parent_at None = None
parent_at (Some p) = p.parent

-- a node beside what is in it
abbrev pub changed_node : View → View → List ℕ → Option NodeRow → Option NodeRow → List ℕ
changed_node a b words (Some x) (Some y) =
    with_part (with_part (with_part (with_part (changed_attrs words x.attrs y.attrs)
    (turned_part (codes "parent") (path_or_none a (parent_at x.attrs)) (path_or_none b (parent_at y.attrs))))
    (turned_part (codes "passive") (words_or_none x.words) (words_or_none y.words)))
    (turned_part (codes "served by") (server_or_none a x.home) (server_or_none b y.home)))
    (turned_part (codes "active") (server_or_none a x.active) (server_or_none b y.active))
changed_node a b words _ _ = words

-- how many opens read a node, and how many write it
abbrev pub ends_change : List ℕ → Option (Option Ends) → Option (Option Ends) → List ℕ
ends_change words (Some (Some p)) (Some (Some q)) = with_part (with_part words (number_part (codes "readers") p.readers q.readers)) (number_part (codes "writers") p.writers q.writers)
ends_change words _ _ = parted words ++ codes "readers and writers"

-- entries are the same, by name and node, or by name alone
abbrev pub same_entry : Bool → EntryRow → EntryRow → Bool
same_entry by_name e f = if by_name || same_name e.node f.node then bytes_eq e.name f.name else false

-- the next of the new entries is this one
abbrev pub comes_next : Bool → EntryRow → List EntryRow → Bool
comes_next by_name e [] = false
comes_next by_name e (f ∷ new) = same_entry by_name e f

-- the new entries without it, if it comes next
abbrev pub passed : Bool → EntryRow → List EntryRow → List EntryRow
passed by_name e new = if comes_next by_name e new then drop 1 new else new

-- the entries that are no longer there: those that don't come next when all before them are passed
abbrev pub entries_gone : Bool → List EntryRow → List EntryRow → List EntryRow
entries_gone by_name [] new = []
entries_gone by_name (e ∷ old) new = (if comes_next by_name e new then [] else e ∷ []) ++ entries_gone by_name old (passed by_name e new)

-- and those that are new: what is left of the new ones after all that are passed
abbrev pub entries_new : Bool → List EntryRow → List EntryRow → List EntryRow
entries_new by_name [] new = new
entries_new by_name (e ∷ old) new = entries_new by_name old (passed by_name e new)

-- names, each after a sign
abbrev pub signed_names : List ℕ → List EntryRow → List ℕ
signed_names sign [] = []
signed_names sign (e ∷ es) = (sign ++ spelled_name e.name) ++ signed_names sign es

-- what is in a node
abbrev pub changed_body : Bool → BodyRow → BodyRow → List ℕ
changed_body by_name (body.Entries old) (body.Entries new) =
    codes "entries" ++ (signed_names (codes " + ") (entries_new by_name old new) ++ signed_names (codes " - ") (entries_gone by_name old new))
changed_body by_name (body.Bytes old) (body.Bytes new) = bytes_change old new
changed_body by_name _ (body.Entries new) = codes "entries"
changed_body by_name _ (body.Bytes new) = codes "bytes"

-- the same of a body that may be seen
abbrev pub body_change : Bool → Option (Option BodyRow) → Option (Option BodyRow) → List ℕ
body_change by_name (Some (Some x)) (Some (Some y)) = changed_body by_name x y
body_change by_name _ _ = codes "body"

-- whether a directory has no entries: what it says now
abbrev pub empty_change : Option (Option Bool) → List ℕ
empty_change (Some (Some e)) = empty_text e
empty_change _ = codes "emptiness"

-- modes, each after a space, or that there are none
abbrev pub modes_or_none : List ℕ → List ℕ
modes_or_none [] = codes " (none)"
modes_or_none (b ∷ bs) = b ∷ bs

-- modes before and after, unless both are told in one way
abbrev pub modes_part : List ℕ → List ℕ → Option (List ℕ)
modes_part old new = part_if (not (bytes_eq old new)) (codes "modes" ++ (modes_or_none old ++ (codes " ->" ++ modes_or_none new)))

-- an open that may be there
abbrev pub changed_opened : List ℕ → Option Opened → Option Opened → List ℕ
changed_opened words (Some p) (Some q) =
    with_part (with_part words (number_part (codes "cursor") p.cursor q.cursor)) (modes_part (modes_text p.modes) (modes_text q.modes))
changed_opened words None None = words
changed_opened words _ None = parted words ++ codes "gone"
changed_opened words None _ = parted words ++ codes "open"

-- and how many rights hold it
abbrev pub changed_open : List ℕ → Option OpenRow → Option OpenRow → List ℕ
changed_open words (Some x) (Some y) = with_part (changed_opened words x.opened y.opened) (number_part (codes "held") x.holders y.holders)
changed_open words _ _ = words

-- a server that may be there
abbrev pub changed_server : View → View → List ℕ → Option ServerRow → Option ServerRow → List ℕ
changed_server a b words (Some x) (Some y) =
    with_part (with_part (with_part (with_part words
    (turned_part (codes "program") (program_text x) (program_text y)))
    (turned_part (codes "targets") (places_text a x.targets) (places_text b y.targets)))
    (turned_part (codes "root") (path_or_none a (Some x.root)) (path_or_none b (Some y.root))))
    (turned_part (codes "runs as") (uid_text x.ids) (uid_text y.ids))
changed_server a b words None None = words
changed_server a b words _ None = parted words ++ codes "gone"
changed_server a b words None _ = parted words ++ codes "program"

-- the same of a server that may be seen
abbrev pub server_change : View → View → List ℕ → Option (Option ServerRow) → Option (Option ServerRow) → List ℕ
server_change a b words (Some x) (Some y) = changed_server a b words x y
server_change a b words _ _ = words

-- the text of a server
abbrev pub text_change : List ℕ → Option (Option TextRow) → Option (Option TextRow) → List ℕ
text_change words (Some (Some x)) (Some (Some y)) = with_part words (turned_part (codes "text") (words_text x) (words_text y))
text_change words _ _ = words

-- a number that may be seen, by its word
abbrev pub number_change : List ℕ → List ℕ → Option ℕ → Option ℕ → List ℕ
number_change words word (Some m) (Some n) = with_part words (number_part word m n)
number_change words word _ _ = words
