-- Where something is may stand in a part of a sentence.
use Rattle.std.proofs.Common.{◌≡◌, refl, ℕ, ◌==◌, Bool, true, false, List, [], ◌∷◌, ◌++◌, Option, Some, None, codes, decimal, is_some, if◌then◌else◌}
use Rattle.hurd_creds.specs.declared.name.Name.{Name}
use Rattle.hurd_words.specs.Printing.{spaced, text_if}
use Rattle.hurd_words.specs.Spelling.{spelled_name}
use Rattle.hurd_words.proofs.ClauseLaws.{both_fit, fits, word_fits}
use Rattle.hurd_words.proofs.WordLaws.{decimal_is_word, spelled_is_word}
use Rattle.hurd_sight.specs.Found.{why_of}
use Rattle.hurd_sight.specs.declared.found.Why.{Why}
use Rattle.hurd_sight.specs.declared.found.Why.TheVariants as why
use Rattle.hurd_views.specs.Views.{row_at}
use Rattle.hurd_views.specs.declared.rows.Row.{Row}
use Rattle.hurd_views.specs.declared.view.View.{View}
use Rattle.hurd_places.specs.Places.{underlying, beside, count_to, holder_word, is_covered, label_of, label_or, label_text, level_along, covered_path, name_in, name_text, names_tasks, node_path, node_place, numbered, open_place, or_root, path_along, place_by, server_at, server_node, server_path, step_by, target_at, way_of}
use Rattle.hurd_places.specs.declared.labels.Holder.{Holder}
use Rattle.hurd_places.specs.declared.labels.Holder.TheVariants as holder
use Rattle.hurd_places.specs.declared.labels.Label.{Label}
use Rattle.hurd_places.specs.declared.labels.Wanted.TheVariants as wanted
use Rattle.hurd_places.proofs.EachBeside.{each_beside}

-- pieces

spaced_fits : (k : ℕ) → fits (spaced k) ≡ true
spaced_fits k = both_fit (codes " ") (decimal k) refl (word_fits (decimal k) (decimal_is_word k))

if_fits : (b : Bool) (text : List ℕ) → fits text ≡ true → fits (text_if b text) ≡ true
if_fits true text fit = fit
if_fits false text fit = refl

name_fits : (name : List ℕ) → fits (name_text name) ≡ true
name_fits [] = refl
name_fits (b ∷ bs) = word_fits (spelled_name (b ∷ bs)) (spelled_is_word true (b ∷ bs))

numbered_fits : (word : List ℕ) (k : ℕ) → fits word ≡ true → fits (numbered word k) ≡ true
numbered_fits word k fit =
    both_fit (codes "(") (word ++ (spaced k ++ codes ")")) refl (both_fit word (spaced k ++ codes ")") fit (both_fit (spaced k) (codes ")") (spaced_fits k) refl))

root_fits : (path : List ℕ) → fits path ≡ true → fits (or_root path) ≡ true
root_fits [] fit = refl
root_fits (b ∷ bs) fit = fit

-- labels

holder_fits : (h : Holder) → fits (holder_word h) ≡ true
holder_fits holder.Port = refl
holder_fits holder.Inbox = refl

label_fits : (many : Bool) (l : Label) → fits (label_text many l) ≡ true
label_fits many l =
    both_fit (text_if many (codes "task" ++ (spaced l.task.0 ++ codes " "))) (holder_word l.holder ++ spaced l.number)
    (if_fits many (codes "task" ++ (spaced l.task.0 ++ codes " ")) (both_fit (codes "task") (spaced l.task.0 ++ codes " ") refl (both_fit (spaced l.task.0) (codes " ") (spaced_fits l.task.0) refl)))
    (both_fit (holder_word l.holder) (spaced l.number) (holder_fits l.holder) (spaced_fits l.number))

label_or_fits : (many : Bool) (word : List ℕ) (l : Option Label) → fits word ≡ true → fits (label_or many word l) ≡ true
label_or_fits many word None fit = fit
label_or_fits many word (Some l) fit = label_fits many l

beside_fits : (v : View) (n : Name) → fits (beside v n) ≡ true
beside_fits v n = each_beside (λ (s : List ℕ). fits s ≡ true) (record {
  none = refl;
  both = both_fit;
  label = λ many l. both_fit (codes " (") (label_text many l ++ codes ")") refl (both_fit (label_text many l) (codes ")") (label_fits many l) refl);
}) v n

-- paths

underlying_fits : (k : ℕ) → fits (underlying k) ≡ true
underlying_fits k = go (k == 0)
  where
    go : (t : Bool) → fits (if t then codes "(underlying)" else numbered (codes "underlying") k) ≡ true
    go true = refl
    go false = numbered_fits (codes "underlying") k refl

covered_fits : (covered : Bool) (path : List ℕ) (k : ℕ) → fits path ≡ true → fits (covered_path covered path k) ≡ true
covered_fits false path k fit = fit
covered_fits true path k fit = both_fit (or_root path) (underlying k) (root_fits path fit) (underlying_fits k)

step_fits : (v : View) (n : Name) (path : List ℕ) (k : ℕ) (y : Option Why) → fits path ≡ true → fits (step_by v n path k y) ≡ true
step_fits v n path k None fit = refl
step_fits v n path k (Some why.Root) fit = refl
step_fits v n path k (Some why.Held) fit =
    both_fit (codes "(") (label_or (names_tasks v) (codes "held") (label_of v (wanted.Node n)) ++ codes ")") refl
    (both_fit (label_or (names_tasks v) (codes "held") (label_of v (wanted.Node n))) (codes ")") (label_or_fits (names_tasks v) (codes "held") (label_of v (wanted.Node n)) refl) refl)
step_fits v n path k (Some why.Way) fit = numbered_fits (codes "way") (count_to why.Way n v.sight.found) refl
step_fits v n path k (Some why.Controlled) fit = numbered_fits (codes "controlled") (count_to why.Controlled n v.sight.found) refl
step_fits v n path k (Some why.Pending) fit = numbered_fits (codes "pending") (count_to why.Pending n v.sight.found) refl
step_fits v n path k (Some (why.Child d)) fit =
    both_fit (covered_path (is_covered v d) path k) (47 ∷ name_text (name_in (row_at v.rows d).body n)) (covered_fits (is_covered v d) path k fit)
    (both_fit (codes "/") (name_text (name_in (row_at v.rows d).body n)) refl (name_fits (name_in (row_at v.rows d).body n)))
step_fits v n path k (Some (why.Active m)) fit = fit
step_fits v n path k (Some (why.Parent d)) fit = both_fit (covered_path (is_covered v d) path k) (codes "(parent)") (covered_fits (is_covered v d) path k fit) refl
step_fits v n path k (Some (why.ServerRoot m)) fit = both_fit (covered_path (is_covered v m) path k) (codes "(root)") (covered_fits (is_covered v m) path k fit) refl
step_fits v n path k (Some (why.Target m)) fit =
    both_fit (covered_path (is_covered v m) path k) (numbered (codes "target") (target_at v m n)) (covered_fits (is_covered v m) path k fit) (numbered_fits (codes "target") (target_at v m n) refl)

along_fits : (v : View) (ns : List Name) → fits (path_along v ns) ≡ true
along_fits v [] = refl
along_fits v (n ∷ ns) = step_fits v n (path_along v ns) (level_along v ns) (why_of n v.sight.found) (along_fits v ns)

-- the path of a node, and of a server

pub node_path_fits : (v : View) (n : Name) → fits (node_path v n) ≡ true
node_path_fits v n = root_fits (covered_path (is_covered v n) (path_along v (way_of v n)) (level_along v (way_of v n))) (covered_fits (is_covered v n) (path_along v (way_of v n)) (level_along v (way_of v n)) (along_fits v (way_of v n)))

server_at_fits : (v : View) (n : Option Name) → fits (server_at v n) ≡ true
server_at_fits v None = refl
server_at_fits v (Some n) = both_fit (node_path v n) (codes " (server)") (node_path_fits v n) refl

pub server_path_fits : (v : View) (s : Name) → fits (server_path v s) ≡ true
server_path_fits v s = server_at_fits v (server_node v s)

-- and where anything is

pub node_place_fits : (v : View) (n : Name) → fits (node_place v n) ≡ true
node_place_fits v n = both_fit (node_path v n) (beside v n) (node_path_fits v n) (beside_fits v n)

pub open_place_fits : (v : View) (o : Name) → fits (open_place v o) ≡ true
open_place_fits v o = label_or_fits (names_tasks v) (codes "(open)") (label_of v (wanted.Open o)) refl

pub place_fits : (v : View) (n : Name) (r : Row) → fits (place_by v n r) ≡ true
place_fits v n r = go (is_some r.attributes) (is_some r.opened)
  where
    go : (a o : Bool) → fits (if a then node_place v n else if o then open_place v n else server_path v n) ≡ true
    go true o = node_place_fits v n
    go false true = open_place_fits v n
    go false false = server_path_fits v n
