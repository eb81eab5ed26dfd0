-- What holds of each label beside a path holds of all that is there.
use Rattle.std.proofs.Common.{ℕ, ◌&&◌, Bool, true, false, List, [], ◌∷◌, ◌++◌, Option, Some, None, if◌then◌else◌, codes, nat_lt}
use Rattle.hurd_creds.specs.declared.name.Name.{Name}
use Rattle.hurd_creds.specs.declared.name.TaskId.{TaskId}
use Rattle.hurd_words.specs.Printing.{text_if}
use Rattle.hurd_ports.specs.Tables.{Task}
use Rattle.hurd_ports.specs.declared.table.Port.{Port}
use Rattle.hurd_sight.specs.Found.{why_of}
use Rattle.hurd_views.specs.declared.view.View.{View}
use Rattle.hurd_places.specs.Places.{beside, beside_port, beside_ports, beside_task, beside_tasks, is_held, is_wanted, label_in, label_text, names_tasks}
use Rattle.hurd_places.specs.declared.labels.Holder.TheVariants as holder
use Rattle.hurd_places.specs.declared.labels.Label.{Label}
use Rattle.hurd_places.specs.declared.labels.Wanted.TheVariants as wanted

-- it holds of no text, of texts that follow each other, and of a label
pub record Each (P : List ℕ → Type 0) : Type 0 where
  pub none : P []
  pub both : (s t : List ℕ) → P s → P t → P (s ++ t)
  pub label : (many : Bool) (l : Label) → P (codes " (" ++ (label_text many l ++ codes ")"))

each_port : (P : List ℕ → Type 0) → Each P → (many : Bool) (t : TaskId) (n : Name) (p : Port) → P (beside_port many t n p)
each_port P each many t n p = go (nat_lt 2 p.number && is_wanted (wanted.Node n) p.right)
  where
    go : (b : Bool) → P (text_if b (codes " (" ++ (label_text many (label_in t holder.Port p.number) ++ codes ")")))
    go true = each.label many (label_in t holder.Port p.number)
    go false = each.none

each_ports : (P : List ℕ → Type 0) → Each P → (many : Bool) (t : TaskId) (n : Name) (ps : List Port) → P (beside_ports many t n ps)
each_ports P each many t n [] = each.none
each_ports P each many t n (p ∷ ps) = each.both (beside_port many t n p) (beside_ports many t n ps) (each_port P each many t n p) (each_ports P each many t n ps)

each_task : (P : List ℕ → Type 0) → Each P → (many : Bool) (t : TaskId) (n : Name) (x : Option Task) → P (beside_task many t n x)
each_task P each many t n None = each.none
each_task P each many t n (Some x) = each_ports P each many t n x.ports

each_tasks : (P : List ℕ → Type 0) → Each P → (many : Bool) (n : Name) (ts : List TaskId) (xs : List (Option Task)) → P (beside_tasks many n ts xs)
each_tasks P each many n [] xs = each.none
each_tasks P each many n (t ∷ ts) [] = each.none
each_tasks P each many n (t ∷ ts) (x ∷ xs) = each.both (beside_task many t n x) (beside_tasks many n ts xs) (each_task P each many t n x) (each_tasks P each many n ts xs)

pub each_beside : (P : List ℕ → Type 0) → Each P → (v : View) (n : Name) → P (beside v n)
each_beside P each v n = go (is_held (why_of n v.sight.found))
  where
    go : (b : Bool) → P (if b then [] else beside_tasks (names_tasks v) n v.sight.tasks.items v.seats.items)
    go true = each.none
    go false = each_tasks P each (names_tasks v) n v.sight.tasks.items v.seats.items
