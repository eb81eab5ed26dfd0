-- Nodes that an entry still names, and that count for as much, after changes of the nodes.
use Rattle.std.proofs.Common.{◌≡◌, ◌≢◌, inl, inr, Bool, true, false, List, ℕ, is_some, refl, ◌∙◌, if◌then◌else◌}
use Rattle.std.specs.Prelude.{Option, Some, None, nat_lt}
use Rattle.std.specs.Option.{option_map}
use Rattle.std.specs.FinMap as fin
use Rattle.hurd_creds.specs.NameMaps.{edit}
use Rattle.hurd_creds.specs.declared.name.Name.{Name}
use Rattle.hurd_creds.proofs.NameLaws.{same_or_apart, get_apart, remove_apart, edit_here, edit_apart}
use Rattle.hurd_trans_iface.specs.Nodes.{Body, Header, Node, NodeMap, edit_all, is_dir, is_entered, is_entered_at, linked, moved_to, unlinked, with_body, with_header}
use Rattle.hurd_trans_iface.specs.Answers.{added, link_edits, move_edits, unlink_edits}
use Rattle.hurd_tmpfs.specs.Totals.{counted_at}

-- what an entry names is no nameless node after a change, and counts for as much
pub record Alike (o p : Option Node) : Type 0 where
  pub entered : is_entered_at o ≡ true → is_entered_at p ≡ true
  pub counted : counted_at p ≡ counted_at o

-- so it is in two maps
abbrev pub AllAlike : NodeMap → NodeMap → Type 0
AllAlike m k = (q : Name) → Alike (fin.get m q) (fin.get k q)

-- except for one name
abbrev pub AlikeElse : Name → NodeMap → NodeMap → Type 0
AlikeElse n m k = (q : Name) → q ≢ n → Alike (fin.get m q) (fin.get k q)

pub itself : (o : Option Node) → Alike o o
itself o = record { entered = λ h. h; counted = refl }

through : {o p r : Option Node} → Alike o p → Alike p r → Alike o r
through a b = record { entered = λ h. b.entered (a.entered h); counted = b.counted ∙ a.counted }

edit-alike : (n : Name) (f : Node → Node) (m : NodeMap) → ((x : Node) → Alike (Some x) (Some (f x))) → AllAlike m (edit n f m)
edit-alike n f m keeps q = elim (same_or_apart q n) [
  | inl e ↦ rw (e, edit_here m n f) (by (fin.get m n))
  | inr apart ↦ rw (edit_apart m n f q apart) (itself (fin.get m q))
]
  where
    by : (o : Option Node) → Alike o (option_map f o)
    by None = itself None
    by (Some x) = keeps x

-- an edit of what is in a node
body-alike : (n : Name) (g : Body → Body) (m : NodeMap) → AllAlike m (edit n (with_body g) m)
body-alike n g m = edit-alike n (with_body g) m (λ x. record { entered = λ h. h; counted = refl })

-- a node comes below another directory
moved-enters : (dir : Name) (h : Header) → is_entered h ≡ true → is_entered (moved_to dir h) ≡ true
moved-enters dir h is = go (is_dir h.kind) is
  where
    go : (b : Bool) → (if b then is_some h.parent else nat_lt 0 h.links) ≡ true → (if b then is_some (if b then Some dir else h.parent) else nat_lt 0 h.links) ≡ true
    go true e = refl
    go false e = e

moved-alike : (n to : Name) (m : NodeMap) → AllAlike m (edit n (with_header (moved_to to)) m)
moved-alike n to m = edit-alike n (with_header (moved_to to)) m (λ x. record { entered = moved-enters to x.header; counted = refl })

-- any change at one name leaves the others

edit-else : (n : Name) (f : Node → Node) (m : NodeMap) → AlikeElse n m (edit n f m)
edit-else n f m q apart = rw (edit_apart m n f q apart) (itself (fin.get m q))

pub insert-else : (n : Name) (x : Node) (m : NodeMap) → AlikeElse n m (fin.insert m n x)
insert-else n x m q apart = rw (get_apart m n x q apart) (itself (fin.get m q))

pub remove-else : (n : Name) (m : NodeMap) → AlikeElse n m (fin.remove m n)
remove-else n m q apart = rw (remove_apart m n q apart) (itself (fin.get m q))

-- what whole calls do

-- a node is put in, and an entry of it, if any
pub add-else : (dir : Name) (entry : Option (List ℕ)) (n : Name) (x : Node) (m : NodeMap) → AlikeElse n m (edit_all (added dir entry n (Some x)) m)
add-else dir None n x m = insert-else n x m
add-else dir (Some name) n x m = λ q apart. through (insert-else n x m q apart) (body-alike dir _ _ q)

pub link-else : (dir : Name) (name : List ℕ) (n : Name) (m : NodeMap) → AlikeElse n m (edit_all (link_edits dir name n) m)
link-else dir name n m q apart = through (body-alike dir _ m q) (edit-else n (with_header linked) _ q apart)

pub unlink-else : (dir : Name) (name : List ℕ) (n : Name) (m : NodeMap) → AlikeElse n m (edit_all (unlink_edits dir name (Some n)) m)
unlink-else dir name n m q apart = through (body-alike dir _ m q) (edit-else n (with_header unlinked) _ q apart)

-- an entry goes to another name, which none had so far
pub move-alike : (dir : Name) (name : List ℕ) (to : Name) (new : List ℕ) (n : Name) (o : Option Name) (m : NodeMap) → o ≡ None → AllAlike m (edit_all (move_edits dir name to new n o) m)
move-alike dir name to new n (Some r) m is = absurd (cc)
move-alike dir name to new n None m is = λ q. through (through (body-alike dir _ m q) (moved-alike n to _ q)) (body-alike to _ _ q)

-- or that another node had
pub move-else : (dir : Name) (name : List ℕ) (to : Name) (new : List ℕ) (n : Name) (o : Option Name) (p : Name) (m : NodeMap) → o ≡ Some p → AlikeElse p m (edit_all (move_edits dir name to new n o) m)
move-else dir name to new n None p m is = absurd (cc)
move-else dir name to new n (Some r) p m is = λ q apart.
    let e : r ≡ p = cc in
    through (through (through (through (body-alike to _ m q) (edit-else r (with_header unlinked) _ q (λ f. apart (f ∙ e)))) (body-alike dir _ _ q)) (moved-alike n to _ q)) (body-alike to _ _ q)
