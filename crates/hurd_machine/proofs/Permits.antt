-- Pieces of plans, and why a task of S may make them.
use Rattle.std.proofs.Common.{◌≡◌, ◌⊎◌, ℕ, ◌<◌, ◌≤◌, Bool, true, false, cond, List, [], ◌∷◌, ◌++◌, Option, Some, None, refl, sym, ◌∙◌, ap, subst, inl, inr, arith}
use Rattle.std.specs.Prelude.{Ok}
use Rattle.hurd_machine.proofs.Common.{Body, Change, Content, Did, EditBody, HasUid, Header, IdSets, Io, IoRight, IsAmong, Listing, MakeOpen, Name, OpenFlags, Opened, Right, SeesBody, Settle, Taken, Task, World, apply, apply_all, bytes_eq, changes_of, counts_at, edit_bytes, edit_size, edits_of, entry_in, entry_of, fresh, get, header_at, insert, is_empty_dir, name_of, new_open, on_bytes, opening, task_at, tells, ways_of, with_entry, with_port, with_size}
use Rattle.hurd_creds.proofs.NameLaws.{get_here}
use Rattle.hurd_trans_iface.specs.Nodes.{Entry}
use Rattle.hurd_ports.specs.declared.parents.Parent.{Parent as Pair}
use Rattle.hurd_machine.proofs.Rights.{port_rights}
use Rattle.hurd_machine.proofs.Frame.{IsExact}
use Rattle.hurd_machine.proofs.Confine.{NewTo, SeenOrNew, Less, less_same}
use Rattle.hurd_machine.proofs.Allowed.{RightMay, May, gained_may}
use Rattle.hurd_machine.proofs.Several.{AllMay}

-- one list of changes after another

abbrev pub AllExact : List Change → Type 0
AllExact [] = Unit {0}
AllExact (c ∷ cs) = IsExact c × AllExact cs

pub may_append : (S : ℕ → Bool) (v : World) (cs ds : List Change) (x : World) → AllExact cs → AllMay S v x cs → AllMay S v (apply_all cs x) ds → AllMay S v x (cs ++ ds)
may_append S v [] ds x ex m n = n
may_append S v (Settle ∷ cs) ds x ex m n = absurd ex.0
may_append S v (c ∷ cs) ds x ex m n = (m.0, may_append S v cs ds (apply c x) ex.1 m.1 n)

-- names that a task has still to give

pub later_new : (S : ℕ → Bool) (v : World) (t : ℕ) (x : Task) (k : ℕ) → S t ≡ true → task_at v t ≡ Some x → x.made ≤ k → NewTo S v (name_of t k)
later_new S v t x k ours is up = (ours, λ b. let low : k < x.made = b x is in absurd (omega arith))

-- a node is opened, of which S sees the body where it is opened to read
pub opens_may : (S : ℕ → Bool) (v w : World) (t : ℕ) (x : Task) (n : Name) (ids : IdSets) (parents : List Pair) (modes : OpenFlags) → S t ≡ true → NewTo S v (fresh t x) → SeenOrNew S v n → ((m : Name) → IsAmong m (ways_of parents) → SeenOrNew S v m) → HasUid S v 0 ⊎ Taken S v ids
    → (tells (counts_at v n) modes ≡ true → (h : Header) → header_at v n ≡ Some h → SeesBody S v n h) → AllMay S v w (opening t x n ids parents modes)
opens_may S v w t x n ids parents modes ours new seen ways power reads = (ours, ((ours, λ a at. gained_may S v opened right a (with_port right a) refl (port_rights right a) (may, power)), tt))
  where
    io : IoRight
    io = record { node = n; ids = ids; open_name = fresh t x; parents = parents }

    right : Right
    right = Io io

    opened : World
    opened = apply (MakeOpen (fresh t x) (new_open n modes)) w

    may : RightMay S v opened (Io io)
    may = record {
      inside = record { nodes = λ m i. elim i [ inl e ↦ subst (SeenOrNew S v) e seen | inr way ↦ ways m way ]; opened = inr new };
      reads = λ o e asked h eh.
          let here : get (insert w.opens (fresh t x) (new_open n modes)) (fresh t x) ≡ Some (new_open n modes) = get_here w.opens (fresh t x) (new_open n modes) in
          let same : new_open n modes ≡ o = cc in
          reads (ap (λ (z : Opened). tells (counts_at v n) z.modes) same ∙ asked) h eh;
    }

-- a server's edits of a node's bytes and size: they add no entry, empty no directory and open nothing

bytes_may : (S : ℕ → Bool) (v x : World) (n : Name) (f : List ℕ → List ℕ) → May S v x (EditBody n (on_bytes f))
bytes_may S v x n f = (inl (λ b c e. emptiness c ∙ e ∙ sym (emptiness b)), λ b name m is e. inl (sym (entries name b) ∙ e))
  where
    emptiness : (b : Body) → is_empty_dir (on_bytes f b) ≡ is_empty_dir b
    emptiness (Content bs) = refl
    emptiness (Listing es) = refl

    entries : (name : List ℕ) (b : Body) → entry_of name (Some (on_bytes f b)) ≡ entry_of name (Some b)
    entries name (Content bs) = refl
    entries name (Listing es) = refl

pub size_may : (S : ℕ → Bool) (v : World) (n : Name) (k : ℕ) (h : Header) → Less S v n (with_size k h) h
size_may S v n k h = less_same S v n (with_size k h) h refl refl refl refl (λ p e. inl e)

edits_may : (S : ℕ → Bool) (v x : World) (n : Name) → SeenOrNew S v n → (bytes : Option (List ℕ → List ℕ)) (size : Option ℕ) → AllMay S v x (changes_of (edit_bytes n bytes (edit_size n size)))
edits_may S v x n known None None = tt
edits_may S v x n known None (Some k) = ((λ h at. size_may S v n k h, inr known), tt)
edits_may S v x n known (Some f) None = (bytes_may S v x n f, tt)
edits_may S v x n known (Some f) (Some k) = (bytes_may S v x n f, ((λ h at. size_may S v n k h, inr known), tt))

edits_exact : (n : Name) (bytes : Option (List ℕ → List ℕ)) (size : Option ℕ) → AllExact (changes_of (edit_bytes n bytes (edit_size n size)))
edits_exact n None None = tt
edits_exact n None (Some k) = (tt, tt)
edits_exact n (Some f) None = (tt, tt)
edits_exact n (Some f) (Some k) = (tt, (tt, tt))

pub did_may : {T : Type 0} (S : ℕ → Bool) (v x : World) (n : Name) → SeenOrNew S v n → (d : Did T) → AllMay S v x (changes_of (edits_of n (Ok d)))
did_may S v x n known d = edits_may S v x n known d.bytes d.size

pub did_exact : {T : Type 0} (n : Name) (d : Did T) → AllExact (changes_of (edits_of n (Ok d)))
did_exact n d = edits_exact n d.bytes d.size

-- a directory with one entry more, for a node that S saw or made

filled : (name : List ℕ) (n : Name) (b : Body) → is_empty_dir (with_entry name n b) ≡ false
filled name n (Listing []) = refl
filled name n b = refl

pub entry_added : (name other : List ℕ) (n m : Name) (es : List Entry) → entry_in other (es ++ record { name = name; node = n } ∷ []) ≡ Some m → (entry_in other es ≡ Some m) ⊎ ((bytes_eq name other ≡ true) × (n ≡ m))
entry_added name other n m [] = go (bytes_eq name other)
  where
    go : (b : Bool) → cond b (Some n) None ≡ Some m → (None ≡ Some m) ⊎ ((b ≡ true) × (n ≡ m))
    go true h = inr (refl, cc)
    go false h = inl h
entry_added name other n m (e ∷ es) = go (bytes_eq e.name other) (entry_added name other n m es)
  where
    go : (b : Bool) → (entry_in other (es ++ record { name = name; node = n } ∷ []) ≡ Some m → (entry_in other es ≡ Some m) ⊎ ((bytes_eq name other ≡ true) × (n ≡ m)))
        → cond b (Some e.node) (entry_in other (es ++ record { name = name; node = n } ∷ [])) ≡ Some m → (cond b (Some e.node) (entry_in other es) ≡ Some m) ⊎ ((bytes_eq name other ≡ true) × (n ≡ m))
    go true ih h = inl h
    go false ih h = ih h

-- an entry afterwards was there, or is the new one
entry_of_added : (name other : List ℕ) (n m : Name) (b : Body) → entry_of other (Some (with_entry name n b)) ≡ Some m → (entry_of other (Some b) ≡ Some m) ⊎ (n ≡ m)
entry_of_added name other n m (Content bs) h = inl h
entry_of_added name other n m (Listing es) h = elim (entry_added name other n m es h) [ inl old ↦ inl old | inr new ↦ inr new.1 ]

pub entry_may : (S : ℕ → Bool) (v x : World) (d : Name) (name : List ℕ) (n : Name) → SeenOrNew S v n → May S v x (EditBody d (with_entry name n))
entry_may S v x d name n known = (
  inl (λ b c e. filled name n c ∙ sym (filled name n b)),
  λ b other m is e. elim (entry_of_added name other n m b e) [ inl old ↦ inl old | inr same ↦ inr (subst (SeenOrNew S v) same known) ],
)
