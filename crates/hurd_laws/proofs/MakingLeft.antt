-- What making and opening nodes leaves where things have other names, and the maker's own things keep theirs.
use Rattle.std.proofs.Common.{◌≡◌, ◌++◌, ℕ, List, [], ◌∷◌, Option, Some, None, map, refl, sym, ap, ap₂, subst, ◌∙◌, if◌then◌else◌, Bool, true, false}
use Rattle.std.specs.Option.{option_map}
use Rattle.hurd_creds.specs.declared.mode.Mode.{Mode}
use Rattle.hurd_machine.proofs.Common.{Body, Change, Content, EditTask, Header, IdSets, Io, Listing, MakeNode, MakeOpen, Name, Node, OpenFlags, Right, Task, World, changes_of, fresh, is_dir, named_by, new_dir, new_file, new_open, new_right, open_modes, opening}
use Rattle.hurd_trans_iface.specs.Answers.{entering}
use Rattle.hurd_trans_iface.specs.Nodes.{Entry, unlinked, with_entry}
use Rattle.hurd_ports.specs.declared.parents.Parent.{Parent}
use Rattle.hurd_ports.specs.Steps.{named, with_port}
use Rattle.hurd_machine.specs.Renamed.{OtherNames, body_renamed, entry_renamed, header_renamed, node_renamed, renamed, right_renamed, task_renamed, way_renamed}
use Rattle.hurd_machine.proofs.RenamedHandles.{named_renamed}
use Rattle.hurd_machine.proofs.RenamedTasks.{fresh-renamed}
use Rattle.hurd_core.specs.Core.{NewNodeAt, making, making_dir, making_open}
use Rattle.hurd_dirs.specs.File.{plan_mkfile}
use Rattle.hurd_dirs.specs.Make.{plan_mkdir}
use Rattle.hurd_laws.proofs.CoreRenamed.{caller_renamed, maker_renamed, making_asks-renamed, making_dir_asks-renamed}
use Rattle.hurd_laws.proofs.EntryTold.{file_renamed, mkdir_asks-renamed, mkfile_asks-renamed}
use Rattle.hurd_laws.proofs.LookupRenamed.{new_node_renamed, ways_renamed}
use Rattle.hurd_laws.specs.After.{KeepsOwn}
use Rattle.hurd_laws.proofs.Changes.{Alike, both, cons, edits_body, just, makes_node, makes_open, none}
use Rattle.hurd_laws.proofs.Plans.{Changing, answered-left}
use Rattle.hurd_laws.proofs.RightsLeft.{porting-left}
use Rattle.hurd_laws.proofs.TaskChanges.{mapped_both, named-renamed}

module _ (f : OtherNames) where
  -- what an entry less makes of a node

  parent_left : (b : Bool) (o : Option Name) → (if b then None else option_map f.to o) ≡ option_map f.to (if b then None else o)
  parent_left true o = refl
  parent_left false o = refl

  pub unlinked-renamed : (h : Header) → unlinked (header_renamed f.to h) ≡ header_renamed f.to (unlinked h)
  unlinked-renamed h = ap (λ (o : Option Name). record (unlinked h) { parent = o }) (parent_left (is_dir h.kind) h.parent)

  named_by-renamed : (entry : Option (List ℕ)) (x : Node) → named_by entry (node_renamed f.to x) ≡ node_renamed f.to (named_by entry x)
  named_by-renamed None x = ap (λ (h : Header). record (node_renamed f.to x) { header = h }) (unlinked-renamed x.header)
  named_by-renamed (Some name) x = refl

  -- an entry more
  pub with_entry-renamed : (name : List ℕ) (n : Name) (b : Body) → with_entry name (f.to n) (body_renamed f.to b) ≡ body_renamed f.to (with_entry name n b)
  with_entry-renamed name n (Content bs) = refl
  with_entry-renamed name n (Listing es) = ap (λ (ds : List Entry). Listing ds) (sym (mapped_both (entry_renamed f.to) es (record { name = name; node = n } ∷ [])))

  entering-left : (dir : Name) (entry : Option (List ℕ)) (n : Name) → Alike f (changes_of (entering dir entry n)) (changes_of (entering (f.to dir) entry (f.to n)))
  entering-left dir None n = none f
  entering-left dir (Some name) n = just f (edits_body f dir (with_entry name n) (with_entry name (f.to n)) (with_entry-renamed name n))

  module _ (t : ℕ) (keeps : KeepsOwn f t) where
    -- a task's next name is kept
    pub next_kept : (x : Task) → f.to (fresh t x) ≡ fresh t x
    next_kept x = keeps.own (fresh t x) refl

    -- and it is the next of the task with other names, which has made no more
    pub next_is : (x : Task) → fresh t (caller_renamed f x) ≡ fresh t x
    next_is x = fresh-renamed f t x

    pub making-left : (x : Task) (s : Name) (n : NewNodeAt) (node : Node) → Alike f (making t x s n node) (making t (caller_renamed f x) (f.to s) (new_node_renamed f.to n) (node_renamed f.to node))
    making-left x s n node =
        let entered = subst (λ (q : Name). Alike f (changes_of (entering n.dir n.entry (fresh t x))) (changes_of (entering (f.to n.dir) n.entry q))) (next_kept x) (entering-left n.dir n.entry (fresh t x)) in
        let whole = cons f (makes_node f (fresh t x) s (named_by n.entry node) (next_kept x)) entered in
        let with : Name → Node → List Change = λ q y. MakeNode q (f.to s) y ∷ changes_of (entering (f.to n.dir) n.entry q) in
        subst (λ (ds : List Change). Alike f (making t x s n node) ds) (sym (ap₂ with (next_is x) (named_by-renamed n.entry node))) whole

    -- the right of a port that is made
    new_right-renamed : (x : Task) (n : Name) (ids : IdSets) (ways : List Parent) → new_right t (f.to n) ids (ways_renamed f.to ways) (caller_renamed f x) ≡ right_renamed f.to (new_right t n ids ways x)
    new_right-renamed x n ids ways = ap (λ (o : Name). Io (record { node = f.to n; ids = ids; open_name = o; parents = ways_renamed f.to ways })) (next_is x ∙ sym (next_kept x))

    pub opening-left : (x : Task) (n : Name) (ids : IdSets) (ways : List Parent) (modes : OpenFlags)
        → Alike f (opening t x n ids ways modes) (opening t (caller_renamed f x) (f.to n) ids (ways_renamed f.to ways) modes)
    opening-left x n ids ways modes =
        let whole = cons f (makes_open f (fresh t x) (new_open n modes) (next_kept x)) (porting-left f t (new_right t n ids ways x)) in
        let with : Name → Right → List Change = λ o r. MakeOpen o (new_open (f.to n) modes) ∷ (EditTask t (with_port r) ∷ []) in
        subst (λ (ds : List Change). Alike f (opening t x n ids ways modes) ds) (sym (ap₂ with (next_is x) (new_right-renamed x n ids ways))) whole

    -- a file that is made, and opened by the name after its own
    pub making_open-left : (n : NewNodeAt) (ids : IdSets) (ways : List Parent) (modes : OpenFlags) (m : Task × Name)
        → Alike f (making_open t n ids ways modes m) (making_open t (new_node_renamed f.to n) ids (ways_renamed f.to ways) modes (maker_renamed f m))
    making_open-left n ids ways modes m =
        let x = m.0 in
        let made = making-left x m.1 n (new_file n.owner n.group n.mode) in
        let opened = opening-left (named 1 x) (fresh t x) ids ways modes in
        let to : Task → Name → List Change = λ y q. opening t y q ids (ways_renamed f.to ways) modes in
        both f made (subst (λ (ds : List Change). Alike f (opening t (named 1 x) (fresh t x) ids ways modes) ds)
        (sym (ap₂ to (named-renamed f 0 1 x) (next_is x ∙ sym (next_kept x)))) opened)

    module _ (w : World) (p : ℕ) where
      pub mkdir-left : (name : List ℕ) (mode : Mode) → Changing f (plan_mkdir w t p name mode) (plan_mkdir (renamed f w) t p name mode)
      mkdir-left name mode = answered-left f (new_node_renamed f.to) _ _ _ (mkdir_asks-renamed f w t p name mode) (λ n.
          answered-left f (maker_renamed f) _ _ _ (making_dir_asks-renamed f w t keeps.none n) (λ m. making-left m.0 m.1 n (new_dir n.owner n.group n.mode (Some n.dir))))

      pub mkfile-left : (flags : OpenFlags) (mode : Mode) → Changing f (plan_mkfile w t p flags mode) (plan_mkfile (renamed f w) t p flags mode)
      mkfile-left flags mode = answered-left f (file_renamed f w) _ _ _ (mkfile_asks-renamed f w t p mode) (λ a.
          answered-left f (maker_renamed f) _ _ _ (making_asks-renamed f w t keeps.none a.1) (λ m. making_open-left a.1 a.0.right.ids a.0.right.parents (open_modes flags) m))
