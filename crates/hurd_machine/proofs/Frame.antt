-- What changes leave as it was.
use Rattle.std.proofs.Common.{◌≡◌, ◌≢◌, ◌⊎◌, ℕ, Bool, false, List, [], ◌∷◌, ◌++◌, Option, Some, None, length, sym, refl, ◌∙◌, ap, ap₂, subst, inl, inr, arith, true, true≢false}
use Rattle.std.specs.Option.{option_map}
use Rattle.hurd_nodes.proofs.Sites.{home-apart}
use Rattle.hurd_machine.proofs.Common.{ABody, ATask, AUsers, AnEmpty, AnOpen, AnOptions, Attach, AttrOf, Below, BodyOf, Change, Coherent, DropServer, EditBody, EditHeader, EditOpen, EditTask, EmptyOf, Io, IsGone, LetGo, MakeNode, MakeOpen, Name, NameMap, OpenOf, Opened, OptionsOf, Part, Right, Sees, Send, ServerInfo, SetText, Settle, Sound, Task, TaskOf, TextOf, AText, faced, Unseat, UsersOf, World, apply, apply_all, body_at, count_list, counts_at, counts_by, edit, ends_at, ends_of, header_at, holders, home_at, info_in, is_empty_dir, is_on, names_open, new_site, one_if, open_at, part, rights_of, server_at, site_at, task_at, users, with_body, with_header, with_sent, with_text, EndsOf, AnEnds, ATotal, TotalOf, Header, Node, counts_for, total_if, total_at, tree_by, info_at, is_one, get, insert, Body}
use Rattle.hurd_creds.proofs.NameLaws.{same_name-apart, get_apart, same_or_apart, edit_here, edit_apart as edit_other}
use Rattle.hurd_machine.proofs.Faces.{face_in, text_in}
use Rattle.hurd_ports.specs.Steps.{named}
use Rattle.hurd_ports.proofs.TaskLaws.{edit-apart, edit-length}
use Rattle.hurd_machine.specs.Change.{settle, next_nodes, next_sites, next_opens, next_tasks}
use Rattle.hurd_machine.proofs.Nodes.{attr_same, header_in, body_in, empty_in, header-with_body, body-with_header, edit_keeps, KeepsEmptiness, empty-kept, by_option}
use Rattle.hurd_machine.proofs.Tasks.{count_edit, count_named, count_sent}
use Rattle.hurd_machine.proofs.Coherence.{LeavesSeats, next_not, no_home, no_open, settled_apart, Proper, AllProper, no_node}
use Rattle.hurd_machine.proofs.Keeping.{coherent_one}
use Rattle.hurd_machine.proofs.Views.{Agree, Agree-trans}
use Rattle.hurd_machine.specs.Touched.{Goes}
use Rattle.hurd_machine.proofs.Comes.{attach_is}
use Rattle.hurd_machine.proofs.Sites.{not_home, home_is}
use Rattle.hurd_machine.proofs.ServerParts.{users_named, come_parts, drop_parts, unseated_parts}
use Rattle.hurd_machine.proofs.Settle.{AsBefore, settle_part, settle_agrees}
use Rattle.hurd_machine.proofs.Ends.{counts_text, ends_by, ends_edited, ends_let_go_apart, ends_made_apart, made_uncounted}
use Rattle.hurd_machine.proofs.Totals.{total_other, total_still, total_made, total_unmade, total_part, own_total}
use Rattle.std.proofs.lemmas.Bool.{cases_Bool}

-- of a task z in place of x, as many rights name each open, and are on each server's nodes, except for those of T
pub record Moved (T : Part → Type 0) (w : World) (x z : Task) : Type 0 where
  pub opens : (o : Name) → (T (OpenOf o) → ⊥) → count_list (names_open o) (rights_of z) ≡ count_list (names_open o) (rights_of x)
  pub users : (s : Name) → (T (UsersOf s) → ⊥) → count_list (is_on w s) (rights_of z) ≡ count_list (is_on w s) (rights_of x)

-- what a right that comes or goes touches is among T
abbrev pub Covers : (Part → Type 0) → World → Right → Type 0
Covers T w (Io r) = T (OpenOf r.open_name) × ((s : Name) → home_at w r.node ≡ Some s → T (UsersOf s))
Covers T w r = Unit {0}

-- a header that counts for as much as before in the total of its server, if that keeps a tree; or the total is among T
abbrev pub Recounts : (Part → Type 0) → World → Name → (Header → Header) → Type 0
Recounts T w n f =
    (tree_by (info_at w n) ≡ false) ⊎ (((h : Header) → header_at w n ≡ Some h → counts_for (f h) ≡ counts_for h) ⊎ ((s : Name) → home_at w n ≡ Some s → T (TotalOf s)))

-- a change that writes the parts T alone
abbrev pub Within : (Part → Type 0) → World → Change → Type 0
Within T w (EditHeader n f) = T (AttrOf n) × Recounts T w n f
Within T w (EditBody n g) = T (BodyOf n) × (T (EmptyOf n) ⊎ KeepsEmptiness g)
Within T w (MakeNode n s node) = T (TaskOf n.task.0) × T (AttrOf n) × T (EmptyOf n) × T (BodyOf n) × ((counts_for node.header ≡ 0) ⊎ T (TotalOf s))
Within T w (EditOpen o f) = T (OpenOf o)
Within T w (MakeOpen o z) = T (TaskOf o.task.0) × T (OpenOf o) × (counts_at w z.node ≡ true → T (EndsOf z.node))
Within T w (LetGo o) = T (OpenOf o) × ((z : Opened) → open_at w o ≡ Some z → counts_at w z.node ≡ true → T (EndsOf z.node))
Within T w (EditTask q f) = T (TaskOf q) × ((x : Task) → task_at w q ≡ Some x → Moved T w x (f x))
Within T w (Send r q) = T (TaskOf q) × Covers T w r
Within T w (Attach s at i node) =
    T (TaskOf s.task.0) × T (AttrOf i.root) × T (EmptyOf i.root) × T (BodyOf i.root) × T (EndsOf i.root) × T (AttrOf at) × T (OptionsOf s) × T (TextOf s) × T (TotalOf s)
Within T w (DropServer s) = (p : Part) → Goes w s p → T p
Within T w (Unseat n) = T (AttrOf n)
Within T w (SetText s text) = T (TextOf s) × (((i : ServerInfo) → server_at w s ≡ Some i → faced (with_text text i) ≡ faced i) ⊎ T (OptionsOf s))
Within T w Settle = Unit {0}

abbrev pub AllWithin : (Part → Type 0) → World → List Change → Type 0
AllWithin T w [] = Unit {0}
AllWithin T w (c ∷ cs) = Within T w c × AllWithin T (apply c w) cs

pub within_append : (T : Part → Type 0) (cs ds : List Change) (w : World) → AllWithin T w cs → AllWithin T (apply_all cs w) ds → AllWithin T w (cs ++ ds)
within_append T [] ds w first then = then
within_append T (c ∷ cs) ds w first then = (first.0, within_append T cs ds (apply c w) first.1 then)

-- a part whose name was not given
abbrev pub IsUnnamed : World → Part → Type 0
IsUnnamed w (AttrOf n) = Below w n → ⊥
IsUnnamed w (EmptyOf n) = Below w n → ⊥
IsUnnamed w (BodyOf n) = Below w n → ⊥
IsUnnamed w (EndsOf n) = Below w n → ⊥
IsUnnamed w (OpenOf o) = Below w o → ⊥
IsUnnamed w (OptionsOf s) = Below w s → ⊥
IsUnnamed w (TextOf s) = Below w s → ⊥
IsUnnamed w (UsersOf s) = Below w s → ⊥
IsUnnamed w (TotalOf s) = Below w s → ⊥
IsUnnamed w (TaskOf t) = ⊥

-- what a call of task t may write: what it touches, the task itself, and what is new
abbrev pub Full : World → ℕ → (Part → Type 0) → Part → Type 0
Full w t T p = T p ⊎ ((p ≡ TaskOf t) ⊎ IsUnnamed w p)

-- all changes but settling
abbrev pub IsExact : Change → Type 0
IsExact Settle = ⊥
IsExact c = Unit {0}

-- what such a change leaves of the world, part by part

abbrev next_servers : Change → NameMap ServerInfo → NameMap ServerInfo
next_servers (SetText s text) m = edit s (with_text text) m
next_servers c m = m

abbrev pub next_world : Change → World → World
next_world c w = record {
  nodes = next_nodes c w.nodes;
  sites = next_sites c w.sites;
  servers = next_servers c w.servers;
  opens = next_opens c w.tasks w.opens;
  tasks = next_tasks c w.tasks;
}

pub next_is : (c : Change) (w : World) → LeavesSeats c → apply c w ≡ next_world c w
next_is (Attach s at i node) w p = absurd p
next_is (DropServer s) w p = absurd p
next_is (Unseat n) w p = absurd p
next_is Settle w p = absurd p
next_is c w p = refl

pub not_on : (w : World) (s : Name) (r : Right) (T : Part → Type 0) → Covers T w r → (T (UsersOf s) → ⊥) → is_on w s r ≡ false
not_on w s (Io r) T i h = not_home s (home_at w r.node) (λ e. h (i.1 s e))
not_on w s r T i h = refl

pub not_named : (w : World) (o : Name) (r : Right) (T : Part → Type 0) → Covers T w r → (T (OpenOf o) → ⊥) → names_open o r ≡ false
not_named w o (Io r) T i h = same_name-apart r.open_name o (λ e. h (subst (λ z. T (OpenOf z)) e i.0))
not_named w o r T i h = refl

-- what a header counts for is asked after a change of a body as before it
pub recounts_body : (T : Part → Type 0) (w : World) (d : Name) (g : Body → Body) (n : Name) (f : Header → Header) → Recounts T w n f → Recounts T (apply (EditBody d g) w) n f
recounts_body T w d g n f (inl tree) = inl tree
recounts_body T w d g n f (inr (inl same)) = inr (inl (λ h is. same h (sym (edit_keeps header_in (with_body g) (header-with_body g) w.nodes d n) ∙ is)))
recounts_body T w d g n f (inr (inr touched)) = inr (inr touched)

module _ (w : World) (coherent : Coherent w) (T : Part → Type 0) where
  avoids : (p q : Part) → T q → (T p → ⊥) → p ≢ q
  avoids p q i h e = h (subst T (sym e) i)

  header_kept : (c : Change) → (n : Name) → Within T w c → (T (AttrOf n) → ⊥) → header_at (next_world c w) n ≡ header_at w n
  header_kept (EditHeader k f) n i h = ap header_in (edit_other w.nodes k (with_header f) n (λ e. avoids (AttrOf n) (AttrOf k) i.0 h (ap AttrOf e)))
  header_kept (EditBody k g) n i h = edit_keeps header_in (with_body g) (header-with_body g) w.nodes k n
  header_kept (MakeNode k s node) n i h = ap header_in (get_apart w.nodes k node n (λ e. avoids (AttrOf n) (AttrOf k) i.1 h (ap AttrOf e)))
  header_kept c n i h = refl

  site_kept : (c : Change) → (n : Name) → Within T w c → (T (AttrOf n) → ⊥) → site_at (next_world c w) n ≡ site_at w n
  site_kept (MakeNode k s node) n i h = get_apart w.sites k (new_site s) n (λ e. avoids (AttrOf n) (AttrOf k) i.1 h (ap AttrOf e))
  site_kept c n i h = refl

  body_kept : (c : Change) → (n : Name) → Within T w c → (T (BodyOf n) → ⊥) → body_at (next_world c w) n ≡ body_at w n
  body_kept (EditHeader k f) n i h = edit_keeps body_in (with_header f) (body-with_header f) w.nodes k n
  body_kept (EditBody k g) n i h = ap body_in (edit_other w.nodes k (with_body g) n (λ e. avoids (BodyOf n) (BodyOf k) i.0 h (ap BodyOf e)))
  body_kept (MakeNode k s node) n i h = ap body_in (get_apart w.nodes k node n (λ e. avoids (BodyOf n) (BodyOf k) i.3 h (ap BodyOf e)))
  body_kept c n i h = refl

  counts_kept : (c : Change) → Proper w c → (n : Name) → counts_at (next_world c w) n ≡ counts_at w n
  counts_kept (MakeNode k s node) p n = elim (same_or_apart n k) [
    | inl same ↦ rw same (made_uncounted w k s node p.1 ∙ sym (ap (λ o. counts_by (info_in w.servers o)) (no_home coherent k (next_not w k p.0))))
    | inr apart ↦ ap (λ o. counts_by (info_in w.servers o)) (home-apart w.sites k (new_site s) n apart)
  ]
  counts_kept (SetText q text) p n = counts_text w.servers q text (home_at w n)
  counts_kept c p n = refl

  -- an open of a node whose server is told is of another one
  not_of : (n m : Name) → (T (EndsOf n) → ⊥) → counts_at w n ≡ true → (counts_at w m ≡ true → T (EndsOf m)) → m ≢ n
  not_of n m h counts told e = h (subst (λ q. T (EndsOf q)) e (told (ap (counts_at w) e ∙ counts)))

  ends_kept : (c : Change) → Proper w c → (n : Name) → Within T w c → (T (EndsOf n) → ⊥) → ends_at (next_world c w) n ≡ ends_at w n
  ends_kept c p n i h = ends_by w (next_world c w) n (counts_kept c p n) (opens c p i)
    where
      opens : (c : Change) → Proper w c → Within T w c → counts_at w n ≡ true → ends_of (next_world c w).opens n ≡ ends_of w.opens n
      opens (EditOpen o f) p i counts = ends_edited w.opens n o f p
      opens (MakeOpen o z) p i counts = ends_made_apart w.opens n o z (no_open coherent o (next_not w o p.0)) (not_of n z.node h counts i.2)
      opens (LetGo o) p i counts = ends_let_go_apart w.opens n w.tasks o (λ z is. not_of n z.node h counts (i.1 z is))
      opens c p i counts = refl

  empty_kept : (c : Change) → (n : Name) → Within T w c → (T (EmptyOf n) → ⊥) → option_map is_empty_dir (body_at (next_world c w) n) ≡ option_map is_empty_dir (body_at w n)
  empty_kept (EditHeader k f) n i h = edit_keeps empty_in (with_header f) (λ o. ap (option_map is_empty_dir) (body-with_header f o)) w.nodes k n
  empty_kept (EditBody k g) n i h = elim i.1 [
    | inl e ↦ ap empty_in (edit_other w.nodes k (with_body g) n (λ k. avoids (EmptyOf n) _ e h (ap EmptyOf k)))
    | inr keeps ↦ edit_keeps empty_in (with_body g) (empty-kept g keeps) w.nodes k n
  ]
  empty_kept (MakeNode k s node) n i h = ap empty_in (get_apart w.nodes k node n (λ e. avoids (EmptyOf n) (EmptyOf k) i.2 h (ap EmptyOf e)))
  empty_kept c n i h = refl

  open_kept : (c : Change) → (o : Name) → Within T w c → (T (OpenOf o) → ⊥) → open_at (next_world c w) o ≡ open_at w o
  open_kept (EditOpen k f) o i h = edit_other w.opens k f o (λ e. avoids (OpenOf o) (OpenOf k) i h (ap OpenOf e))
  open_kept (LetGo k) o i h = settled_apart w.tasks w.opens k o (λ e. avoids (OpenOf o) (OpenOf k) i.0 h (ap OpenOf e))
  open_kept (MakeOpen k z) o i h = get_apart w.opens k z o (λ e. avoids (OpenOf o) (OpenOf k) i.1 h (ap OpenOf e))
  open_kept c o i h = refl

  text_kept : (c : Change) → (s : Name) → Within T w c → (T (TextOf s) → ⊥) → text_in (server_at (next_world c w) s) ≡ text_in (server_at w s)
  text_kept (SetText q text) s i h = ap text_in (edit_other w.servers q (with_text text) s (λ e. avoids (TextOf s) (TextOf q) i.0 h (ap TextOf e)))
  text_kept c s i h = refl

  face_set : (q : Name) (text : List ℕ) (o : Option ServerInfo) → server_at w q ≡ o → ((i : ServerInfo) → server_at w q ≡ Some i → faced (with_text text i) ≡ faced i) → face_in (option_map (with_text text) o) ≡ face_in o
  face_set q text None e same = refl
  face_set q text (Some i) e same = ap Some (same i e)

  face_kept : (c : Change) → (s : Name) → Within T w c → (T (OptionsOf s) → ⊥) → face_in (server_at (next_world c w) s) ≡ face_in (server_at w s)
  face_kept (SetText q text) s i h = elim (same_or_apart s q) [
    | inl e ↦ elim i.1 [
      | inl same ↦ rw e (ap face_in (edit_here w.servers q (with_text text)) ∙ face_set q text (server_at w q) refl same)
      | inr touched ↦ absurd (avoids (OptionsOf s) (OptionsOf q) touched h (ap OptionsOf e))
    ]
    | inr apart ↦ ap face_in (edit_other w.servers q (with_text text) s apart)
  ]
  face_kept c s i h = refl

  pub holders_kept : (c : Change) → Proper w c → (o : Name) → Within T w c → (T (OpenOf o) → ⊥) → holders (next_world c w) o ≡ holders w o
  holders_kept (EditTask q f) p o i h =
      let e = count_edit (names_open o) q f w.tasks p.1 p.2 in
      let m = (i.1 p.1 p.2).opens o h in
      omega arith
  holders_kept (Send r q) p o i h =
      let e = count_edit (names_open o) q (with_sent r) w.tasks p.0 p.1 in
      let more = count_sent (names_open o) r p.0 in
      let none = ap one_if (not_named w o r T i.1 h) in
      omega arith
  holders_kept (MakeNode n s node) p o i h = count_named (names_open o) n.task.0 1 w.tasks
  holders_kept (MakeOpen n z) p o i h = count_named (names_open o) n.task.0 1 w.tasks
  holders_kept (Attach s at j node) p o i h = count_named (names_open o) s.task.0 2 w.tasks
  holders_kept c p o i h = refl

  users_kept : (c : Change) → Proper w c → (s : Name) → Within T w c → (T (UsersOf s) → ⊥) → users (next_world c w) s ≡ users w s
  users_kept (EditTask q f) p s i h =
      let e = count_edit (is_on w s) q f w.tasks p.1 p.2 in
      let m = (i.1 p.1 p.2).users s h in
      omega arith
  users_kept (Send r q) p s i h =
      let e = count_edit (is_on w s) q (with_sent r) w.tasks p.0 p.1 in
      let more = count_sent (is_on w s) r p.0 in
      let none = ap one_if (not_on w s r T i.1 h) in
      omega arith
  users_kept (MakeNode n q node) p s i h = users_named w (apply (MakeNode n q node) w) coherent n p.0 1 n (next_not w n p.0) (λ m apart. home-apart w.sites n (new_site q) m apart) refl s
  users_kept (MakeOpen n z) p s i h = count_named (is_on w s) n.task.0 1 w.tasks
  users_kept (Attach q at j node) p s i h = count_named (is_on w s) q.task.0 2 w.tasks
  users_kept c p s i h = refl

  -- a header that counts for as much
  recounted : (k s : Name) (f : Header → Header) → (T (TotalOf s) → ⊥) → Recounts T w k f → total_at (next_world (EditHeader k f) w) s ≡ total_at w s
  recounted k s f out (inl tree) = elim (cases_Bool (is_one s (home_at w k))) [
    | inl mine ↦
        let none : tree_by (server_at w s) ≡ false = ap (λ o. tree_by (info_in w.servers o)) (sym (home_is s (home_at w k) mine)) ∙ tree in
        total_part (tree_by (server_at w s)) (tree_by (server_at w s)) _ _ refl (λ is. absurd (true≢false (sym is ∙ none)))
    | inr other ↦ ap (total_if (tree_by (server_at w s))) (total_other w.nodes w.sites s k (with_header f) other)
  ]
  recounted k s f out (inr (inl same)) = ap (total_if (tree_by (server_at w s))) (total_still w.nodes w.sites s k (with_header f) (λ x is. same x.header (ap header_in is)))
  recounted k s f out (inr (inr touched)) = elim (cases_Bool (is_one s (home_at w k))) [
    | inl mine ↦ absurd (out (touched s (home_is s (home_at w k) mine)))
    | inr other ↦ ap (total_if (tree_by (server_at w s))) (total_other w.nodes w.sites s k (with_header f) other)
  ]

  -- a new node that counts for nothing
  total_grown : (n q s : Name) (node : Node) → get w.nodes n ≡ None → (counts_for node.header ≡ 0) ⊎ T (TotalOf q) → (T (TotalOf s) → ⊥) → own_total (insert w.nodes n node) (insert w.sites n (new_site q)) s ≡ own_total w.nodes w.sites s
  total_grown n q s node new counts out = elim (same_or_apart s q) [
    | inl same ↦ elim counts [
      | inl none ↦ let sum = total_made w.nodes w.sites s n q node new same in omega (arith, sum, none)
      | inr touched ↦ absurd (out (subst (λ z. T (TotalOf z)) (sym same) touched))
    ]
    | inr apart ↦ total_unmade w.nodes w.sites s n q node new apart
  ]

  total_kept : (c : Change) → Proper w c → (s : Name) → Within T w c → (T (TotalOf s) → ⊥) → total_at (next_world c w) s ≡ total_at w s
  total_kept (EditHeader k f) p s i h = recounted k s f h i.1
  total_kept (EditBody k g) p s i h = ap (total_if (tree_by (server_at w s))) (total_still w.nodes w.sites s k (with_body g) (λ x is. refl))
  total_kept (MakeNode n q node) p s i h = ap (total_if (tree_by (server_at w s))) (total_grown n q s node (no_node coherent n (next_not w n p.0)) i.4 h)
  total_kept (SetText q text) p s i h = ap (λ b. total_if b (own_total w.nodes w.sites s)) (edit_keeps tree_by (with_text text) (by_option (λ o. tree_by (option_map (with_text text) o)) tree_by refl (λ j. refl)) w.servers q s)
  total_kept c p s i h = refl

  task_kept : (c : Change) → (q : ℕ) → Within T w c → (T (TaskOf q) → ⊥) → task_at (next_world c w) q ≡ task_at w q
  task_kept (EditTask k f) q i h = edit-apart k f w.tasks q (λ e. avoids (TaskOf q) (TaskOf k) i.0 h (ap TaskOf e))
  task_kept (Send r k) q i h = edit-apart k (with_sent r) w.tasks q (λ e. avoids (TaskOf q) (TaskOf k) i.0 h (ap TaskOf e))
  task_kept (MakeNode n s node) q i h = edit-apart n.task.0 (named 1) w.tasks q (λ e. avoids (TaskOf q) (TaskOf n.task.0) i.0 h (ap TaskOf e))
  task_kept (MakeOpen n z) q i h = edit-apart n.task.0 (named 1) w.tasks q (λ e. avoids (TaskOf q) (TaskOf n.task.0) i.0 h (ap TaskOf e))
  task_kept (Attach s at j node) q i h = edit-apart s.task.0 (named 2) w.tasks q (λ e. avoids (TaskOf q) (TaskOf s.task.0) i.0 h (ap TaskOf e))
  task_kept c q i h = refl

  next_frame : (c : Change) → Proper w c → (p : Part) → Within T w c → (T p → ⊥) → part (next_world c w) p ≡ part w p
  next_frame c pr (AttrOf n) i h = attr_same (header_kept c n i h) (site_kept c n i h)
  next_frame c pr (EmptyOf n) i h = ap AnEmpty (empty_kept c n i h)
  next_frame c pr (BodyOf n) i h = ap ABody (body_kept c n i h)
  next_frame c pr (EndsOf n) i h = ap AnEnds (ends_kept c pr n i h)
  next_frame c pr (OpenOf o) i h = ap₂ AnOpen (open_kept c o i h) (holders_kept c pr o i h)
  next_frame c pr (OptionsOf s) i h = ap AnOptions (face_kept c s i h)
  next_frame c pr (TextOf s) i h = ap AText (text_kept c s i h)
  next_frame c pr (UsersOf s) i h = ap AUsers (users_kept c pr s i h)
  next_frame c pr (TotalOf s) i h = ap ATotal (total_kept c pr s i h)
  next_frame c pr (TaskOf q) i h = ap ATask (task_kept c q i h)

-- what a change doesn't write stays
pub frame : (T : Part → Type 0) (w : World) → Coherent w → (c : Change) → IsExact c → Proper w c → (p : Part) → Within T w c → (T p → ⊥) → part (apply c w) p ≡ part w p
frame T w c (Attach s at i node) ex pr p within out =
    ap (λ x. part x p) (attach_is w s at i node c (next_not w s pr.next))
    ∙ come_parts w c s at i node pr p (λ e. out (subst T (sym e) within.0)) (λ e. out (subst T (sym e) within.1)) (λ e. out (subst T (sym e) within.2)) (λ e. out (subst T (sym e) within.3))
    (λ e. out (subst T (sym e) within.4)) (λ e. out (subst T (sym e) within.5)) (λ e. out (subst T (sym e) within.6)) (λ e. out (subst T (sym e) within.7)) (λ e. out (subst T (sym e) within.8))
frame T w c (DropServer s) ex pr p within out = drop_parts w s p (λ goes. out (within p goes))
frame T w c (Unseat n) ex pr p within out = unseated_parts w n p (λ e. out (subst T (sym e) within))
frame T w c Settle ex pr p within out = absurd ex
frame T w c k ex pr p within out = ap (λ x. part x p) (next_is k w tt) ∙ next_frame w c T k pr p within out

-- what is gone is not made anew by a change that doesn't write it
pub gone_kept : (x y : World) (p : Part) → part y p ≡ part x p → IsGone x p → IsGone y p
gone_kept x y (OpenOf o) e gone = absurd gone
gone_kept x y (UsersOf s) e gone = absurd gone
gone_kept x y (TaskOf t) e gone = absurd gone
gone_kept x y p e gone = e ∙ gone

-- changes one after another, settling among them: what they don't write, and what a settled world has, stays as that has it, or goes
pub frame_from : (T : Part → Type 0) (p : Part) → (T p → ⊥) → (w : World) → (cs : List Change) (x : World) → Coherent x → AllProper x cs → AllWithin T x cs
    → AsBefore w x p → AsBefore w (apply_all cs x) p
frame_from T p out w [] x c pr i e = e
frame_from T p out w (Settle ∷ cs) x c pr i e =
    let next : Coherent (settle x) = coherent_one Settle x c pr.0 in
    frame_from T p out w cs (settle x) next (pr.1 next) i.1 (settle_part w p x c pr.0 e)
frame_from T p out w (k ∷ cs) x c pr i e =
    let next : Coherent (apply k x) = coherent_one k x c pr.0 in
    let kept : part (apply k x) p ≡ part x p = frame T x c k tt pr.0 p i.0 out in
    frame_from T p out w cs (apply k x) next (pr.1 next) i.1 (elim e [ inl same ↦ inl (kept ∙ same) | inr gone ↦ inr (gone_kept x (apply k x) p kept gone) ])

-- what a call of task t doesn't touch, and what was there before, stays or goes
pub untouched : (T : Part → Type 0) (w : World) (t : ℕ) (cs : List Change) (p : Part) → Sound w → AllProper w cs → AllWithin (Full w t T) w cs
    → (T p → ⊥) → p ≢ TaskOf t → (IsUnnamed w p → ⊥) → AsBefore w (apply_all cs w) p
untouched T w t cs p s pr i out other old =
    frame_from (Full w t T) p (λ k. elim k [ inl h ↦ out h | inr h ↦ elim h [ inl e ↦ other e | inr new ↦ old new ] ]) w cs w s.coherent pr i (inl refl)

-- no change makes a task or takes one out
pub length_one : (c : Change) (w : World) → length (apply c w).tasks ≡ length w.tasks
length_one (EditTask q f) w = edit-length q f w.tasks
length_one (Send r q) w = edit-length q (with_sent r) w.tasks
length_one (MakeNode n s node) w = edit-length n.task.0 (named 1) w.tasks
length_one (MakeOpen o z) w = edit-length o.task.0 (named 1) w.tasks
length_one (Attach s at i node) w = edit-length s.task.0 (named 2) w.tasks
length_one c w = refl

-- changes that write nothing that S sees: S sees the same after them
pub unseen_from : (S : ℕ → Bool) (T : Part → Type 0) (w : World) → ((p : Part) → Sees S w p → T p → ⊥) → (cs : List Change) (x : World) → Coherent x → AllProper x cs → AllWithin T x cs
    → Agree S w x → Agree S w (apply_all cs x)
unseen_from S T w out [] x c pr i a = a
unseen_from S T w out (Settle ∷ cs) x c pr i a =
    let next : Coherent (settle x) = coherent_one Settle x c pr.0 in
    unseen_from S T w out cs (settle x) next (pr.1 next) i.1 (Agree-trans a (settle_agrees S x c pr.0))
unseen_from S T w out (k ∷ cs) x c pr i a =
    let next : Coherent (apply k x) = coherent_one k x c pr.0 in
    unseen_from S T w out cs (apply k x) next (pr.1 next) i.1 (record {
      tasks = length_one k x ∙ a.tasks;
      parts = λ p sees. frame T x c k tt pr.0 p i.0 (out p sees) ∙ a.parts p sees;
    })
