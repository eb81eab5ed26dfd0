-- The same change of a task of S in two worlds that are alike for S: they are alike afterwards.
use Rattle.std.proofs.Common.{◌≡◌, ◌⊎◌, ℕ, Bool, true, true≢false, List, Some, length, nat_lt, sym, refl, ◌∙◌, ap, ap₂, subst, inl, inr, arith, ◌+◌, None}
use Rattle.std.specs.Option.{option_map}
use Rattle.hurd_machine.proofs.Faces.{face_in, text_in, face-with_text, text-with_text}
use Rattle.hurd_machine.proofs.Common.{ABody, ATask, AUsers, AnEmpty, AnOpen, AnOptions, Attach, AttrOf, BodyOf, Change, Coherent, DropServer, EditBody, EditHeader, EditOpen, EditTask, EmptyOf, Io, IsAmong, LetGo, MakeNode, MakeOpen, Name, OpenOf, OptionsOf, Part, Right, Send, SetText, Settle, Task, TaskOf, TextOf, AText, ServerInfo, faced, Unseat, UsersOf, World, apply, body_at, count_rights, counts_at, counts_by, edit_task, ends_at, ends_of, get, header_at, holders, home_at, info_in, is_empty_dir, is_held, is_one, is_on, names_open, new_site, one_if, open_at, part, rights_of, server_at, site_at, task_at, users, with_body, with_header, with_sent, with_text, EndsOf, AnEnds, ATotal, TotalOf, Header, Node, counts_for, total_if, total_at, tree_by, edit, insert}
use Rattle.hurd_nodes.proofs.Sites.{home-apart}
use Rattle.hurd_creds.proofs.NameLaws.{same_or_apart, edit_apart}
use Rattle.hurd_ports.specs.Steps.{named}
use Rattle.hurd_machine.proofs.Nodes.{attr_same, header_in, body_in, empty_in, header-with_header, header-with_body, body-with_header, body-with_body, edit_alike, insert_alike, ByEmptiness, edit_empty_alike, edit_keeps, by_option}
use Rattle.hurd_machine.proofs.Tasks.{edit_here, edit_same, count_edit, count_named, list_alike, count_sent}
use Rattle.hurd_ports.proofs.HeldLaws.{held_counted}
use Rattle.hurd_machine.proofs.Coherence.{next_not, no_open, settled_alike, settled_apart, Proper, no_node}
use Rattle.hurd_machine.proofs.Ends.{counts_text, ends_by, ends_edited, ends_let_go_alike, ends_made_alike, ends_told, made_uncounted}
use Rattle.hurd_machine.proofs.Frame.{IsExact, next_world, next_is}
use Rattle.hurd_machine.proofs.Comes.{attach_is}
use Rattle.hurd_machine.proofs.ServerParts.{IsInside, users_named, come_alike, drop_alike, unseated_alike}
use Rattle.hurd_machine.proofs.Confine.{SeenOrNew, Known, RightInside, Inside}
use Rattle.hurd_machine.proofs.Allowed.{May, may_inside, KeepsCount}
use Rattle.hurd_machine.proofs.Totals.{total_still, total_alike, total_made, total_unmade, total_both, own_total}

-- x and y are alike in all that S saw in v or makes
pub record Mirror (S : ℕ → Bool) (v x y : World) : Type 0 where
  pub tasks : length y.tasks ≡ length x.tasks
  pub parts : (p : Part) → Known S v p → part y p ≡ part x p

module _ (x y : World) where
  header_alike : (c : Change) → (n : Name) → header_at y n ≡ header_at x n → header_at (next_world c y) n ≡ header_at (next_world c x) n
  header_alike (EditHeader k f) n h = edit_alike header_in (option_map f) (with_header f) (header-with_header f) x.nodes y.nodes k n h
  header_alike (EditBody k g) n h = edit_alike header_in (λ z. z) (with_body g) (header-with_body g) x.nodes y.nodes k n h
  header_alike (MakeNode k s node) n h = insert_alike header_in x.nodes y.nodes k n node h
  header_alike c n h = h

  site_alike : (c : Change) → (n : Name) → site_at y n ≡ site_at x n → site_at (next_world c y) n ≡ site_at (next_world c x) n
  site_alike (MakeNode k s node) n o = insert_alike (λ z. z) x.sites y.sites k n (new_site s) o
  site_alike c n o = o

  body_alike : (c : Change) → (n : Name) → body_at y n ≡ body_at x n → body_at (next_world c y) n ≡ body_at (next_world c x) n
  body_alike (EditHeader k f) n h = edit_alike body_in (λ z. z) (with_header f) (body-with_header f) x.nodes y.nodes k n h
  body_alike (EditBody k g) n h = edit_alike body_in (option_map g) (with_body g) (body-with_body g) x.nodes y.nodes k n h
  body_alike (MakeNode k s node) n h = insert_alike body_in x.nodes y.nodes k n node h
  body_alike c n h = h

  face_alike : (c : Change) → (s : Name) → face_in (server_at y s) ≡ face_in (server_at x s) → face_in (server_at (next_world c y) s) ≡ face_in (server_at (next_world c x) s)
  face_alike (SetText q text) s h = edit_alike face_in (option_map (λ (i : ServerInfo). faced (with_text text i))) (with_text text) (face-with_text text) x.servers y.servers q s h
  face_alike c s h = h

  text_alike : (c : Change) → (s : Name) → text_in (server_at y s) ≡ text_in (server_at x s) → text_in (server_at (next_world c y) s) ≡ text_in (server_at (next_world c x) s)
  text_alike (SetText q text) s h = edit_alike text_in (option_map (λ (old : List ℕ). text)) (with_text text) (text-with_text text) x.servers y.servers q s h
  text_alike c s h = h

  -- a change of a body that is alike, or whose emptiness afterwards is settled by that before
  abbrev EmptinessSettled : Change → Type 0
  EmptinessSettled (EditBody k g) = ByEmptiness g ⊎ (body_at y k ≡ body_at x k)
  EmptinessSettled c = Unit {0}

  empty_alike : (c : Change) → EmptinessSettled c → (n : Name) → empty_in (get y.nodes n) ≡ empty_in (get x.nodes n)
      → option_map is_empty_dir (body_at (next_world c y) n) ≡ option_map is_empty_dir (body_at (next_world c x) n)
  empty_alike (EditHeader k f) by n h = edit_alike empty_in (λ z. z) (with_header f) (λ z. ap (option_map is_empty_dir) (body-with_header f z)) x.nodes y.nodes k n h
  empty_alike (EditBody k g) by n h = elim by [
    | inl empties ↦ edit_empty_alike g empties x.nodes y.nodes k n h
    | inr same ↦ elim (same_or_apart n k) [
      | inl e ↦ ap (option_map is_empty_dir) (rw e (body_alike (EditBody k g) k same))
      | inr a ↦ ap empty_in (edit_apart y.nodes k (with_body g) n a) ∙ h ∙ sym (ap empty_in (edit_apart x.nodes k (with_body g) n a))
    ]
  ]
  empty_alike (MakeNode k s node) by n h = insert_alike empty_in x.nodes y.nodes k n node h
  empty_alike c by n h = h

  held_alike : (o : Name) → holders y o ≡ holders x o → is_held y.tasks o ≡ is_held x.tasks o
  held_alike o e = held_counted y.tasks o ∙ ap (λ n. nat_lt 0 n) e ∙ sym (held_counted x.tasks o)

  open_alike : (c : Change) → (o : Name) → open_at y o ≡ open_at x o → holders y o ≡ holders x o → open_at (next_world c y) o ≡ open_at (next_world c x) o
  open_alike (EditOpen k f) o h e = edit_alike (λ z. z) (option_map f) f (λ z. refl) x.opens y.opens k o h
  open_alike (MakeOpen k z) o h e = insert_alike (λ u. u) x.opens y.opens k o z h
  open_alike (LetGo k) o h e = elim (same_or_apart o k) [
    | inl same ↦ rw (← same) (settled_alike x.tasks y.tasks x.opens y.opens o (held_alike o e) h)
    | inr apart ↦ settled_apart y.tasks y.opens k o apart ∙ h ∙ sym (settled_apart x.tasks x.opens k o apart)
  ]
  open_alike c o h e = h

  task_alike : (c : Change) → (q : ℕ) → task_at y q ≡ task_at x q → task_at (next_world c y) q ≡ task_at (next_world c x) q
  task_alike (EditTask k f) q h = edit_same k f x.tasks y.tasks q h
  task_alike (Send r k) q h = edit_same k (with_sent r) x.tasks y.tasks q h
  task_alike (MakeNode n s node) q h = edit_same n.task.0 (named 1) x.tasks y.tasks q h
  task_alike (MakeOpen o z) q h = edit_same o.task.0 (named 1) x.tasks y.tasks q h
  task_alike (Attach s at j node) q h = edit_same s.task.0 (named 2) x.tasks y.tasks q h
  task_alike c q h = h

module _ (S : ℕ → Bool) (v x y : World) (before : Inside S v x) (cx : Coherent x) (cy : Coherent y) (alike : Mirror S v x y) where
  home_same : (n : Name) → SeenOrNew S v n → home_at y n ≡ home_at x n
  home_same n known = let e = alike.parts (AttrOf n) known in cc

  -- a right that S may hold is on a node of the same server in both
  same_side : (s : Name) (r : Right) → RightInside S v r → is_on y s r ≡ is_on x s r
  same_side s (Io r) i = ap (is_one s) (home_same r.node (i.nodes r.node (inl refl)))
  same_side s r i = refl

  -- counts of the rights of a task that S has, in both
  counts_own : (q : ℕ) (f : Task → Task) (T U : Right → Bool) (a b : Task) → S q ≡ true → task_at x q ≡ Some a → task_at y q ≡ Some b
      → ((r : Right) → IsAmong r (rights_of a) → U r ≡ T r) → ((r : Right) → IsAmong r (rights_of (f a)) → U r ≡ T r)
      → count_rights U y.tasks ≡ count_rights T x.tasks → count_rights U (edit_task q f y.tasks) ≡ count_rights T (edit_task q f x.tasks)
  counts_own q f T U a b ours isx isy was now e =
      let task : task_at y q ≡ task_at x q = let s = alike.parts (TaskOf q) (inl ours) in cc in
      let ex = count_edit T q f x.tasks a isx in
      let ey = count_edit U q f y.tasks a (task ∙ isx) in
      let one = list_alike U T (rights_of a) was in
      let two = list_alike U T (rights_of (f a)) now in
      omega arith

  -- and of a task that is sent a right, whoever it is
  counts_sent : (q : ℕ) (r : Right) (T U : Right → Bool) (a b : Task) → task_at x q ≡ Some a → task_at y q ≡ Some b → U r ≡ T r
      → count_rights U y.tasks ≡ count_rights T x.tasks → count_rights U (edit_task q (with_sent r) y.tasks) ≡ count_rights T (edit_task q (with_sent r) x.tasks)
  counts_sent q r T U a b isx isy same e =
      let ex = count_edit T q (with_sent r) x.tasks a isx in
      let ey = count_edit U q (with_sent r) y.tasks b isy in
      let sx = count_sent T r a in
      let sy = count_sent U r b in
      let one = ap one_if same in
      omega arith

  emptiness : (c : Change) → May S v x c → EmptinessSettled x y c
  emptiness (EditBody n g) m = elim m.0 [ inl by ↦ inl by | inr known ↦ inr (let e = alike.parts (BodyOf n) known in cc) ]
  emptiness c m = tt

  holders_alike : (c : Change) → Proper x c → Proper y c → May S v x c → (o : Name) → holders y o ≡ holders x o → holders (next_world c y) o ≡ holders (next_world c x) o
  holders_alike (EditTask q f) px py m o e = counts_own q f (names_open o) (names_open o) px.1 py.1 m.0 px.2 py.2 (λ r i. refl) (λ r i. refl) e
  holders_alike (Send r q) px py m o e = counts_sent q r (names_open o) (names_open o) px.0 py.0 px.1 py.1 refl e
  holders_alike (MakeNode n s node) px py m o e =
      count_named (names_open o) n.task.0 1 y.tasks ∙ e ∙ sym (count_named (names_open o) n.task.0 1 x.tasks)
  holders_alike (MakeOpen n z) px py m o e =
      count_named (names_open o) n.task.0 1 y.tasks ∙ e ∙ sym (count_named (names_open o) n.task.0 1 x.tasks)
  holders_alike (Attach s at j node) px py m o e =
      count_named (names_open o) s.task.0 2 y.tasks ∙ e ∙ sym (count_named (names_open o) s.task.0 2 x.tasks)
  holders_alike c px py m o e = e

  users_alike : (c : Change) → Proper x c → Proper y c → May S v x c → Inside S v (apply c x) → (s : Name) → users y s ≡ users x s → users (next_world c y) s ≡ users (next_world c x) s
  users_alike (EditTask q f) px py m after s e =
      counts_own q f (is_on x s) (is_on y s) px.1 py.1 m.0 px.2 py.2
      (λ r i. same_side s r (before.held r (record { task = q; ours = m.0; seat = px.1; is_task = px.2; here = i })))
      (λ r i. same_side s r (after.held r (record { task = q; ours = m.0; seat = f px.1; is_task = edit_here q f x.tasks px.1 px.2; here = i })))
      e
  users_alike (Send r q) px py m after s e = counts_sent q r (is_on x s) (is_on y s) px.0 py.0 px.1 py.1 (same_side s r (may_inside S v x r m.0)) e
  users_alike (MakeNode n q node) px py m after s e =
      users_named y (apply (MakeNode n q node) y) cy n py.0 1 n (next_not y n py.0) (λ m apart. home-apart y.sites n (new_site q) m apart) refl s ∙ e
      ∙ sym (users_named x (apply (MakeNode n q node) x) cx n px.0 1 n (next_not x n px.0) (λ m apart. home-apart x.sites n (new_site q) m apart) refl s)
  users_alike (MakeOpen n z) px py m after s e =
      count_named (is_on y s) n.task.0 1 y.tasks ∙ e ∙ sym (count_named (is_on x s) n.task.0 1 x.tasks)
  users_alike (Attach q at j node) px py m after s e =
      count_named (is_on y s) q.task.0 2 y.tasks ∙ e ∙ sym (count_named (is_on x s) q.task.0 2 x.tasks)
  users_alike c px py m after s e = e

  -- whether a server is told

  told_alike : (c : Change) → Proper x c → Proper y c → (n : Name) → counts_at y n ≡ counts_at x n → counts_at (next_world c y) n ≡ counts_at (next_world c x) n
  told_alike (MakeNode k s node) px py n e = elim (same_or_apart n k) [
    | inl same ↦ rw same (made_uncounted y k s node py.1 ∙ sym (made_uncounted x k s node px.1))
    | inr apart ↦ ap (λ o. counts_by (info_in y.servers o)) (home-apart y.sites k (new_site s) n apart) ∙ e ∙ sym (ap (λ o. counts_by (info_in x.servers o)) (home-apart x.sites k (new_site s) n apart))
  ]
  told_alike (SetText q text) px py n e = counts_text y.servers q text (home_at y n) ∙ e ∙ sym (counts_text x.servers q text (home_at x n))
  told_alike c px py n e = e

  was_told : (c : Change) → Proper x c → (n : Name) → counts_at (next_world c x) n ≡ true → counts_at x n ≡ true
  was_told (MakeNode k s node) px n e = elim (same_or_apart n k) [
    | inl same ↦ absurd (true≢false (sym e ∙ ap (counts_at (next_world (MakeNode k s node) x)) same ∙ made_uncounted x k s node px.1))
    | inr apart ↦ sym (ap (λ o. counts_by (info_in x.servers o)) (home-apart x.sites k (new_site s) n apart)) ∙ e
  ]
  was_told (SetText q text) px n e = sym (counts_text x.servers q text (home_at x n)) ∙ e
  was_told c px n e = e

  opens_alike : (c : Change) → Proper x c → Proper y c → May S v x c → (n : Name) → ends_of y.opens n ≡ ends_of x.opens n → ends_of (next_world c y).opens n ≡ ends_of (next_world c x).opens n
  opens_alike (EditOpen o f) px py m n e = ends_edited y.opens n o f py ∙ e ∙ sym (ends_edited x.opens n o f px)
  opens_alike (MakeOpen o z) px py m n e = ends_made_alike x.opens y.opens n e o z (no_open cx o (next_not x o px.0)) (no_open cy o (next_not y o py.0))
  opens_alike (LetGo o) px py m n e =
      let known = alike.parts (OpenOf o) m in
      let held : holders y o ≡ holders x o = cc in
      ends_let_go_alike x.opens y.opens n e x.tasks y.tasks o (held_alike x y o held) (cc)
  opens_alike c px py m n e = e

  ends_alike : (c : Change) → Proper x c → Proper y c → May S v x c → (n : Name) → ends_at y n ≡ ends_at x n → ends_at (next_world c y) n ≡ ends_at (next_world c x) n
  ends_alike c px py m n e =
      let same = ends_told x y n e in
      ends_by (next_world c x) (next_world c y) n (told_alike c px py n same.0) (λ told. opens_alike c px py m n (same.1 (was_told c px n told)))

  -- what a header counts for changes alike in both, where it does
  total_edited : (k : Name) (f : Header → Header) (s : Name) → KeepsCount f ⊎ SeenOrNew S v k → own_total y.nodes y.sites s ≡ own_total x.nodes x.sites s
      → own_total (edit k (with_header f) y.nodes) y.sites s ≡ own_total (edit k (with_header f) x.nodes) x.sites s
  total_edited k f s (inl keeps) e =
      total_still y.nodes y.sites s k (with_header f) (λ z is. keeps z.header) ∙ e ∙ sym (total_still x.nodes x.sites s k (with_header f) (λ z is. keeps z.header))
  total_edited k f s (inr known) e =
      let attr = alike.parts (AttrOf k) known in
      let header : header_at y k ≡ header_at x k = cc (attr) in
      total_alike x.nodes y.nodes x.sites y.sites s k f (home_same k known) header e

  total_grown : (n q : Name) (node : Node) (s : Name) → get x.nodes n ≡ None → get y.nodes n ≡ None → own_total y.nodes y.sites s ≡ own_total x.nodes x.sites s
      → own_total (insert y.nodes n node) (insert y.sites n (new_site q)) s ≡ own_total (insert x.nodes n node) (insert x.sites n (new_site q)) s
  total_grown n q node s nx ny e = elim (same_or_apart s q) [
    | inl same ↦ total_made y.nodes y.sites s n q node ny same ∙ ap (λ k. k + counts_for node.header) e ∙ sym (total_made x.nodes x.sites s n q node nx same)
    | inr apart ↦ total_unmade y.nodes y.sites s n q node ny apart ∙ e ∙ sym (total_unmade x.nodes x.sites s n q node nx apart)
  ]

  sums_alike : (c : Change) → Proper x c → Proper y c → May S v x c → (s : Name) → own_total y.nodes y.sites s ≡ own_total x.nodes x.sites s
      → own_total (next_world c y).nodes (next_world c y).sites s ≡ own_total (next_world c x).nodes (next_world c x).sites s
  sums_alike (EditHeader k f) px py m s e = total_edited k f s m.1 e
  sums_alike (EditBody k g) px py m s e = total_still y.nodes y.sites s k (with_body g) (λ z is. refl) ∙ e ∙ sym (total_still x.nodes x.sites s k (with_body g) (λ z is. refl))
  sums_alike (MakeNode n q node) px py m s e = total_grown n q node s (no_node cx n (next_not x n px.0)) (no_node cy n (next_not y n py.0)) e
  sums_alike c px py m s e = e

  -- a server keeps its kind
  trees_kept : (z : World) (c : Change) (s : Name) → tree_by (server_at (next_world c z) s) ≡ tree_by (server_at z s)
  trees_kept z (SetText q text) s = edit_keeps tree_by (with_text text) (by_option (λ o. tree_by (option_map (with_text text) o)) tree_by refl (λ j. refl)) z.servers q s
  trees_kept z c s = refl

  totals_alike : (c : Change) → Proper x c → Proper y c → May S v x c → (s : Name) → total_at y s ≡ total_at x s → total_at (next_world c y) s ≡ total_at (next_world c x) s
  totals_alike c px py m s e =
      ap (λ b. total_if b (own_total (next_world c y).nodes (next_world c y).sites s)) (trees_kept y c s)
      ∙ total_both (tree_by (server_at x s)) (tree_by (server_at y s)) _ _ _ _ e (sums_alike c px py m s)
      ∙ sym (ap (λ b. total_if b (own_total (next_world c x).nodes (next_world c x).sites s)) (trees_kept x c s))

  module _ (c : Change) (px : Proper x c) (py : Proper y c) (m : May S v x c) (after : Inside S v (apply c x)) where
    -- each part that S knows is alike afterwards
    next_same : (p : Part) → Known S v p → part (next_world c y) p ≡ part (next_world c x) p
    next_same (AttrOf n) known = let e = alike.parts (AttrOf n) known in attr_same (header_alike x y c n (cc)) (site_alike x y c n (cc))
    next_same (EmptyOf n) known = let e = alike.parts (EmptyOf n) known in ap AnEmpty (empty_alike x y c (emptiness c m) n (cc))
    next_same (BodyOf n) known = let e = alike.parts (BodyOf n) known in ap ABody (body_alike x y c n (cc))
    next_same (EndsOf n) known = let e = alike.parts (EndsOf n) known in ap AnEnds (ends_alike c px py m n (cc))
    next_same (OpenOf o) known = let e = alike.parts (OpenOf o) known in ap₂ AnOpen (open_alike x y c o (cc) (cc)) (holders_alike c px py m o (cc))
    next_same (OptionsOf s) known = let e = alike.parts (OptionsOf s) known in ap AnOptions (face_alike x y c s (cc))
    next_same (TextOf s) known = let e = alike.parts (TextOf s) known in ap AText (text_alike x y c s (cc))
    next_same (UsersOf s) known = let e = alike.parts (UsersOf s) known in ap AUsers (users_alike c px py m after s (cc))
    next_same (TotalOf s) known = let e = alike.parts (TotalOf s) known in ap ATotal (totals_alike c px py m s (cc))
    next_same (TaskOf q) known = let e = alike.parts (TaskOf q) known in ap ATask (task_alike x y c q (cc))

-- of what S knows of what is in a node, or who reads it, it knows the node
attr_of : {S : ℕ → Bool} {v : World} (p : Part) (n : Name) → IsInside n p → Known S v p → Known S v (AttrOf n)
attr_of {S} {v} p n (inl e) known = elim (subst (Known S v) e known) [ inl sees ↦ inl sees.0 | inr new ↦ inr new ]
attr_of {S} {v} p n (inr (inl e)) known = elim (subst (Known S v) e known) [ inl sees ↦ inl sees.0 | inr new ↦ inr new ]
attr_of {S} {v} p n (inr (inr e)) known = elim (subst (Known S v) e known) [ inl sees ↦ inl sees.1.0 | inr new ↦ inr new ]

module _ (S : ℕ → Bool) (v x y : World) (before : Inside S v x) (cx : Coherent x) (cy : Coherent y) (alike : Mirror S v x y) where
  -- each part that S knows is alike after a change
  pub part_same : (c : Change) → IsExact c → Proper x c → Proper y c → May S v x c → Inside S v (apply c x) → (p : Part) → Known S v p → part (apply c y) p ≡ part (apply c x) p
  part_same (Attach s at i node) ex px py m after p known =
      ap (λ z. part z p) (attach_is y s at i node cy (next_not y s py.next)) ∙ come_alike x y cx cy s at i node px py p (alike.parts p known)
      ∙ sym (ap (λ z. part z p) (attach_is x s at i node cx (next_not x s px.next)))
  part_same (DropServer s) ex px py m after p known = drop_alike x y s p (λ n is. home_same S v x y before cx cy alike n (attr_of p n is known)) (alike.parts p known)
  part_same (Unseat n) ex px py m after p known = unseated_alike x y n p (alike.parts p known)
  part_same Settle ex px py m after p known = absurd ex
  part_same c ex px py m after p known =
      ap (λ z. part z p) (next_is c y tt) ∙ next_same S v x y before cx cy alike c px py m after p known ∙ sym (ap (λ z. part z p) (next_is c x tt))
