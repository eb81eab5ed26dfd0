-- What a set of tasks sees is settled by the parts that it sees: where those are the same in two worlds, it sees the same
-- parts in both.
use Rattle.std.proofs.Common.{List, ◌≡◌, inl, inr, ℕ, Bool, true, Some, sym, refl, ◌∙◌, ap, length, Option, None}
use Rattle.hurd_machine.proofs.Common.{Active, Allowed, AttrOf, BodyOf, ByBody, ByControl, ByNode, ByParent, BySeat, Child, Control, Could, CouldServe, EmptyOf, Exec, GidOfRight, GidOfTask, HasGid, HasUid, Header, Holds, IdSets, Io, IoRight, IsOpen, Knows, Name, OfControl, OfNode, OfSeat, OpenOf, OptionsOf, Owns, Part, Pending, Read, Right, SameView, Seen, Sees, SeesBody, SeesEmpty, Sends, ServerInfo, ServerRoot, Start, Taken, Target, TaskOf, SeesText, TextOf, InRoot, ToControl, with_text, ToPut, ToRead, ToSearch, UidOfRight, UidOfTask, UsersOf, Want, Way, World, Write, active_at, body_at, counts_at, counts_by, entry_of, header_at, home_at, info_in, open_at, part, server_at, task_at, tells, EndsOf, SeesInside, TotalOf, limit_by, limit_of}
use Rattle.hurd_machine.specs.Sight.{Root, Held, Controlled, Parent}
use Rattle.std.specs.Prelude.{is_some}
use Rattle.hurd_machine.proofs.Faces.{face_in, face_reads, limit_told, of_face, none_faced, reads_same, whole}

-- a server that S may send away it knows
pub knows_of : (S : ℕ → Bool) (w : World) (s : Name) (i : ServerInfo) → Sends S w s i → Knows S w s
knows_of S w s i (ByControl h) = OfControl h
knows_of S w s i (ByNode n sn en could) = OfNode n sn en
knows_of S w s i (BySeat n h sn en eh owns) = OfSeat n sn en

-- and so it does one whose text it sees
pub text_known : (S : ℕ → Bool) (w : World) (s : Name) (i : ServerInfo) → SeesText S w s i → Knows S w s
text_known S w s i (ToControl sends) = knows_of S w s i sends
text_known S w s i (InRoot reads seen home h eh body) = OfNode i.root seen home

-- the parts that S sees in v are the same in w
pub record Agree (S : ℕ → Bool) (v w : World) : Type 0 where
  pub tasks : length w.tasks ≡ length v.tasks
  pub parts : (p : Part) → Sees S v p → part w p ≡ part v p

-- the tasks of S are the same
abbrev pub SameTasks : (ℕ → Bool) → World → World → Type 0
SameTasks S v w = (t : ℕ) → S t ≡ true → task_at w t ≡ task_at v t

-- whose tasks are the same, holds the same rights and ids, and could do the same
module _ {S : ℕ → Bool} (v w : World) (same : SameTasks S v w) where
  pub Holds-kept : (r : Right) → Holds S v r → Holds S w r
  Holds-kept r h = record { task = h.task; ours = h.ours; seat = h.seat; is_task = same h.task h.ours ∙ h.is_task; here = h.here }

  pub HasUid-kept : (u : ℕ) → HasUid S v u → HasUid S w u
  HasUid-kept u (UidOfTask t ours x is has) = UidOfTask t ours x (same t ours ∙ is) has
  HasUid-kept u (UidOfRight r held has) = UidOfRight r (Holds-kept (Io r) held) has

  pub HasGid-kept : (g : ℕ) → HasGid S v g → HasGid S w g
  HasGid-kept g (GidOfTask t ours x is has) = GidOfTask t ours x (same t ours ∙ is) has
  HasGid-kept g (GidOfRight r held has) = GidOfRight r (Holds-kept (Io r) held) has

  pub Taken-kept : (ids : IdSets) → Taken S v ids → Taken S w ids
  Taken-kept ids taken = record { uids = λ u has. HasUid-kept u (taken.uids u has); gids = λ g has. HasGid-kept g (taken.gids g has) }

  pub Could-kept : (h : Header) (want : Want) → Could S v h want → Could S w h want
  Could-kept h want (Owns u has is) = Owns u (HasUid-kept u has) is
  Could-kept h want (Allowed ids taken may) = Allowed ids (Taken-kept ids taken) may

-- where parts that are seen in both worlds are equal, what S sees in the one it sees in the other
module _ (S : ℕ → Bool) (v w : World) (tasks : SameTasks S v w) (equal : (p : Part) → Sees S v p → Sees S w p → part w p ≡ part v p) where
  held : (r : Right) → Holds S v r → Holds S w r
  held = Holds-kept v w tasks

  could : (h : Header) (want : Want) → Could S v h want → Could S w h want
  could = Could-kept v w tasks

  served : (i : ServerInfo) → CouldServe S v i → CouldServe S w i
  served i c = (c.0, HasUid-kept v w tasks c.0 c.1, c.2)

  header_moved : {n : Name} {h : Header} → Seen S v n → Seen S w n → header_at v n ≡ Some h → header_at w n ≡ Some h
  header_moved {n} s s' e = let same = equal (AttrOf n) s s' in cc

  home_moved : {n s : Name} → Seen S v n → Seen S w n → home_at v n ≡ Some s → home_at w n ≡ Some s
  home_moved {n} s s' e = let same = equal (AttrOf n) s s' in cc

  active_moved : {n s : Name} → Seen S v n → Seen S w n → active_at v n ≡ Some s → active_at w n ≡ Some s
  active_moved {n} s s' e = let same = equal (AttrOf n) s s' in cc

  face_moved : {s : Name} → Knows S v s → Knows S w s → face_in (server_at w s) ≡ face_in (server_at v s)
  face_moved {s} k k' = let same = equal (OptionsOf s) k k' in cc

  -- a server that is known is there, except for its text
  server_moved : {s : Name} {i : ServerInfo} → Knows S v s → Knows S w s → server_at v s ≡ Some i → (text : List ℕ) × (server_at w s ≡ Some (with_text text i))
  server_moved {s} {i} k k' e = of_face i (server_at w s) (face_moved k k' ∙ ap face_in e)

  -- and has the limit that it had
  limit_moved : {s : Name} {i : ServerInfo} (text : List ℕ) → Knows S v s → Knows S w s → server_at v s ≡ Some i → server_at w s ≡ Some (with_text text i) → limit_of i.kind text ≡ limit_of i.kind i.text
  limit_moved {s} {i} text k k' was is = sym (ap limit_by is) ∙ face_reads limit_by (λ j. limit_told j.kind j.text) (server_at v s) (server_at w s) (face_moved k k') ∙ ap limit_by was

  Seen-moved : (n : Name) → Seen S v n → Seen S w n
  Seen-moved n (Root e) = Root e
  Seen-moved n (Held r h e) = Held r (held (Io r) h) e
  Seen-moved n (Way r p h i e) = Way r p (held (Io r) h) i e
  Seen-moved n (Controlled s i h es e) = let h' = held (Control s) h in let m = server_moved (OfControl h) (OfControl h') es in Controlled s (with_text m.0 i) h' m.1 e
  Seen-moved n (Pending h) = Pending (held (Start n) h)
  Seen-moved n (Child d h name s eh k c en) =
      let s' = Seen-moved d s in
      let eh' = header_moved s s' eh in
      let c' = could h Exec c in
      let same = equal (BodyOf d) (s, h, eh, ToSearch k c) (s', h, eh', ToSearch k c') in
      let body : body_at w d ≡ body_at v d = cc in
      Child d h name s' eh' k c' (ap (entry_of name) body ∙ en)
  Seen-moved n (Parent d h s eh ep) = let s' = Seen-moved d s in Parent d h s' (header_moved s s' eh) ep
  Seen-moved n (Active m s i sm em es e) =
      let sm' = Seen-moved m sm in
      let em' = active_moved sm sm' em in
      let m' = server_moved (OfSeat m sm em) (OfSeat m sm' em') es in
      Active m s (with_text m'.0 i) sm' em' m'.1 e
  Seen-moved n (ServerRoot m s i sm em es c e) =
      let sm' = Seen-moved m sm in
      let em' = home_moved sm sm' em in
      let m' = server_moved (OfNode m sm em) (OfNode m sm' em') es in
      ServerRoot m s (with_text m'.0 i) sm' em' m'.1 (served i c) e
  Seen-moved n (Target m s i sm em es aim) =
      let sm' = Seen-moved m sm in
      elim em [
        | inl h ↦ let h' = home_moved sm sm' h in let m' = server_moved (OfNode m sm h) (OfNode m sm' h') es in Target m s (with_text m'.0 i) sm' (inl h') m'.1 aim
        | inr a ↦ let a' = active_moved sm sm' a in let m' = server_moved (OfSeat m sm a) (OfSeat m sm' a') es in Target m s (with_text m'.0 i) sm' (inr a') m'.1 aim
      ]

  -- whether the server of a node that S sees counts who reads
  counts_moved : (n : Name) → Seen S v n → Seen S w n → counts_at w n ≡ counts_at v n
  counts_moved n s s' = let same = equal (AttrOf n) s s' in let home : home_at w n ≡ home_at v n = cc in ap (λ o. counts_by (info_in w.servers o)) home ∙ go (home_at v n) refl
    where
      go : (o : Option Name) → home_at v n ≡ o → counts_by (info_in w.servers o) ≡ counts_by (info_in v.servers o)
      go None e = refl
      go (Some q) e =
          let known = OfNode n s e in
          face_reads counts_by (λ i. refl) (server_at v q) (server_at w q) (face_moved known (OfNode n s' (home_moved s s' e)))

  SeesBody-moved : (n : Name) (h : Header) → Seen S v n → SeesBody S v n h → SeesBody S w n h
  SeesBody-moved n h s (ToRead c) = ToRead (could h Read c)
  SeesBody-moved n h s (ToSearch k c) = ToSearch k (could h Exec c)
  SeesBody-moved n h s (ToPut counts c) = ToPut (counts_moved n s (Seen-moved n s) ∙ counts) (could h Write c)
  SeesBody-moved n h s (IsOpen r holds e o is modes) =
      let holds' = held (Io r) holds in
      let same = equal (OpenOf r.open_name) (r, holds, refl) (r, holds', refl) in
      let opened : open_at w r.open_name ≡ Some o = cc in
      IsOpen r holds' e o opened (ap (λ (b : Bool). tells b o.modes) (counts_moved n s (Seen-moved n s)) ∙ modes)

  SeesEmpty-moved : (n : Name) (h : Header) → Seen S v n → header_at v n ≡ Some h → SeesEmpty S v n h → SeesEmpty S w n h
  SeesEmpty-moved n h s eh (ByBody b) = ByBody (SeesBody-moved n h s b)
  SeesEmpty-moved n h s eh (ByParent p x ep ex c) = let sp = Parent n h s eh ep in ByParent p x ep (header_moved sp (Seen-moved p sp) ex) (could x Write c)

  Knows-moved : (s : Name) → Knows S v s → Knows S w s
  Knows-moved s (OfNode n sn en) = let sn' = Seen-moved n sn in OfNode n sn' (home_moved sn sn' en)
  Knows-moved s (OfSeat n sn en) = let sn' = Seen-moved n sn in OfSeat n sn' (active_moved sn sn' en)
  Knows-moved s (OfControl h) = OfControl (held (Control s) h)

  Sends-moved : (s : Name) (i : ServerInfo) (text : List ℕ) → Sends S v s i → Sends S w s (with_text text i)
  Sends-moved s i text (ByControl h) = ByControl (held (Control s) h)
  Sends-moved s i text (ByNode n sn en c) = let sn' = Seen-moved n sn in ByNode n sn' (home_moved sn sn' en) (served i c)
  Sends-moved s i text (BySeat n h sn en eh owns) =
      let sn' = Seen-moved n sn in
      BySeat n h sn' (active_moved sn sn' en) (header_moved sn sn' eh) (owns.0, HasUid-kept v w tasks owns.0 owns.1, owns.2)

  SeesText-moved : (s : Name) (i : ServerInfo) (text : List ℕ) → SeesText S v s i → SeesText S w s (with_text text i)
  SeesText-moved s i text (ToControl sends) = ToControl (Sends-moved s i text sends)
  SeesText-moved s i text (InRoot reads sn en h eh body) =
      let sn' = Seen-moved i.root sn in InRoot (reads_same i.kind i.text text ∙ reads) sn' (home_moved sn sn' en) h (header_moved sn sn' eh) (SeesBody-moved i.root h sn body)

  inside_moved : (n : Name) → SeesInside S v n → SeesInside S w n
  inside_moved n s = let s' = Seen-moved n s.0 in (s', s.1, header_moved s.0 s' s.2, SeesBody-moved n s.1 s.0 s.3)

  Sees-moved : (p : Part) → Sees S v p → Sees S w p
  Sees-moved (AttrOf n) s = Seen-moved n s
  Sees-moved (EmptyOf n) s = let s' = Seen-moved n s.0 in (s', s.1, header_moved s.0 s' s.2, s.3, SeesEmpty-moved n s.1 s.0 s.2 s.4)
  Sees-moved (BodyOf n) s = inside_moved n s
  Sees-moved (EndsOf n) s = (counts_moved n s.1.0 (Seen-moved n s.1.0) ∙ s.0, inside_moved n s.1)
  Sees-moved (OpenOf o) s = (s.0, held (Io s.0) s.1, s.2)
  Sees-moved (OptionsOf q) s = Knows-moved q s
  Sees-moved (TextOf q) s =
      let known = text_known S v q s.0 s.2 in
      let m = server_moved known (Knows-moved q known) s.1 in
      (with_text m.0 s.0, m.1, SeesText-moved q s.0 m.0 s.2)
  Sees-moved (UsersOf q) s =
      let known = knows_of S v q s.info s.why in
      let m = server_moved known (Knows-moved q known) s.is_server in
      record { info = with_text m.0 s.info; is_server = m.1; other = s.other; why = Sends-moved q s.info m.0 s.why }
  Sees-moved (TotalOf q) s =
      let knows = Knows-moved q s.knows in
      let m = server_moved s.knows knows s.is_server in
      let limit = limit_moved m.0 s.knows knows s.is_server m.1 in
      record {
        info = with_text m.0 s.info;
        is_server = m.1;
        knows = knows;
        tree = s.tree;
        why = elim s.why [ inl limited ↦ inl (ap (λ (o : Option ℕ). is_some o) limit ∙ limited) | inr sends ↦ inr (Sends-moved q s.info m.0 sends) ];
      }
  Sees-moved (TaskOf t) s = s

module _ {S : ℕ → Bool} {v w : World} (a : Agree S v w) where
  pub same_tasks : SameTasks S v w
  same_tasks t ours = let e = a.parts (TaskOf t) ours in cc

  pub header_same : (n : Name) → Seen S v n → header_at w n ≡ header_at v n
  header_same n s = let e = a.parts (AttrOf n) s in cc

  pub home_same : (n : Name) → Seen S v n → home_at w n ≡ home_at v n
  home_same n s = let e = a.parts (AttrOf n) s in cc

  pub active_same : (n : Name) → Seen S v n → active_at w n ≡ active_at v n
  active_same n s = let e = a.parts (AttrOf n) s in cc

  pub body_same : (n : Name) → Sees S v (BodyOf n) → body_at w n ≡ body_at v n
  body_same n s = let e = a.parts (BodyOf n) s in cc

  pub open_same : (r : IoRight) → Holds S v (Io r) → open_at w r.open_name ≡ open_at v r.open_name
  open_same r h = let e = a.parts (OpenOf r.open_name) (r, h, refl) in cc

  -- a server that S knows is the same except for its text, and one whose text it sees is the same
  pub face_known : (s : Name) → Knows S v s → face_in (server_at w s) ≡ face_in (server_at v s)
  face_known s k = let e = a.parts (OptionsOf s) k in cc

  pub face_same : (n s : Name) → Seen S v n → home_at v n ≡ Some s → face_in (server_at w s) ≡ face_in (server_at v s)
  face_same n s seen is = face_known s (OfNode n seen is)

  pub server_known : (s : Name) → Sees S v (TextOf s) → server_at w s ≡ server_at v s
  server_known s k = whole (server_at v s) (server_at w s) (face_known s (text_known S v s k.0 k.2)) (let e = a.parts (TextOf s) k in cc)

  -- one that S controls is the same
  pub control_known : (s : Name) → Holds S v (Control s) → server_at w s ≡ server_at v s
  control_known s h = go (server_at v s) refl
    where
      go : (o : Option ServerInfo) → server_at v s ≡ o → server_at w s ≡ server_at v s
      go None e = none_faced (server_at w s) (face_known s (OfControl h) ∙ ap face_in e) ∙ sym e
      go (Some i) e = server_known s (i, e, ToControl (ByControl h))

  -- S sees the same parts in both
  pub Sees-kept : (p : Part) → Sees S v p → Sees S w p
  Sees-kept = Sees-moved S v w same_tasks (λ p s s'. a.parts p s)

  pub Sees-back : (p : Part) → Sees S w p → Sees S v p
  Sees-back = Sees-moved S w v (λ t ours. sym (same_tasks t ours)) (λ p s s'. sym (a.parts p s'))

-- to agree is an equivalence

pub Agree-refl : (S : ℕ → Bool) (v : World) → Agree S v v
Agree-refl S v = record { tasks = refl; parts = λ p s. refl }

pub Agree-sym : {S : ℕ → Bool} {v w : World} → Agree S v w → Agree S w v
Agree-sym a = record { tasks = sym a.tasks; parts = λ p s. sym (a.parts p (Sees-back a p s)) }

pub Agree-trans : {S : ℕ → Bool} {u v w : World} → Agree S u v → Agree S v w → Agree S u w
Agree-trans a b = record { tasks = b.tasks ∙ a.tasks; parts = λ p s. b.parts p (Sees-kept a p s) ∙ a.parts p s }

-- worlds that agree have the same view, and the other way round

pub view_of : {S : ℕ → Bool} {v w : World} → Agree S v w → SameView S v w
view_of a = record { tasks = a.tasks; seen = λ p. (Sees-kept a p, Sees-back a p); parts = a.parts }

pub agree_of : {S : ℕ → Bool} {v w : World} → SameView S v w → Agree S v w
agree_of x = record { tasks = x.tasks; parts = x.parts }
