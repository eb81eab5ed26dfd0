-- A set of tasks that has all rights and ids of another sees each part that the other sees: so does a larger set, and one that was sent them.
use Rattle.std.proofs.Common.{inl, inr, ℕ, Bool, List}
use Rattle.hurd_machine.proofs.Common.{Active, Allowed, AttrOf, BodyOf, ByBody, ByControl, ByNode, ByParent, BySeat, Child, Control, Could, CouldServe, EmptyOf, EndsOf, GidOfRight, GidOfTask, HasGid, HasUid, Header, Holds, Exec, Io, IdSets, InRoot, IsOpen, Knows, Name, OfControl, OfNode, OfSeat, OpenOf, OptionsOf, Owns, OwnsIt, Part, Pending, Read, Right, Seen, Sees, SeesBody, SeesEmpty, SeesInside, SeesText, Sends, ServerInfo, ServerRoot, Start, Taken, Target, Task, TaskOf, TextOf, ToControl, ToPut, ToRead, ToSearch, TotalOf, UidOfRight, UidOfTask, UsersOf, Want, Way, World, Write}
use Rattle.hurd_machine.specs.Sight.{Root, Held, Controlled, Parent, SameView, Within, IsThing}
use Rattle.hurd_machine.proofs.Views.{view_of}

-- if all except tasks is the same in two worlds, and G has each right and each id in one that S has in the other
module _ {S G : ℕ → Bool} (w : World) (ts : List Task)
    (holds : (r : Right) → Holds S w r → Holds G (record w { tasks = ts }) r)
    (uid : (u : ℕ) → HasUid S w u → HasUid G (record w { tasks = ts }) u)
    (gid : (g : ℕ) → HasGid S w g → HasGid G (record w { tasks = ts }) g) where
  abbrev x : World
  x = record w { tasks = ts }

  taken : (ids : IdSets) → Taken S w ids → Taken G x ids
  taken ids t = record { uids = λ u has. uid u (t.uids u has); gids = λ g has. gid g (t.gids g has) }

  could : (h : Header) (want : Want) → Could S w h want → Could G x h want
  could h want (Owns u has is) = Owns u (uid u has) is
  could h want (Allowed ids t may) = Allowed ids (taken ids t) may

  served : (i : ServerInfo) → CouldServe S w i → CouldServe G x i
  served i c = (c.0, uid c.0 c.1, c.2)

  owns : (h : Header) → OwnsIt S w h → OwnsIt G x h
  owns h o = (o.0, uid o.0 o.1, o.2)

  pub seen : (n : Name) → Seen S w n → Seen G x n
  seen n (Root e) = Root e
  seen n (Held r h e) = Held r (holds (Io r) h) e
  seen n (Way r p h i e) = Way r p (holds (Io r) h) i e
  seen n (Controlled s i h es e) = Controlled s i (holds (Control s) h) es e
  seen n (Pending h) = Pending (holds (Start n) h)
  seen n (Child d h name s eh k c en) = Child d h name (seen d s) eh k (could h Exec c) en
  seen n (Parent d h s eh ep) = Parent d h (seen d s) eh ep
  seen n (Active m s i sm em es e) = Active m s i (seen m sm) em es e
  seen n (ServerRoot m s i sm em es c e) = ServerRoot m s i (seen m sm) em es (served i c) e
  seen n (Target m s i sm em es aim) = Target m s i (seen m sm) em es aim

  body : (n : Name) (h : Header) → SeesBody S w n h → SeesBody G x n h
  body n h (ToRead c) = ToRead (could h Read c)
  body n h (ToSearch k c) = ToSearch k (could h Exec c)
  body n h (ToPut counts c) = ToPut counts (could h Write c)
  body n h (IsOpen r held e o is modes) = IsOpen r (holds (Io r) held) e o is modes

  empty : (n : Name) (h : Header) → SeesEmpty S w n h → SeesEmpty G x n h
  empty n h (ByBody b) = ByBody (body n h b)
  empty n h (ByParent p a ep ea c) = ByParent p a ep ea (could a Write c)

  knows : (s : Name) → Knows S w s → Knows G x s
  knows s (OfNode n sn en) = OfNode n (seen n sn) en
  knows s (OfSeat n sn en) = OfSeat n (seen n sn) en
  knows s (OfControl h) = OfControl (holds (Control s) h)

  sends : (s : Name) (i : ServerInfo) → Sends S w s i → Sends G x s i
  sends s i (ByControl h) = ByControl (holds (Control s) h)
  sends s i (ByNode n sn en c) = ByNode n (seen n sn) en (served i c)
  sends s i (BySeat n h sn en eh o) = BySeat n h (seen n sn) en eh (owns h o)

  text : (s : Name) (i : ServerInfo) → SeesText S w s i → SeesText G x s i
  text s i (ToControl x) = ToControl (sends s i x)
  text s i (InRoot reads sn en h eh b) = InRoot reads (seen i.root sn) en h eh (body i.root h b)

  inside : (n : Name) → SeesInside S w n → SeesInside G x n
  inside n s = (seen n s.0, s.1, s.2, body n s.1 s.3)

  pub things : (p : Part) → IsThing p → Sees S w p → Sees G x p
  things (AttrOf n) is s = seen n s
  things (EmptyOf n) is s = (seen n s.0, s.1, s.2, s.3, empty n s.1 s.4)
  things (BodyOf n) is s = inside n s
  things (EndsOf n) is s = (s.0, inside n s.1)
  things (OpenOf o) is s = (s.0, holds (Io s.0) s.1, s.2)
  things (OptionsOf q) is s = knows q s
  things (TextOf q) is s = (s.0, s.1, text q s.0 s.2)
  things (UsersOf q) is s = record { info = s.info; is_server = s.is_server; other = s.other; why = sends q s.info s.why }
  things (TotalOf q) is s = record {
    info = s.info;
    is_server = s.is_server;
    knows = knows q s.knows;
    tree = s.tree;
    why = elim s.why [ inl limited ↦ inl limited | inr x ↦ inr (sends q s.info x) ];
  }
  things (TaskOf t) is s = absurd is

-- a larger set has the rights and ids of a smaller one
module _ {S G : ℕ → Bool} (w : World) (more : Within S G) where
  holds_more : (r : Right) → Holds S w r → Holds G w r
  holds_more r h = record { task = h.task; ours = more h.task h.ours; seat = h.seat; is_task = h.is_task; here = h.here }

  uid_more : (u : ℕ) → HasUid S w u → HasUid G w u
  uid_more u (UidOfTask t ours x is has) = UidOfTask t (more t ours) x is has
  uid_more u (UidOfRight r held has) = UidOfRight r (holds_more (Io r) held) has

  gid_more : (g : ℕ) → HasGid S w g → HasGid G w g
  gid_more g (GidOfTask t ours x is has) = GidOfTask t (more t ours) x is has
  gid_more g (GidOfRight r held has) = GidOfRight r (holds_more (Io r) held) has

  thing : (p : Part) → IsThing p → Sees S w p → Sees G w p
  thing = things w w.tasks holds_more uid_more gid_more

  sees : (p : Part) → Sees S w p → Sees G w p
  sees (TaskOf t) s = more t s
  sees (AttrOf n) s = thing (AttrOf n) tt s
  sees (EmptyOf n) s = thing (EmptyOf n) tt s
  sees (BodyOf n) s = thing (BodyOf n) tt s
  sees (EndsOf n) s = thing (EndsOf n) tt s
  sees (OpenOf n) s = thing (OpenOf n) tt s
  sees (OptionsOf n) s = thing (OptionsOf n) tt s
  sees (TextOf n) s = thing (TextOf n) tt s
  sees (UsersOf n) s = thing (UsersOf n) tt s
  sees (TotalOf n) s = thing (TotalOf n) tt s

-- what S sees G sees
pub sees_more : (S G : ℕ → Bool) (w : World) (p : Part) → Within S G → Sees S w p → Sees G w p
sees_more S G w p more s = sees w more p s

-- two worlds that look the same to G look the same to S
pub views_shrink : (S G : ℕ → Bool) (v w : World) → Within S G → SameView G v w → SameView S v w
views_shrink S G v w more x = view_of (record { tasks = x.tasks; parts = λ p s. x.parts p (sees v more p s) })
