-- Of a text one text is printed of what could be shown: views are one, and so is what is picked, and who is told to have seen a part before.
use Rattle.std.proofs.Common.{◌≡◌, ◌∙◌, inl, inr, sym, refl, ap, ap₂, subst, suc, ℕ, Bool, true, false, List, [], ◌∷◌, map, length}
use Rattle.std.specs.Prelude.{◌++◌, ◌&&◌, None, Option, Vec, if◌then◌else◌, not}
use Rattle.std.specs.Global.{Global}
use Rattle.std.specs.declared.vec.Vec.{ok-type}
use Rattle.hurd_creds.specs.declared.name.TaskId.{TaskId}
use Rattle.hurd_dialogue.specs.Sorts.{Sort, last_world}
use Rattle.hurd_machine.specs.World.{World}
use Rattle.hurd_nodes.proofs.PartLaws.{same_bool}
use Rattle.hurd_ports.specs.Tables.{Task}
use Rattle.hurd_sight.specs.Reach.{among}
use Rattle.hurd_sight.specs.declared.parts.SeenPart.{SeenPart}
use Rattle.hurd_teaching.proofs.OneText.{alike}
use Rattle.hurd_teaching.specs.Owners.{all_tasks}
use Rattle.hurd_teaching.specs.Programs.{PrintsOneText}
use Rattle.hurd_terminal.specs.Faults.{IsFront}
use Rattle.hurd_views.specs.Views.{IsOneView}
use Rattle.hurd_views.specs.declared.rows.Row.{Row}
use Rattle.hurd_views.specs.declared.view.View.{View}
use Rattle.hurd_views.proofs.OneView.{views_are_one}
use Rattle.hurd_can.specs.Could.{before_more, before_text, could_line, helpers_text, last_line, line_head, line_tail, part_place, part_word}
use Rattle.hurd_can.specs.Help.{AreEnough, AreHelped, Help, IsEnough, IsHelped, Picks, pairs_of}
use Rattle.hurd_can.specs.Listed.{Unseen, listed}
use Rattle.hurd_can.specs.Dated.{SinceIn, made_before, worlds_from}
use Rattle.hurd_can.specs.Programs.{CouldAtEnd, IsCould, asked, could, others_of}
use Rattle.hurd_can.specs.Remembered.{Each, Remembers, SawBefore, row_of}
use Rattle.hurd_can.specs.Saying.{Asked, SaysAll, SaysPart, SaysWays}
use Rattle.hurd_can.specs.Tried.{AllSaid, SaysWay, ShowsWith, evidence, way_text}
use Rattle.hurd_can.specs.Ways.{look_at, path_of, set_name, sets_of, way_by_all, way_by_helpers}
use Rattle.hurd_can.specs.declared.helped.Pair.{Pair}
use Rattle.hurd_can.specs.declared.ways.HelpSet.{HelpSet}
use Rattle.hurd_can.proofs.DatedLaws.{since_once}
use Rattle.hurd_can.proofs.PickLaws.{picks_once}
use Rattle.hurd_can.proofs.RecallLaws.{same_rows}
use Rattle.hurd_can.proofs.SaidLaws.{all_said_as, all_said_once}
use Rattle.hurd_can.proofs.TriedLaws.{first_once}

-- a list that is kept in memory, with other things in it that are the same
abbrev moved : {X : Type 0} (x : Vec X Global) (ys : List X) → x.items ≡ ys → Vec X Global
moved {X} x ys e = record x { items = ys; ok = coe 0 1 (i. ok-type X Global x.ptr x.len x.cap x.alloc (e i)) x.ok }

-- the same tasks were looked at, and two views are one
record AreOne (a b : View) : Type 0 where
  ours : a.sight.tasks.items ≡ b.sight.tasks.items
  one : IsOneView a b

-- a view with all of another that is told: what was found, the rows, and the tasks
abbrev with_seen : (a b : View) → AreOne a b → View
with_seen a b are = record a {
  sight = record a.sight { found = b.sight.found; tasks = moved a.sight.tasks b.sight.tasks.items are.ours };
  rows = b.rows;
  seats = moved a.seats b.seats.items are.one.seats;
  count = b.count;
}

same_seen : (a b : View) (are : AreOne a b) → a ≡ with_seen a b are
same_seen a b are = λ j. record a {
  sight = record a.sight {
    found = are.one.found j;
    tasks = record a.sight.tasks { items = are.ours j; ok = coe 0 j (i. ok-type TaskId Global a.sight.tasks.ptr a.sight.tasks.len a.sight.tasks.cap a.sight.tasks.alloc (are.ours i)) a.sight.tasks.ok };
  };
  rows = are.one.rows j;
  seats = record a.seats { items = are.one.seats j; ok = coe 0 j (i. ok-type (Option Task) Global a.seats.ptr a.seats.len a.seats.cap a.seats.alloc (are.one.seats i)) a.seats.ok };
  count = are.one.count j;
}

-- what is said goes by what is told of a view
line_by_view : (a b : View) (names : List (List ℕ)) (tasks : List Task) (all : List TaskId) (who : List ℕ) (h : Help) → AreOne a b → could_line a names tasks all who h ≡ could_line b names tasks all who h
line_by_view a b names tasks all who h are = ap (λ (v : View). could_line v names tasks all who h) (same_seen a b are)

path_by_view : (a b : View) (p : SeenPart) → AreOne a b → path_of (part_place a p) ≡ path_of (part_place b p)
path_by_view a b p are = ap (λ (v : View). path_of (part_place v p)) (same_seen a b are)

ways_by_view : (how : Bool) (a b : View) (asks : Asked) (tasks : List Task) (all : List TaskId) (h : Help) (text : List ℕ) → AreOne a b → SaysWays how asks a tasks all h text → SaysWays how asks b tasks all h text
ways_by_view false a b asks tasks all h text are says = says
ways_by_view true a b asks tasks all h text are (since, from, says) = (
  since,
  subst (λ (r : Row). SinceIn asks.sort asks.script r all h.part since) (same_rows a b are.one.rows h.part) from,
  subst (λ (path : List ℕ). AllSaid (SaysWay asks.sort asks.script asks.names asks.who h.part (made_before since) (look_at b h.part) path) (sets_of tasks h.ones h.twos) text) (path_by_view a b h.part are)
      (subst (λ (look : List ℕ). AllSaid (SaysWay asks.sort asks.script asks.names asks.who h.part (made_before since) look (path_of (part_place a h.part))) (sets_of tasks h.ones h.twos) text)
      (ap (λ (v : View). look_at v h.part) (same_seen a b are)) says),
)

part_by_view : (a b : View) (asks : Asked) (tasks : List Task) (all : List TaskId) (h : Help) (text : List ℕ) → AreOne a b → SaysPart asks a tasks all h text → SaysPart asks b tasks all h text
part_by_view a b asks tasks all h text are (ways, is, says) =
    (ways, is ∙ ap (λ (l : List ℕ). l ++ ways) (line_by_view a b asks.names tasks all asks.called h are), ways_by_view asks.how a b asks tasks all h ways are says)

by_view : (a b : View) (asks : Asked) (tasks : List Task) (all : List TaskId) (hs : List Help) (text : List ℕ) → AreOne a b → SaysAll asks a tasks all hs text → SaysAll asks b tasks all hs text
by_view a b asks tasks all hs text are (said, each, is) = (said, all_said_as (SaysPart asks a tasks all) (SaysPart asks b tasks all) (λ h t says. part_by_view a b asks tasks all h t are says) hs said each, is)

listed_once : (every : Bool) (a b : View) → AreOne a b → listed every a ≡ listed every b
listed_once every a b are = ap (λ (v : View). listed every v) (same_seen a b are)

-- helpers are those that are picked
map_same : {X Y : Type 0} (f g : X → Y) → ((x : X) → f x ≡ g x) → (xs : List X) → map f xs ≡ map g xs
map_same f g same [] = refl
map_same f g same (x ∷ xs) = ap₂ (λ y ys. y ∷ ys) (same x) (map_same f g same xs)

one_help : (w : World) (who others : List TaskId) (p : SeenPart) (h g : Help) → IsHelped w who others p h → IsHelped w who others p g → h ≡ g
one_help w who others p h g a b = λ i. record {
  part = (a.part ∙ sym b.part) i;
  ones = picks_once (IsEnough w who p) others h.ones g.ones a.ones b.ones i;
  twos = picks_once (AreEnough w who p) (pairs_of others) h.twos g.twos a.twos b.twos i;
  before = (a.before ∙ sym b.before) i;
}

helped_once : (w : World) (who others : List TaskId) (ps : List SeenPart) (hs gs : List Help) → AreHelped w who others ps hs → AreHelped w who others ps gs → hs ≡ gs
helped_once w who others ps hs gs (f, is, each) (g, too, every) = is ∙ (map_same f g (λ p. one_help w who others p (f p) (g p) (each p) (every p)) ps ∙ sym too)

-- who saw a part before goes by the rows of the last view
saw_same : (ws : List World) (a b : View) (ds : List TaskId) (p : SeenPart) (d : TaskId) → a.rows ≡ b.rows → SawBefore ws a ds p d → SawBefore ws b ds p d
saw_same ws a b ds p d same (i, w, at, (v, views, saw)) = (i, w, at, (v, views, rw (← same_rows a b same p) saw))

-- two that became of one: the same part and helpers, and the same are told to have seen it
record AreAlike (x y : Help) : Type 0 where
  part : x.part ≡ y.part
  ones : x.ones ≡ y.ones
  twos : x.twos ≡ y.twos
  before : (d : TaskId) → among x.before d.0 ≡ among y.before d.0

both : (ws : List World) (a b : View) (ds : List TaskId) (h x y : Help) → a.rows ≡ b.rows → Remembers ws a ds h x → Remembers ws b ds h y → AreAlike x y
both ws a b ds h x y same rx ry = record {
  part = rx.part ∙ sym ry.part;
  ones = rx.ones ∙ sym ry.ones;
  twos = rx.twos ∙ sym ry.twos;
  before = λ d. same_bool _ _
      (λ k. (ry.before d).1 (elim ((rx.before d).0 k) [ inl old ↦ inl old | inr saw ↦ inr (saw_same ws a b ds h.part d same saw) ]))
      (λ k. (rx.before d).1 (elim ((ry.before d).0 k) [ inl old ↦ inl old | inr saw ↦ inr (saw_same ws b a ds h.part d (sym same) saw) ]));
}

before_alike : (names : List (List ℕ)) (x y : Help) → AreAlike x y → (text : List ℕ) (ds : List TaskId) → before_text names x text ds ≡ before_text names y text ds
before_alike names x y are text [] = refl
before_alike names x y are text (d ∷ ds) =
    ap (λ (b : Bool). before_text names x (if b && not (among x.ones d.0) then before_more names text d else text) ds) (are.before d)
    ∙ (ap (λ (os : List TaskId). before_text names x (if among y.before d.0 && not (among os d.0) then before_more names text d else text) ds) are.ones
    ∙ before_alike names x y are (if among y.before d.0 && not (among y.ones d.0) then before_more names text d else text) ds)

-- a line by what it is made of
line_of : View → List (List ℕ) → List Task → List ℕ → SeenPart → List TaskId → List Pair → List ℕ → List ℕ
line_of v names tasks who p ones twos before =
    line_head who (part_place v p) (part_word v p) ++ line_tail (helpers_text names tasks (record { part = p; ones = ones; twos = twos; before = [] })) before

line_alike : (v : View) (names : List (List ℕ)) (tasks : List Task) (all : List TaskId) (who : List ℕ) (x y : Help) → AreAlike x y → could_line v names tasks all who x ≡ could_line v names tasks all who y
unfolding line_of
line_alike v names tasks all who x y are = λ i. line_of v names tasks who (are.part i) (are.ones i) (are.twos i) (before_alike names x y are [] all i)

-- of a set of helpers one thing is said
ways_once : (sort : Sort) (script : List ℕ) (names : List (List ℕ)) (who : List TaskId) (p : SeenPart) (made : Option ℕ) (look path : List ℕ) (set : HelpSet) (s t : List ℕ)
    → SaysWay sort script names who p made look path set s → SaysWay sort script names who p made look path set t → s ≡ t
ways_once sort script names who p made look path set s t (v, found, is) (w, other, too) =
    is ∙ (ap (λ (way : Option (List (List ℕ))). way_text (set_name names set) way (evidence sort script names who made look path set way))
    (first_once (ShowsWith sort who p script) (way_by_helpers names set path) (way_by_all names set who path) v w found other) ∙ sym too)

ways_alike : (how : Bool) (a : Asked) (v : View) (tasks : List Task) (all : List TaskId) (x y : Help) → AreAlike x y → (s t : List ℕ) → SaysWays how a v tasks all x s → SaysWays how a v tasks all y t → s ≡ t
ways_alike false a v tasks all x y are s t said too = said ∙ sym too
ways_alike true a v tasks all x y are s t (since, from, said) (other, too, more) =
    let Says : Option ℕ → HelpSet → List ℕ → Type 0 = λ n. SaysWay a.sort a.script a.names a.who y.part (made_before n) (look_at v y.part) (path_of (part_place v y.part)) in
    let when : SinceIn a.sort a.script (row_of v y.part) all y.part since = coe 0 1 (i. SinceIn a.sort a.script (row_of v (are.part i)) all (are.part i) since) from in
    let one : since ≡ other = since_once (row_of v y.part) all y.part (worlds_from (a.sort.world a.script) (a.sort.parts a.script)) 0 None since other when too in
    let same : AllSaid (Says since) (sets_of tasks y.ones y.twos) s =
    coe 0 1 (i. AllSaid (SaysWay a.sort a.script a.names a.who (are.part i) (made_before since) (look_at v (are.part i)) (path_of (part_place v (are.part i)))) (sets_of tasks (are.ones i) (are.twos i)) s) said in
    all_said_once (Says other) (ways_once a.sort a.script a.names a.who y.part (made_before other) (look_at v y.part) (path_of (part_place v y.part))) (sets_of tasks y.ones y.twos) s t
    (subst (λ (n : Option ℕ). AllSaid (Says n) (sets_of tasks y.ones y.twos) s) one same) more

part_alike : (a : Asked) (v : View) (tasks : List Task) (all : List TaskId) (x y : Help) → AreAlike x y → (s t : List ℕ) → SaysPart a v tasks all x s → SaysPart a v tasks all y t → s ≡ t
part_alike a v tasks all x y are s t (ways, is, said) (others, too, more) =
    is ∙ (ap₂ (λ (l ls : List ℕ). l ++ ls) (line_alike v a.names tasks all a.called x y are) (ways_alike a.how a v tasks all x y are ways others said more) ∙ sym too)

all_alike : (a : Asked) (v : View) (tasks : List Task) (all : List TaskId) (R S : Help → Help → Type 0) → ((h x y : Help) → R h x → S h y → AreAlike x y)
    → (hs xs ys : List Help) (s t : List ℕ) → Each R hs xs → Each S hs ys → AllSaid (SaysPart a v tasks all) xs s → AllSaid (SaysPart a v tasks all) ys t → s ≡ t
all_alike a v tasks all R S same [] xs ys s t is too p q =
    subst (λ (zs : List Help). AllSaid (SaysPart a v tasks all) zs s) is p ∙ sym (subst (λ (zs : List Help). AllSaid (SaysPart a v tasks all) zs t) too q)
all_alike a v tasks all R S same (h ∷ hs) xs ys s t (x, us, is, r, rest) (y, vs, too, o, more) p q =
    let one = subst (λ (zs : List Help). AllSaid (SaysPart a v tasks all) zs s) is p in
    let two = subst (λ (zs : List Help). AllSaid (SaysPart a v tasks all) zs t) too q in
    one.2 ∙ (ap₂ (λ (l ls : List ℕ). l ++ ls) (part_alike a v tasks all x y (same h x y r o) one.0 two.0 one.3 two.3)
    (all_alike a v tasks all R S same hs us vs one.1 two.1 rest more one.4 two.4) ∙ sym two.2)

each_length : (R : Help → Help → Type 0) (hs xs : List Help) → Each R hs xs → length xs ≡ length hs
each_length R [] xs is = ap length is
each_length R (h ∷ hs) xs (x, us, is, r, rest) = ap length is ∙ ap suc (each_length R hs us rest)

-- one text is printed of a world and of those before it
could_once : (a : Asked) (every : Bool) (ws : List World) (w : World) (s t : List ℕ) → IsCould a every ws w s → IsCould a every ws w t → s ≡ t
could_once a every ws w s t x y =
    let all = all_tasks w.tasks in
    let one = views_are_one all w x.view y.view x.all y.all in
    let are : AreOne x.view y.view = record { ours = x.all.ours ∙ sym y.all.ours; one = one } in
    let parts : x.parts ≡ y.parts =
    picks_once (Unseen w a.who) (listed every y.view) x.parts y.parts (subst (λ (ps : List SeenPart). Picks (Unseen w a.who) ps x.parts) (listed_once every x.view y.view are) x.unseen) y.unseen in
    let helps : x.helps ≡ y.helps =
    helped_once w a.who (others_of a.who all) y.parts x.helps y.helps (subst (λ (ps : List SeenPart). AreHelped w a.who (others_of a.who all) ps x.helps) parts x.helped) y.helped in
    let noted : Each (Remembers ws x.view all) y.helps x.noted = subst (λ (hs : List Help). Each (Remembers ws x.view all) hs x.noted) helps x.remembered in
    let says = by_view x.view y.view a w.tasks all x.noted s are x.says in
    let said = all_alike a y.view w.tasks all (Remembers ws x.view all) (Remembers ws y.view all) (λ h b c. both ws x.view y.view all h b c one.rows) y.helps x.noted y.noted says.0 y.says.0 noted y.remembered says.1 y.says.1 in
    let counts : length x.noted ≡ length y.noted = each_length _ y.helps x.noted noted ∙ sym (each_length _ y.helps y.noted y.remembered) in
    says.2 ∙ (ap₂ (λ (ls : List ℕ) (n : ℕ). ls ++ last_line a.called a.sees n) said counts ∙ sym y.says.2)

-- the same tasks are called the same
for_once : (sort : Sort) (every how : Bool) (word text s t : List ℕ) → CouldAtEnd sort every how word text s → CouldAtEnd sort every how word text t → s ≡ t
for_once sort every how word text s t x y =
    let same = alike _ _ _ _ x.0 y.0 x.1 y.1 in
    let by : List TaskId → List ℕ → List ℕ → Type 0 =
    λ tasks called sees. IsCould (record { sort = sort; script = text; names = sort.names text; who = tasks; called = called; sees = sees; how = how }) every (worlds_from (sort.world text) (sort.parts text)) (last_world sort text) t in
    could_once (asked sort how text (sort.names text) x.0) every (worlds_from (sort.world text) (sort.parts text)) (last_world sort text) s t x.2
    (coe 0 1 (i. by (sym same.tasks i) (sym same.names i) (sym same.sees i)) y.2)

pub one_could : (sort : Sort) (every how : Bool) (word : List ℕ) → PrintsOneText (could sort every how word)
one_could sort every how word = record {
  one = λ text s t x y. for_once sort every how word text s t x y;
  front = λ text s t x y. subst (IsFront s) (for_once sort every how word text x.0 t x.1 y) x.2;
}
