-- What is gathered of ids, one thing after another, and that it is what a set of tasks can act with.
use Rattle.std.proofs.Common.{◌≡◌, ◌∙◌, inl, inr, sym, refl, ap, ap₂, ℕ, zero, suc, ◌==◌, arith, Bool, true, false, true≢false, List, [], ◌∷◌, ◌++◌, map, subst}
use Rattle.std.specs.Prelude.{◌↔◌, ◌||◌, Option, Some, None, Result, Ok, Err, IfOk, slice_get, nat_eq}
use Rattle.hurd_machine.proofs.Common.{Control, CouldServe, GidOfRight, GidOfTask, HasGid, HasUid, Header, Holds, IdSet, IdSets, Io, IoRight, IsAmong, OwnsIt, PendingStart, Right, ServerInfo, Start, Task, TaskId, UidOfRight, UidOfTask, World, bare, eq_by_cmp, holds_gid, holds_uid, is_among, list_any, nat_cmp, owns, rights_of, start_of, task_at}
use Rattle.std.proofs.lemmas.Bool.{or_cases, or_left, or_right}
use Rattle.std.proofs.lemmas.Bool.Decides.{nat_tests}
use Rattle.std.proofs.lemmas.List.Folds.{list_any-append}
use Rattle.std.specs.Cmp.{unsigned_tied}
use Rattle.std.specs.FinSet as set
use Rattle.hurd_creds.specs.Access.{is_root}
use Rattle.hurd_ports.specs.declared.table.Port.{Port}
use Rattle.hurd_sight.specs.Reach.{Gains, Gathers, ReachIsGathered, Serves, among, holds_at, right_holds, serves, some_holds, task_holds, Reaches}
use Rattle.std.proofs.Math.Bool.{or-false, or_assoc}
use Rattle.hurd_sight.proofs.WalkLaws.{Walk}
use Rattle.hurd_machine.proofs.Holders.{any_among}

pub if_ok : {T E : Type 0} (r : Result T E) {P Q : T → Type 0} → ((x : T) → P x → Q x) → IfOk r P → IfOk r Q
if_ok (Ok x) f p = f x p
if_ok (Err e) f p = tt

-- whether there is none, by whether it is known that the length is 0
pub is_none : (b : Bool) (n : ℕ) → ((b ≡ true) ↔ (n ≡ 0)) → b ≡ (n == 0)
is_none true n iff = sym (rw (iff.0 refl) refl)
is_none false zero iff = absurd (true≢false (sym (iff.1 refl)))
is_none false (suc n) iff = sym (grind (arith, nat_tests))

-- one step after another

pub gains_none : (ids : IdSets) → Gains ids ids (λ holds. false)
gains_none ids = record { uids = λ u. sym (or-false (holds_uid ids u)); gids = λ g. sym (or-false (holds_gid ids g)) }

pub gains_both : {a b c : IdSets} {P Q : (IdSets → Bool) → Bool} → Gains a b P → Gains b c Q → Gains a c (λ holds. P holds || Q holds)
gains_both {a} {b} {c} {P} {Q} x y = record {
  uids = λ u. y.uids u ∙ (ap (λ (t : Bool). t || Q (λ i. holds_uid i u)) (x.uids u) ∙ or_assoc (holds_uid a u) (P (λ i. holds_uid i u)) (Q (λ i. holds_uid i u)));
  gids = λ g. y.gids g ∙ (ap (λ (t : Bool). t || Q (λ i. holds_gid i g)) (x.gids g) ∙ or_assoc (holds_gid a g) (P (λ i. holds_gid i g)) (Q (λ i. holds_gid i g)));
}

pub gains_as : {a b : IdSets} {P : (IdSets → Bool) → Bool} (Q : (IdSets → Bool) → Bool) → ((holds : IdSets → Bool) → P holds ≡ Q holds) → Gains a b P → Gains a b Q
gains_as {a} {b} {P} Q same x = record {
  uids = λ u. x.uids u ∙ ap (λ (t : Bool). holds_uid a u || t) (same (λ i. holds_uid i u));
  gids = λ g. x.gids g ∙ ap (λ (t : Bool). holds_gid a g || t) (same (λ i. holds_gid i g));
}

-- ids as lists

abbrev listed_ids : List ℕ → List ℕ → IdSets
listed_ids us gs = record { uids = set.from_list us; gids = set.from_list gs }

-- ids that were put into both lists
pub gains_ids : (us vs gs hs uids gids : List ℕ) (ids : IdSets) → set.from_list {R = nat_cmp} uids ≡ ids.uids → set.from_list {R = nat_cmp} gids ≡ ids.gids
    → ((u : ℕ) → is_among vs u ≡ (is_among us u || is_among uids u)) → ((g : ℕ) → is_among hs g ≡ (is_among gs g || is_among gids g))
    → Gains (listed_ids us gs) (listed_ids vs hs) (λ holds. holds ids)
gains_ids us vs gs hs uids gids ids eu eg pu pg = record { uids = λ u. told us vs uids ids.uids u eu (pu u); gids = λ g. told gs hs gids ids.gids g eg (pg g) }
  where
    told : (xs ys zs : List ℕ) (s : IdSet) (u : ℕ) → set.from_list zs ≡ s → is_among ys u ≡ (is_among xs u || is_among zs u)
        → set.contains (set.from_list {R = nat_cmp} ys) u ≡ (set.contains (set.from_list {R = nat_cmp} xs) u || set.contains s u)
    told xs ys zs s u e p =
        set.contains-from_list_nat ys u
        ∙ (p
        ∙ ap₂ (λ (a b : Bool). a || b) (sym (set.contains-from_list_nat xs u)) (sym (set.contains-from_list_nat zs u) ∙ ap (λ (t : IdSet). set.contains t u) e))

-- a walk that adds what each of a list holds
pub gains_each : {X : Type 0} (f : (IdSets → Bool) → X → Bool) → Walk (λ (xs : List X) (a b : IdSets). Gains a b (λ holds. list_any (f holds) xs)) (λ (x : X) (b c : IdSets). Gains b c (λ holds. f holds x))
gains_each f = record {
  more = λ xs x a b c before step.
      gains_as (λ holds. list_any (f holds) (xs ++ x ∷ [])) (λ holds. sym (list_any-append (f holds) xs (x ∷ []) ∙ ap (λ (t : Bool). list_any (f holds) xs || t) (or-false (f holds x)))) (gains_both before step);
}

-- all rights of a task: its pending start holds no id
pub task_gains : {a b : IdSets} (x : Task)
    → Gains a b (λ holds. (holds x.ids || list_any (λ (p : Port). right_holds holds p.right) x.ports) || list_any (right_holds holds) x.inbox)
    → Gains a b (λ holds. task_holds holds x)
task_gains x g = gains_as (λ holds. task_holds holds x) same g
  where
    any_rights : (holds : IdSets → Bool) (ps : List Port) (rs : List Right)
        → list_any (right_holds holds) (map (λ p. p.right) ps ++ rs) ≡ (list_any (λ (p : Port). right_holds holds p.right) ps || list_any (right_holds holds) rs)
    any_rights holds [] rs = refl
    any_rights holds (p ∷ ps) rs = ap (λ (b : Bool). right_holds holds p.right || b) (any_rights holds ps rs) ∙ sym (or_assoc (right_holds holds p.right) _ _)

    no_start : (holds : IdSets → Bool) (s : Option PendingStart) (rs : List Right) → list_any (right_holds holds) (start_of s ++ rs) ≡ list_any (right_holds holds) rs
    no_start holds None rs = refl
    no_start holds (Some s) rs = refl

    same : (holds : IdSets → Bool) → ((holds x.ids || list_any (λ (p : Port). right_holds holds p.right) x.ports) || list_any (right_holds holds) x.inbox) ≡ task_holds holds x
    same holds =
        or_assoc (holds x.ids) _ _
        ∙ ap (λ (b : Bool). holds x.ids || b) (sym (no_start holds x.pending (map (λ p. p.right) x.ports ++ x.inbox) ∙ any_rights holds x.ports x.inbox))

-- one found, and one to be found

pub any_found : {X : Type 0} (f : X → Bool) (xs : List X) → list_any f xs ≡ true → (x : X) × IsAmong x xs × (f x ≡ true)
any_found f [] e = absurd (true≢false (sym e))
any_found f (x ∷ xs) e = elim (or_cases (f x) (list_any f xs) e) [
  | inl here ↦ (x, inl refl, here)
  | inr there ↦ let rest = any_found f xs there in (rest.0, inr rest.1, rest.2)
]

nat_eq-is : (a b : ℕ) → nat_eq a b ≡ true → a ≡ b
nat_eq-is a b e = grind (arith, nat_tests)

nat_eq-itself : (a : ℕ) → nat_eq a a ≡ true
nat_eq-itself a = grind (arith, nat_tests)

-- a task of a list, by its number
pub listed_task : (tasks : List TaskId) (t : ℕ) → among tasks t ≡ true → (x : TaskId) × IsAmong x tasks × (x.0 ≡ t)
listed_task tasks t e = let found = any_found (λ (x : TaskId). nat_eq x.0 t) tasks e in (found.0, found.1, nat_eq-is found.0.0 t found.2)

pub ours : (tasks : List TaskId) (x : TaskId) → IsAmong x tasks → among tasks x.0 ≡ true
ours tasks x here = any_among (λ (y : TaskId). nat_eq y.0 x.0) x tasks here (nat_eq-itself x.0)

-- who of some tasks passes a test of ids: a task itself, or a right of one
data Holder (S : ℕ → Bool) (w : World) (holds : IdSets → Bool) : Type 0 where
  ByTask : (t : ℕ) → S t ≡ true → (x : Task) → task_at w t ≡ Some x → holds x.ids ≡ true → Holder S w holds
  ByRight : (r : IoRight) → Holds S w (Io r) → holds r.ids ≡ true → Holder S w holds

module _ (w : World) (tasks : List TaskId) (holds : IdSets → Bool) where
  holder_from : some_holds holds w.tasks tasks ≡ true → Holder (among tasks) w holds
  holder_from e =
      let found = any_found (λ (t : TaskId). holds_at holds (slice_get w.tasks t.0)) tasks e in
      at_task found.0 found.1 (slice_get w.tasks found.0.0) refl found.2
    where
      by_right : (t : TaskId) → IsAmong t tasks → (x : Task) → slice_get w.tasks t.0 ≡ Some x → (r : Right) → IsAmong r (rights_of x) → right_holds holds r ≡ true
          → Holder (among tasks) w holds
      by_right t here x is (Io r) there h = ByRight r (record { task = t.0; ours = ours tasks t here; seat = x; is_task = is; here = there }) h
      by_right t here x is (Control s) there h = absurd (true≢false (sym h))
      by_right t here x is (Start n) there h = absurd (true≢false (sym h))

      at_task : (t : TaskId) → IsAmong t tasks → (o : Option Task) → slice_get w.tasks t.0 ≡ o → holds_at holds o ≡ true → Holder (among tasks) w holds
      at_task t here None is h = absurd (true≢false (sym h))
      at_task t here (Some x) is h = elim (or_cases (holds x.ids) (list_any (right_holds holds) (rights_of x)) h) [
        | inl own ↦ ByTask t.0 (ours tasks t here) x is own
        | inr right ↦ let found = any_found (right_holds holds) (rights_of x) right in by_right t here x is found.0 found.1 found.2
      ]

  there : (t : ℕ) → among tasks t ≡ true → (x : Task) → slice_get w.tasks t ≡ Some x → task_holds holds x ≡ true → some_holds holds w.tasks tasks ≡ true
  there t mine x is h =
      let found = listed_task tasks t mine in
      let at : slice_get w.tasks found.0.0 ≡ Some x = ap (slice_get w.tasks) found.2 ∙ is in
      any_among (λ (q : TaskId). holds_at holds (slice_get w.tasks q.0)) found.0 tasks found.1 (ap (holds_at holds) at ∙ h)

  holder_to : Holder (among tasks) w holds → some_holds holds w.tasks tasks ≡ true
  holder_to (ByTask t mine x is h) = there t mine x is (or_left (holds x.ids) (list_any (right_holds holds) (rights_of x)) h)
  holder_to (ByRight r has h) =
      there has.task has.ours has.seat has.is_task
      (or_right (holds has.seat.ids) (list_any (right_holds holds) (rights_of has.seat)) (any_among (right_holds holds) (Io r) (rights_of has.seat) has.here h))

pub reach_is_gathered : ReachIsGathered
reach_is_gathered w tasks ids g = record {
  uids = λ u. (λ e. uid_of (holder_from w tasks (λ i. holds_uid i u) (sym (g.uids u) ∙ e)), λ has. g.uids u ∙ holder_to w tasks (λ i. holds_uid i u) (of_uid has));
  gids = λ q. (λ e. gid_of (holder_from w tasks (λ i. holds_gid i q) (sym (g.gids q) ∙ e)), λ has. g.gids q ∙ holder_to w tasks (λ i. holds_gid i q) (of_gid has));
}
  where
    uid_of : {S : ℕ → Bool} {v : World} {u : ℕ} → Holder S v (λ i. holds_uid i u) → HasUid S v u
    uid_of (ByTask t mine x is h) = UidOfTask t mine x is h
    uid_of (ByRight r has h) = UidOfRight r has h

    of_uid : {S : ℕ → Bool} {v : World} {u : ℕ} → HasUid S v u → Holder S v (λ i. holds_uid i u)
    of_uid (UidOfTask t mine x is h) = ByTask t mine x is h
    of_uid (UidOfRight r has h) = ByRight r has h

    gid_of : {S : ℕ → Bool} {v : World} {q : ℕ} → Holder S v (λ i. holds_gid i q) → HasGid S v q
    gid_of (ByTask t mine x is h) = GidOfTask t mine x is h
    gid_of (ByRight r has h) = GidOfRight r has h

    of_gid : {S : ℕ → Bool} {v : World} {q : ℕ} → HasGid S v q → Holder S v (λ i. holds_gid i q)
    of_gid (GidOfTask t mine x is h) = ByTask t mine x is h
    of_gid (GidOfRight r has h) = ByRight r has h

-- from no ids, what some tasks hold
pub gathered : (ts : List Task) (tasks : List TaskId) (a b : IdSets) → ((u : ℕ) → holds_uid a u ≡ false) → ((g : ℕ) → holds_gid a g ≡ false)
    → Gains a b (λ holds. some_holds holds ts tasks) → Gathers ts tasks b
gathered ts tasks a b no_uid no_gid g = record {
  uids = λ u. g.uids u ∙ ap (λ (t : Bool). t || some_holds (λ i. holds_uid i u) ts tasks) (no_uid u);
  gids = λ q. g.gids q ∙ ap (λ (t : Bool). t || some_holds (λ i. holds_gid i q) ts tasks) (no_gid q);
}

pub none_listed : (ks : List ℕ) → ks ≡ [] → (u : ℕ) → set.contains (set.from_list {R = nat_cmp} ks) u ≡ false
none_listed ks e u = ap (λ (xs : List ℕ). set.contains (set.from_list {R = nat_cmp} xs) u) e ∙ set.contains-empty nat_cmp u

-- uids that are a server's serve it where one of them is held, or 0
serves_by : (ids served : IdSets) (us : List ℕ) → ((u : ℕ) → holds_uid served u ≡ is_among us u) → ((holds_uid ids 0 || list_any (holds_uid ids) us) ≡ true) ↔ Serves ids served
serves_by ids served us same = (to, from)
  where
    to : (holds_uid ids 0 || list_any (holds_uid ids) us) ≡ true → Serves ids served
    to is = elim (or_cases (holds_uid ids 0) (list_any (holds_uid ids) us) is) [
      | inl root ↦ (0, root, inr refl)
      | inr any ↦ let it = any_found (holds_uid ids) us any in (it.0, it.2, inl (same it.0 ∙ any_among (λ (y : ℕ). nat_eq y it.0) it.0 us it.1 (nat_eq-itself it.0)))
    ]

    from : Serves ids served → (holds_uid ids 0 || list_any (holds_uid ids) us) ≡ true
    from (u, holds, inr root) = or_left (holds_uid ids 0) (list_any (holds_uid ids) us) (ap (holds_uid ids) (sym root) ∙ holds)
    from (u, holds, inl has) =
        let it = any_found (λ (y : ℕ). nat_eq y u) us (sym (same u) ∙ has) in
        or_right (holds_uid ids 0) (list_any (holds_uid ids) us) (any_among (holds_uid ids) it.0 us it.1 (ap (holds_uid ids) (nat_eq-is it.0 u it.2) ∙ holds))

-- where uid 0 isn't held, one of a server's has to be
pub serves_one : (ids served : IdSets) (us : List ℕ) (b : Bool) → set.from_list {R = nat_cmp} us ≡ served.uids → holds_uid ids 0 ≡ false → b ≡ list_any (holds_uid ids) us
    → (b ≡ true) ↔ Serves ids served
serves_one ids served us b same zeroless e =
    let by = serves_by ids served us (λ u. ap (λ (s : IdSet). set.contains s u) (sym same) ∙ set.contains-from_list_nat us u) in
    let told : b ≡ (holds_uid ids 0 || list_any (holds_uid ids) us) = rw zeroless e in
    (λ is. by.0 (sym told ∙ is), λ s. told ∙ by.1 s)

-- one of a server's uids is held, or 0 is, exactly where the test says so
pub serves_is : (ids served : IdSets) → (serves ids served ≡ true) ↔ Serves ids served
serves_is ids served = serves_by ids served (set.items served.uids) (λ u. set.contains-items served.uids u ∙ tied u (set.items served.uids))
  where
    tied : (u : ℕ) (us : List ℕ) → list_any (eq_by_cmp nat_cmp u) us ≡ is_among us u
    tied u [] = refl
    tied u (y ∷ us) = let turned : nat_eq u y ≡ nat_eq y u = grind (arith, nat_tests) in ap₂ (λ (a b : Bool). a || b) (unsigned_tied u y ∙ turned) (tied u us)

-- by what is reached: who owns a node, and which servers could be served

pub owns_is : {S : ℕ → Bool} {w : World} {ids : IdSets} → Reaches S w ids → (h : Header) → (owns ids (bare h) ≡ true) ↔ OwnsIt S w h
owns_is {S} {w} {ids} r h = (
  λ e. elim (or_cases (holds_uid ids h.owner) (is_root ids) e) [ inl own ↦ (h.owner, (r.uids h.owner).0 own, inl refl) | inr root ↦ (0, (r.uids 0).0 root, inr refl) ],
  λ o. elim o.2 [
    | inl own ↦ or_left (holds_uid ids h.owner) (is_root ids) ((r.uids h.owner).1 (subst (HasUid S w) own o.1))
    | inr root ↦ or_right (holds_uid ids h.owner) (is_root ids) ((r.uids 0).1 (subst (HasUid S w) root o.1))
  ],
)

pub served_is : {S : ℕ → Bool} {w : World} {ids : IdSets} → Reaches S w ids → (i : ServerInfo) → (serves ids i.ids ≡ true) ↔ CouldServe S w i
served_is {S} {w} {ids} r i = (λ t. let s = (serves_is ids i.ids).0 t in (s.0, (r.uids s.0).0 s.1, s.2), λ c. (serves_is ids i.ids).1 (c.0, (r.uids c.0).1 c.1, c.2))

-- two tests of one thing answer alike
pub one_test : {P : Type 0} (a b : Bool) → (a ≡ true) ↔ P → (b ≡ true) ↔ P → a ≡ b
one_test true b x y = sym (y.1 (x.0 refl))
one_test false true x y = x.1 (y.0 refl)
one_test false false x y = refl
