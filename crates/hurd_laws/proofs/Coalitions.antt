-- What a set of tasks comes to see in a run of a larger set, that set saw before, or made.
use Rattle.std.proofs.Common.{◌≡◌, ◌∙◌, ℕ, zero, suc, ◌<◌, ◌≤◌, Bool, true, false, not, List, [], ◌∷◌, ◌++◌, sym, refl, ap, ap₂, subst, inl, inr, arith}
use Rattle.std.specs.Prelude.{if◌then◌else◌}
use Rattle.hurd_machine.proofs.Common.{AttrOf, Below, BodyOf, Call, EmptyOf, EndsOf, Name, OpenOf, OptionsOf, Part, Reply, SameView, Sees, Sound, TaskOf, TextOf, TotalOf, UsersOf, World, part}
use Rattle.hurd_machine.proofs.Confine.{NewPart}
use Rattle.hurd_machine.proofs.CallLaws as call
use Rattle.hurd_laws.specs.Step.{reply_of, after}
use Rattle.hurd_laws.specs.Runs.{TaskCall, run, replies_to, Quiet, TouchesUnseen}
use Rattle.hurd_laws.specs.Laws.{IsOld}
use Rattle.hurd_laws.proofs.Assembled.{others_unseen, own_from_view, stays_sound}
use Rattle.hurd_laws.specs.Served.{kept}
use Rattle.hurd_laws.proofs.Headline.{view_settled}
use Rattle.hurd_laws.proofs.Served.{served_isolated}
use Rattle.hurd_laws.proofs.StaysConfined.{confined_run}
use Rattle.hurd_laws.proofs.Rows.{call_laws}
use Rattle.hurd_machine.specs.Sight.{Within}
use Rattle.hurd_machine.proofs.Larger.{sees_more, views_shrink}
use Rattle.hurd_laws.specs.Coalitions.{OnlyTogether, OnlyMade, Guards, Without, NeverWithout, chosen, DifferIn, NeverTellsWithout}
use Rattle.hurd_laws.specs.ComesToSee.{AllOf}
use Rattle.hurd_laws.specs.Served.{Served, BoundedRun}

-- what has a name that was given is not new to anybody
old_new : (G : ℕ → Bool) (w : World) (p : Part) → IsOld w p → NewPart G w p → ⊥
old_new G w (AttrOf n) old new = new.1 old
old_new G w (EmptyOf n) old new = new.1 old
old_new G w (BodyOf n) old new = new.1 old
old_new G w (EndsOf n) old new = new.1 old
old_new G w (OpenOf n) old new = new.1 old
old_new G w (OptionsOf n) old new = new.1 old
old_new G w (TextOf n) old new = new.1 old
old_new G w (UsersOf n) old new = new.1 old
old_new G w (TotalOf n) old new = new.1 old
old_new G w (TaskOf t) old new = new

-- a name that was given stays so
still_given : (w : World) (t : ℕ) (c : Call) (n : Name) → Sound w → Below w n → Below (after w t c) n
still_given w t c n s below y at =
    let x = call.names_grow t _ _ (call_laws t c).laws w s n.task.0 y at in
    let low : n.count < x.0.made = below x.0 x.1 in
    let high : x.0.made ≤ y.made = x.2 in
    omega arith

still_old : (w : World) (t : ℕ) (c : Call) (p : Part) → Sound w → IsOld w p → IsOld (after w t c) p
still_old w t c (AttrOf n) s old = still_given w t c n s old
still_old w t c (EmptyOf n) s old = still_given w t c n s old
still_old w t c (BodyOf n) s old = still_given w t c n s old
still_old w t c (EndsOf n) s old = still_given w t c n s old
still_old w t c (OpenOf n) s old = still_given w t c n s old
still_old w t c (OptionsOf n) s old = still_given w t c n s old
still_old w t c (TextOf n) s old = still_given w t c n s old
still_old w t c (UsersOf n) s old = still_given w t c n s old
still_old w t c (TotalOf n) s old = still_given w t c n s old
still_old w t c (TaskOf q) s old = tt

-- one step
closed_one : (G : ℕ → Bool) (w : World) (m : TaskCall) (p : Part) → Sound w → (G m.task ≡ false → TouchesUnseen G w m.task m.call) → IsOld w p → Sees G (after w m.task m.call) p → Sees G w p
closed_one G w m p s quiet old sees = go (G m.task) refl
  where
    go : (b : Bool) → G m.task ≡ b → Sees G w p
    go true ours = elim (call.sees_closed m.task _ _ (call_laws m.task m.call).laws G w s ours p sees) [ inl saw ↦ saw | inr new ↦ absurd (old_new G w p old new) ]
    go false out = ((others_unseen G w m.task m.call s out (quiet out)).seen p).1 sees

-- a run
closed_run : (G : ℕ → Bool) (w : World) (ms : List TaskCall) (p : Part) → Sound w → Quiet G w ms → IsOld w p → Sees G (run w ms) p → Sees G w p
closed_run G w [] p s quiet old sees = sees
closed_run G w (m ∷ ms) p s quiet old sees =
    closed_one G w m p s quiet.0 old (closed_run G (after w m.task m.call) ms p (stays_sound w m.task m.call s) quiet.1 (still_old w m.task m.call p s old) sees)

pub only_together : OnlyTogether
only_together S G w ms p s more quiet old sees = closed_run G w ms p s quiet old (sees_more S G (run w ms) p more sees)

-- of calls that were served, whatever memory was refused
pub served_bounded : (w : World) (ms : List TaskCall) (rs : List Reply) (x : World) → Served w ms rs x → Sound w → BoundedRun w ms rs x
served_bounded w ms rs x h s S G p more quiet old sees =
    let same = (served_isolated w ms rs x h s G w (kept ms rs) s (view_settled G w w refl (λ q k. refl)) refl quiet quiet).1 in
    closed_run G w (kept ms rs) p s quiet old ((same.seen p).0 (sees_more S G x p more sees))

pub only_made : OnlyMade
only_made S G w ms n s more quiet seen = confined_run G w ms n s quiet (sees_more S G (run w ms) (AttrOf n) more seen)

-- who isn't of A is of the others
others : (A G : ℕ → Bool) → Without A G → Within G (λ t. not (A t))
others A G out t ours = ap not (out t ours)

pub never_without : NeverWithout
never_without S G A w ms p s more out guards old quiet sees =
    guards (sees_more G (λ t. not (A t)) w p (others A G out) (only_together S G w ms p s more quiet old sees))

-- two worlds that differ in what A guards show those without A the same
apart_unseen : (G A : ℕ → Bool) (v w : World) (hidden : Part → Bool) → Without A G → DifferIn hidden v w → ((p : Part) → hidden p ≡ true → Guards A v p) → SameView G v w
apart_unseen G A v w hidden out d guards = view_settled G v w d.tasks (λ p sees. go p sees (hidden p) refl)
  where
    go : (p : Part) → Sees G v p → (b : Bool) → hidden p ≡ b → part w p ≡ part v p
    go p sees true is = absurd (guards p is (sees_more G (λ t. not (A t)) v p (others A G out) sees))
    go p sees false is = d.parts p is

-- where G sees the same, it chooses the same
module _ (G : ℕ → Bool) (next : List Reply → TaskCall) (ours : (rs : List Reply) → G (next rs).task ≡ true) where
  same_calls : (k : ℕ) (told : List Reply) (v w : World) → Sound v → Sound w → SameView G v w → chosen k next told v ≡ chosen k next told w
  same_calls zero told v w sv sw x = refl
  same_calls (suc k) told v w sv sw x =
      let m : TaskCall = next told in
      let own = own_from_view G v w m.task m.call sv sw (ours told) x in
      ap (λ ms. m ∷ ms) (
      same_calls k (told ++ reply_of v m.task m.call ∷ []) (after v m.task m.call) (after w m.task m.call) (stays_sound v m.task m.call sv) (stays_sound w m.task m.call sw) own.1
      ∙ ap (λ r. chosen k next (told ++ r ∷ []) (after w m.task m.call)) (sym own.0)
      )

-- all calls are of tasks of G
chosen_ours : (G : ℕ → Bool) (next : List Reply → TaskCall) → ((rs : List Reply) → G (next rs).task ≡ true) → (k : ℕ) (told : List Reply) (w : World) → AllOf G (chosen k next told w)
chosen_ours G next ours zero told w = tt
chosen_ours G next ours (suc k) told w = let m : TaskCall = next told in (ours told, chosen_ours G next ours k (told ++ reply_of w m.task m.call ∷ []) (after w m.task m.call))

-- in a run of G's calls from two worlds that G sees alike, some of it are told the same
module _ (S G : ℕ → Bool) (more : Within S G) where
  told_alike : (ms : List TaskCall) (v w : World) → Sound v → Sound w → AllOf G ms → SameView G v w → (replies_to S v ms ≡ replies_to S w ms) × SameView G (run v ms) (run w ms)
  told_alike [] v w sv sw all x = (refl, x)
  told_alike (m ∷ ms) v w sv sw all x =
      let own = own_from_view G v w m.task m.call sv sw all.0 x in
      let rest = told_alike ms (after v m.task m.call) (after w m.task m.call) (stays_sound v m.task m.call sv) (stays_sound w m.task m.call sw) all.1 own.1 in
      (go (S m.task) (sym own.0) rest.0, rest.1)
    where
      go : (b : Bool) {r q : Reply} {rs qs : List Reply} → r ≡ q → rs ≡ qs → (if b then r ∷ rs else rs) ≡ (if b then q ∷ qs else qs)
      go true e es = ap₂ ◌∷◌ e es
      go false e es = es

pub never_tells_without : NeverTellsWithout
never_tells_without S G A v w hidden k next sv sw more out d guards ours =
    let x : SameView G v w = apart_unseen G A v w hidden out d guards in
    let calls = same_calls G next ours k [] v w sv sw x in
    let alike = told_alike S G more (chosen k next [] v) v w sv sw (chosen_ours G next ours k [] v) x in
    record {
      calls = calls;
      told = alike.0 ∙ ap (replies_to S w) calls;
      sees = subst (λ ms. SameView S (run v (chosen k next [] v)) (run w ms)) calls (views_shrink S G (run v (chosen k next [] v)) (run w (chosen k next [] v)) more alike.1);
    }
