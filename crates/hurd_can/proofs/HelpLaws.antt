-- Helpers that are tried one after another, and what is noted of them.
use Rattle.std.proofs.Common.{◌≡◌, inl, inr, ℕ, suc, zero, Bool, true, false, true≢false, List, [], ◌∷◌, ◌+◌, ◌-◌, ◌<◌, add-one, arith, length, get_or, Some, Result, Ok, Err, map, refl, sym, ap, subst, ◌∙◌}
use Rattle.std.specs.Prelude.{OnOk, ◌↔◌, ◌&&◌, ◌++◌, if◌then◌else◌, not, drop, slice_get, slice_set, take}
use Rattle.std.proofs.lemmas.Bool.{cases_Bool}
use Rattle.std.proofs.lemmas.List.{length-drop}
use Rattle.std.proofs.Math.Seq.{take-length}
use Rattle.std.specs.declared.alloc.AllocError.{AllocError}
use Rattle.hurd_creds.specs.declared.name.TaskId.{TaskId}
use Rattle.hurd_machine.specs.World.{IsAmong, World, nodes_of}
use Rattle.hurd_machine.specs.Sight.{Sees}
use Rattle.hurd_sight.specs.Looks.{Looks, sees_with}
use Rattle.hurd_sight.specs.Parts.{part_of}
use Rattle.hurd_sight.specs.Reach.{among}
use Rattle.hurd_sight.specs.declared.looks.Sight.{Sight}
use Rattle.hurd_sight.specs.declared.parts.SeenPart.{SeenPart}
use Rattle.hurd_sight.proofs.PartLaws.{parts_are_seen}
use Rattle.hurd_can.specs.Help.{AreEnough, AreHelped, Help, IsEnough, IsHelped, Picks, pairs_of, with_each}
use Rattle.hurd_can.specs.Noting.{AddsOnes, AddsTwos, AreEnoughFor, IsExact, lacks, noted_one, noted_two, unhelped}
use Rattle.hurd_can.specs.declared.helped.Pair.{Pair}
use Rattle.hurd_can.proofs.PickLaws.{holds_picked, pair_among, picked_holds, picks_append, picks_as, picks_none, picks_one}

-- lists

pub map_map : {X Y Z : Type 0} (f : X → Y) (g : Y → Z) (xs : List X) → map g (map f xs) ≡ map (λ x. g (f x)) xs
map_map f g [] = refl
map_map f g (x ∷ xs) = ap (λ l. g (f x) ∷ l) (map_map f g xs)

pub map_same : {X : Type 0} (xs : List X) → xs ≡ map (λ x. x) xs
map_same [] = refl
map_same (x ∷ xs) = ap (λ l. x ∷ l) (map_same xs)

pub append_none : {X : Type 0} (xs : List X) → xs ≡ xs ++ []
append_none [] = refl
append_none (x ∷ xs) = ap (λ l. x ∷ l) (append_none xs)

pub append_append : {X : Type 0} (xs ys zs : List X) → (xs ++ ys) ++ zs ≡ xs ++ (ys ++ zs)
append_append [] ys zs = refl
append_append (x ∷ xs) ys zs = ap (λ l. x ∷ l) (append_append xs ys zs)

-- one thing more is taken
pub take_more : {X : Type 0} (xs : List X) (i : ℕ) (x : X) → slice_get xs i ≡ Some x → take (suc i) xs ≡ take i xs ++ x ∷ []
take_more [] i x h = absurd (cc)
take_more (y ∷ ys) zero x h = let same : y ≡ x = cc in rw same refl
take_more (y ∷ ys) (suc i) x h = ap (λ l. y ∷ l) (take_more ys i x h)

-- of a list one thing more was changed
pub map_more : {X : Type 0} (f : X → X) (xs : List X) (i : ℕ) (x : X) → slice_get (map f (take i xs) ++ drop i xs) i ≡ Some x
    → slice_set (map f (take i xs) ++ drop i xs) i (f x) ≡ map f (take (suc i) xs) ++ drop (suc i) xs
map_more f [] zero x h = absurd (cc)
map_more f [] (suc i) x h = absurd (cc)
map_more f (z ∷ zs) zero x h = let same : z ≡ x = cc in rw same refl
map_more f (z ∷ zs) (suc i) x h = ap (λ l. f z ∷ l) (map_more f zs i x h)

-- a look shows what those see, and nothing else
pub look_exact : (w : World) (tasks : List TaskId) (v : Sight) → Looks (among tasks) w v → IsExact w tasks (sees_with (nodes_of w) v)
look_exact w tasks v looks p = parts_are_seen (among tasks) w v p looks

-- ones

module _ (w : World) (who : List TaskId) where
  -- nobody was tried
  pub adds_nobody : (old : List Help) → AddsOnes w who [] old old
  adds_nobody old = record { grown = λ h. h; is = map_same old; part = λ h. refl; twos = λ h. refl; before = λ h. refl; ones = λ h. ([], append_none h.ones, refl) }

  -- one was tried
  pub adds_one : (d : TaskId) (sees : SeenPart → Bool) → IsExact w (who ++ d ∷ []) sees → (old : List Help) → AddsOnes w who (d ∷ []) old (map (noted_one sees d) old)
  adds_one d sees exact old = record {
    grown = noted_one sees d;
    is = refl;
    part = λ h. part_by h (sees h.part);
    twos = λ h. twos_by h (sees h.part);
    before = λ h. before_by h (sees h.part);
    ones = λ h. ones_by h (sees h.part) refl;
  }
    where
      noted : Help → Bool → Help
      noted h b = if b then record h { ones = h.ones ++ d ∷ [] } else h

      part_by : (h : Help) (b : Bool) → (noted h b).part ≡ h.part
      part_by h true = refl
      part_by h false = refl

      before_by : (h : Help) (b : Bool) → (noted h b).before ≡ h.before
      before_by h true = refl
      before_by h false = refl

      twos_by : (h : Help) (b : Bool) → (noted h b).twos ≡ h.twos
      twos_by h true = refl
      twos_by h false = refl

      ones_by : (h : Help) (b : Bool) → sees h.part ≡ b → (more : List TaskId) × ((noted h b).ones ≡ h.ones ++ more) × Picks (IsEnough w who h.part) (d ∷ []) more
      ones_by h true is = (d ∷ [], refl, picks_one (IsEnough w who h.part) d ((exact h.part).0 is))
      ones_by h false is = ([], append_none h.ones, picks_none (IsEnough w who h.part) d (λ seen. true≢false (sym ((exact h.part).1 seen) ∙ is)))

  -- some were tried, and next more
  pub adds_ones : (ds es : List TaskId) (old mid new : List Help) → AddsOnes w who ds old mid → AddsOnes w who es mid new → AddsOnes w who (ds ++ es) old new
  adds_ones ds es old mid new a b = record {
    grown = λ h. b.grown (a.grown h);
    is = b.is ∙ (ap (map b.grown) a.is ∙ map_map a.grown b.grown old);
    part = λ h. b.part (a.grown h) ∙ a.part h;
    twos = λ h. b.twos (a.grown h) ∙ a.twos h;
    before = λ h. b.before (a.grown h) ∙ a.before h;
    ones = λ h.
        let first = a.ones h in
        let next = b.ones (a.grown h) in
        let picks : Picks (IsEnough w who h.part) es next.0 = subst (λ (p : SeenPart). Picks (IsEnough w who p) es next.0) (a.part h) next.2 in
        (first.0 ++ next.0, next.1 ∙ (ap (λ l. l ++ next.0) first.1 ∙ append_append h.ones first.0 next.0), picks_append (IsEnough w who h.part) ds es first.0 next.0 first.2 picks);
  }

  -- pairs

  pub adds_no_pair : (old : List Help) → AddsTwos w who [] old old
  adds_no_pair old = record { grown = λ h. h; is = map_same old; part = λ h. refl; ones = λ h. refl; before = λ h. refl; twos = λ h. ([], append_none h.twos, refl) }

  pub adds_two : (pair : Pair) (sees : SeenPart → Bool) → IsExact w (who ++ pair.one ∷ pair.other ∷ []) sees → (old : List Help) → AddsTwos w who (pair ∷ []) old (map (noted_two sees pair) old)
  adds_two pair sees exact old = record {
    grown = noted_two sees pair;
    is = refl;
    part = λ h. part_by h (lacks h pair && sees h.part);
    ones = λ h. ones_by h (lacks h pair && sees h.part);
    before = λ h. before_by h (lacks h pair && sees h.part);
    twos = λ h. twos_by h (lacks h pair) (sees h.part) refl refl;
  }
    where
      noted : Help → Bool → Help
      noted h b = if b then record h { twos = h.twos ++ pair ∷ [] } else h

      part_by : (h : Help) (b : Bool) → (noted h b).part ≡ h.part
      part_by h true = refl
      part_by h false = refl

      before_by : (h : Help) (b : Bool) → (noted h b).before ≡ h.before
      before_by h true = refl
      before_by h false = refl

      ones_by : (h : Help) (b : Bool) → (noted h b).ones ≡ h.ones
      ones_by h true = refl
      ones_by h false = refl

      twos_by : (h : Help) (b c : Bool) → lacks h pair ≡ b → sees h.part ≡ c
          → (more : List Pair) × ((noted h (b && c)).twos ≡ h.twos ++ more) × Picks (AreEnoughFor w who h) (pair ∷ []) more
      twos_by h true true free is = (pair ∷ [], refl, picks_one (AreEnoughFor w who h) pair (record { lacking = free; both = (exact h.part).0 is }))
      twos_by h true false free is = ([], append_none h.twos, picks_none (AreEnoughFor w who h) pair (λ e. true≢false (sym ((exact h.part).1 e.both) ∙ is)))
      twos_by h false c free is = ([], append_none h.twos, picks_none (AreEnoughFor w who h) pair (λ e. true≢false (sym e.lacking ∙ free)))

  -- what is enough goes by the part, and by who is enough alone
  enough_kept : (h g : Help) → g.part ≡ h.part → g.ones ≡ h.ones → (pair : Pair) → AreEnoughFor w who g pair ↔ AreEnoughFor w who h pair
  enough_kept h g part ones pair = (
    λ e. record {
      lacking = ap (λ l. not (among l pair.one.0) && not (among l pair.other.0)) (sym ones) ∙ e.lacking;
      both = subst (λ (p : SeenPart). Sees (among (who ++ pair.one ∷ pair.other ∷ [])) w (part_of p)) part e.both;
    },
    λ e. record {
      lacking = ap (λ l. not (among l pair.one.0) && not (among l pair.other.0)) ones ∙ e.lacking;
      both = subst (λ (p : SeenPart). Sees (among (who ++ pair.one ∷ pair.other ∷ [])) w (part_of p)) (sym part) e.both;
    },
  )

  pub adds_twos : (ps qs : List Pair) (old mid new : List Help) → AddsTwos w who ps old mid → AddsTwos w who qs mid new → AddsTwos w who (ps ++ qs) old new
  adds_twos ps qs old mid new a b = record {
    grown = λ h. b.grown (a.grown h);
    is = b.is ∙ (ap (map b.grown) a.is ∙ map_map a.grown b.grown old);
    part = λ h. b.part (a.grown h) ∙ a.part h;
    ones = λ h. b.ones (a.grown h) ∙ a.ones h;
    before = λ h. b.before (a.grown h) ∙ a.before h;
    twos = λ h.
        let first = a.twos h in
        let next = b.twos (a.grown h) in
        let picks : Picks (AreEnoughFor w who h) qs next.0 =
        picks_as (AreEnoughFor w who (a.grown h)) (AreEnoughFor w who h) qs next.0 (λ pair i. enough_kept h (a.grown h) (a.part h) (a.ones h) pair) next.2 in
        (first.0 ++ next.0, next.1 ∙ (ap (λ l. l ++ next.0) first.1 ∙ append_append h.twos first.0 next.0), picks_append (AreEnoughFor w who h) ps qs first.0 next.0 first.2 picks);
  }

  -- whoever is picked is enough, and the other way round; so if neither of a pair is picked, neither is enough alone
  pair_enough : (p : SeenPart) (others : List TaskId) (h : Help) → h.part ≡ p → Picks (IsEnough w who p) others h.ones → (pair : Pair) → IsAmong pair (pairs_of others)
      → AreEnoughFor w who h pair ↔ AreEnough w who p pair
  pair_enough p others h is picks pair i = (
    λ e.
        let free = both_not _ _ e.lacking in
        record {
          one = λ enough. true≢false (sym (holds_picked (IsEnough w who p) others h.ones picks pair.one these.0 enough) ∙ free.0);
          other = λ enough. true≢false (sym (holds_picked (IsEnough w who p) others h.ones picks pair.other these.1 enough) ∙ free.1);
          both = subst (λ (q : SeenPart). Sees (among (who ++ pair.one ∷ pair.other ∷ [])) w (part_of q)) is e.both;
        },
    λ e. record {
      lacking = not_both _ _ (none pair.one e.one) (none pair.other e.other);
      both = subst (λ (q : SeenPart). Sees (among (who ++ pair.one ∷ pair.other ∷ [])) w (part_of q)) (sym is) e.both;
    },
  )
    where
      these : IsAmong pair.one others × IsAmong pair.other others
      these = pair_among others pair i

      both_not : (b c : Bool) → (not b && not c) ≡ true → (b ≡ false) × (c ≡ false)
      both_not false false k = (refl, refl)
      both_not false true k = absurd (true≢false (sym k))
      both_not true c k = absurd (true≢false (sym k))

      not_both : (b c : Bool) → b ≡ false → c ≡ false → (not b && not c) ≡ true
      not_both b c e f = rw (e, f) refl

      none : (d : TaskId) → (IsEnough w who p d → ⊥) → among h.ones d.0 ≡ false
      none d fails = elim (cases_Bool (among h.ones d.0)) [ inl is_in ↦ absurd (fails (picked_holds (IsEnough w who p) others h.ones picks d is_in)) | inr out ↦ out ]

  -- all were tried, and next all pairs
  pub all_helped : (others : List TaskId) (parts : List SeenPart) (mid new : List Help) → AddsOnes w who others (map unhelped parts) mid → AddsTwos w who (pairs_of others) mid new
      → AreHelped w who others parts new
  all_helped others parts mid new a b = (
    helped,
    b.is ∙ (ap (map b.grown) (a.is ∙ map_map unhelped a.grown parts) ∙ map_map (λ p. a.grown (unhelped p)) b.grown parts),
    each,
  )
    where
      one : SeenPart → Help
      one p = a.grown (unhelped p)

      helped : SeenPart → Help
      helped p = b.grown (one p)

      each : (p : SeenPart) → IsHelped w who others p (helped p)
      each p =
          let ones = a.ones (unhelped p) in
          let twos = b.twos (one p) in
          let picks : Picks (IsEnough w who p) others (one p).ones = subst (Picks (IsEnough w who p) others) (sym ones.1) ones.2 in
          let none : (one p).twos ≡ [] = a.twos (unhelped p) in
          let pairs : Picks (AreEnough w who p) (pairs_of others) twos.0 =
          picks_as (AreEnoughFor w who (one p)) (AreEnough w who p) (pairs_of others) twos.0 (pair_enough p others (one p) (a.part (unhelped p)) picks) twos.2 in
          record {
            part = b.part (one p) ∙ a.part (unhelped p);
            ones = subst (Picks (IsEnough w who p) others) (sym (b.ones (one p))) picks;
            before = b.before (one p) ∙ a.before (unhelped p);
            twos = subst (Picks (AreEnough w who p) (pairs_of others)) (sym (twos.1 ∙ ap (λ l. l ++ twos.0) none)) pairs;
          }

-- a look with a helper was made, and noted
pub tried_one : (w : World) (who : List TaskId) (d : TaskId) (tasks : List TaskId) (v : Sight) (old new : List Help) (r : Result (Unit {0}) AllocError) → tasks ≡ who ++ d ∷ [] → Looks (among tasks) w v
    → OnOk r (new ≡ map (noted_one (sees_with (nodes_of w) v) d) old) → OnOk r (AddsOnes w who (d ∷ []) old new)
tried_one w who d tasks v old new (Ok u) are looks is =
    subst (AddsOnes w who (d ∷ []) old) (sym is) (adds_one w who d (sees_with (nodes_of w) v) (subst (λ (ts : List TaskId). IsExact w ts (sees_with (nodes_of w) v)) are (look_exact w tasks v looks)) old)
tried_one w who d tasks v old new (Err e) are looks is = tt

pub tried_two : (w : World) (who : List TaskId) (pair : Pair) (tasks : List TaskId) (v : Sight) (old new : List Help) (r : Result (Unit {0}) AllocError) → tasks ≡ who ++ pair.one ∷ pair.other ∷ [] → Looks (among tasks) w v
    → OnOk r (new ≡ map (noted_two (sees_with (nodes_of w) v) pair) old) → OnOk r (AddsTwos w who (pair ∷ []) old new)
tried_two w who pair tasks v old new (Ok u) are looks is =
    subst (AddsTwos w who (pair ∷ []) old) (sym is) (adds_two w who pair (sees_with (nodes_of w) v) (subst (λ (ts : List TaskId). IsExact w ts (sees_with (nodes_of w) v)) are (look_exact w tasks v looks)) old)
tried_two w who pair tasks v old new (Err e) are looks is = tt

-- what is at a place
pub place_or : {X : Type 0} (xs : List X) (i : ℕ) (d : X) → i < length xs → slice_get xs i ≡ Some (get_or xs i d)
place_or [] i d lt = absurd (omega arith)
place_or (y ∷ ys) zero d lt = refl
place_or (y ∷ ys) (suc i) d lt = place_or ys i d (omega arith)

pub mapped_more : {X : Type 0} (f : X → X) (xs ys : List X) (i : ℕ) (d : X) → ys ≡ map f (take i xs) ++ drop i xs → i < length ys
    → slice_set ys i (f (get_or ys i d)) ≡ map f (take (i + 1) xs) ++ drop (i + 1) xs
mapped_more f xs ys i d is lt =
    let at : slice_get ys i ≡ Some (get_or ys i d) = place_or ys i d lt in
    ap (λ l. slice_set l i (f (get_or ys i d))) is ∙ rw add-one (map_more f xs i (get_or ys i d) (ap (λ l. slice_get l i) (sym is) ∙ at))

-- some were tried, and the one that comes next
pub one_more : (w : World) (who others : List TaskId) (i : ℕ) (d : TaskId) (old mid new : List Help) → i < length others → AddsOnes w who (take i others) old mid
    → AddsOnes w who (get_or others i d ∷ []) mid new → AddsOnes w who (take (i + 1) others) old new
one_more w who others i d old mid new lt a b =
    rw (add-one, take_more others i (get_or others i d) (place_or others i d lt)) (adds_ones w who (take i others) (get_or others i d ∷ []) old mid new a b)

pub two_more : (w : World) (who : List TaskId) (pairs : List Pair) (i : ℕ) (d : Pair) (old mid new : List Help) → i < length pairs → AddsTwos w who (take i pairs) old mid
    → AddsTwos w who (get_or pairs i d ∷ []) mid new → AddsTwos w who (take (i + 1) pairs) old new
two_more w who pairs i d old mid new lt a b =
    rw (add-one, take_more pairs i (get_or pairs i d) (place_or pairs i d lt)) (adds_twos w who (take i pairs) (get_or pairs i d ∷ []) old mid new a b)

-- the pairs of one task more
pub pairs_more : (ds : List TaskId) (i : ℕ) (d : TaskId) (pairs rest : List Pair) → i < length ds → pairs ++ pairs_of (drop i ds) ≡ pairs_of ds
    → rest ≡ pairs ++ with_each (get_or ds i d) (take (length ds - (i + 1)) (drop (i + 1) ds)) → rest ++ pairs_of (drop (i + 1) ds) ≡ pairs_of ds
unfolding pairs_of
pairs_more ds i d pairs rest lt is more =
    ap (λ l. l ++ pairs_of (drop (i + 1) ds)) (more ∙ ap (λ l. pairs ++ with_each (get_or ds i d) l) (whole ds (i + 1)))
    ∙ (append_append pairs _ _ ∙ (ap (λ l. pairs ++ l) (these ds i lt) ∙ is))
  where
    whole : (ds : List TaskId) (k : ℕ) → take (length ds - k) (drop k ds) ≡ drop k ds
    whole ds k = ap (λ n. take n (drop k ds)) (sym (length-drop k ds)) ∙ take-length (drop k ds)

    these : (ds : List TaskId) (i : ℕ) → i < length ds → with_each (get_or ds i d) (drop (i + 1) ds) ++ pairs_of (drop (i + 1) ds) ≡ pairs_of (drop i ds)
    these [] i lt = absurd (omega arith)
    these (x ∷ xs) zero lt = refl
    these (x ∷ xs) (suc i) lt = rw add-one (rw add-one at (these xs i (omega arith)))
