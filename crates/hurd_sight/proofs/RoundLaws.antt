-- Nodes are found in two rounds: what the first one followed isn't followed again.
use Rattle.std.proofs.Common.{◌≡◌, ◌∙◌, sym, refl, ap, subst, ℕ, suc, ◌+◌, ◌<◌, ◌≤◌, arith, Bool, true, false, if◌then◌else◌, List, [], ◌∷◌, ◌++◌, take, length, length-append, ltb}
use Rattle.std.proofs.Math.Seq.{take-append_seam}
use Rattle.std.specs.Prelude.{Some, slice_get}
use Rattle.std.specs.Option.{option_map}
use Rattle.std.proofs.lemmas.Bool.{ltb-true}
use Rattle.std.proofs.lemmas.List.{take-append-le}
use Rattle.hurd_machine.proofs.Common.{IdSets, IsAmong, Name, NodeState, Task, TaskId}
use Rattle.hurd_machine.specs.World.{boot_root}
use Rattle.hurd_sight.specs.Found.{AllThatFollows, FoundAll, gathered, is_found, of_active, of_children, of_node, of_nodes, of_parent, of_plain, of_rest, of_server, of_targets, of_tasks}
use Rattle.hurd_sight.specs.declared.found.Why.{Why}
use Rattle.hurd_sight.specs.declared.found.Why.TheVariants as why
use Rattle.hurd_sight.proofs.FoundLaws.{Entries, among_flat, among_taken, gathered-append, gathered_both, gathered_grown, gathered_kept, gathered_nothing, gathered_there, taken_front}
use Rattle.hurd_sight.proofs.FollowLaws.{Following, follow_next, node_at}
use Rattle.hurd_machine.proofs.Tasks.{among_left, among_right}

module _ (h : NodeState) (ids : IdSets) where
  -- the parts of what a node shows, one after the other

  pub of_both : (a : Entries) {b c : Entries} (m : Name) → b ≡ gathered (of_children h ids m) a → c ≡ gathered (of_active h m) b → c ≡ gathered (of_plain h ids m) a
  of_both a m children active = gathered_both a (of_children h ids m) (of_active h m) children active

  pub of_others : (a : Entries) {b c d : Entries} (m : Name) → b ≡ gathered (of_parent h m) a → c ≡ gathered (of_server h ids m) b → d ≡ gathered (of_targets h m) c
      → d ≡ gathered (of_rest h ids m) a
  of_others a {b} m parent server targets =
      gathered_both a (of_parent h m) (of_server h ids m ++ of_targets h m) parent (gathered_both b (of_server h ids m) (of_targets h m) server targets)

  -- where entries and the active server are there, the rest is all that is new
  rest_enough : (m : Name) (es : Entries) → ((n : Name) (y : Why) → IsAmong (n, y) (of_plain h ids m) → is_found n es ≡ true)
      → gathered (of_rest h ids m) es ≡ gathered (of_node h ids m) es
  rest_enough m es there = sym (whole ∙ (children ∙ (parent ∙ (active ∙ sym joined))))
    where
      others : Entries
      others = of_server h ids m ++ of_targets h m

      whole : gathered (of_node h ids m) es ≡ gathered (of_parent h m ++ (of_active h m ++ others)) (gathered (of_children h ids m) es)
      whole = gathered-append (of_children h ids m) (of_parent h m ++ (of_active h m ++ others)) es

      children : gathered (of_parent h m ++ (of_active h m ++ others)) (gathered (of_children h ids m) es) ≡ gathered (of_parent h m ++ (of_active h m ++ others)) es
      children =
          ap (gathered (of_parent h m ++ (of_active h m ++ others)))
          (gathered_nothing (of_children h ids m) es (λ n y a. there n y (among_left (n, y) (of_children h ids m) (of_active h m) a)))

      parent : gathered (of_parent h m ++ (of_active h m ++ others)) es ≡ gathered others (gathered (of_active h m) (gathered (of_parent h m) es))
      parent = gathered-append (of_parent h m) (of_active h m ++ others) es ∙ gathered-append (of_active h m) others (gathered (of_parent h m) es)

      active : gathered others (gathered (of_active h m) (gathered (of_parent h m) es)) ≡ gathered others (gathered (of_parent h m) es)
      active =
          ap (gathered others)
          (gathered_nothing (of_active h m) (gathered (of_parent h m) es)
          (λ n y a. gathered_kept n (of_parent h m) es (there n y (among_right (n, y) (of_children h ids m) (of_active h m) a))))

      joined : gathered (of_rest h ids m) es ≡ gathered others (gathered (of_parent h m) es)
      joined = gathered-append (of_parent h m) others es

  -- what a node shows, by whether its entries and its active server were followed
  abbrev pub shown_by : Bool → Name → Entries
  shown_by followed m = if followed then of_rest h ids m else of_node h ids m

  -- one node more is followed in the second round
  pub shown_next : (start es fs : Entries) (plain k : ℕ) (m : Name) → plain ≤ length start → start ≡ gathered (of_nodes (of_plain h ids) (take plain start)) start
      → Following (of_node h ids) k start es → Some m ≡ option_map (λ (e : Name × Why). e.0) (slice_get es k) → fs ≡ gathered (shown_by (ltb k plain) m) es
      → Following (of_node h ids) (k + 1) start fs
  shown_next start es fs plain k m few all before told step = follow_next (of_node h ids) start es fs k m before told (step ∙ go (ltb k plain) refl)
    where
      grown : (more : Entries) × (es ≡ start ++ more)
      grown = let it = gathered_grown (of_nodes (of_node h ids) (take k es)) start in (it.0, before.all ∙ it.1)

      at_k : (y : Why) × (slice_get es k ≡ Some (m, y))
      at_k = node_at es k m told

      -- it is one of those that were followed
      ours : k < plain → IsAmong (m, at_k.0) (take plain start)
      ours below =
          subst (IsAmong (m, at_k.0)) (ap (take plain) grown.1 ∙ take-append-le plain start grown.0 few)
          (taken_front (m, at_k.0) (suc k) plain es (omega (arith, below)) (among_taken (m, at_k.0) es k at_k.1))

      there : k < plain → (n : Name) (y : Why) → IsAmong (n, y) (of_plain h ids m) → is_found n es ≡ true
      there below n y a =
          ap (is_found n) before.all
          ∙ gathered_kept n (of_nodes (of_node h ids) (take k es)) start
          (ap (is_found n) all
          ∙ gathered_there n y (of_nodes (of_plain h ids) (take plain start)) start
          (among_flat (λ (e : Name × Why). of_plain h ids e.0) (m, at_k.0) (n, y) (take plain start) (ours below) a))

      go : (b : Bool) → ltb k plain ≡ b → gathered (shown_by b m) es ≡ gathered (of_node h ids m) es
      go true is = rest_enough m es (there (ltb-true k plain is))
      go false is = refl

  -- the first round leaves what the second one asks for
  module _ (xs plain start : Entries) (first : AllThatFollows (of_plain h ids) ((boot_root, why.Root) ∷ []) plain) (step : start ≡ gathered xs plain) where
    grown : (more : Entries) × (start ≡ plain ++ more)
    grown = let it = gathered_grown xs plain in (it.0, step ∙ it.1)

    pub plain_within : length plain ≤ length start
    plain_within = subst (λ (es : Entries). length plain ≤ length es) (sym grown.1) (omega (arith, length-append plain grown.0))

    followed : take (length plain) start ≡ plain
    followed = ap (take (length plain)) grown.1 ∙ take-append_seam plain grown.0

    pub plain_there : start ≡ gathered (of_nodes (of_plain h ids) (take (length plain) start)) start
    plain_there =
        sym
        (ap (λ (es : Entries). gathered (of_nodes (of_plain h ids) es) start) followed
        ∙ gathered_nothing (of_nodes (of_plain h ids) plain) start
        (λ n y a. ap (is_found n) step
        ∙ gathered_kept n xs plain (ap (is_found n) first.all ∙ gathered_there n y (of_nodes (of_plain h ids) plain) ((boot_root, why.Root) ∷ []) a)))

-- both rounds
pub both_rounds : (h : NodeState) (ts : List Task) (ids : IdSets) (tasks : List TaskId) (plain start es : Entries) → AllThatFollows (of_plain h ids) ((boot_root, why.Root) ∷ []) plain
    → start ≡ gathered (of_tasks h ts tasks) plain → AllThatFollows (of_node h ids) start es → FoundAll h ts ids tasks es
both_rounds h ts ids tasks plain start es first rights all = record {
  plain = plain;
  first = first;
  follows = subst (λ (gs : Entries). AllThatFollows (of_node h ids) gs es) rights all;
}
