-- A directory made, half by half, is the machine's making.
use Rattle.std.proofs.Common.{◌≡◌, ◌∙◌, inr, ℕ, Option, Some, refl, ap, subst, slice_get}
use Rattle.std.specs.Prelude.{Result, Ok, Err, is_ok}
use Rattle.std.specs.Option.{option_map}
use Rattle.hurd_machine.proofs.Common.{Dir, EDIED, Errno, Name, NewNode, NodeState, PortState, Steps, Task, World, can_make, first, fresh, home_at, home_in, make_at, name_step, named_by, naming_of, new_dir, on, with_made, world_from}
use Rattle.hurd_core.specs.Core.{Does, NewNodeAt, asked_node, naming_asks, making_dir_asks, making_dir}
use Rattle.hurd_core.proofs.CoreLaws.{naming-refused, naming-had}
use Rattle.hurd_core.proofs.MakingLaws.{making-home, make-lacks, make-done, made-nodes}

module _ (N : NodeState) (H : PortState) (t : ℕ) (f : NewNodeAt) where
  abbrev w : World
  w = world_from N H

  -- what is asked once the directory may be made, and once the task is found
  asks_name : Result (Unit {0}) Errno → Result (Task × Name) Errno
  asks_name r = first r (λ u. first (naming_asks w t 1) (λ x. on EDIED (home_at w f.dir) (λ s. Ok (x, s))))

  asks_home : Result Task Errno → Option Name → Result (Task × Name) Errno
  asks_home r o = first r (λ x. on EDIED o (λ s. Ok (x, s)))

  pub dir-refused : (e : Errno) → can_make f.dir f.entry Dir N ≡ Err e → making_dir_asks w t f ≡ Err e
  unfolding first asks_name
  dir-refused e h = ap asks_name h

  pub dir-unnamed : (e : Errno) → can_make f.dir f.entry Dir N ≡ Ok tt → naming_of H t 1 ≡ Err e → making_dir_asks w t f ≡ Err e
  unfolding first asks_name asks_home
  dir-unnamed e may h = ap asks_name may ∙ ap (λ r. asks_home r (home_at w f.dir)) (naming-refused N H t 1 e h)

  -- a task that makes the directory, and the server
  pub record MakesDir : Type 0 where
    pub task : Task
    pub there : slice_get H.tasks t ≡ Some task
    pub server : Name
    pub home : home_in N.sites f.dir ≡ Some server
    pub asks : making_dir_asks w t f ≡ Ok (task, server)

  pub makes-dir : can_make f.dir f.entry Dir N ≡ Ok tt → naming_of H t 1 ≡ Ok tt → MakesDir
  unfolding first on asks_name asks_home
  makes-dir may h =
      let x = naming-had N H t 1 tt h in
      let s = making-home N H t f Dir may in
      record {
        task = x.0;
        there = x.1;
        server = s.0;
        home = s.1;
        asks = ap asks_name may ∙ ap (λ r. asks_home r (home_at w f.dir)) x.3 ∙ ap (asks_home (Ok x.0)) s.1;
      }

  module _ (may : can_make f.dir f.entry Dir N ≡ Ok tt) (h : naming_of H t 1 ≡ Ok tt) (name : Name) (new : NewNode) (is : new ≡ asked_node Dir f name) where
    -- a making that finds no memory changes nothing
    pub dir-lacks : (e : Errno) (M : NodeState) → Steps N (make_at f.dir f.entry new N) (Err e) M → Does w (making_dir_asks w t f) (making_dir t f) (λ a. tt {0}) (Err e) (world_from M H)
    dir-lacks e M steps =
        let l = make-lacks N H t f Dir name new e M may is steps in
        (ap (λ (z : NodeState). world_from z H) l.1, inr (l.0, ap is_ok (makes-dir may h).asks))

    -- the name that is next, the node made under it, and the name given
    pub dir-made : (L : PortState) (M : NodeState) → Some name ≡ option_map (fresh t) (slice_get H.tasks t) → Steps N (make_at f.dir f.entry new N) (Ok tt) M → L ≡ name_step t H
        → Does w (making_dir_asks w t f) (making_dir t f) (λ a. tt {0}) (Ok tt) (world_from M L)
    dir-made L M next steps gave =
        let m = makes-dir may h in
        let one : Some name ≡ Some (fresh t m.task) = next ∙ ap (option_map (fresh t)) m.there in
        let same : name ≡ fresh t m.task = cc in
        let wanted : new ≡ asked_node Dir f (fresh t m.task) = is ∙ ap (asked_node Dir f) same in
        let made : M ≡ with_made f.dir f.entry (asked_node Dir f (fresh t m.task)) N =
        make-done N H t f (asked_node Dir f (fresh t m.task)) M may (subst (λ (z : NewNode). Steps N (make_at f.dir f.entry z N) (Ok tt) M) wanted steps) in (
          (m.task, m.server),
          m.asks,
          refl,
          ap (world_from M) gave ∙ made-nodes N H t f Dir (fresh t m.task) m.server m.home (named_by f.entry (new_dir f.owner f.group f.mode (Some f.dir))) refl M made refl,
        )
