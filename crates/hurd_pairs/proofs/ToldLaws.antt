-- Whoever gets a different reply saw something different before.
use Rattle.std.proofs.Common.{◌≡◌, ◌≤◌, ◌∙◌, ◌+◌, inl, inr, refl, sym, ap, arith, ℕ, Bool, true, false, List, [], ◌∷◌, Option, Some, None}
use Rattle.hurd_machine.specs.Sound.{Sound}
use Rattle.hurd_machine.specs.World.{World}
use Rattle.hurd_creds.specs.declared.name.TaskId.{TaskId}
use Rattle.hurd_script.specs.Commands.{CommandLine}
use Rattle.hurd_script.specs.Script.{commands_of, users_of}
use Rattle.hurd_laws.specs.Runs.{run}
use Rattle.hurd_laws.proofs.Together.{together}
use Rattle.hurd_shell.specs.Isolation.{command_calls, command_part, commands_by}
use Rattle.hurd_shell.specs.Transcript.{Maker, dialogue, told_by}
use Rattle.hurd_shell.proofs.IsolationLaws.{first_told, none_told, part_at, run_sound}
use Rattle.hurd_shell.proofs.Looks.{own_command_looks}
use Rattle.hurd_looks.proofs.AlikeLaws.{alike_looks}
use Rattle.hurd_sight.specs.Reach.{among}
use Rattle.hurd_tmpfs.specs.Tree.{new_tmpfs}
use Rattle.hurd_tmpfs.proofs.Beginning.{begins_tree}
use Rattle.hurd_trans_iface.specs.Meaning.{begin}
use Rattle.hurd_world.proofs.FirstWorld.{first_sound}
use Rattle.hurd_shell.specs.Scripts.{scripts}
use Rattle.hurd_pairs.specs.Differences.{IsSaid, SaysSeen, SaysTold, SeeAlike, SeeOther}
use Rattle.hurd_pairs.specs.Moments.{FirstOther, Moment, TellOther, TellSame, moments}
use Rattle.hurd_pairs.specs.Told.{ToldBySeen}
use Rattle.hurd_pairs.specs.declared.difference.Difference.{Difference}
use Rattle.hurd_pairs.proofs.FirstLaws.{Each, found_among, none_found, opened}
use Rattle.hurd_pairs.proofs.OwnLaws.{moments_end, moments_other, moments_own}
use Rattle.hurd_dialogue.specs.Parts.{Part}

module _ (S : ℕ → Bool) (make : Maker) where
  -- the moments of commands that are made one after another, where so many were made
  abbrev pub moments_at : ℕ → List CommandLine → World → List Moment
  moments_at k cs w = moments S k w (told_by make (dialogue cs w))

  -- the moment of a command
  abbrev moment_of : ℕ → CommandLine → World → Moment
  moment_of k c w = record { made = k; world = w; answer = Some (command_part make c w) }

  pub no_command : (k : ℕ) (w : World) → moments_at k [] w ≡ record { made = k; world = w; answer = None } ∷ []
  no_command k w = ap (moments S k w) (none_told make w) ∙ moments_end S k w

  pub own_first : (k : ℕ) (c : CommandLine) (cs : List CommandLine) (w : World) → S c.task ≡ true
      → moments_at k (c ∷ cs) w ≡ moment_of k c w ∷ moments_at (k + 1) cs (run w (command_calls make c w))
  own_first k c cs w own = ap (moments S k w) (first_told make c cs w) ∙ moments_own S k w (part_at make c w) (told_by make (dialogue cs (run w (command_calls make c w)))) own

  pub other_first : (k : ℕ) (c : CommandLine) (cs : List CommandLine) (w : World) → S c.task ≡ false → moments_at k (c ∷ cs) w ≡ moments_at (k + 1) cs (run w (command_calls make c w))
  other_first k c cs w other = ap (moments S k w) (first_told make c cs w) ∙ moments_other S k w (part_at make c w) (told_by make (dialogue cs (run w (command_calls make c w)))) other

  -- the worlds of moments are sound
  pub moments_sound : (k : ℕ) (cs : List CommandLine) (w : World) → Sound w → Each (λ (m : Moment). Sound m.world) (moments_at k cs w)
  moments_sound k [] w sound = rw (no_command k w) (sound, tt)
  moments_sound k (c ∷ cs) w sound = go (S c.task) refl (moments_sound (k + 1) cs (run w (command_calls make c w)) (run_sound (command_calls make c w) w sound))
    where
      go : (b : Bool) → S c.task ≡ b → Each (λ (m : Moment). Sound m.world) (moments_at (k + 1) cs (run w (command_calls make c w))) → Each (λ (m : Moment). Sound m.world) (moments_at k (c ∷ cs) w)
      go true own rest = rw (own_first k c cs w own) (sound, rest)
      go false other rest = rw (other_first k c cs w other) rest

-- moments stand in their order
not_before : (S : ℕ → Bool) (j k : ℕ) (w : World) (ps : List Part) → k ≤ j → Each (λ (m : Moment). k ≤ m.made) (moments S j w ps)
not_before S j k w [] behind = rw (moments_end S j w) (behind, tt)
not_before S j k w (p ∷ ps) behind = go (S p.task) refl (not_before S (j + 1) k p.world ps (omega (arith, behind)))
  where
    go : (b : Bool) → S p.task ≡ b → Each (λ (m : Moment). k ≤ m.made) (moments S (j + 1) p.world ps) → Each (λ (m : Moment). k ≤ m.made) (moments S j w (p ∷ ps))
    go true own rest = rw (moments_own S j w p ps own) (behind, rest)
    go false other rest = rw (moments_other S j w p ps other) rest

-- something else is seen at these moments first, and not after those
abbrev SeenBy : Option (Moment × Moment) → Moment → Moment → Type 0
SeenBy seen m n = (x y : Moment) × (seen ≡ Some (x, y)) × (x.made ≤ m.made) × (y.made ≤ n.made)

module _ (tasks : List TaskId) (make : Maker) where
  abbrev S : ℕ → Bool
  S = among tasks

  abbrev See : Moment → Moment → Type 0
  See m n = SeeAlike tasks m.world n.world

  abbrev SeeNot : Moment → Moment → Type 0
  SeeNot m n = SeeOther tasks m.world n.world

  -- of two lists of commands from any two worlds: where something else is told first, something else is seen there or before
  abbrev Orders : List CommandLine → List CommandLine → Type 0
  Orders cs ds =
      (k l : ℕ) (v w : World) → Sound v → Sound w → (seen : Option (Moment × Moment)) (m n : Moment)
      → FirstOther See SeeNot (moments_at S make k cs v) (moments_at S make l ds w) seen
      → FirstOther TellSame TellOther (moments_at S make k cs v) (moments_at S make l ds w) (Some (m, n)) → SeenBy seen m n

  none_ordered : Orders [] []
  none_ordered k l v w sv sw seen m n sees tells =
      elim (opened TellSame TellOther _ _ [] [] (Some (m, n)) (rw (no_command S make k v, no_command S make l w) at tells)) [
        | inl both ↦ absurd (let no = none_found TellSame TellOther [] (Some (m, n)) both.1 in cc)
        | inr both ↦ absurd (both.0 refl)
      ]

  both_ordered : (c : CommandLine) (cs ds : List CommandLine) → S c.task ≡ true → Orders cs ds → Orders (c ∷ cs) (c ∷ ds)
  both_ordered c cs ds own rest k l v w sv sw seen m n sees tells =
      let x = run v (command_calls make c v) in
      let y = run w (command_calls make c w) in
      let first = own_first S make k c cs v own in
      let second = own_first S make l c ds w own in
      elim (opened See SeeNot _ _ _ _ seen (rw (first, second) at sees)) [
        | inl alike ↦
            let (a, b, in_a, in_b, same) = alike.0 in
            let looks = alike_looks tasks v w a b sv sw in_a in_b same in
            let now = own_command_looks S looks.0 make v w c sv sw own looks.1 in
            elim (opened TellSame TellOther _ _ _ _ (Some (m, n)) (rw (first, second) at tells)) [
              | inl same ↦ rest (k + 1) (l + 1) x y (run_sound (command_calls make c v) v sv) (run_sound (command_calls make c w) w sw) seen m n alike.1 same.1
              | inr other ↦ absurd (other.0 (ap Some now.0))
            ]
        | inr other ↦
            let ends = found_among TellSame TellOther (λ (m : Moment). k ≤ m.made) (λ (n : Moment). l ≤ n.made) _ _ m n
            (not_before S k k v (told_by make (dialogue (c ∷ cs) v)) (omega arith)) (not_before S l l w (told_by make (dialogue (c ∷ ds) w)) (omega arith)) tells in
            (moment_of S make k c v, moment_of S make l c w, other.1, ends.0, ends.1)
      ]

  ordered : (cs ds : List CommandLine) → commands_by S cs ≡ commands_by S ds → Orders cs ds
  ordered = together (λ (c : CommandLine). S c.task) Orders none_ordered
      (λ c cs ds other rest k l v w sv sw seen m n sees tells.
      let skip = other_first S make k c cs v other in
      rest (k + 1) l (run v (command_calls make c v)) w (run_sound (command_calls make c v) v sv) sw seen m n (rw skip at sees) (rw skip at tells))
      (λ d cs ds other rest k l v w sv sw seen m n sees tells.
      let skip = other_first S make l d ds w other in
      rest k (l + 1) v (run w (command_calls make d w)) sv (run_sound (command_calls make d w) w sw) seen m n (rw skip at sees) (rw skip at tells))
      both_ordered

-- the first world of a script is sound
pub script_sound : (text : List ℕ) → Sound (scripts.world text)
script_sound text = first_sound new_tmpfs (users_of text) (begins_tree new_tmpfs refl)

-- what was found is what is said

found_told : (found : Option (Moment × Moment)) (o : Option Difference) (d : Difference) → IsSaid SaysTold found o → o ≡ Some d
    → (m n : Moment) × (found ≡ Some (m, n)) × (d.one ≡ m.made) × (d.two ≡ n.made)
found_told None None d said is = absurd (cc)
found_told None (Some e) d said is = absurd said
found_told (Some p) None d said is = absurd (cc)
found_told (Some (m, n)) (Some e) d said is =
    let same : e ≡ d = cc in
    (m, n, refl, sym (ap (λ (x : Difference). x.one) same) ∙ said.one, sym (ap (λ (x : Difference). x.two) same) ∙ said.two)

found_seen : (tasks : List TaskId) (sees : List ℕ) (found : Option (Moment × Moment)) (o : Option Difference) (x y : Moment) → IsSaid (SaysSeen tasks sees) found o → found ≡ Some (x, y)
    → (d : Difference) × (o ≡ Some d) × (d.one ≡ x.made) × (d.two ≡ y.made)
found_seen tasks sees None o x y said is = absurd (cc)
found_seen tasks sees (Some p) None x y said is = absurd said
found_seen tasks sees (Some (m, n)) (Some d) x y said is =
    let pair : (m, n) ≡ (x, y) = cc in
    (d, refl, said.one ∙ ap (λ (p : Moment × Moment). p.0.made) pair, said.two ∙ ap (λ (p : Moment × Moment). p.1.made) pair)

pub told_by_seen : ToldBySeen
told_by_seen word one two verdict text report told is =
    let tasks = report.learners.tasks.items in
    let (seen_found, seen_first, seen_said) = report.compares.seen in
    let (told_found, told_first, told_said) = report.compares.told in
    let (m, n, at, first, second) = found_told told_found report.compared.told told told_said is in
    let (x, y, saw, sooner, later) =
    ordered tasks begin (commands_of one) (commands_of two) report.pair.commands 0 0 (scripts.world one) (scripts.world two) (script_sound one) (script_sound two)
    seen_found m n seen_first (rw at at told_first) in
    let (d, there, here, other) = found_seen tasks report.learners.sees.items seen_found report.compared.seen x y seen_said saw in
    (d, there, omega (arith, sooner, here, first), omega (arith, later, other, second))
