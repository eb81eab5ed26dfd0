-- What entries and active servers show from the root on is found first, and by these.
use Rattle.std.proofs.Common.{◌≡◌, ◌⊎◌, inl, inr, sym, refl, ap, subst, ℕ, Bool, true, List, [], ◌∷◌, ◌++◌, take}
use Rattle.std.specs.Prelude.{Option, Some, slice_get}
use Rattle.hurd_machine.proofs.Common.{Exec, IdSets, IsAmong, Name, TaskId, World, boot_root}
use Rattle.hurd_machine.specs.World.{nodes_of}
use Rattle.hurd_sight.specs.Reach.{Reaches, among}
use Rattle.hurd_sight.specs.Found.{FoundAll, IsBefore, IsWhy, PlainFirst, PlainIsFirst, found_from, is_found, is_plain, of_active, of_children, of_plain}
use Rattle.hurd_sight.specs.declared.found.Why.{Why}
use Rattle.hurd_sight.specs.declared.found.Why.TheVariants as why
use Rattle.hurd_sight.proofs.CouldLaws.{could_is_enough}
use Rattle.hurd_sight.proofs.FoundLaws.{Entries, among_one, found_one}
use Rattle.hurd_sight.proofs.FollowLaws.{follows_closed, follows_kept, follows_said, plain_grown}
use Rattle.hurd_sight.proofs.NodeLaws.{active_info, child_info, info_active, info_child}
use Rattle.hurd_machine.proofs.Tasks.{among_cases, among_left, among_right}

module _ (w : World) (tasks : List TaskId) (ids : IdSets) (es : Entries) (r : Reaches (among tasks) w ids) (all : FoundAll (nodes_of w) w.tasks ids tasks es) where
  abbrev S : ℕ → Bool
  S = among tasks

  abbrev step : Name → Entries
  step = of_plain (nodes_of w) ids

  abbrev begin : Entries
  begin = (boot_root, why.Root) ∷ []

  -- what a node shows by an entry, or by its active server
  shows : (m n : Name) → IsWhy S w n (why.Child m) ⊎ IsWhy S w n (why.Active m) → (y : Why) × IsAmong (n, y) (step m)
  shows m n (inl c) = (
    why.Child m,
    among_left (n, why.Child m) (of_children (nodes_of w) ids m) (of_active (nodes_of w) m)
        (info_child (nodes_of w) ids m n (c.0, c.1, c.2, c.3, (could_is_enough S w ids c.0 Exec r).1 c.4, c.5)),
  )
  shows m n (inr a) = (
    why.Active m,
    among_right (n, why.Active m) (of_children (nodes_of w) ids m) (of_active (nodes_of w) m) (info_active (nodes_of w) m n a.0 a.1 a.2 a.3 a.4),
  )

  closed : (m n : Name) → is_found m all.plain ≡ true → IsWhy S w n (why.Child m) ⊎ IsWhy S w n (why.Active m) → is_found n all.plain ≡ true
  closed m n found by = let it = shows m n by in follows_closed step begin all.plain all.first m n it.0 found it.1

  -- and by nothing else
  by_plain : (m n : Name) (y : Why) → IsAmong (n, y) (step m) → (is_plain y ≡ true) × (found_from y ≡ Some m)
  by_plain m n y a = elim (among_cases (n, y) (of_children (nodes_of w) ids m) (of_active (nodes_of w) m) a) [
    | inl c ↦ rw (child_info (nodes_of w) ids m n y c).1 (refl, refl)
    | inr b ↦ rw (active_info (nodes_of w) m n y b).5 (refl, refl)
  ]

  ways : (i : ℕ) (n : Name) (y : Why) → slice_get all.plain i ≡ Some (n, y) → (is_plain y ≡ true) × IsBefore (found_from y) (take i all.plain)
  ways i n y at = elim (follows_said step begin all.plain all.first i n y at) [
    | inl seed ↦ rw (sym (ap (λ (t : Name × Why). t.1) (among_one (n, y) (boot_root, why.Root) seed))) (refl, tt)
    | inr of ↦ let it = by_plain of.0 n y of.2 in (it.0, subst (λ (o : Option Name). IsBefore o (take i all.plain)) (sym it.1) of.1)
  ]

  grown : (more : Entries) × (es ≡ all.plain ++ more)
  grown = plain_grown (nodes_of w) w.tasks ids tasks es all

  first : PlainFirst S w es
  first = record {
    plain = all.plain;
    more = grown.0;
    both = grown.1;
    root = follows_kept step begin all.plain all.first boot_root (found_one boot_root why.Root);
    closed = closed;
    ways = ways;
  }

pub plain_is_first : PlainIsFirst
plain_is_first w tasks ids es r all = first w tasks ids es r all
