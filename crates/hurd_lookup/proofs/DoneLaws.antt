-- A file is made, and opened, as the plan of a lookup has it.
use Rattle.std.proofs.Common.{◌≡◌, ◌∙◌, ℕ, List, ap, sym}
use Rattle.std.specs.Prelude.{Result, Ok, Some}
use Rattle.hurd_machine.proofs.Common.{Errno, File, IdSets, Name, OpenFlags, Task, World, answered, apply_all, first, home_at, makes_at, open_modes}
use Rattle.hurd_machine.proofs.Asks.{first_ok, on_ok}
use Rattle.hurd_ports.specs.declared.parents.Parent.{Parent}
use Rattle.hurd_machine.specs.declared.call.Lookup.TheVariants.{Done}
use Rattle.hurd_machine.specs.declared.call.Reply.TheVariants.{Found}
use Rattle.hurd_machine.specs.Plan.{Follows}
use Rattle.hurd_core.specs.Core.{Does, NewNodeAt, making_asks, making_open, room_asks}
use Rattle.hurd_lookup.specs.Lookup.{Makes, finding}
use Rattle.hurd_lookup.specs.Ends.{MayMake}

module _ (w : World) (t : ℕ) (s : Name) (f : NewNodeAt) (may : MayMake w s f) where
  -- by the task, of the server that the lookup found
  made_by : (a : Task × Name) → making_asks w t f ≡ Ok a → (room_asks w t 2 ≡ Ok a.0) × (a.1 ≡ s)
  made_by a is =
      let x = first_ok (room_asks w t 2) _ a is in
      let m = first_ok (makes_at w f.dir f.entry File) _ a x.2 in
      let h = on_ok _ (home_at w f.dir) _ a m.2 in
      let same : (x.0, h.0) ≡ a = cc (h.2) in
      let home : h.0 ≡ s = cc (h.1, may.1) in
      (x.1 ∙ ap (λ (z : Task × Name). let r : Result Task Errno = Ok z.0 in r) same, ap (λ (z : Task × Name). z.1) (sym same) ∙ home)

  pub made : (flags : OpenFlags) (ids : IdSets) (ways : List Parent) (k : ℕ) (y : World) → Does w (making_asks w t f) (making_open t f ids ways (open_modes flags)) (λ a. a.0.next) (Ok k) y
      → Follows w (finding w t flags (Ok (Makes s f ids ways))) (Found (Done k)) y
  unfolding answered first
  made flags ids ways k y (a, is, told, left) =
      let by = made_by a is in
      rw by.0 (ap (λ (n : ℕ). Found (Done n)) told, left ∙ ap (λ (q : Name). apply_all (making_open t f ids ways (open_modes flags) (a.0, q)) w) by.1)
