-- Whether a task has room for what a lookup makes.
use Rattle.std.proofs.Common.{◌≡◌, ◌∙◌, ℕ, [], Option, inl, inr, refl, sym, ap, subst}
use Rattle.std.specs.Prelude.{Result, Ok, Err, Some, None}
use Rattle.hurd_machine.proofs.Common.{ENOMEM, ESRCH, Errno, IdSets, Meets, Task, World, ids_at, ids_of, nat_cmp, on, ports_of, room_of}
use Rattle.hurd_machine.specs.World.{nodes_of}
use Rattle.std.specs.FinSet as set
use Rattle.hurd_core.specs.Core.{asked_only, room_asks}
use Rattle.hurd_core.proofs.CoreLaws.{IsRefused, HasRoom, room}
use Rattle.hurd_lookup.specs.Lookup.{no_ids}

-- no ids are never too many: if they are refused, it is for lack of memory
pub ids_none : ids_of [] [] ≡ Ok no_ids
ids_none = rw (set.len-empty nat_cmp) refl

pub ids_short : (e : Errno) → Meets (ids_of [] []) (Err e) → e ≡ ENOMEM
ids_short e short = elim (subst (λ (r : Result IdSets Errno). Meets r (Err e)) ids_none short) [ inl bars ↦ absurd (cc) | inr lacks ↦ lacks.0 ]

-- what the tables say of it is what the plan asks
pub room_asked : (w : World) (t names : ℕ) → room_of (ports_of w) t names ≡ asked_only (room_asks w t names)
room_asked w t names = elim (room (nodes_of w) (ports_of w) t names) [
  | IsRefused e bars asks ↦ bars ∙ sym (ap asked_only asks)
  | HasRoom x at free frees asks ↦ frees ∙ sym (ap asked_only asks)
]

-- its ids, and what follows from them

pub ids_not : {B : Type 0} (f : IdSets → Result B Errno) (o : Option Task) (e : Errno) → Err e ≡ ids_at o → on ESRCH o (λ x. f x.ids) ≡ Err e
unfolding on
ids_not f None e is = cc
ids_not f (Some x) e is = absurd (cc)

pub ids_had : {B : Type 0} (f : IdSets → Result B Errno) (o : Option Task) (ids : IdSets) → Ok ids ≡ ids_at o → f ids ≡ on ESRCH o (λ x. f x.ids)
unfolding on
ids_had f None ids is = absurd (cc)
ids_had f (Some x) ids is = let same : ids ≡ x.ids = cc in ap f same
