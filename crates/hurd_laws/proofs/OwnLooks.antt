-- A call of a set of tasks, in two worlds that look the same to it except for names of what others made.
use Rattle.std.proofs.Common.{◌∙◌, ℕ, sym, subst}
use Rattle.hurd_machine.specs.Calls.{Call}
use Rattle.hurd_machine.specs.Renamed.{OtherNames, renamed}
use Rattle.hurd_machine.specs.Sight.{SameView}
use Rattle.hurd_machine.specs.Sound.{AreGiven}
use Rattle.hurd_machine.proofs.Common.{Sound, World}
use Rattle.hurd_laws.specs.Step.{after}
use Rattle.hurd_laws.proofs.Assembled.{after_renamed, names_untold, own_from_view, stays_sound}
use Rattle.hurd_laws.specs.Untold.{KeepsGiven}
use Rattle.hurd_laws.proofs.SoundRenamed.{renamed_sound}
use Rattle.hurd_laws.specs.After.{KeepsOwn, OwnFromLooks}

-- all that stands was made, with other names too
still_given : (f : OtherNames) (v : World) (t : ℕ) (c : Call) → KeepsOwn f t → KeepsGiven f v → Sound v → KeepsGiven f (after v t c)
still_given f v t c keeps given sound =
    subst AreGiven (after_renamed f v t c keeps) (stays_sound (renamed f v) t c (renamed_sound f v given sound)).coherent.given

pub own_from_looks : OwnFromLooks
own_from_looks S f v w t c sv sw ours looks =
    let keeps = looks.ours t ours in
    let step = own_from_view S (renamed f v) w t c (renamed_sound f v looks.given sv) sw ours looks.same in (
      sym (names_untold f v t c keeps.none) ∙ sym step.0,
      record {
        ours = looks.ours;
        given = still_given f v t c keeps looks.given sv;
        same = subst (λ (x : World). SameView S x (after w t c)) (after_renamed f v t c keeps) step.1;
      },
    )
