-- What is noted stays right.
use Rattle.std.proofs.Common.{inl, inr, ℕ, sym, ap, subst}
use Rattle.hurd_machine.specs.Calls.{Call, Reply}
use Rattle.hurd_machine.specs.World.{World}
use Rattle.hurd_machine.specs.Sound.{Sound}
use Rattle.hurd_laws.specs.Called.{Called}
use Rattle.hurd_laws.proofs.Served.{called_sound}
use Rattle.hurd_touches.specs.Touched.{Notes}
use Rattle.hurd_touches.specs.Unnoticed.{Unnoticed}
use Rattle.hurd_touches.specs.declared.noted.Noted.{Noted}
use Rattle.hurd_touches.proofs.UnnoticedLaws.{noted_call}
use Rattle.hurd_world.specs.Noting.{NotesWhatIsTouched, State}

pub notes_refl : (x : State) → NotesWhatIsTouched x x
notes_refl x = record { sound = λ s. s; unnoticed = λ u s so. so }

pub notes_trans : {x y z : State} → NotesWhatIsTouched x y → NotesWhatIsTouched y z → NotesWhatIsTouched x z
notes_trans a b = record { sound = λ s. b.sound (a.sound s); unnoticed = λ u s so. b.unnoticed u (a.sound s) (a.unnoticed u s so) }

-- a call that was noted
pub called_notes : (w x : World) (t : ℕ) (c : Call) (r : Reply) (old new : Noted) → Called w t c r x → Notes w t c old new
    → NotesWhatIsTouched (record { world = w; noted = old }) (record { world = x; noted = new })
called_notes w x t c r old new called notes = record {
  sound = called_sound w x t c r called;
  unnoticed = λ u sound so. elim called [
    | inl told ↦ subst (Unnoticed new u) (sym (ap (λ p. p.1) told)) (noted_call u w t c old new sound so notes)
    | inr lacks ↦ subst (Unnoticed new u) (sym lacks.same) (λ S none. so S (λ p at. none p (notes.kept p at)))
  ];
}
