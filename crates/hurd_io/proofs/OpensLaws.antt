-- The laws of cursors, and of what opens are for: they ask for an open of the caller's own, and its node's header.
use Rattle.std.proofs.Common.{◌≡◌, ℕ, ℤ, pos, negsuc, Bool, true, refl, ap, inl}
use Rattle.std.specs.Prelude.{Ok}
use Rattle.hurd_machine.proofs.Common.{OpenFlags, READ, World, any_mode, asks, handle_asks}
use Rattle.hurd_creds.specs.Bits.{APPEND}
use Rattle.hurd_machine.specs.declared.call.Whence.{Whence}
use Rattle.hurd_machine.specs.declared.call.Reply.TheVariants.{Count, Done}
use Rattle.hurd_machine.proofs.Views.{Agree}
use Rattle.hurd_machine.proofs.Opens.{cursor_whole, append_whole}
use Rattle.hurd_machine.proofs.Asks.{IsPlain, ok_plain, err_plain, given_plain, given_same, first_plain, first_same, handle_read, readable_same, answered_same, answered_plain, done_plain, handle_same, handle_plain}
use Rattle.hurd_machine.proofs.CallLaws.{CallLaws, answered_piece, looking_laws}
use Rattle.hurd_io.specs.Opens.{place_asks, seek_asks, plan_seek, touches_seek, readable_asks, told_readable, plan_readable, touches_readable, told_modes, plan_get_openmodes, touches_get_openmodes, plan_set_openmodes, touches_set_openmodes}

-- io_seek

place_plain : (z : ℤ) → IsPlain (place_asks z)
place_plain (pos n) = given_plain _ _ _ refl (λ e. ok_plain n)
place_plain (negsuc n) = err_plain _ refl

module _ (t p : ℕ) (offset : ℤ) (whence : Whence) where
  seek_same : (S : ℕ → Bool) (v w : World) → Agree S v w → S t ≡ true → seek_asks w t p offset whence ≡ seek_asks v t p offset whence
  seek_same S v w a ours = first_same _ _ _ _ (handle_same a t ours p any_mode) (λ h is. refl)

  seek_plain : (w : World) → IsPlain (seek_asks w t p offset whence)
  seek_plain w = first_plain _ _ (handle_plain w t p any_mode) (λ h is. first_plain _ _ (place_plain _) (λ k e. ok_plain _))

  pub seek_laws : CallLaws t (λ w. plan_seek w t p offset whence) (λ w. touches_seek w t p offset whence)
  seek_laws = record {
    piece = λ w s. answered_piece s (seek_asks w t p offset whence) _ _ (λ k is. cursor_whole s k.0 (inl refl) k.1);
    same = λ S v w c d a ours. answered_same _ _ _ _ (seek_same S v w a ours) (λ k is. refl);
    plain = λ w. answered_plain _ _ (seek_plain w) (λ k is. done_plain (Count k.1) refl);
  }

-- io_readable

pub readable_laws : (t p : ℕ) → CallLaws t (λ w. plan_readable w t p) (λ w. touches_readable w t p)
readable_laws t p =
    looking_laws t (λ w. readable_asks w t p) told_readable (λ S v w c a ours. first_same _ _ _ _ (handle_same a t ours p READ) (λ h is.
    given_same _ _ _ _ _ refl (λ file. ap Ok (readable_same a h.node h.opened.cursor c (handle_read t ours p h is)))))
    (λ w. first_plain _ _ (handle_plain w t p READ) (λ h is. given_plain _ _ _ refl (λ file. ok_plain _))) (λ h. refl)

-- io_get_openmodes

pub get_openmodes_laws : (t p : ℕ) → CallLaws t (λ w. plan_get_openmodes w t p) (λ w. touches_get_openmodes w t p)
get_openmodes_laws t p = looking_laws t (λ w. handle_asks w t p any_mode) told_modes (λ S v w c a ours. handle_same a t ours p any_mode) (λ w. handle_plain w t p any_mode) (λ h. refl)

-- io_set_all_openmodes

pub set_openmodes_laws : (t p : ℕ) (flags : OpenFlags) → CallLaws t (λ w. plan_set_openmodes w t p flags) (λ w. touches_set_openmodes w t p flags)
set_openmodes_laws t p flags = record {
  piece = λ w s. answered_piece s (handle_asks w t p any_mode) _ _ (λ a is. append_whole s a.open_name (inl refl) (asks flags APPEND));
  same = λ S v w c d a ours. answered_same _ _ _ _ (handle_same a t ours p any_mode) (λ b is. refl);
  plain = λ w. answered_plain _ _ (handle_plain w t p any_mode) (λ a is. done_plain Done refl);
}
