-- By which errors calls on servers are refused: sending them away, control, options, and setting and starting them.
use Rattle.std.proofs.Common.{List, ◌≡◌, ℕ, Bool, true, false, Option, Some, None, [], ◌∷◌, refl}
use Rattle.std.specs.Prelude.{Result, Ok, Err, is_some}
use Rattle.hurd_creds.specs.Access.{IdSets}
use Rattle.hurd_creds.specs.declared.trans_flags.GoawayFlags.{GoawayFlags}
use Rattle.hurd_creds.specs.declared.errno.Errno.{Errno}
use Rattle.hurd_creds.specs.declared.errno.Errno.TheVariants.{EPERM, ENOENT, EBADF, EACCES, EBUSY, ENOTDIR, EINVAL, ELOOP, ENAMETOOLONG, EOPNOTSUPP, EDIED, ENXIO, ESRCH, EOVERFLOW}
use Rattle.hurd_ports.specs.declared.table.PendingStart.{PendingStart}
use Rattle.hurd_machine.proofs.Common.{Meaning, Name, Named, World}
use Rattle.hurd_machine.specs.declared.call.Setting.{Setting}
use Rattle.hurd_fsys.specs.Aims.{aims_asks}
use Rattle.hurd_fsys.specs.Controls.{control_asks}
use Rattle.hurd_fsys.specs.Owned.{owned_asks}
use Rattle.hurd_fsys.specs.Fsys.{goaway_asks, options_asks, plan_control, plan_set_options, seated_asks, served_asks}
use Rattle.hurd_fsys.specs.Setting.{box_aims, plan_set_translator, seat_asks, seated, sets_nothing, setter_asks, setting_where, stored_asks}
use Rattle.hurd_fsys.specs.Starting.{Startup, pending_asks, plan_startup, start_aims, started, startup_asks, waiting_asks}
use Rattle.hurd_refusals.specs.Errors.{is_among}
use Rattle.hurd_refusals.proofs.In.{Among, In, answered_among, are_among, done_among, first_in, given_in, more_in, ok_in, on_in, refused_among}
use Rattle.hurd_refusals.proofs.Asked.{port_errors, port_in}
use Rattle.hurd_refusals.proofs.Rooms.{control_in-all, naming_in, options_among, room_in}
use Rattle.hurd_refusals.proofs.Targets.{resolve_all_in, target_errors}

-- A port controls a server that is there.
control_in : {es : List Errno} → are_among port_errors es ≡ true → (w : World) (t c : ℕ) → In es (control_asks w t c)
control_in has w t c = more_in port_errors has (first_in _ _ (control_in-all refl w t c) (λ s is. on_in _ _ _ refl (λ i ei. ok_in)))

-- A port's ids own its node.
owned_in : {es : List Errno} → are_among (EPERM ∷ port_errors) es ≡ true → (w : World) (t p : ℕ) → In es (owned_asks w t p)
owned_in has w t p = more_in (EPERM ∷ port_errors) has (first_in _ _ (port_in refl w t p) (λ n is. given_in _ _ _ refl (λ owned. ok_in)))

-- fsys_goaway
pub goaway_in : (w : World) (t c : ℕ) (flags : GoawayFlags) → In (EBADF ∷ EDIED ∷ EBUSY ∷ ESRCH ∷ []) (goaway_asks w t c flags)
goaway_in w t c flags = first_in _ _ (control_in refl w t c) (λ k is. given_in _ _ _ refl (λ may. ok_in))

-- file_get_translator_cntl and file_getcontrol

-- A server is active on a node, or one of these is the error.
pub seated_in : (w : World) (t p : ℕ) → In (EBADF ∷ EDIED ∷ EPERM ∷ ENXIO ∷ ESRCH ∷ EOVERFLOW ∷ []) (seated_asks w t p)
seated_in w t p = first_in _ _ (owned_in refl w t p) (λ n is. on_in _ _ _ refl (λ s e. ok_in))

-- A node has a server.
pub served_in : (w : World) (t p : ℕ) → In (EBADF ∷ EDIED ∷ EPERM ∷ ESRCH ∷ EOVERFLOW ∷ []) (served_asks w t p)
served_in w t p = first_in _ _ (port_in refl w t p) (λ n is. on_in _ _ _ refl (λ s e. on_in _ _ _ refl (λ i ei. given_in _ _ _ refl (λ may. ok_in))))

-- A port controls what was asked for.
pub control_among : {es : List Errno} → are_among (ESRCH ∷ EOVERFLOW ∷ []) es ≡ true → (w : World) (t : ℕ) (asked : Result Name Errno) → In es asked → Among es (plan_control w t asked).reply
control_among has w t asked p = answered_among asked _ p (λ s is. answered_among _ _ (room_in has w t 0) (λ x ex. done_among refl))

-- fsys_get_options
pub options_in : (w : World) (t c : ℕ) → In port_errors (options_asks w t c)
options_in w t c = first_in _ _ (control_in refl w t c) (λ k is. ok_in)

-- fsys_set_options
pub set_options_among : (w : World) (t c : ℕ) (words : List (List ℕ)) → Among (EBADF ∷ EDIED ∷ EINVAL ∷ ESRCH ∷ []) (plan_set_options w t c words).reply
set_options_among w t c words = answered_among _ _ (control_in-all refl w t c) (λ s is. options_among refl w s words)

-- file_get_translator
pub stored_in : (w : World) (t p : ℕ) → In (EBADF ∷ EDIED ∷ EINVAL ∷ ESRCH ∷ []) (stored_asks w t p)
stored_in w t p = first_in _ _ (port_in refl w t p) (λ n is. on_in _ _ _ refl (λ words e. ok_in))

-- The targets of a server that comes are found.
aims_in : {es : List Errno} → are_among target_errors es ≡ true → (asleep : Errno) → is_among asleep es ≡ true → is_among ENOTDIR es ≡ true → (w : World) (ids : IdSets) (m : Meaning) → In es (aims_asks asleep w ids m)
aims_in has asleep waits dirs w ids m = first_in _ _ (resolve_all_in has asleep waits w ids _) (λ ns e. given_in _ _ _ dirs (λ fit. ok_in))

-- file_set_translator
module _ (w : World) (t : ℕ) (f : Setting) (words : List (List ℕ)) where
  abbrev set_errors : List Errno
  set_errors = EBADF ∷ EDIED ∷ EPERM ∷ EINVAL ∷ EOPNOTSUPP ∷ EBUSY ∷ ENXIO ∷ ENAMETOOLONG ∷ ENOTDIR ∷ EACCES ∷ ENOENT ∷ ELOOP ∷ ESRCH ∷ EOVERFLOW ∷ []

  -- What comes is named, if something does.
  box_among : (n : Named) (box : Option Meaning) (old : Option Name) (targets : List Name) → Among set_errors (seated w t n f words box old targets).reply
  box_among n None old targets = done_among refl
  box_among n (Some m) old targets = answered_among _ _ (naming_in refl w t 2) (λ x ex. done_among refl)

  -- What is brought has targets, or one of these is the error.
  box_in-all : (n : Named) (box : Option Meaning) → In set_errors (box_aims w n box)
  box_in-all n None = ok_in
  box_in-all n (Some m) = aims_in refl ENXIO refl refl w _ m

  -- Both halves are set, or neither.
  half_among : (box : Option Meaning) (n : Named) (b : Bool) → Among set_errors (setting_where b w t f words box n).reply
  half_among box n true = done_among refl
  half_among box n false =
      answered_among (seat_asks w f n) _ (given_in _ _ _ refl (λ may. given_in _ _ _ refl (λ free. ok_in))) (λ old is.
      answered_among _ _ (box_in-all n box) (λ targets e. box_among n box old targets))

  -- A translator is set, or one of these is the error.
  pub set_translator_among : (p : ℕ) (box : Option Meaning) → Among set_errors (plan_set_translator w t p f words box).reply
  set_translator_among p box =
      answered_among (setter_asks w t p f (is_some box)) _ (first_in _ _ (owned_in refl w t p) (λ n is. given_in _ _ _ refl (λ may. ok_in))) (λ n is. half_among box n (sets_nothing f))

abbrev start_errors : List Errno
start_errors = EDIED ∷ EBUSY ∷ ENAMETOOLONG ∷ ENOTDIR ∷ EACCES ∷ ENOENT ∷ ELOOP ∷ ESRCH ∷ EOVERFLOW ∷ []

-- start_failed
pub pending_in : (w : World) (t : ℕ) → In (ESRCH ∷ []) (pending_asks w t)
pending_in w t = on_in _ _ _ refl (λ s es. ok_in)

-- fsys_startup

-- A start finds all that it asks for, or one of these is the error.
startup_in : (w : World) (t : ℕ) (m : Meaning) (s : PendingStart) → In start_errors (startup_asks w t m s)
startup_in w t m s =
    first_in (waiting_asks w s) _ (on_in _ _ _ refl (λ h eh. given_in _ _ _ refl (λ waits. ok_in))) (λ h eh.
    first_in (start_aims w t m h.owner) _ (on_in _ _ _ refl (λ x ex. aims_in refl EBUSY refl refl w _ m)) (λ ns en.
    first_in _ _ (naming_in refl w t 2) (λ x ex. ok_in)))

-- What is found is started.
started_among : (t : ℕ) (s : PendingStart) (m : Meaning) (r : Result Startup Errno) → In start_errors r → Among start_errors (started t s m r).reply
started_among t s m (Err e) p = refused_among (p.by e refl)
started_among t s m (Ok a) p = done_among refl

-- A server is started, or one of these is the error.
pub startup_among : (w : World) (t : ℕ) (m : Meaning) → Among start_errors (plan_startup w t m).reply
startup_among w t m = answered_among _ _ (more_in (ESRCH ∷ []) refl (pending_in w t)) (λ s is. started_among t s m (startup_asks w t m s) (startup_in w t m s))
