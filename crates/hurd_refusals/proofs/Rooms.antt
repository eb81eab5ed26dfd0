-- By which errors tasks are refused that name things, send and receive rights, and make nodes.
use Rattle.std.proofs.Common.{List, ◌≡◌, ℕ, true, Some, [], ◌∷◌, refl}
use Rattle.std.specs.Prelude.{Result, Ok, Err}
use Rattle.hurd_creds.specs.declared.attrs.Kind.TheVariants.{File, Dir}
use Rattle.hurd_creds.specs.declared.errno.Errno.TheVariants.{EBADF, EEXIST, EDIED, ESRCH, EOVERFLOW, EWOULDBLOCK, EINVAL}
use Rattle.hurd_machine.proofs.Common.{Errno, Name, Node, Right, World, get, ports_of}
use Rattle.hurd_trans_iface.specs.Answers.{is_taken}
use Rattle.hurd_ports.specs.Tables.{right_of}
use Rattle.hurd_core.specs.Core.{NewNodeAt, making_asks, making_dir_asks, naming_asks, receive_asks, room_asks, send_asks}
use Rattle.hurd_core.specs.Control.{control_in, control_of, plan_options, server_in}
use Rattle.hurd_refusals.specs.Errors.{is_among}
use Rattle.hurd_refusals.proofs.In.{Among, In, and_other, answered_among, are_among, done_among, err_in, first_in, given_in, more_in, ok_in, on_in, or_in}
use Rattle.hurd_refusals.proofs.Asked.{make_errors, makes_in, right_errors, right_in-all}
use Rattle.hurd_refusals.proofs.Served.{takes_in}

abbrev pub room_errors : List Errno
room_errors = ESRCH ∷ EOVERFLOW ∷ []

-- A task numbers a port, and names things, unless its numbers are at their greatest.
pub room_in : {es : List Errno} → are_among room_errors es ≡ true → (w : World) (t names : ℕ) → In es (room_asks w t names)
room_in has w t names = more_in room_errors has (on_in _ _ _ refl (λ x ex. given_in _ _ _ refl (λ room. ok_in)))

-- A task names things.
pub naming_in : {es : List Errno} → are_among room_errors es ≡ true → (w : World) (t names : ℕ) → In es (naming_asks w t names)
naming_in has w t names = more_in room_errors has (on_in _ _ _ refl (λ x ex. given_in _ _ _ refl (λ room. ok_in)))

-- A right is sent to a task that is there.
pub send_in : {es : List Errno} → are_among right_errors es ≡ true → (w : World) (t p q : ℕ) → In es (send_asks w t p q)
send_in has w t p q = more_in right_errors has (first_in _ _ (right_in-all refl w t p) (λ r is. given_in _ _ _ refl (λ there. ok_in)))

-- A right is received that was sent.
pub receive_in : (w : World) (t : ℕ) → In (EWOULDBLOCK ∷ ESRCH ∷ EOVERFLOW ∷ []) (receive_asks w t)
receive_in w t = on_in _ _ _ refl (λ x ex. on_in _ _ _ refl (λ r er. given_in _ _ _ refl (λ room. ok_in)))

-- A file is made and opened.
pub making_in : {es : List Errno} → are_among (ESRCH ∷ EOVERFLOW ∷ make_errors) es ≡ true → (w : World) (t : ℕ) (f : NewNodeAt)
    → ((x : Node) → get w.nodes f.dir ≡ Some x → is_taken f.entry x.body ≡ true → is_among EEXIST es ≡ true) → In es (making_asks w t f)
making_in {es} has w t f taken =
    first_in _ _ (more_in (ESRCH ∷ EOVERFLOW ∷ make_errors) has (room_in refl w t 2)) (λ x ex.
    first_in _ _ (makes_in (more_make has) w f.dir f.entry File refl taken) (λ u eu.
    more_in (ESRCH ∷ EOVERFLOW ∷ make_errors) has (on_in _ _ _ refl (λ s es. ok_in))))
  where
    -- The errors of making are among these.
    more_make : are_among (ESRCH ∷ EOVERFLOW ∷ make_errors) es ≡ true → are_among make_errors es ≡ true
    more_make h = and_other (is_among EOVERFLOW es) _ (and_other (is_among ESRCH es) _ h)

-- A directory is made.
pub making_dir_in : (w : World) (t : ℕ) (f : NewNodeAt) → In (EEXIST ∷ ESRCH ∷ EOVERFLOW ∷ make_errors) (making_dir_asks w t f)
making_dir_in w t f =
    first_in _ _ (makes_in refl w f.dir f.entry Dir refl (λ x ex is. refl)) (λ u eu.
    first_in _ _ (naming_in refl w t 1) (λ x ex.
    on_in _ _ _ refl (λ s es. ok_in)))

-- A port controls a server.
pub control_in-all : {es : List Errno} → are_among right_errors es ≡ true → (w : World) (t c : ℕ) → In es (control_of (ports_of w) t c)
control_in-all has w t c = more_in right_errors has (go (right_of (ports_of w) t c) (right_in-all refl w t c))
  where
    go : (o : Result Right Errno) → In right_errors o → In right_errors (control_in o)
    go (Err e) p = err_in (p.by e refl)
    go (Ok r) p = or_in EBADF (server_in r) refl

-- A server takes options.
pub options_among : {es : List Errno} → are_among (EDIED ∷ EINVAL ∷ []) es ≡ true → (w : World) (s : Name) (words : List (List ℕ)) → Among es (plan_options w s words).reply
options_among has w s words = answered_among _ _ (takes_in has words _) (λ a is. done_among refl)
