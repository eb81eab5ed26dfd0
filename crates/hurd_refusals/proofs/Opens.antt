-- By which errors calls on open nodes are refused: reading, writing, seeking, sharing, sizes and attributes.
use Rattle.std.proofs.Common.{List, ◌≡◌, ℕ, ℤ, pos, negsuc, zero, suc, Bool, true, Option, Some, None, [], ◌∷◌, refl, subst}
use Rattle.std.specs.Prelude.{Ok}
use Rattle.hurd_creds.specs.Access.{IdSets}
use Rattle.hurd_creds.specs.declared.attrs.Attrs.{Attrs}
use Rattle.hurd_creds.specs.declared.errno.Errno.TheVariants.{EPERM, EBADF, ENOTDIR, EISDIR, EINVAL, EFBIG, EPIPE, EWOULDBLOCK, EIO, EOPNOTSUPP, EDIED, ESRCH, EOVERFLOW, ENOSPC}
use Rattle.hurd_machine.proofs.Common.{Body, CanBeWritten, Content, Errno, Listing, READ, Sound, WRITE, World, any_mode, handle_asks, names_of}
use Rattle.hurd_machine.specs.declared.call.Whence.{Whence}
use Rattle.hurd_machine.proofs.Asks.{first_ok}
use Rattle.hurd_io.specs.Io.{offset_of, plan_read, plan_write, read_asks, reads, stat_asks, write_asks}
use Rattle.hurd_io.specs.Opens.{place_asks, readable_asks, seek_asks}
use Rattle.hurd_io.specs.Sharing.{share_asks}
use Rattle.hurd_files.specs.Access.{setting_asks}
use Rattle.hurd_files.specs.Files.{plan_set_size, readdir_asks, set_size_asks}
use Rattle.hurd_refusals.specs.Errors.{is_among}
use Rattle.hurd_refusals.proofs.In.{Among, In, answered_among, done_among, err_in, first_in, given_in, more_in, ok_in}
use Rattle.hurd_refusals.proofs.Asked.{handle_in, io_in, port_errors, port_in, sets_attrs_in}
use Rattle.hurd_refusals.proofs.Rooms.{room_in}
use Rattle.hurd_refusals.proofs.Served.{can_write, reads_in, resizes_in, writes_in}

-- An offset may be one that none can be.
offset_in : {es : List Errno} → is_among EINVAL es ≡ true → (offset : ℤ) → In es (offset_of offset)
offset_in has (pos n) = ok_in
offset_in has (negsuc zero) = ok_in
offset_in has (negsuc (suc n)) = err_in has

-- io_read
pub read_among : (w : World) (t p amount : ℕ) (offset : ℤ) → Among (EBADF ∷ EDIED ∷ EISDIR ∷ EINVAL ∷ EWOULDBLOCK ∷ EIO ∷ ESRCH ∷ []) (plan_read w t p amount offset).reply
read_among w t p amount offset =
    answered_among (read_asks w t p offset) _ (first_in _ _ (handle_in refl w t p READ) (λ a is. given_in _ _ _ refl (λ file. first_in _ _ (offset_in refl offset) (λ o eo. ok_in)))) (λ a is.
    answered_among _ _ (reads_in refl w a.node a.at _ _) (λ d told. done_among refl))

-- what a function takes
abbrev Takes : {A B : Type 0} → (A → B) → Type 0
Takes {A} {B} f = A

-- What is written was open to write.
written_at : (w : World) → Sound w → (t p : ℕ) (offset : ℤ) (a : Takes (reads 0 w)) → write_asks w t p offset ≡ Ok a → CanBeWritten w a.node
written_at w s t p offset a is =
    let h = first_ok _ _ a is in
    let place = first_ok _ _ a h.2 in
    let same : h.0.node ≡ a.node = cc (place.2) in
    subst (CanBeWritten w) same (can_write w s t p h.0 h.1)

-- io_write
pub write_among : (w : World) → Sound w → (t p : ℕ) (bytes : List ℕ) (offset : ℤ)
    → Among (EBADF ∷ EDIED ∷ EINVAL ∷ EFBIG ∷ EPIPE ∷ EWOULDBLOCK ∷ ENOSPC ∷ ESRCH ∷ []) (plan_write w t p bytes offset).reply
write_among w s t p bytes offset =
    answered_among (write_asks w t p offset) _ (first_in _ _ (handle_in refl w t p WRITE) (λ a is. first_in _ _ (offset_in refl offset) (λ o eo. ok_in))) (λ a is.
    answered_among _ _ (writes_in refl w a.node (written_at w s t p offset a is) a.at bytes _) (λ d told. done_among refl))

-- io_seek
place_in : {es : List Errno} → is_among EINVAL es ≡ true → (place : ℤ) → In es (place_asks place)
place_in has (pos n) = given_in _ _ _ has (λ low. ok_in)
place_in has (negsuc n) = err_in has

-- A seek is refused by these errors alone.
pub seek_in : (w : World) (t p : ℕ) (offset : ℤ) (whence : Whence) → In (EBADF ∷ EDIED ∷ EINVAL ∷ ESRCH ∷ []) (seek_asks w t p offset whence)
seek_in w t p offset whence = first_in _ _ (handle_in refl w t p any_mode) (λ a is. first_in _ _ (place_in refl _) (λ at e. ok_in))

-- io_stat
pub stat_in : (w : World) (t p : ℕ) → In port_errors (stat_asks w t p)
stat_in w t p = first_in _ _ (port_in refl w t p) (λ n is. ok_in)

-- io_readable
pub readable_in : (w : World) (t p : ℕ) → In (EBADF ∷ EDIED ∷ EISDIR ∷ ESRCH ∷ []) (readable_asks w t p)
readable_in w t p = first_in _ _ (handle_in refl w t p READ) (λ a is. given_in _ _ _ refl (λ file. ok_in))

-- io_duplicate, io_reauthenticate and io_restrict_auth
pub share_in : (w : World) (t p : ℕ) → In (EBADF ∷ EDIED ∷ ESRCH ∷ EOVERFLOW ∷ []) (share_asks w t p)
share_in w t p = first_in _ _ (port_in refl w t p) (λ n is. first_in _ _ (room_in refl w t 0) (λ x ex. ok_in))

-- file_chmod and file_chown
pub setting_in : (w : World) (t p : ℕ) (can : IdSets → Attrs → Bool) → In (EBADF ∷ EDIED ∷ EOPNOTSUPP ∷ EPERM ∷ ESRCH ∷ []) (setting_asks w t p can)
setting_in w t p can =
    first_in _ _ (port_in refl w t p) (λ n is.
    first_in _ _ (sets_attrs_in refl w n.right.node) (λ u eu.
    given_in _ _ _ refl (λ may. ok_in)))

-- file_set_size
pub set_size_among : (w : World) → Sound w → (t p size : ℕ) → Among (EBADF ∷ EDIED ∷ EFBIG ∷ ENOSPC ∷ ESRCH ∷ []) (plan_set_size w t p size).reply
set_size_among w s t p size =
    answered_among (set_size_asks w t p) _ (first_in _ _ (handle_in refl w t p WRITE) (λ a is. ok_in)) (λ n is.
    let h = first_ok (handle_asks w t p WRITE) _ n is in
    let same : h.0.node ≡ n = cc (h.2) in
    answered_among _ _ (resizes_in refl w n (subst (CanBeWritten w) same (can_write w s t p h.0 h.1)) size) (λ d told. done_among refl))

-- dir_readdir
names_in : (o : Option Body) → In (EDIED ∷ ENOTDIR ∷ []) (names_of o)
names_in None = err_in refl
names_in (Some (Content bs)) = err_in refl
names_in (Some (Listing es)) = ok_in

-- A directory is read that is open to read, or one of these is the error.
pub readdir_in : (w : World) (t p : ℕ) → In (EBADF ∷ EDIED ∷ ENOTDIR ∷ ESRCH ∷ []) (readdir_asks w t p)
readdir_in w t p =
    first_in _ _ (handle_in refl w t p READ) (λ a is.
    given_in _ _ _ refl (λ dir.
    first_in _ _ (io_in refl w t p) (λ q eq.
    first_in _ _ (more_in (EDIED ∷ ENOTDIR ∷ []) refl (names_in _)) (λ own told. ok_in))))
