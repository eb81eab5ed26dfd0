-- By which errors calls on the entries of directories are refused.
use Rattle.std.proofs.Common.{List, ◌≡◌, ℕ, true, Option, Some, None, [], ◌∷◌, refl, sym, true≢false}
use Rattle.std.specs.Prelude.{Ok}
use Rattle.hurd_creds.specs.Names.{same_name}
use Rattle.hurd_creds.specs.declared.mode.Mode.{Mode}
use Rattle.hurd_creds.specs.declared.open_flags.OpenFlags.{OpenFlags}
use Rattle.hurd_creds.specs.declared.errno.Errno.TheVariants.{ENOENT, EBADF, EACCES, EBUSY, EEXIST, EXDEV, ENOTDIR, EISDIR, EINVAL, EROFS, ENAMETOOLONG, ENOTEMPTY, EDIED, ESRCH, EOVERFLOW, ENOSPC}
use Rattle.std.proofs.Common.{◌∙◌, ap}
use Rattle.hurd_trans_iface.specs.Answers.{is_taken}
use Rattle.hurd_machine.proofs.Common.{Errno, Header, Name, Named, Node, World}
use Rattle.hurd_machine.proofs.Asks.{first_ok, on_ok}
use Rattle.hurd_core.specs.Core.{NewNodeAt}
use Rattle.hurd_dirs.specs.Entry.{dir_asks, entry_asks, name_asks}
use Rattle.hurd_dirs.specs.File.{file_by, mkfile_asks, plan_mkfile}
use Rattle.hurd_dirs.specs.Link.{link_asks, plan_link}
use Rattle.hurd_dirs.specs.Make.{mkdir_asks, plan_mkdir}
use Rattle.hurd_dirs.specs.Remove.{found_asks, rmdir_asks, taking_asks, unlink_asks}
use Rattle.hurd_dirs.specs.Rename.{gives_way, leaves_asks, old_asks, rename_asks, trees_ask}
use Rattle.hurd_refusals.proofs.In.{Among, In, answered_among, are_among, done_among, first_in, given_in, if_in, more_in, ok_in, on_in}
use Rattle.hurd_refusals.proofs.Asked.{both_in, links_in, make_errors, port_in}
use Rattle.hurd_refusals.proofs.Rooms.{making_dir_in, making_in}

-- Not all bytes are a name.
name_in : {es : List Errno} → are_among (EINVAL ∷ ENAMETOOLONG ∷ []) es ≡ true → (name : List ℕ) → In es (name_asks name)
name_in has name = more_in (EINVAL ∷ ENAMETOOLONG ∷ []) has (given_in _ _ _ refl (λ is. given_in _ _ _ refl (λ short. ok_in)))

abbrev dir_errors : List Errno
dir_errors = ENOTDIR ∷ EROFS ∷ EACCES ∷ ENOENT ∷ []

-- Entries are made and taken away in a directory that is there, by ids that may change it.
dir_in : {es : List Errno} → are_among dir_errors es ≡ true → (w : World) (a : Named) → In es (dir_asks w a)
dir_in has w a = more_in dir_errors has (
    first_in _ _ (given_in _ _ _ refl (λ dir. given_in _ _ _ refl (λ tree. ok_in))) (λ u eu.
    given_in _ _ _ refl (λ may. given_in _ _ _ refl (λ stands. ok_in))))

abbrev entry_errors : List Errno
entry_errors = EBADF ∷ EDIED ∷ EINVAL ∷ ENAMETOOLONG ∷ ENOTDIR ∷ EROFS ∷ EACCES ∷ ENOENT ∷ ESRCH ∷ []

-- The same, with a port and a name.
entry_in : {es : List Errno} → are_among entry_errors es ≡ true → (w : World) (t p : ℕ) (name : List ℕ) → In es (entry_asks w t p name)
entry_in has w t p name = more_in entry_errors has (
    first_in _ _ (port_in refl w t p) (λ a is. first_in _ _ (name_in refl name) (λ u eu. first_in _ _ (dir_in refl w a) (λ v ev. ok_in))))

-- dir_mkdir
pub mkdir_among : (w : World) (t p : ℕ) (name : List ℕ) (mode : Mode)
    → Among (EBADF ∷ EDIED ∷ EINVAL ∷ ENAMETOOLONG ∷ ENOTDIR ∷ EROFS ∷ EACCES ∷ ENOENT ∷ EEXIST ∷ ESRCH ∷ EOVERFLOW ∷ []) (plan_mkdir w t p name mode).reply
mkdir_among w t p name mode =
    answered_among (mkdir_asks w t p name mode) _ (first_in _ _ (entry_in refl w t p name) (λ a is. on_in _ _ _ refl (λ owner eo. given_in _ _ _ refl (λ free. ok_in)))) (λ f is.
    answered_among _ _ (more_in (EEXIST ∷ ESRCH ∷ EOVERFLOW ∷ make_errors) refl (making_dir_in w t f)) (λ m em. done_among refl))

-- dir_mkfile: no entry is to name the file, so none is in the way.
pub mkfile_among : (w : World) (t p : ℕ) (flags : OpenFlags) (mode : Mode)
    → Among (EBADF ∷ EDIED ∷ ENOTDIR ∷ EROFS ∷ EACCES ∷ ENOENT ∷ ESRCH ∷ EOVERFLOW ∷ []) (plan_mkfile w t p flags mode).reply
mkfile_among w t p flags mode =
    answered_among (mkfile_asks w t p mode) _ (first_in _ _ (port_in refl w t p) (λ a is. first_in _ _ (dir_in refl w a) (λ u eu. on_in _ _ _ refl (λ owner eo. ok_in)))) (λ a is.
    answered_among _ _ (making_in refl w t a.1 (λ x ex taken. absurd (unnamed w t p mode a is x taken))) (λ m em. done_among refl))
  where
    -- No entry is to name the file.
    unnamed : (w : World) (t p : ℕ) (mode : Mode) (a : Named × NewNodeAt) → mkfile_asks w t p mode ≡ Ok a → (x : Node) → is_taken a.1.entry x.body ≡ true → ⊥
    unnamed w t p mode a is x taken =
        let n = first_ok _ _ a is in
        let u = first_ok _ _ a n.2 in
        let o = on_ok _ _ _ a u.2 in
        let same : (n.0, file_by n.0 o.0 mode) ≡ a = cc (o.2) in
        true≢false (sym taken ∙ ap (λ (b : Named × NewNodeAt). is_taken b.1.entry x.body) (sym same))

-- What an entry names is there, and is of its directory's server.
found_in : {es : List Errno} → are_among (ENOENT ∷ EDIED ∷ []) es ≡ true → (w : World) (d : Name) (name : List ℕ) → In es (found_asks w d name)
found_in has w d name = more_in (ENOENT ∷ EDIED ∷ []) has (on_in _ _ _ refl (λ n en. on_in _ _ _ refl (λ h eh. given_in _ _ _ refl (λ kin. ok_in))))

-- An entry is taken out.
taking_in : {es : List Errno} → are_among entry_errors es ≡ true → (w : World) (t p : ℕ) (name : List ℕ) → In es (taking_asks w t p name)
taking_in has w t p name = more_in entry_errors has (
    first_in _ _ (entry_in refl w t p name) (λ a is. first_in _ _ (found_in refl w a.right.node name) (λ x ex. given_in _ _ _ refl (λ may. ok_in))))

-- dir_unlink
pub unlink_in : (w : World) (t p : ℕ) (name : List ℕ) → In (EBADF ∷ EDIED ∷ EINVAL ∷ ENAMETOOLONG ∷ ENOTDIR ∷ EROFS ∷ EACCES ∷ ENOENT ∷ EISDIR ∷ ESRCH ∷ []) (unlink_asks w t p name)
unlink_in w t p name = first_in _ _ (taking_in refl w t p name) (λ x is. given_in _ _ _ refl (λ file. ok_in))

-- dir_rmdir
pub rmdir_in : (w : World) (t p : ℕ) (name : List ℕ) → In (EBADF ∷ EDIED ∷ EINVAL ∷ ENAMETOOLONG ∷ ENOTDIR ∷ EROFS ∷ EACCES ∷ ENOENT ∷ EBUSY ∷ ENOTEMPTY ∷ ESRCH ∷ []) (rmdir_asks w t p name)
rmdir_in w t p name =
    first_in _ _ (taking_in refl w t p name) (λ x is.
    given_in _ _ _ refl (λ dir. given_in _ _ _ refl (λ free. given_in _ _ _ refl (λ empty. ok_in))))

-- dir_link
pub link_among : (w : World) (t p : ℕ) (name : List ℕ) (q : ℕ)
    → Among (EBADF ∷ EDIED ∷ EINVAL ∷ ENAMETOOLONG ∷ ENOTDIR ∷ EROFS ∷ EACCES ∷ ENOENT ∷ EXDEV ∷ EISDIR ∷ EEXIST ∷ ENOSPC ∷ ESRCH ∷ EOVERFLOW ∷ []) (plan_link w t p name q).reply
link_among w t p name q =
    answered_among (link_asks w t p name q) _ (first_in _ _ (both_in refl w t p q) (λ a is. first_in _ _ (name_in refl name) (λ u eu. first_in _ _ (dir_in refl w a.0) (λ v ev. ok_in)))) (λ n is.
    answered_among _ _ (links_in refl w n.dir name n.file) (λ u eu. done_among refl))

-- dir_rename

abbrev rename_errors : List Errno
rename_errors = EBADF ∷ EDIED ∷ EINVAL ∷ ENAMETOOLONG ∷ ENOTDIR ∷ EROFS ∷ EXDEV ∷ EACCES ∷ ENOENT ∷ EISDIR ∷ EBUSY ∷ ENOTEMPTY ∷ ESRCH ∷ []

-- Both directories are of one tree.
trees_in : (w : World) (a b : Named) → In rename_errors (trees_ask w a b)
trees_in w a b = given_in _ _ _ refl (λ dirs. given_in _ _ _ refl (λ trees. given_in _ _ _ refl (λ kin. given_in _ _ _ refl (λ may. ok_in))))

-- What goes is there, and may go.
leaves_in : (w : World) (name : List ℕ) (a b : Named) → In rename_errors (leaves_asks w name a b)
leaves_in w name a b =
    given_in _ _ _ refl (λ stands. on_in _ _ _ refl (λ n en. on_in _ _ _ refl (λ k ek.
    given_in _ _ _ refl (λ kin. given_in _ _ _ refl (λ may. given_in _ _ _ refl (λ outside. ok_in))))))

-- What is there gives way.
way_in : (w : World) (b : Named) (k : Header) (m : Name) → In rename_errors (gives_way w b k m)
way_in w b k m =
    on_in _ _ _ refl (λ j ej. given_in _ _ _ refl (λ kin. given_in _ _ _ refl (λ may. given_in _ _ _ refl (λ dir.
    given_in _ _ _ refl (λ file. given_in _ _ _ refl (λ free. given_in _ _ _ refl (λ empty. ok_in)))))))

-- Nothing is there, or the node itself, or what gives way.
old_in : (w : World) (b : Named) (l : Name × Header) (o : Option Name) → In rename_errors (old_asks w b l o)
old_in w b l None = ok_in
old_in w b l (Some m) = if_in (same_name l.0 m) _ _ (λ itself. ok_in) (λ other. way_in w b l.1 m)

-- An entry goes elsewhere, or one of these is the error.
pub rename_in : (w : World) (t p : ℕ) (name : List ℕ) (q : ℕ) (new : List ℕ) → In rename_errors (rename_asks w t p name q new)
rename_in w t p name q new =
    first_in _ _ (both_in refl w t p q) (λ a is.
    first_in _ _ (name_in refl name) (λ u eu.
    first_in _ _ (name_in refl new) (λ v ev.
    first_in _ _ (trees_in w a.0 a.1) (λ d ed.
    first_in _ _ (leaves_in w name a.0 a.1) (λ l el.
    first_in _ _ (old_in w a.1 l _) (λ o eo. ok_in))))))
