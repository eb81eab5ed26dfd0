-- By which errors what the calls share is refused: rights, ports, opens, and what may be made and named.
use Rattle.std.proofs.Common.{List, ◌≡◌, ℕ, Bool, true, Option, Some, None, [], ◌∷◌, refl, sym, ◌∙◌, true≢false}
use Rattle.std.specs.Prelude.{not, is_some, nat_lt, Result, Ok, Err}
use Rattle.hurd_creds.specs.declared.errno.Errno.TheVariants.{EBADF, EEXIST, EXDEV, ENOTDIR, EISDIR, EROFS, EOPNOTSUPP, EDIED, ESRCH, EOVERFLOW, ENOSPC}
use Rattle.hurd_machine.proofs.Common.{Errno, Kind, Name, Node, Right, ServerInfo, Task, World, are_kin, both_asks, edit_by, entry_of, get, handle_asks, home_at, info_at, io_right_of, is_dir, is_made, is_taken, keeps_tree, link_by, link_in, links_at, makes_at, most_links, port_asks, ports_of, right_at, right_in, sets_attrs_at, task_at, task_of, counts_for, overfills, space_at}
use Rattle.hurd_trans_iface.specs.Nodes.{linked}
use Rattle.hurd_nodes.specs.Shown.{made_by}
use Rattle.hurd_ports.specs.Tables.{right_of, io_of, io_right_in}
use Rattle.hurd_refusals.specs.Errors.{is_among}
use Rattle.hurd_refusals.proofs.In.{In, are_among, err_in, first_in, given_in, if_in, more_in, ok_in, on_in, or_in}

abbrev pub right_errors : List Errno
right_errors = EBADF ∷ ESRCH ∷ []

abbrev pub port_errors : List Errno
port_errors = EBADF ∷ EDIED ∷ ESRCH ∷ []

abbrev pub make_errors : List Errno
make_errors = EDIED ∷ ENOTDIR ∷ EROFS ∷ []

abbrev pub attr_errors : List Errno
attr_errors = EDIED ∷ EOPNOTSUPP ∷ []

abbrev pub link_errors : List Errno
link_errors = EDIED ∷ ENOTDIR ∷ EROFS ∷ EXDEV ∷ EISDIR ∷ EEXIST ∷ ENOSPC ∷ EOVERFLOW ∷ []

-- A task may be missing.
pub task_in : {es : List Errno} → is_among ESRCH es ≡ true → (w : World) (t : ℕ) → In es (task_of (ports_of w) t)
task_in has w t = or_in ESRCH (task_at w t) has

-- A right may be missing, or its task.
pub right_in-all : {es : List Errno} → are_among right_errors es ≡ true → (w : World) (t q : ℕ) → In es (right_of (ports_of w) t q)
right_in-all has w t q = more_in right_errors has (go (task_at w t))
  where
    go : (o : Option Task) → In right_errors (right_at q o)
    go None = err_in refl
    go (Some x) = or_in EBADF (right_in q x.ports) refl

-- The same of a right to use a node.
pub io_in : {es : List Errno} → are_among right_errors es ≡ true → (w : World) (t q : ℕ) → In es (io_right_of (ports_of w) t q)
io_in has w t q = more_in right_errors has (go (right_of (ports_of w) t q) (right_in-all refl w t q))
  where
    go : (o : Result Right Errno) → In right_errors o → In right_errors (io_right_in o)
    go (Err e) out = err_in (out.by e refl)
    go (Ok r) out = or_in EBADF (io_of r) refl

-- Of a port the node may be gone too.
pub port_in : {es : List Errno} → are_among port_errors es ≡ true → (w : World) (t q : ℕ) → In es (port_asks w t q)
port_in has w t q = more_in port_errors has (first_in _ _ (io_in refl w t q) (λ r is. on_in _ _ _ refl (λ h eh. ok_in)))

-- The same of two ports.
pub both_in : {es : List Errno} → are_among port_errors es ≡ true → (w : World) (t p q : ℕ) → In es (both_asks w t p q)
both_in has w t p q = more_in port_errors has (
    first_in _ _ (io_in refl w t p) (λ r is.
    first_in _ _ (io_in refl w t q) (λ s at.
    on_in _ _ _ refl (λ h eh. on_in _ _ _ refl (λ k ek. ok_in)))))

-- The same of what a port has open.
pub handle_in : {es : List Errno} → are_among port_errors es ≡ true → (w : World) (t q mode : ℕ) → In es (handle_asks w t q mode)
handle_in has w t q mode = more_in port_errors has (
    first_in _ _ (io_in refl w t q) (λ r is.
    on_in _ _ _ refl (λ o eo. given_in _ _ _ refl (λ m. on_in _ _ _ refl (λ h eh. ok_in)))))

-- A file or a directory may be made in a directory of a tree, under a name that isn't taken.
pub makes_in : {es : List Errno} → are_among make_errors es ≡ true → (w : World) (d : Name) (entry : Option (List ℕ)) (kind : Kind) → is_made kind ≡ true
    → ((x : Node) → get w.nodes d ≡ Some x → is_taken entry x.body ≡ true → is_among EEXIST es ≡ true) → In es (makes_at w d entry kind)
makes_in {es} has w d entry kind made taken = go (info_at w d) (get w.nodes d) refl
  where
    lost : {A : Type 0} → In {A = A} es (Err EDIED)
    lost = more_in make_errors has (err_in refl)

    go : (i : Option ServerInfo) (o : Option Node) → get w.nodes d ≡ o → In es (made_by entry kind i o)
    go None o e = lost
    go (Some i) None e = lost
    go (Some i) (Some x) e =
        if_in (not (is_dir x.header.kind)) _ _ (λ no. more_in make_errors has (err_in refl)) (λ dir.
        if_in (not (keeps_tree i.kind)) _ _ (λ no. more_in make_errors has (err_in refl)) (λ keeps.
        if_in (is_taken entry x.body) _ _ (λ is. err_in (taken x e is)) (λ free.
        if_in (is_made kind) _ _ (λ is. ok_in) (λ not. absurd (true≢false (sym made ∙ not))))))

-- Attributes are those of a node of a tree.
pub sets_attrs_in : {es : List Errno} → are_among attr_errors es ≡ true → (w : World) (n : Name) → In es (sets_attrs_at w n)
sets_attrs_in has w n = more_in attr_errors has (go (info_at w n) (get w.nodes n))
  where
    go : (i : Option ServerInfo) (o : Option Node) → In attr_errors (edit_by i o)
    go None o = err_in refl
    go (Some i) None = err_in refl
    go (Some i) (Some x) = if_in (keeps_tree i.kind) _ _ (λ is. ok_in) (λ no. err_in refl)

-- A file of the same server gets another name in a directory of a tree.
pub links_in : {es : List Errno} → are_among link_errors es ≡ true → (w : World) (d : Name) (name : List ℕ) (n : Name) → In es (links_at w d name n)
links_in has w d name n = more_in link_errors has (go (are_kin (home_at w d) (home_at w n)) (info_at w d) (get w.nodes d) (get w.nodes n))
  where
    space : Option ℕ
    space = space_at w d

    in_tree : (kin : Bool) (d : Node) (o : Option Node) → In link_errors (link_in space name kin d o)
    in_tree kin d None = err_in refl
    in_tree kin d (Some x) =
        if_in (not kin) _ _ (λ _. err_in refl) (λ _.
        if_in (is_dir x.header.kind) _ _ (λ _. err_in refl) (λ _.
        if_in (is_some (entry_of name (Some d.body))) _ _ (λ _. err_in refl) (λ _.
        if_in (overfills space (counts_for x.header) (counts_for (linked x.header))) _ _ (λ _. err_in refl) (λ _.
        if_in (nat_lt x.header.links most_links) _ _ (λ _. ok_in) (λ _. err_in refl)))))

    go : (kin : Bool) (i : Option ServerInfo) (d o : Option Node) → In link_errors (link_by name kin i space d o)
    go kin None d o = err_in refl
    go kin (Some i) None o = err_in refl
    go kin (Some i) (Some d) o =
        if_in (not (is_dir d.header.kind)) _ _ (λ _. err_in refl) (λ _. if_in (not (keeps_tree i.kind)) _ _ (λ _. err_in refl) (λ _. in_tree kin d o))
