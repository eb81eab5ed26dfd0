-- By which errors a walk along names is refused, and the crossing of servers on the way.
use Rattle.std.proofs.Common.{List, ◌≡◌, ℕ, Bool, true, false, Option, Some, None, [], ◌∷◌, refl, true≢false, ◌&&◌}
use Rattle.std.specs.Prelude.{not, Result, codes, slice_get}
use Rattle.std.specs.Str.{bytes_eq}
use Rattle.hurd_creds.specs.Access.{IdSets}
use Rattle.hurd_creds.specs.Bits.{asks, WRITE, CREATE, NOLINK}
use Rattle.hurd_creds.specs.declared.attrs.Kind.TheVariants.{File}
use Rattle.hurd_creds.specs.declared.errno.Errno.{Errno}
use Rattle.hurd_creds.specs.declared.errno.Errno.TheVariants.{ENOENT, EACCES, EEXIST, ENOTDIR, EISDIR, EROFS, ELOOP, ENAMETOOLONG, EDIED}
use Rattle.hurd_trans_iface.specs.Nodes.{is_dir}
use Rattle.hurd_trans_iface.specs.declared.root.Crossing.{Crossing}
use Rattle.hurd_trans_iface.specs.declared.root.Crossing.TheVariants as crossing
use Rattle.hurd_ports.specs.declared.parents.Parent.{Parent}
use Rattle.hurd_machine.proofs.Common.{Header, Name, ServerInfo, World, body_at, entry_of, first, header_at, info_at, is_server_root, only_reads}
use Rattle.hurd_lookup.specs.Lookup.{Active, Authority, Crossed, Outcome, Waiting, across, branch_in, came_in_at, cross, crossing, enter, entry_or, follow, go_back, hold_on, is_exclusive, is_last, make_asks, miss, open_asks, over, shows_name, step_asks, step_by, step_up, stepped, to_cross, to_parent, walk}
use Rattle.hurd_lookup.specs.Resolve.{leg_request}
use Rattle.hurd_core.specs.Branches.{branches_at}
use Rattle.hurd_refusals.specs.Errors.{is_among}
use Rattle.hurd_refusals.proofs.In.{In, and_one, and_other, are_among, both_true, err_in, first_in, given_if, given_in, if_in, lead_either, lead_given, lead_if, lead_on, ok_in, on_in, within}
use Rattle.hurd_refusals.proofs.Asked.{makes_in}

-- what a function makes
abbrev Comes : {A B : Type 0} → (A → B) → Type 0
Comes {A} {B} f = B

-- how what a lookup finds is to be opened, or made
abbrev pub Asked : Type 0
Asked = Comes leg_request

-- where one name leads
abbrev Stepped : Type 0
Stepped = Comes (entry_or None)

-- A test that is found not to fail holds.
not_not : (b : Bool) → not b ≡ false → b ≡ true
not_not true h = refl
not_not false h = absurd (true≢false h)

-- The first of two tests holds that do not both fail.
not_one : (b c : Bool) → not (b && c) ≡ false → b ≡ true
not_one b c h = and_one b c (not_not (b && c) h)

-- So does the second one.
not_other : (b c : Bool) → not (b && c) ≡ false → c ≡ true
not_other b c h = and_other b c (not_not (b && c) h)

-- by which errors a node is refused that is opened, or led on to, whatever is asked for
abbrev pub enter_errors : List Errno
enter_errors = EDIED ∷ ENOTDIR ∷ EACCES ∷ ELOOP ∷ []

-- and a server that is crossed
abbrev pub cross_errors : List Errno
cross_errors = ENAMETOOLONG ∷ enter_errors

-- and what is to be written
abbrev pub write_errors : List Errno
write_errors = EISDIR ∷ EROFS ∷ []

module _ (w : World) {es : List Errno} (r : Asked) (has : are_among enter_errors es ≡ true) (writes : asks r.flags WRITE ≡ true → are_among write_errors es ≡ true) where
  -- The last node is opened.
  pub open_in : (ids : IdSets) (n : Name) (ways : List Parent) → In es (open_asks w ids r n ways)
  open_in ids n ways =
      on_in _ _ _ (within EDIED enter_errors es has refl) (λ h eh.
      given_in _ _ _ (within ENOTDIR enter_errors es has refl) (λ dir.
      given_if _ _ _ (λ out. within EISDIR write_errors es (writes (not_other (is_dir h.kind) (asks r.flags WRITE) out)) refl) (λ file.
      given_if _ _ _ (λ out. within EROFS write_errors es (writes (not_one (asks r.flags WRITE) (only_reads (info_at w n)) out)) refl) (λ more.
      given_in _ _ _ (within EACCES enter_errors es has refl) (λ may. ok_in)))))

  -- A server is entered.
  pub enter_in : (q : Authority) (d root : Name) (names : List (List ℕ)) → In es (enter w q r d root names)
  enter_in q d root names = given_in _ _ _ (within ELOOP enter_errors es has refl) (λ few. if_in (is_last names) _ _ (λ last. open_in q.ids root _) (λ more. ok_in))

  -- A firm link leads on.
  pub hold_in : (q : Authority) (d : Name) (o : Option Name) (names : List (List ℕ)) → In es (hold_on w q r d o names)
  hold_in q d None names = err_in (within EDIED enter_errors es has refl)
  hold_in q d (Some n) names = on_in _ _ _ (within EDIED enter_errors es has refl) (λ h eh. given_in _ _ _ (within ELOOP enter_errors es has refl) (λ few. ok_in))

-- a server that is crossed may be entered
entering : (es : List Errno) → are_among cross_errors es ≡ true → are_among enter_errors es ≡ true
entering es has = and_other (is_among ENAMETOOLONG es) _ has

module _ (w : World) {es : List Errno} (r : Asked) (has : are_among cross_errors es ≡ true) (writes : asks r.flags WRITE ≡ true → are_among write_errors es ≡ true) where
  -- A link is followed.
  follow_in : (absolute : Bool) (q : Authority) (d : Name) (text : List ℕ) (names : List (List ℕ)) → In es (follow absolute q r d text names)
  follow_in absolute q d text names = given_in _ _ _ (within ENAMETOOLONG cross_errors es has refl) (λ short. ok_in)

  -- Each root is crossed, or one of these is the error.
  crossing_in : (c : Crossing) (q : Authority) (d root : Name) (i : ServerInfo) (names : List (List ℕ)) → In es (crossing w c q r d root i names)
  crossing_in crossing.Plain q d root i names = enter_in w r (entering es has) writes q d root names
  crossing_in (crossing.Link absolute) q d root i names = if_in (is_last names && asks r.flags NOLINK) _ _ (λ last. enter_in w r (entering es has) writes q d root names) (λ on. follow_in absolute q d i.text names)
  crossing_in crossing.Firm q d root i names = hold_in w r (entering es has) writes q d (slice_get i.targets 0) names
  crossing_in crossing.Union q d root i names = enter_in w r (entering es has) writes q d root names

  -- A server is crossed.
  pub cross_in : (q : Authority) (d root : Name) (names : List (List ℕ)) → In es (cross w q r d root names)
  cross_in q d root names =
      first_in _ _ (on_in _ _ _ (within EDIED cross_errors es has refl) (λ h eh. on_in _ _ _ (within EDIED cross_errors es has refl) (λ i ei. ok_in))) (λ i ei. crossing_in _ q d root i names)

-- along names something may be missing too
abbrev pub walk_errors : List Errno
walk_errors = ENOENT ∷ cross_errors

-- and what a file is made by
abbrev pub create_errors : List Errno
create_errors = EROFS ∷ EEXIST ∷ []

-- of the errors that some flags alone bring, those that these bring are among these
pub record Suits (es : List Errno) (r : Asked) : Type 0 where
  pub base : are_among walk_errors es ≡ true
  pub exclusive : is_exclusive r ≡ true → is_among EEXIST es ≡ true
  pub writes : asks r.flags WRITE ≡ true → are_among write_errors es ≡ true
  pub creates : asks r.flags CREATE ≡ true → are_among create_errors es ≡ true

module _ (w : World) {es : List Errno} (r : Asked) (s : Suits es r) where
  -- An error of every walk is one of these.
  on : (d : Errno) → is_among d walk_errors ≡ true → is_among d es ≡ true
  on d is = within d walk_errors es s.base is

  -- So is each error of a crossing.
  crossed : are_among cross_errors es ≡ true
  crossed = and_other (is_among ENOENT es) _ s.base

  -- A file is made.
  make_in : (q : Authority) (d : Name) (name : List ℕ) → asks r.flags CREATE ≡ true → In es (make_asks w q r d name)
  make_in q d name creates =
      let some : are_among create_errors es ≡ true = s.creates creates in
      first_in _ _ (makes_in (both_true _ _ (on EDIED refl) (both_true _ _ (on ENOTDIR refl) (both_true _ _ (within EROFS create_errors es some refl) refl)))
      w d (Some name) File refl (λ x ex taken. within EEXIST create_errors es some refl)) (λ u eu.
      on_in _ _ _ (on EDIED refl) (λ h eh.
      given_in _ _ _ (on EACCES refl) (λ may.
      on_in _ _ _ (on EACCES refl) (λ owner eo.
      given_in _ _ _ (on ENOENT refl) (λ stands.
      on_in _ _ _ (on EDIED refl) (λ home e. ok_in))))))

  -- A name that no entry has is missed, or a file is made.
  miss_in : (q : Authority) (d : Name) (name : List ℕ) (last : Bool) → In es (miss w q r d name last)
  miss_in q d name last = given_in _ _ _ (on ENOENT refl) (λ is. make_in q d name (and_one (asks r.flags CREATE) _ (and_other last _ is)))

  -- Back leads where a node was left.
  back_in : (names : List (List ℕ)) (ways : List Parent) → In es (go_back w r names ways)
  back_in names [] = err_in (on ENOENT refl)
  back_in names (way ∷ ways) = on_in _ _ _ (on EDIED refl) (λ h eh. ok_in)

  -- What is at a node is crossed.
  across_in : (q : Authority) (d n : Name) (c : Crossed) (names : List (List ℕ)) → In es (across w q r d n c names)
  across_in q d n (Active root) names = cross_in w r crossed s.writes q d root names
  across_in q d n (Waiting words) names = ok_in

  -- What is at a node is crossed, if something is.
  over_in : (q : Authority) (d n : Name) (o : Option Crossed) (names : List (List ℕ)) (onward : Result Outcome Errno) → In es onward → In es (over w q r d n o names onward)
  over_in q d n None names onward p = p
  over_in q d n (Some c) names onward p = given_if _ _ _ (λ out. s.exclusive (not_other (is_last names) (is_exclusive r) out)) (λ free. across_in q d n c names)

  -- One name leads on, up, back or nowhere, or is refused by one of these.
  module _ (q : Authority) (d : Name) (name : List ℕ) (names : List (List ℕ)) (onward : Name → Result Outcome Errno) (p : (n : Name) → In es (onward n)) where
    abbrev steps : Stepped → Result Outcome Errno
    steps = stepped w q r d name names onward

    -- A directory leads to its parent, if it has one.
    parent_in : (o : Option Name) → In es (first (to_parent o) steps)
    unfolding first
    parent_in None = err_in (on ENOENT refl)
    parent_in (Some n) = p n

    -- `..` leads up.
    up_in : (h : Header) → In es (first (step_up w q.ways d h) steps)
    unfolding first
    up_in h = lead_if (came_in_at q.ways d) _ _ steps (back_in names q.ways) (lead_if (is_server_root w d) _ _ steps (p d) (parent_in h.parent))

    -- A branch that shows the name leads on, or it is missed.
    branches_in : (bs : List Name) → In es (steps (branch_in w q.ids name bs))
    branches_in [] = miss_in q d name (is_last names)
    branches_in (b ∷ bs) = lead_either (shows_name w q.ids name b (header_at w b)) _ _ steps ok_in (branches_in bs)

    -- An entry leads on at its node.
    entry_in : (o : Option Name) (next : Stepped) → In es (steps next) → In es (steps (entry_or o next))
    entry_in None next rest = rest
    entry_in (Some n) next rest = over_in q d n (to_cross w r n names) names (onward n) (p n)

    -- Each name leads on from a directory.
    by_in : (h : Header) → In es (first (step_by w q d h name) steps)
    unfolding first
    by_in h =
        lead_if (bytes_eq name (codes ".")) _ _ steps (p d) (
        lead_if (bytes_eq name (codes "..")) _ _ steps (up_in h) (entry_in (entry_of name (body_at w d)) (branch_in w q.ids name (branches_at w d)) (branches_in (branches_at w d))))

    -- One name leads on from a node, or one of these is the error.
    step_in : In es (first (step_asks w q d name) steps)
    step_in =
        lead_on _ _ _ steps (on EDIED refl) (λ h.
        lead_given _ _ _ steps (on ENOTDIR refl) (
        lead_given _ _ _ steps (on EACCES refl) (by_in h)))

  -- A walk comes to its end, or is refused by one of these.
  pub walk_in : (q : Authority) (d : Name) (names : List (List ℕ)) → In es (walk w q r d names)
  walk_in q d [] = given_if _ _ _ (λ out. s.exclusive (not_not (is_exclusive r) out)) (λ free. open_in w r (entering es crossed) s.writes q.ids d q.ways)
  walk_in q d (name ∷ names) = step_in q d name names (λ n. walk w q r n names) (λ n. walk_in q n names)
