-- By which errors the targets of servers are refused, and lookups.
use Rattle.std.proofs.Common.{List, ◌≡◌, ℕ, zero, suc, true, Option, Some, None, [], ◌∷◌, refl, sym, true≢false}
use Rattle.std.specs.Prelude.{Result}
use Rattle.hurd_creds.specs.Access.{IdSets}
use Rattle.hurd_creds.specs.declared.mode.Mode.{Mode}
use Rattle.hurd_creds.specs.declared.open_flags.OpenFlags.{OpenFlags}
use Rattle.hurd_creds.specs.declared.errno.Errno.{Errno}
use Rattle.hurd_creds.specs.declared.errno.Errno.TheVariants.{ENOENT, EBADF, EACCES, EEXIST, ENOTDIR, EISDIR, EROFS, ELOOP, ENAMETOOLONG, EDIED, ESRCH, EOVERFLOW}
use Rattle.hurd_machine.proofs.Common.{Name, World, first}
use Rattle.hurd_lookup.specs.Lookup.{Makes, NewPort, Opens, Outcome, Retries, Starts, ending_asks, finding, request, whole_asks}
use Rattle.hurd_lookup.specs.Resolve.{Leg, awake, from_top, landed, leg_at, leg_by, leg_request, legs, most_looks, path_end, resolve, resolve_all}
use Rattle.hurd_lookup.specs.Nested.{first_among, most_asked, needed, or_needed}
use Rattle.hurd_lookup.specs.Seeking.{plan_lookup, seeking_asks, sooner}
use Rattle.hurd_refusals.specs.Errors.{is_among}
use Rattle.hurd_refusals.proofs.In.{Among, In, answered_among, are_among, done_among, err_in, first_in, given_in, lead_err, lead_first, lead_given, lead_ok, lead_on, more_in, ok_in, on_in, within}
use Rattle.hurd_refusals.proofs.Asked.{io_in}
use Rattle.hurd_refusals.proofs.Rooms.{room_in}
use Rattle.hurd_refusals.proofs.Walks.{Suits, walk_errors, walk_in}

-- by which errors targets are refused
abbrev pub target_errors : List Errno
target_errors = walk_errors

-- A path leads to a node, unless it is refused by one of these, or a translator waits there.
module _ {es : List Errno} (has : are_among target_errors es ≡ true) (asleep : Errno) (waits : is_among asleep es ≡ true) (w : World) (ids : IdSets) where
  -- Without flags nothing is written or made.
  leg_suits : (path : List ℕ) → Suits es (leg_request path)
  leg_suits path = record {
    base = has;
    exclusive = λ is. absurd (true≢false (sym is));
    writes = λ is. absurd (true≢false (sym is));
    creates = λ is. absurd (true≢false (sym is));
  }

  -- A path from the top begins with a slash.
  top_in : (path : List ℕ) → In es (from_top path)
  top_in path = given_in _ _ _ (within ENOENT walk_errors es has refl) (λ is. ok_in)

  -- A retry goes on at a node, or from the top.
  leg_at_in : (name : List ℕ) (o : Option NewPort) → In es (leg_at name o)
  leg_at_in name None = top_in name
  leg_at_in name (Some e) = ok_in

  -- What a look comes to is a node, or leads on.
  landed_in : (k : ℕ) → ((l : Leg) → In es (first (legs k w ids l) (awake asleep))) → (o : Outcome) → In es (first (landed (legs k w ids) o) (awake asleep))
  landed_in k p (Opens e) = lead_ok _ _ ok_in
  landed_in k p (Makes s f own ways) = lead_err _ _ (within ENOENT walk_errors es has refl)
  landed_in k p (Retries kind name o) = lead_first _ _ _ (leg_at_in name o) (λ l. p l)
  landed_in k p (Starts s) = lead_ok _ _ (err_in waits)

  -- So does each look after another.
  legs_in : (k : ℕ) (l : Leg) → In es (first (legs k w ids l) (awake asleep))
  legs_in zero l = lead_err _ _ (within ELOOP walk_errors es has refl)
  legs_in (suc k) l =
      lead_on _ _ _ _ (within EDIED walk_errors es has refl) (λ h.
      lead_given _ _ _ _ (within ENAMETOOLONG walk_errors es has refl) (
      lead_first _ _ _ (walk_in w (leg_request l.path) (leg_suits l.path) (leg_by ids l) l.node _) (λ o. landed_in k (legs_in k) o)))

  -- A path is resolved.
  resolve_in : (path : List ℕ) → In es (resolve asleep w ids path)
  unfolding resolve path_end
  resolve_in path = lead_first _ _ _ (top_in path) (λ l. legs_in most_looks l)

-- The same of several.
pub resolve_all_in : {es : List Errno} → are_among target_errors es ≡ true → (asleep : Errno) → is_among asleep es ≡ true → (w : World) (ids : IdSets) (paths : List (List ℕ)) → In es (resolve_all asleep w ids paths)
resolve_all_in has asleep waits w ids [] = ok_in
resolve_all_in has asleep waits w ids (path ∷ paths) =
    first_in _ _ (resolve_in has asleep waits w ids path) (λ n en. first_in _ _ (resolve_all_in has asleep waits w ids paths) (λ ns e. ok_in))

-- which translator is to be started first

-- A translator is started where no other is needed first.
needed_in : (onward : Name → Result Name Errno) → ((n : Name) → In (ELOOP ∷ []) (onward n)) → (n : Name) (o : Option Name) → In (ELOOP ∷ []) (or_needed n onward o)
needed_in onward p n None = ok_in
needed_in onward p n (Some m) = p m

-- One is found that is to be started first, or too many are asked.
among_in : (k : ℕ) (w : World) (ids : IdSets) (n : Name) → In (ELOOP ∷ []) (first_among k w ids n)
among_in zero w ids n = err_in refl
among_in (suc k) w ids n = needed_in (first_among k w ids) (among_in k w ids) n (needed w ids n)

abbrev pub lookup_errors : List Errno
lookup_errors = EBADF ∷ EDIED ∷ ENAMETOOLONG ∷ ENOTDIR ∷ EACCES ∷ ENOENT ∷ EROFS ∷ EEXIST ∷ ELOOP ∷ EISDIR ∷ ESRCH ∷ EOVERFLOW ∷ []

-- What a lookup finds is told, or what is to be started first.
sooner_in : (w : World) (t : ℕ) (o : Outcome) → In lookup_errors (sooner w t o)
sooner_in w t (Starts s) = on_in _ _ _ refl (λ x ex. first_in _ _ (more_in (ELOOP ∷ []) refl (among_in most_asked w x.ids s.node)) (λ n en. ok_in))
sooner_in w t (Opens e) = ok_in
sooner_in w t (Makes s f ids ways) = ok_in
sooner_in w t (Retries kind name o) = ok_in

-- The task numbers what it gets.
ending_in : {es : List Errno} → are_among (ESRCH ∷ EOVERFLOW ∷ []) es ≡ true → (w : World) (t : ℕ) (o : Outcome) → In es (ending_asks w t o)
ending_in has w t (Retries kind name None) = more_in (ESRCH ∷ EOVERFLOW ∷ []) has (on_in _ _ _ refl (λ x ex. ok_in))
ending_in has w t (Starts s) = more_in (ESRCH ∷ EOVERFLOW ∷ []) has (on_in _ _ _ refl (λ x ex. ok_in))
ending_in has w t (Retries kind name (Some e)) = room_in has w t _
ending_in has w t (Opens e) = room_in has w t _
ending_in has w t (Makes s f ids ways) = room_in has w t _

-- What is found is told, and numbered.
pub finding_among : {es : List Errno} → are_among (ESRCH ∷ EOVERFLOW ∷ []) es ≡ true → (w : World) (t : ℕ) (flags : OpenFlags) (found : Result Outcome Errno) → In es found → Among es (finding w t flags found).reply
finding_among has w t flags found p =
    answered_among (whole_asks w t found) _ (first_in _ _ p (λ o e. first_in _ _ (ending_in has w t o) (λ x ex. ok_in))) (λ l is. done_among refl)

-- dir_lookup
pub lookup_among : (w : World) (t p : ℕ) (path : List ℕ) (flags : OpenFlags) (mode : Mode) → Among lookup_errors (plan_lookup w t p path flags mode).reply
lookup_among w t p path flags mode = finding_among refl w t flags (seeking_asks w t p path flags mode) (
    first_in _ _ (
    first_in _ _ (io_in refl w t p) (λ q eq.
    on_in _ _ _ refl (λ h eh.
    given_in _ _ _ refl (λ short.
    walk_in w (request path flags mode) (record { base = refl; exclusive = λ is. refl; writes = λ is. refl; creates = λ is. refl }) _ q.node _)))) (λ o e.
    sooner_in w t o))
