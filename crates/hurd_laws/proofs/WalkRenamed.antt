-- Where names lead, where things have other names.
use Rattle.std.proofs.Common.{◌≡◌, ℕ, suc, Bool, true, false, if◌then◌else◌, List, [], ◌∷◌, Option, Some, None, length, refl, ap, ◌∙◌}
use Rattle.std.specs.Prelude.{◌&&◌, Result, Ok, map, nat_le, slice_get}
use Rattle.std.specs.Option.{option_map}
use Rattle.std.proofs.lemmas.List.{length-map}
use Rattle.hurd_creds.specs.declared.errno.Errno.TheVariants.{ELOOP}
use Rattle.hurd_creds.specs.Bits.{NOLINK, NOTRANS}
use Rattle.hurd_trans_iface.specs.Meaning.{root_of}
use Rattle.hurd_trans_iface.specs.declared.root.Crossing.TheVariants.{Link, Union}
use Rattle.hurd_ports.specs.Limits.{most_parents}
use Rattle.hurd_ports.specs.declared.parents.Parent.{Parent}
use Rattle.hurd_machine.proofs.Common.{Crossing, EACCES, EDIED, EEXIST, ENAMETOOLONG, ENOENT, ENOTDIR, Errno, Firm, Header, Name, Plain, ServerInfo, World, asks, body_at, entry_of}
use Rattle.hurd_machine.specs.declared.call.RetryKind.TheVariants.{Reauth}
use Rattle.hurd_machine.specs.Plan.{first}
use Rattle.hurd_machine.specs.Renamed.{OtherNames, header_renamed, info_renamed, renamed, way_renamed}
use Rattle.hurd_machine.proofs.RenamedHandles.{on_header-renamed}
use Rattle.hurd_machine.proofs.RenamedNodes.{entry_at-renamed, header_at-renamed}
use Rattle.hurd_machine.proofs.RenamedPlans.{answer_renamed, first-renamed, given-renamed, on-renamed}
use Rattle.hurd_machine.proofs.RenamedServers.{info_at-renamed, is_server_root-renamed}
use Rattle.hurd_core.specs.Branches.{branches_at}
use Rattle.hurd_lookup.specs.Path.{rest_of}
use Rattle.hurd_lookup.specs.Lookup.{Active, Authority, Crossed, Outcome, Retries, Waiting, across, branch_in, cross, crossed_at, crossing, enter, entry_or, follow, go_back, hold_on, is_last, no_ids, over, root_asks, step_asks, step_by, step_up, stepped, to_cross, to_parent, walk}
use Rattle.hurd_laws.proofs.LookupRenamed.{Asked, Stepped, authority_renamed, crossed_renamed, outcome_renamed, ways_renamed}
use Rattle.hurd_laws.proofs.CoreRenamed.{branches_at-renamed}
use Rattle.hurd_laws.proofs.EndsRenamed.{make_asks-renamed, open_asks-renamed}
use Rattle.hurd_laws.proofs.Leading.{LeadsAlike, leads_either, leads_given, leads_if, leads_on}
use Rattle.hurd_laws.proofs.StepsRenamed.{came_in_at-renamed, crossed_at-renamed, shows_name-renamed, ways_into-renamed}

module _ (f : OtherNames) where
  -- a target
  pub got-renamed : (ns : List Name) → slice_get (map f.to ns) 0 ≡ option_map f.to (slice_get ns 0)
  got-renamed [] = refl
  got-renamed (n ∷ ns) = refl

  -- a port has as many ways
  pub short-renamed : (way : Parent) (ways : List Parent) → nat_le (length (way_renamed f.to way ∷ ways_renamed f.to ways)) most_parents ≡ nat_le (length (way ∷ ways)) most_parents
  short-renamed way ways = ap (λ k. nat_le (suc k) most_parents) (length-map ways (way_renamed f.to))

  -- by what it goes, and what is asked for
  module _ (w : World) (q : Authority) (r : Asked) where
    -- the same, with other names
    abbrev alias : Authority
    alias = authority_renamed f.to q

    -- the other outcome is the same except for names
    abbrev IsAlias : Result Outcome Errno → Result Outcome Errno → Type 0
    IsAlias outcome other = other ≡ answer_renamed (outcome_renamed f.to) outcome

    -- back
    pub go_back-renamed : (names : List (List ℕ)) (ways : List Parent) → IsAlias (go_back w r names ways) (go_back (renamed f w) r names (ways_renamed f.to ways))
    go_back-renamed names [] = refl
    go_back-renamed names (way ∷ ways) = on_header-renamed f w (outcome_renamed f.to) EDIED way.parent _ _ (λ h. refl)

    -- across the root of a server

    pub enter-renamed : (d root : Name) (names : List (List ℕ)) → IsAlias (enter w q r d root names) (enter (renamed f w) alias r (f.to d) (f.to root) names)
    enter-renamed d root [] =
        let way : Parent = record { at = root; parent = d } in
        given-renamed (outcome_renamed f.to) ELOOP _ (short-renamed way q.ways) (open_asks-renamed f w q.ids r root (way ∷ q.ways))
    enter-renamed d root (name ∷ names) = given-renamed (outcome_renamed f.to) ELOOP _ (short-renamed (record { at = root; parent = d }) q.ways) refl

    pub follow-renamed : (absolute : Bool) (d : Name) (text : List ℕ) (names : List (List ℕ)) → IsAlias (follow absolute q r d text names) (follow absolute alias r (f.to d) text names)
    follow-renamed true d text names = given-renamed (outcome_renamed f.to) ENAMETOOLONG _ refl refl
    follow-renamed false d text names = given-renamed (outcome_renamed f.to) ENAMETOOLONG _ refl refl

    pub hold_on-renamed : (d : Name) (o : Option Name) (names : List (List ℕ)) → IsAlias (hold_on w q r d o names) (hold_on (renamed f w) alias r (f.to d) (option_map f.to o) names)
    hold_on-renamed d None names = refl
    hold_on-renamed d (Some n) names =
        on_header-renamed f w (outcome_renamed f.to) EDIED n _ _ (λ h. given-renamed (outcome_renamed f.to) ELOOP _ (short-renamed (record { at = n; parent = d }) q.ways) refl)

    pub crossing-renamed : (c : Crossing) (d root : Name) (i : ServerInfo) (names : List (List ℕ))
        → IsAlias (crossing w c q r d root i names) (crossing (renamed f w) c alias r (f.to d) (f.to root) (info_renamed f.to i) names)
    crossing-renamed Plain d root i names = enter-renamed d root names
    crossing-renamed (Link absolute) d root i names = go (is_last names && asks r.flags NOLINK)
      where
        go : (b : Bool) → IsAlias (if b then enter w q r d root names else follow absolute q r d i.text names) (if b then enter (renamed f w) alias r (f.to d) (f.to root) names else follow absolute alias r (f.to d) i.text names)
        go true = enter-renamed d root names
        go false = follow-renamed absolute d i.text names
    crossing-renamed Firm d root i names = ap (λ o. hold_on (renamed f w) alias r (f.to d) o names) (got-renamed i.targets) ∙ hold_on-renamed d (slice_get i.targets 0) names
    crossing-renamed Union d root i names = enter-renamed d root names

    pub root_asks-renamed : (root : Name) → root_asks (renamed f w) (f.to root) ≡ answer_renamed (info_renamed f.to) (root_asks w root)
    root_asks-renamed root = on_header-renamed f w (info_renamed f.to) EDIED root _ _ (λ h. on-renamed (info_renamed f.to) (info_renamed f.to) EDIED _ _ _ (info_at-renamed f w root) (λ i. refl))

    pub cross-renamed : (d root : Name) (names : List (List ℕ)) → IsAlias (cross w q r d root names) (cross (renamed f w) alias r (f.to d) (f.to root) names)
    cross-renamed d root names =
        first-renamed (info_renamed f.to) (outcome_renamed f.to) _ _ _ (root_asks-renamed root) (λ i. crossing-renamed (root_of i.kind i.text).crossing d root i names)

    -- at an entry's node, on or across

    pub to_cross-renamed : (n : Name) (names : List (List ℕ)) → to_cross (renamed f w) r (f.to n) names ≡ option_map (crossed_renamed f.to) (to_cross w r n names)
    to_cross-renamed n names = go (is_last names && asks r.flags NOTRANS)
      where
        go : (b : Bool) → (if b then None else crossed_at (renamed f w) (f.to n)) ≡ option_map (crossed_renamed f.to) (if b then None else crossed_at w n)
        go true = refl
        go false = crossed_at-renamed f w n

    pub across-renamed : (d n : Name) (c : Crossed) (names : List (List ℕ)) → IsAlias (across w q r d n c names) (across (renamed f w) alias r (f.to d) (f.to n) (crossed_renamed f.to c) names)
    across-renamed d n (Active root) names = cross-renamed d root names
    across-renamed d n (Waiting words) names = refl

    pub over-renamed : (d n : Name) (o : Option Crossed) (names : List (List ℕ)) (j k : Result Outcome Errno) → IsAlias j k
        → IsAlias (over w q r d n o names j) (over (renamed f w) alias r (f.to d) (f.to n) (option_map (crossed_renamed f.to) o) names k)
    over-renamed d n None names j k alike = alike
    over-renamed d n (Some c) names j k alike = given-renamed (outcome_renamed f.to) EEXIST _ refl (across-renamed d n c names)

    -- one name, and on from where it led

    module _ (d : Name) (name : List ℕ) (names : List (List ℕ)) (j k : Name → Result Outcome Errno) (alike : (n : Name) → IsAlias (j n) (k (f.to n))) where
      -- what follows from where the name leads
      abbrev steps : Stepped → Result Outcome Errno
      steps = stepped w q r d name names j

      abbrev alias_steps : Stepped → Result Outcome Errno
      alias_steps = stepped (renamed f w) alias r (f.to d) name names k

      -- it is the same of two answers
      abbrev Steps : Result Stepped Errno → Result Stepped Errno → Type 0
      Steps = LeadsAlike (outcome_renamed f.to) steps alias_steps

      to_parent-leads : (o : Option Name) → Steps (to_parent o) (to_parent (option_map f.to o))
      unfolding first
      to_parent-leads None = refl
      to_parent-leads (Some p) = alike p

      step_up-leads : (h : Header) → Steps (step_up w q.ways d h) (step_up (renamed f w) alias.ways (f.to d) (header_renamed f.to h))
      unfolding first
      step_up-leads h =
          leads_if (outcome_renamed f.to) steps alias_steps _ _ _ _ (came_in_at-renamed f q.ways d) (go_back-renamed names q.ways)
          (leads_if (outcome_renamed f.to) steps alias_steps _ _ _ _ (is_server_root-renamed f w d) (alike d) (to_parent-leads h.parent))

      branch_in-leads : (bs : List Name) → Steps (Ok (branch_in w q.ids name bs)) (Ok (branch_in (renamed f w) q.ids name (map f.to bs)))
      unfolding first
      branch_in-leads [] = given-renamed (outcome_renamed f.to) ENOENT _ refl (make_asks-renamed f w q r d name)
      branch_in-leads (b ∷ bs) =
          leads_either (outcome_renamed f.to) steps alias_steps _ _ _ _ (shows_name-renamed f w q.ids name b)
          (ap (λ ways. Ok (Retries Reauth (rest_of (name ∷ names) r.slash) (Some (record { node = f.to b; ids = no_ids; parents = ways })))) (ways_into-renamed f b q.ways)) (branch_in-leads bs)

      entry_or-leads : (o : Option Name) (s t : Stepped) → Steps (Ok s) (Ok t) → Steps (Ok (entry_or o s)) (Ok (entry_or (option_map f.to o) t))
      unfolding first
      entry_or-leads None s t rest = rest
      entry_or-leads (Some n) s t rest = ap (λ o. over (renamed f w) alias r (f.to d) (f.to n) o names (k (f.to n))) (to_cross-renamed n names) ∙ over-renamed d n (to_cross w r n names) names (j n) (k (f.to n)) (alike n)

      on_entry-leads : Steps (Ok (entry_or (entry_of name (body_at w d)) (branch_in w q.ids name (branches_at w d))))
          (Ok (entry_or (entry_of name (body_at (renamed f w) (f.to d))) (branch_in (renamed f w) q.ids name (branches_at (renamed f w) (f.to d)))))
      on_entry-leads = rw (entry_at-renamed f w d name, branches_at-renamed f w d) (entry_or-leads (entry_of name (body_at w d)) _ _ (branch_in-leads (branches_at w d)))

      step_by-leads : (h : Header) → Steps (step_by w q d h name) (step_by (renamed f w) alias (f.to d) (header_renamed f.to h) name)
      step_by-leads h =
          leads_if (outcome_renamed f.to) steps alias_steps _ _ _ _ refl (to_parent-leads (Some d)) (
          leads_if (outcome_renamed f.to) steps alias_steps _ _ _ _ refl (step_up-leads h) on_entry-leads)

      step_asks-leads : Steps (step_asks w q d name) (step_asks (renamed f w) alias (f.to d) name)
      step_asks-leads =
          leads_on (outcome_renamed f.to) steps alias_steps (header_renamed f.to) EDIED _ _ _ (header_at-renamed f w d) (λ h.
          leads_given (outcome_renamed f.to) steps alias_steps ENOTDIR _ _ refl (
          leads_given (outcome_renamed f.to) steps alias_steps EACCES _ _ refl (step_by-leads h)))

    -- from a directory along the names
    pub walk-renamed : (d : Name) (names : List (List ℕ)) → IsAlias (walk w q r d names) (walk (renamed f w) alias r (f.to d) names)
    walk-renamed d [] = given-renamed (outcome_renamed f.to) EEXIST _ refl (open_asks-renamed f w q.ids r d q.ways)
    walk-renamed d (name ∷ names) = step_asks-leads d name names (λ n. walk w q r n names) (λ n. walk (renamed f w) alias r n names) (λ n. walk-renamed n names)
