-- Where paths lead that the core follows for itself, where things have other names.
use Rattle.std.proofs.Common.{◌≡◌, ℕ, zero, suc, List, [], ◌∷◌, Option, Some, None, Result, Ok, Err, map, refl, sym, ap, ◌∙◌}
use Rattle.std.specs.Option.{option_map}
use Rattle.hurd_creds.specs.declared.errno.Errno.TheVariants.{EDIED, ENAMETOOLONG, ENOENT}
use Rattle.hurd_creds.specs.Access.{IdSets}
use Rattle.hurd_machine.proofs.Common.{Errno, Name, World, header_at}
use Rattle.hurd_machine.specs.Plan.{first}
use Rattle.hurd_machine.specs.Renamed.{OtherNames, header_renamed, renamed}
use Rattle.hurd_machine.proofs.RenamedNodes.{header_at-renamed}
use Rattle.hurd_machine.proofs.RenamedPlans.{answer_renamed, first-renamed, given-renamed}
use Rattle.hurd_lookup.specs.Path.{names_in}
use Rattle.hurd_lookup.specs.Lookup.{Makes, NewPort, Opens, Outcome, Retries, Starts, no_ids, walk}
use Rattle.hurd_lookup.specs.Nested.{asleep}
unfoldable use Rattle.hurd_lookup.specs.Resolve.{path_end, resolve}
use Rattle.hurd_lookup.specs.Resolve.{Leg, awake, from_top, landed, leg_at, leg_by, leg_request, legs, most_looks, resolve_all}
use Rattle.hurd_laws.proofs.LookupRenamed.{Landed, leg_renamed, new_port_renamed, outcome_renamed}
use Rattle.hurd_laws.proofs.Leading.{LeadsAlike, leads_first, leads_given, leads_on}
use Rattle.hurd_laws.proofs.WalkRenamed.{walk-renamed}

module _ (f : OtherNames) where
  -- the root of the tree keeps its name
  pub from_top-renamed : (path : List ℕ) → from_top path ≡ answer_renamed (leg_renamed f.to) (from_top path)
  from_top-renamed path = given-renamed (leg_renamed f.to) ENOENT _ refl (ap (λ n. Ok (record { node = n; ways = []; path = path })) (sym f.boot))

  pub leg_at-renamed : (name : List ℕ) (at : Option NewPort) → leg_at name (option_map (new_port_renamed f.to) at) ≡ answer_renamed (leg_renamed f.to) (leg_at name at)
  leg_at-renamed name None = from_top-renamed name
  leg_at-renamed name (Some e) = refl

  -- a path that ends at a node, and one that ends where a translator waits

  abbrev lands_at : Name → Result Landed Errno
  lands_at n = landed (λ l. Err EDIED) (Opens (record { node = n; ids = no_ids; parents = [] }))

  abbrev asleep_at : Name → Result Landed Errno
  asleep_at n = landed (λ l. Err EDIED) (Starts (record { node = n; words = [] }))

  module _ (w : World) where
    -- for whatever is made of the end of a path
    module _ {A B : Type 0} (h : A → B) (k : Landed → Result A Errno) (l : Landed → Result B Errno)
        (ends : (n : Name) → LeadsAlike h k l (lands_at n) (lands_at (f.to n))) (sleeps : (n : Name) → LeadsAlike h k l (asleep_at n) (asleep_at (f.to n))) (ids : IdSets) where
      landed-leads : (i j : Leg → Result Landed Errno) → ((leg : Leg) → LeadsAlike h k l (i leg) (j (leg_renamed f.to leg)))
          → (o : Outcome) → LeadsAlike h k l (landed i o) (landed j (outcome_renamed f.to o))
      unfolding first
      landed-leads i j alike (Opens e) = ends e.node
      landed-leads i j alike (Makes s m ids ways) = refl
      landed-leads i j alike (Retries kind name at) = leads_first h k l (leg_renamed f.to) (leg_at name at) i j (leg_at-renamed name at) alike
      landed-leads i j alike (Starts s) = sleeps s.node

      no_looks : (leg : Leg) → LeadsAlike h k l (legs 0 w ids leg) (legs 0 (renamed f w) ids (leg_renamed f.to leg))
      unfolding first
      no_looks leg = refl

      legs-leads : (looks : ℕ) (leg : Leg) → LeadsAlike h k l (legs looks w ids leg) (legs looks (renamed f w) ids (leg_renamed f.to leg))
      legs-leads zero leg = no_looks leg
      legs-leads (suc looks) leg =
          leads_on h k l (header_renamed f.to) EDIED (header_at w leg.node) _ _ (header_at-renamed f w leg.node) (λ x.
          leads_given h k l ENAMETOOLONG _ _ refl (
          leads_first h k l (outcome_renamed f.to) (walk w (leg_by ids leg) (leg_request leg.path) leg.node (names_in leg.path)) _ _
          (walk-renamed f w (leg_by ids leg) (leg_request leg.path) leg.node (names_in leg.path)) (landed-leads _ _ (legs-leads looks))))

      path_end-leads : (path : List ℕ) → LeadsAlike h k l (path_end w ids path) (path_end (renamed f w) ids path)
      unfolding path_end
      path_end-leads path = leads_first h k l (leg_renamed f.to) (from_top path) (legs most_looks w ids) (legs most_looks (renamed f w) ids) (from_top-renamed path) (legs-leads most_looks)

    -- the node

    awake_lands : (e : Errno) (n : Name) → LeadsAlike f.to (awake e) (awake e) (lands_at n) (lands_at (f.to n))
    unfolding first
    awake_lands e n = refl

    awake_sleeps : (e : Errno) (n : Name) → LeadsAlike f.to (awake e) (awake e) (asleep_at n) (asleep_at (f.to n))
    unfolding first
    awake_sleeps e n = refl

    pub resolve-renamed : (e : Errno) (ids : IdSets) (path : List ℕ) → resolve e (renamed f w) ids path ≡ answer_renamed f.to (resolve e w ids path)
    unfolding resolve
    resolve-renamed e ids path = path_end-leads f.to (awake e) (awake e) (awake_lands e) (awake_sleeps e) ids path

    pub resolve_all-renamed : (e : Errno) (ids : IdSets) (paths : List (List ℕ)) → resolve_all e (renamed f w) ids paths ≡ answer_renamed (map f.to) (resolve_all e w ids paths)
    resolve_all-renamed e ids [] = refl
    resolve_all-renamed e ids (path ∷ paths) =
        first-renamed f.to (map f.to) _ _ _ (resolve-renamed e ids path) (λ n. first-renamed (map f.to) (map f.to) _ _ _ (resolve_all-renamed e ids paths) (λ ns. refl))

    -- the node at which a translator waits, if one does

    abbrev waiting : Landed → Result (Option Name) Errno
    waiting l = Ok (asleep (Ok l))

    waiting_lands : (n : Name) → LeadsAlike (option_map f.to) waiting waiting (lands_at n) (lands_at (f.to n))
    unfolding first
    waiting_lands n = refl

    waiting_sleeps : (n : Name) → LeadsAlike (option_map f.to) waiting waiting (asleep_at n) (asleep_at (f.to n))
    unfolding first
    waiting_sleeps n = refl

    -- nothing, where it is refused
    abbrev or_none : Result (Option Name) Errno → Option Name
    or_none (Ok o) = o
    or_none (Err e) = None

    pub or_none-renamed : (r : Result (Option Name) Errno) → or_none (answer_renamed (option_map f.to) r) ≡ option_map f.to (or_none r)
    or_none-renamed (Ok o) = refl
    or_none-renamed (Err e) = refl

    asleep_is : (s : Result Landed Errno) → asleep s ≡ or_none (first s waiting)
    unfolding first
    asleep_is (Ok l) = refl
    asleep_is (Err e) = refl

    pub asleep-renamed : (ids : IdSets) (path : List ℕ) → asleep (path_end (renamed f w) ids path) ≡ option_map f.to (asleep (path_end w ids path))
    asleep-renamed ids path =
        asleep_is (path_end (renamed f w) ids path)
        ∙ ap or_none (path_end-leads (option_map f.to) waiting waiting waiting_lands waiting_sleeps ids path)
        ∙ or_none-renamed (first (path_end w ids path) waiting)
        ∙ ap (option_map f.to) (sym (asleep_is (path_end w ids path)))
