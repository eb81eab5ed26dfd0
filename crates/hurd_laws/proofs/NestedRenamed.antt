-- Which translator is to be started first, where things have other names.
use Rattle.std.proofs.Common.{◌≡◌, ℕ, zero, suc, List, [], ◌∷◌, Option, Some, None, Result, Ok, refl, ap, ap₂, ◌∙◌}
use Rattle.std.specs.Option.{option_map, option_or}
use Rattle.hurd_creds.specs.declared.errno.Errno.TheVariants.{ESRCH}
use Rattle.hurd_creds.specs.Access.{IdSets}
use Rattle.hurd_machine.proofs.Common.{Errno, Header, Name, World, header_at, words_at}
use Rattle.hurd_machine.specs.Renamed.{OtherNames, header_renamed, renamed, task_renamed}
use Rattle.hurd_machine.proofs.RenamedNodes.{header_at-renamed, words_at-renamed}
use Rattle.hurd_machine.proofs.RenamedPlans.{answer_renamed, first-renamed, on-renamed}
use Rattle.hurd_machine.proofs.RenamedTasks.{task_at-renamed}
use Rattle.hurd_lookup.specs.Lookup.{Makes, Opens, Outcome, Retries, Starts}
use Rattle.hurd_lookup.specs.Nested.{asleep, first_among, first_asleep, first_unstarted, lent_at, lent_by, most_asked, needed, or_needed, words_aims}
use Rattle.hurd_lookup.specs.Resolve.{path_end}
use Rattle.hurd_lookup.specs.Seeking.{sooner}
use Rattle.hurd_laws.proofs.LookupRenamed.{outcome_renamed}
use Rattle.hurd_laws.proofs.ResolveRenamed.{asleep-renamed}

module _ (f : OtherNames) where
  pub lent_by-renamed : (ids : IdSets) (o : Option Header) → lent_by ids (option_map (header_renamed f.to) o) ≡ lent_by ids o
  lent_by-renamed ids None = refl
  lent_by-renamed ids (Some h) = refl

  pub either-renamed : (o p : Option Name) → option_or (option_map f.to o) (option_map f.to p) ≡ option_map f.to (option_or o p)
  either-renamed None p = refl
  either-renamed (Some n) p = refl

  pub or_needed-renamed : (n : Name) (j k : Name → Result Name Errno) → ((m : Name) → k (f.to m) ≡ answer_renamed f.to (j m))
      → (o : Option Name) → or_needed (f.to n) k (option_map f.to o) ≡ answer_renamed f.to (or_needed n j o)
  or_needed-renamed n j k alike None = refl
  or_needed-renamed n j k alike (Some m) = alike m

  module _ (w : World) where
    pub lent_at-renamed : (ids : IdSets) (n : Name) → lent_at (renamed f w) ids (f.to n) ≡ lent_at w ids n
    lent_at-renamed ids n = ap (lent_by ids) (header_at-renamed f w n) ∙ lent_by-renamed ids (header_at w n)

    pub first_asleep-renamed : (ids : IdSets) (paths : List (List ℕ)) → first_asleep (renamed f w) ids paths ≡ option_map f.to (first_asleep w ids paths)
    first_asleep-renamed ids [] = refl
    first_asleep-renamed ids (path ∷ paths) =
        ap₂ option_or (asleep-renamed f w ids path) (first_asleep-renamed ids paths) ∙ either-renamed (asleep (path_end w ids path)) (first_asleep w ids paths)

    pub needed-renamed : (ids : IdSets) (n : Name) → needed (renamed f w) ids (f.to n) ≡ option_map f.to (needed w ids n)
    needed-renamed ids n =
        ap₂ (first_asleep (renamed f w)) (lent_at-renamed ids n) (ap words_aims (words_at-renamed f w n)) ∙ first_asleep-renamed (lent_at w ids n) (words_aims (words_at w n))

    pub first_among-renamed : (k : ℕ) (ids : IdSets) (n : Name) → first_among k (renamed f w) ids (f.to n) ≡ answer_renamed f.to (first_among k w ids n)
    first_among-renamed zero ids n = refl
    first_among-renamed (suc k) ids n =
        ap (or_needed (f.to n) (first_among k (renamed f w) ids)) (needed-renamed ids n)
        ∙ or_needed-renamed n (first_among k w ids) (first_among k (renamed f w) ids) (first_among-renamed k ids) (needed w ids n)

    pub first_unstarted-renamed : (ids : IdSets) (n : Name) → first_unstarted (renamed f w) ids (f.to n) ≡ answer_renamed f.to (first_unstarted w ids n)
    first_unstarted-renamed ids n = first_among-renamed most_asked ids n

    -- in place of what a lookup found
    pub sooner-renamed : (t : ℕ) (o : Outcome) → sooner (renamed f w) t (outcome_renamed f.to o) ≡ answer_renamed (outcome_renamed f.to) (sooner w t o)
    sooner-renamed t (Opens e) = refl
    sooner-renamed t (Makes s m ids ways) = refl
    sooner-renamed t (Retries kind name at) = refl
    sooner-renamed t (Starts s) =
        on-renamed (task_renamed f.to (f.more t)) (outcome_renamed f.to) ESRCH _ _ _ (task_at-renamed f w t) (λ x.
        first-renamed f.to (outcome_renamed f.to) _ _ _ (first_unstarted-renamed x.ids s.node) (λ n.
        ap (λ words. Ok (Starts (record { node = f.to n; words = words }))) (words_at-renamed f w n)))
