-- What is resolved is the same in both worlds, leads to where a walk can be, and no refusal is ENOMEM.
use Rattle.std.proofs.Common.{◌≡◌, ℕ, zero, suc, false, length, Bool, List, [], ◌∷◌, Some, None, refl, ap, inl, inr, subst}
use Rattle.std.specs.Prelude.{Result}
use Rattle.hurd_machine.proofs.Common.{ENOENT, Errno, IdSets, IsAmong, Name, Seen, World, is_no_memory}
use Rattle.hurd_creds.specs.declared.errno.Errno.TheVariants.{ELOOP}
use Rattle.hurd_machine.proofs.Views.{Agree}
use Rattle.hurd_lookup.specs.declared.resolve.Landing.{Landing}
use Rattle.hurd_lookup.specs.declared.resolve.Landing.TheVariants.{Lands, Sleeps}
use Rattle.hurd_lookup.specs.Lookup.{Outcome, Opens, Makes, Retries, Starts, no_modes}
use Rattle.hurd_lookup.specs.Resolve.{Leg, awake, from_top, landed, path_end, leg_by, leg_request, legs, most_looks, resolve, resolve_all}
use Rattle.hurd_lookup.proofs.AlikeLaws.{Alike, ok_alike, err_alike, on_alike, given_alike, first_alike}
use Rattle.hurd_lookup.proofs.WalkLaws.{Ground, Powers, WaysOn, seen_ground}
use Rattle.hurd_lookup.proofs.EndLaws.{OutcomeOn, OutcomeShown}
use Rattle.hurd_lookup.proofs.AlongLaws.{walk_alike}

-- it can be where a path ends
abbrev pub EndOn : (Name → Type 0) → Landing → Type 0
EndOn At (Lands n) = At n
EndOn At (Sleeps n) = At n

module _ {v w : World} {At Near Entries : Name → Type 0} {T : IdSets → Type 0} (g : Ground v w At Near Entries T) (ids : IdSets) (taken : T ids) where
  -- from where it goes on
  record LegOn (l : Leg) : Type 0 where
    node : At l.node
    ways : WaysOn At l.ways

  top_alike : (path : List ℕ) → Alike LegOn (from_top path) (from_top path)
  top_alike path = given_alike _ _ _ _ _ _ refl refl (λ k. ok_alike _ _ (record { node = g.top; ways = λ m i. absurd i }))

  landed_alike : (j k : Leg → Result Landing _) → ((l : Leg) → LegOn l → Alike (EndOn At) (j l) (k l)) → (o : Outcome) → OutcomeOn At Entries T o → Alike (EndOn At) (landed j o) (landed k o)
  landed_alike j k onward (Opens e) at = ok_alike _ (Lands e.node) at.node
  landed_alike j k onward (Makes s f ids ways) at = err_alike _ ENOENT refl
  landed_alike j k onward (Retries kind name None) at = first_alike LegOn _ _ _ _ _ (top_alike name) (λ l is there. onward l there)
  landed_alike j k onward (Retries kind name (Some e)) at =
      let l : Leg = record { node = e.node; ways = e.parents; path = name } in
      first_alike LegOn _ _ _ _ _ (ok_alike _ l (record { node = at.node; ways = at.ways })) (λ m is there. onward m there)
  landed_alike j k onward (Starts s) at = ok_alike _ (Sleeps s.node) at

  legs_alike : (k : ℕ) (l : Leg) → LegOn l → Alike (EndOn At) (legs k v ids l) (legs k w ids l)
  legs_alike zero l at = err_alike _ ELOOP refl
  legs_alike (suc k) l at =
      on_alike _ _ _ _ _ _ refl (g.header l.node (g.near l.node at.node)) (λ h e. given_alike _ _ _ _ _ _ refl refl (λ short.
      first_alike (OutcomeShown At Entries T v no_modes) _ _ _ _ _ (walk_alike g (leg_by ids l) taken at.ways (leg_request l.path) l.node _ at.node)
      (λ o is shown. landed_alike (legs k v ids) (legs k w ids) (legs_alike k) o shown.on)))

  pub path_end_alike : (path : List ℕ) → Alike (EndOn At) (path_end v ids path) (path_end w ids path)
  unfolding path_end
  path_end_alike path = first_alike LegOn _ _ _ _ _ (top_alike path) (λ l is at. legs_alike most_looks l at)

  -- it can be at each of these, and they are as many as the paths
  abbrev AllOn : List (List ℕ) → List Name → Type 0
  AllOn paths ns = ((n : Name) → IsAmong n ns → At n) × (length ns ≡ length paths)

  module _ (asleep : Errno) (plain : is_no_memory asleep ≡ false) where
    awake_alike : (l : Landing) → EndOn At l → Alike At (awake asleep l) (awake asleep l)
    awake_alike (Lands n) at = ok_alike _ n at
    awake_alike (Sleeps n) at = err_alike _ asleep plain

    resolve_alike : (path : List ℕ) → Alike At (resolve asleep v ids path) (resolve asleep w ids path)
    unfolding resolve
    resolve_alike path = first_alike (EndOn At) _ _ _ _ _ (path_end_alike path) (λ l is at. awake_alike l at)

    pub each_alike : (paths : List (List ℕ)) → Alike (AllOn paths) (resolve_all asleep v ids paths) (resolve_all asleep w ids paths)
    each_alike [] = ok_alike _ [] (λ n i. absurd i, refl)
    each_alike (path ∷ paths) =
        first_alike At _ _ _ _ _ (resolve_alike path) (λ m is at.
        first_alike (AllOn paths) _ _ _ _ _ (each_alike paths) (λ ns also rest.
        ok_alike _ (m ∷ ns) (λ n i. elim i [ inl e ↦ subst At e at | inr j ↦ rest.0 n j ], ap (λ k. suc k) rest.1)))

module _ {S : ℕ → Bool} {v w : World} (a : Agree S v w) (ids : IdSets) (powers : Powers S v ids) where
  -- S sees each of these
  abbrev pub AllSeen : List Name → Type 0
  AllSeen ns = (n : Name) → IsAmong n ns → Seen S v n

  pub resolve_all_alike : (asleep : Errno) → is_no_memory asleep ≡ false → (paths : List (List ℕ)) → Alike AllSeen (resolve_all asleep v ids paths) (resolve_all asleep w ids paths)
  resolve_all_alike asleep plain paths =
      let l = each_alike (seen_ground a (Powers S v) (λ i p. p)) ids powers asleep plain paths in
      record { same = l.same; has = λ ns is. (l.has ns is).0; plain = l.plain }
