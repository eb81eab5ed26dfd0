-- The laws of dir_lookup.
use Rattle.std.proofs.Common.{ℕ, List, ap, refl}
use Rattle.std.specs.Prelude.{Result, Ok}
use Rattle.hurd_machine.proofs.Common.{Errno, IdSets, Mode, Name, OpenFlags, World}
use Rattle.hurd_machine.proofs.CallLaws.{CallLaws}
use Rattle.hurd_lookup.specs.declared.request.Request.{Request}
use Rattle.hurd_lookup.specs.Path.{names_in}
use Rattle.hurd_lookup.specs.Lookup.{Outcome, Opens, Makes, Retries, Starts, by_right, request, found_asks}
use Rattle.hurd_lookup.specs.Seeking.{plan_lookup, seeking_asks, sooner, start_at, touches_lookup}
use Rattle.hurd_lookup.proofs.AlikeLaws.{Alike, ok_alike, first_alike, on_alike, given_alike}
use Rattle.hurd_lookup.proofs.BeginLaws.{Begins}
use Rattle.hurd_lookup.proofs.WalkLaws.{Ground}
use Rattle.hurd_lookup.proofs.EndLaws.{OutcomeShown}
use Rattle.hurd_lookup.proofs.AlongLaws.{walk_alike}
use Rattle.hurd_lookup.proofs.FoundLaws.{FoundLaws, finding_laws}
use Rattle.hurd_lookup.proofs.NestedLaws as nested
use Rattle.hurd_lookup.proofs.NestedLaws.{Lends, words_same}

-- what is to be started first
module _ (t : ℕ) (flags : OpenFlags) {v w : World} {At Near Entries : Name → Type 0} {T P : IdSets → Type 0} (g : Ground v w At Near Entries T) (b : Begins t v w At Near T) (k : Lends t v w At Near Entries P) where
  start_alike : (n : Name) → At n → Alike (OutcomeShown At Entries T v flags) (Ok (Starts (start_at v n))) (Ok (Starts (start_at w n)))
  start_alike n at =
      let alone : Alike (OutcomeShown At Entries T v flags) (Ok (Starts (start_at v n))) (Ok (Starts (start_at v n))) = ok_alike _ (Starts (start_at v n)) (record { on = at; leads = tt }) in
      record { same = ap (λ (ws : List (List ℕ)). let r : Result Outcome Errno = Ok (Starts (record { node = n; words = ws })) in r) (words_same g n (g.near n at)); has = alone.has; plain = alone.plain }

  sooner_alike : (o : Outcome) → OutcomeShown At Entries T v flags o → Alike (OutcomeShown At Entries T v flags) (sooner v t o) (sooner w t o)
  sooner_alike (Starts s) shown =
      on_alike _ _ _ _ _ _ refl b.task (λ x is.
      first_alike At _ _ _ _ _ (nested.first_alike k.ground k.none x.ids (k.lends x is) s.node shown.on) (λ n found at. start_alike n at))
  sooner_alike (Opens e) shown = ok_alike _ (Opens e) shown
  sooner_alike (Makes s f ids ways) shown = ok_alike _ (Makes s f ids ways) shown
  sooner_alike (Retries kind name at) shown = ok_alike _ (Retries kind name at) shown

module _ (t p : ℕ) (path : List ℕ) (flags : OpenFlags) (mode : Mode) where
  abbrev r : Request
  r = request path flags mode

  abbrev found : World → Result Outcome Errno
  found w = seeking_asks w t p path flags mode

  pub found_alike : FoundLaws t flags found
  found_alike v w At Near Entries T g b P k =
      first_alike (OutcomeShown At Entries T v flags) _ (found_asks v t p path r) (found_asks w t p path r) _ _
      (first_alike _ _ _ _ _ _ (b.port p) (λ q is on.
      on_alike _ _ _ _ _ _ refl (g.header q.node (g.near q.node on.node)) (λ h eh. given_alike _ _ _ _ _ _ refl refl (λ short.
      walk_alike g (by_right q) on.ids on.ways r q.node (names_in path) on.node))))
      (λ o is shown. sooner_alike t flags g b k o shown)

  pub lookup_laws : CallLaws t (λ w. plan_lookup w t p path flags mode) (λ w. touches_lookup w t p path flags mode)
  lookup_laws = finding_laws t flags found found_alike
