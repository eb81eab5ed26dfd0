-- When setting a translator answers, and leaves, what its plan says.
use Rattle.std.proofs.Common.{◌≡◌, ◌∙◌, ◌⊎◌, ℕ, Bool, true, false, not, List, ◌++◌, Option, Some, None, inl, inr, refl, sym, ap, ap₂, subst}
use Rattle.std.specs.Prelude.{Result, Ok, Err, IsOk, is_some}
use Rattle.hurd_machine.proofs.Common.{Change, ENOMEM, ENXIO, EOPNOTSUPP, Errno, Meaning, Meets, Name, Named, Planned, Reply, SET, Task, World, answered, apply_all, asks_trans, first, info_at, is_server_root, naming_of, ports_of, sets_attrs_at, tree_by, words_at}
use Rattle.std.specs.Option.{option_map}
use Rattle.hurd_nodes.proofs.PartLaws.{and_both}
use Rattle.hurd_machine.specs.declared.call.Reply.TheVariants.{Done}
use Rattle.hurd_machine.specs.World.{nodes_of}
use Rattle.hurd_core.specs.Core.{Does, attaching, naming_asks}
use Rattle.hurd_machine.proofs.Keeping.{apply_all-append}
use Rattle.hurd_machine.proofs.Asks.{given_ok}
use Rattle.hurd_core.proofs.CoreLaws.{naming-had}
use Rattle.hurd_core.proofs.PlanLaws.{asked-refused, does-planned, planned-then}
use Rattle.hurd_machine.specs.declared.call.Setting.{Setting}
use Rattle.hurd_lookup.specs.Lacking.{PlannedOr}
use Rattle.hurd_lookup.specs.Lent.{lent, server_ids}
use Rattle.hurd_lookup.proofs.LackingLaws.{weaker}
use Rattle.hurd_creds.specs.Memory.{MeetsOr}
use Rattle.hurd_fsys.specs.Aims.{HasTargets, aims_asks}
use Rattle.hurd_fsys.specs.Setting as spec
use Rattle.hurd_fsys.specs.Setting.{SetLacks, box_aims, emptying, leaver, plan_set_translator, seat_asks, seat_on, seating, sets_nothing, setter_asks, setting, setting_where, storing}
use Rattle.hurd_fsys.proofs.StoringLaws.{storing_back, storing_names, storing_sets, tree_sets}
use Rattle.hurd_fsys.proofs.SettingLaws.{setter}

-- where a task can name two things, and a copy isn't made, memory was wanting
pub uncopied : (w : World) (t : ℕ) (words : List (List ℕ)) (e : Errno) → naming_of (ports_of w) t 2 ≡ Ok tt → Meets (Ok words) (Err e) → (e ≡ ENOMEM) × IsOk (naming_asks w t 2)
uncopied w t words e room (inl never) = absurd (cc)
uncopied w t words e room (inr lacks) = (lacks.0, subst (λ (r : Result Task Errno). IsOk r) (sym (naming-had (nodes_of w) (ports_of w) t 2 tt room).3) refl)

-- words are stored, and then a server is seated, or the old words are stored again

module _ (w : World) (t : ℕ) (n : Name) (f : Setting) (words : List (List ℕ)) where
  -- what may be set stays so
  pub sets_still : (v : World) → v ≡ apply_all (storing f n words) w → sets_attrs_at w n ≡ Ok tt → sets_attrs_at v n ≡ Ok tt
  sets_still v is sets = ap (λ (z : World). sets_attrs_at z n) is ∙ storing_sets n words (asks_trans f.passive SET) w n ∙ sets

  module _ (changes : Task → List Change) (v : World) (is : v ≡ apply_all (storing f n words) w) where
    named_there : naming_asks v t 2 ≡ naming_asks w t 2
    named_there = ap (λ (z : World). naming_asks z t 2) is ∙ storing_names n words (asks_trans f.passive SET) w t 2

    pub seated_then : (u : Unit {0}) (y : World) → Does v (naming_asks v t 2) changes (λ x. tt {0}) (Ok u) y
        → Does w (naming_asks w t 2) (λ x. storing f n words ++ changes x) (λ x. tt {0}) (Ok u) y
    seated_then u y d = (d.0, sym named_there ∙ d.1, d.2, d.3 ∙ ap (apply_all (changes d.0)) is ∙ sym (apply_all-append (storing f n words) (changes d.0) w))

    pub seat_refused : (e : Errno) (x y : World) (kept : List (List ℕ)) → Does v (naming_asks v t 2) changes (λ x. tt {0}) (Err e) x → Meets (Ok (words_at w n)) (Ok kept)
        → y ≡ apply_all (storing f n kept) x → Does w (naming_asks w t 2) (λ x. storing f n words ++ changes x) (λ x. tt {0}) (Err e) y
    seat_refused e x y kept d copied back =
        let same : words_at w n ≡ kept = cc (copied) in (
          back ∙ ap₂ (λ (k : List (List ℕ)) (z : World). apply_all (storing f n k) z) (sym same) (d.0 ∙ is) ∙ storing_back n words (asks_trans f.passive SET) w,
          subst (λ (r : Result Task Errno). (r ≡ Err e) ⊎ ((e ≡ ENOMEM) × IsOk r)) named_there d.1,
        )

-- of a port that may set, on what it names
module _ {S : Type 0} (mean : S → Meaning) (w : World) (t p : ℕ) (f : Setting) (words : List (List ℕ)) (server : Option S) (b : Bool) (brings : b ≡ is_some (option_map mean server)) where
  abbrev box : Option Meaning
  box = option_map mean server

  asked_by : (r : Result Named Errno) → r ≡ setter_asks w t p f b → setter_asks w t p f (is_some box) ≡ r
  asked_by r is = ap (setter_asks w t p f) (sym brings) ∙ sym is

  abbrev tells : Unit {0} → Reply
  tells u = Done

  abbrev IsPlanned : Result (Unit {0}) Errno → World → Type 0
  IsPlanned r y = PlannedOr (SetLacks w t p f box) w (plan_set_translator w t p f words box) tells r y

  as_planned : (r : Result (Unit {0}) Errno) (y : World) → Planned w (plan_set_translator w t p f words box) tells r y → IsPlanned r y
  as_planned r y h = weaker (SetLacks w t p f box) w (plan_set_translator w t p f words box) tells r y h

  module _ (n : Named) (is : Ok n ≡ setter_asks w t p f b) where
    then_set : (r : Result (Unit {0}) Errno) (y : World) → Planned w (setting w t f words box n) tells r y → IsPlanned r y
    then_set r y h = as_planned r y (planned-then w (setter_asks w t p f (is_some box)) (setting w t f words box) tells n r y (asked_by (Ok n) is) h)

    -- with a half to be set, by what is active on the node
    module _ (half : false ≡ sets_nothing f) where
      then_seat : (r : Result (Unit {0}) Errno) (y : World) → Planned w (answered (seat_asks w f n) (seating w t n f words box)) tells r y → IsPlanned r y
      then_seat r y h = then_set r y (subst (λ (b : Bool). Planned w (setting_where b w t f words box n) tells r y) half h)

      module _ (old : Option Name) (at : Ok old ≡ seat_asks w f n) where
        then_old : (r : Result (Unit {0}) Errno) (y : World) → Planned w (seating w t n f words box old) tells r y → IsPlanned r y
        then_old r y h = then_seat r y (planned-then w (seat_asks w f n) (seating w t n f words box) tells old r y (sym at) h)

        -- words may be stored
        pub may_store : sets_attrs_at w n.right.node ≡ Ok tt
        may_store =
            let seats = (given_ok EOPNOTSUPP _ _ old (sym at)).0 in
            tree_sets w n.right.node n.header (setter t p f w b n (sym is)).is_named.is_header (and_both (tree_by (info_at w n.right.node)) (not (is_server_root w n.right.node)) seats).0

        -- without a box the words are stored, and the seat is emptied
        pub set_emptied : (u : Unit {0}) (v y : World) → server ≡ None → v ≡ apply_all (storing f n.right.node words) w → y ≡ apply_all (emptying f n.right.node old) v → IsPlanned (Ok u) y
        unfolding answered
        set_emptied u v y none stores makes =
            then_old (Ok u) y (subst (λ (b : Option Meaning). Planned w (seating w t n f words b old) tells (Ok u) y) (sym (ap (option_map mean) none))
            (refl, makes ∙ ap (apply_all (emptying f n.right.node old)) stores ∙ sym (apply_all-append (storing f n.right.node words) (emptying f n.right.node old) w)))

        abbrev seated_with : Meaning → List Name → Task → List Change
        seated_with m targets x = storing f n.right.node words ++ attaching t (seat_on n.right.node n.header m (leaver f old) false) (server_ids n.header.owner) targets m x

        module _ (s : S) (some : server ≡ Some s) where
          abbrev m : Meaning
          m = mean s

          -- with a box
          brought : (r : Result (Unit {0}) Errno) (y : World) → Planned w (seating w t n f words (Some m) old) tells r y → IsPlanned r y
          brought r y h = then_old r y (subst (λ (b : Option Meaning). Planned w (seating w t n f words b old) tells r y) (sym (ap (option_map mean) some)) h)

          -- a box may come
          box_may_come : IsOk (first (setter_asks w t p f true) (seat_asks w f))
          unfolding first
          box_may_come =
              let asked : Ok n ≡ setter_asks w t p f true = is ∙ ap (setter_asks w t p f) (brings ∙ ap (λ (o : Option S). is_some (option_map mean o)) some) in
              subst (λ (r : Result Named Errno). IsOk (first r (seat_asks w f))) asked (subst (λ (r : Result (Option Name) Errno). IsOk r) at refl)

          -- its targets are not found
          pub set_aimless : (e : Errno) → MeetsOr {B = List Name} (HasTargets m) (λ ns. ns) (aims_asks ENXIO w (lent n.right.ids n.header.owner) m) (Err e) → IsPlanned (Err e) w
          set_aimless e (inl refused) = brought (Err e) w (asked-refused w (box_aims w n (Some m)) (spec.seated w t n f words (Some m) old) tells e refused)
          set_aimless e (inr lacks) = (refl, inr (lacks.0, inr (subst (λ (b : Option Meaning). SetLacks w t p f b) (sym (ap (option_map mean) some)) (lacks.1, box_may_come))))

          -- they are: the words are stored, and it is taken
          pub set_seated : (targets : List Name) → aims_asks ENXIO w (lent n.right.ids n.header.owner) m ≡ Ok targets → (r : Result (Unit {0}) Errno) (y : World)
              → Does w (naming_asks w t 2) (seated_with m targets) (λ x. tt {0}) r y → IsPlanned r y
          set_seated targets found r y does =
              brought r y
              (planned-then w (box_aims w n (Some m)) (spec.seated w t n f words (Some m) old) tells targets r y found
              (does-planned w (naming_asks w t 2) (seated_with m targets) (λ x. tt {0}) (λ x. record { reply = Done; changes = seated_with m targets x }) tells r y (λ x. (refl, refl)) (λ x. refl) does))
