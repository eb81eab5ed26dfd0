-- What tasks are told that set translators, or ask for the words of one, where things have other names.
use Rattle.std.proofs.Common.{◌≡◌, ◌||◌, ◌&&◌, ◌==◌, not, is_some, ℕ, Bool, true, false, List, Option, Some, None, Ok, map, refl, ap, ap₂, ◌∙◌}
use Rattle.std.specs.Option.{option_map}
use Rattle.hurd_creds.specs.TransBits.{FORCE, ORPHAN, SET, asks_goaway, asks_trans}
use Rattle.hurd_machine.proofs.Common.{EBUSY, EINVAL, ENXIO, EOPNOTSUPP, Meaning, Name, Named, World, active_at, has_words}
use Rattle.hurd_machine.specs.declared.call.Setting.{Setting}
use Rattle.hurd_machine.specs.Renamed.{OtherNames, renamed, task_renamed}
use Rattle.hurd_machine.proofs.RenamedHandles.{named_renamed, port_asks-renamed}
use Rattle.hurd_machine.proofs.RenamedNodes.{active_at-renamed, is_some-mapped}
use Rattle.hurd_machine.proofs.RenamedPlans.{answer_renamed, answered-given, answered-renamed, first-renamed, first-told, given-renamed}
use Rattle.hurd_machine.proofs.RenamedServers.{is_server_root-renamed, tree_at-renamed}
use Rattle.hurd_machine.proofs.RenamedTasks.{users-renamed}
use Rattle.hurd_lookup.specs.Lent.{lent}
use Rattle.hurd_fsys.specs.Setting.{box_aims, is_excluded, may_replace, may_seat, may_set, plan_get_translator, plan_set_translator, seat_asks, seated, seating, sets_nothing, setter_asks, setting_where}
use Rattle.hurd_laws.proofs.AimsRenamed.{ResolvesRenamed, aims_asks-renamed}
use Rattle.hurd_laws.proofs.CoreRenamed.{naming_asks-renamed}
use Rattle.hurd_laws.proofs.FsysTold.{owned_asks-renamed}

module _ (f : OtherNames) (w : World) where
  -- file_get_translator
  pub get_translator_told : (t p : ℕ) → (plan_get_translator (renamed f w) t p).reply ≡ (plan_get_translator w t p).reply
  get_translator_told t p = answered-given _ _ (first-told (named_renamed f) _ _ _ (port_asks-renamed f w t p) (λ n. refl)) (λ words. refl)

  -- file_set_translator: whether it may be set

  pub setter_asks-renamed : (t p : ℕ) (s : Setting) (brings : Bool) → setter_asks (renamed f w) t p s brings ≡ answer_renamed (named_renamed f) (setter_asks w t p s brings)
  setter_asks-renamed t p s brings = first-renamed (named_renamed f) (named_renamed f) _ _ _ (owned_asks-renamed f w t p) (λ n. given-renamed (named_renamed f) EINVAL _ refl refl)

  pub may_seat-renamed : (n : Name) → may_seat (renamed f w) (f.to n) ≡ may_seat w n
  may_seat-renamed n = ap₂ (λ (tree root : Bool). tree && not root) (tree_at-renamed f w n) (is_server_root-renamed f w n)

  pub may_replace-renamed : (s : Setting) (old : Option Name) → may_replace (renamed f w) s (option_map f.to old) ≡ may_replace w s old
  may_replace-renamed s None = refl
  may_replace-renamed s (Some q) = ap (λ count. not (asks_trans s.active SET) || (asks_trans s.active ORPHAN || (asks_goaway s.goaway FORCE || (count == 0)))) (users-renamed f w q)

  pub may_set-renamed : (s : Setting) (stored : List (List ℕ)) (old : Option Name) → may_set (renamed f w) s stored (option_map f.to old) ≡ may_set w s stored old
  may_set-renamed s stored old =
      ap₂ (λ (there may : Bool). not (is_excluded s.passive (has_words stored)) && (not (is_excluded s.active there) && may)) (is_some-mapped f.to old) (may_replace-renamed s old)

  pub seat_asks-renamed : (s : Setting) (n : Named) → seat_asks (renamed f w) s (named_renamed f n) ≡ answer_renamed (option_map f.to) (seat_asks w s n)
  seat_asks-renamed s n =
      given-renamed (option_map f.to) EOPNOTSUPP _ (may_seat-renamed n.right.node) (
      given-renamed (option_map f.to) EBUSY _
      (ap (may_set (renamed f w) s n.header.passive) (active_at-renamed f w n.right.node) ∙ may_set-renamed s n.header.passive (active_at w n.right.node))
      (ap Ok (active_at-renamed f w n.right.node)))

  -- and what is set, where paths lead to the same nodes

  module _ (resolves : ResolvesRenamed f w) where
    pub box_aims-renamed : (n : Named) (box : Option Meaning) → box_aims (renamed f w) (named_renamed f n) box ≡ answer_renamed (map f.to) (box_aims w n box)
    box_aims-renamed n None = refl
    box_aims-renamed n (Some m) = aims_asks-renamed f w resolves ENXIO (lent n.right.ids n.header.owner) m

    module _ (t : ℕ) (none : f.more t ≡ 0) (s : Setting) (words : List (List ℕ)) where
      pub seated_told : (n : Named) (box : Option Meaning) (old : Option Name) (targets : List Name)
          → (seated (renamed f w) t (named_renamed f n) s words box (option_map f.to old) (map f.to targets)).reply ≡ (seated w t n s words box old targets).reply
      seated_told n None old targets = refl
      seated_told n (Some m) old targets = answered-renamed (task_renamed f.to 0) _ _ _ (naming_asks-renamed f w t none 2) (λ x. refl)

      pub seating_told : (n : Named) (box : Option Meaning) (old : Option Name) → (seating (renamed f w) t (named_renamed f n) s words box (option_map f.to old)).reply ≡ (seating w t n s words box old).reply
      seating_told n box old = answered-renamed (map f.to) _ _ _ (box_aims-renamed n box) (seated_told n box old)

      pub setting_where_told : (nothing : Bool) (n : Named) (box : Option Meaning) → (setting_where nothing (renamed f w) t s words box (named_renamed f n)).reply ≡ (setting_where nothing w t s words box n).reply
      setting_where_told true n box = refl
      setting_where_told false n box = answered-renamed (option_map f.to) _ _ _ (seat_asks-renamed s n) (seating_told n box)

    pub set_translator_told : (t : ℕ) → f.more t ≡ 0 → (p : ℕ) (s : Setting) (words : List (List ℕ)) (box : Option Meaning)
        → (plan_set_translator (renamed f w) t p s words box).reply ≡ (plan_set_translator w t p s words box).reply
    set_translator_told t none p s words box = answered-renamed (named_renamed f) _ _ _ (setter_asks-renamed t p s (is_some box)) (λ n. setting_where_told t none s words (sets_nothing s) n box)
