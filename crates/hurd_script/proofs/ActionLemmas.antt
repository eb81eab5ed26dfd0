-- What the words of a command ask for.
use Rattle.std.proofs.Common.{ℕ, arith, ◌≡◌, ◌∷◌, [], Err, List, None, Ok, Option, Result, Some, ap, drop, false, length, map, min, refl, sym, take, true, unwrap_or, ◌∙◌}
use Rattle.std.specs.Option.{option_map_or}
use Rattle.std.specs.Result.{result_unwrap_or}
use Rattle.clap.specs.Words.{Text}
use Rattle.hurd_creds.specs.declared.errno.Errno.{Errno}
use Rattle.hurd_creds.specs.declared.errno.Errno.TheVariants.{EINVAL}
use Rattle.hurd_trans_iface.specs.Words.{is_within_limits, words_of}
use Rattle.hurd_script.specs.Flags.{flags_of, is_flag_word, operands_of}
use Rattle.hurd_script.specs.Actions.{asked, asked_by, chown_action, fsysopts_action, within_limits}
use Rattle.hurd_creds.specs.Numbers.{number_of}
use Rattle.hurd_script.specs.Usage.{lone, three}
use Rattle.hurd_script.specs.declared.command.Verb.TheVariants.{Chown}
use Rattle.hurd_script.specs.declared.command.Action.TheVariants as action
use Rattle.hurd_script.proofs.SettingLemmas.{not_some}

asked_chown : (flags operands : List Text)
    → asked Chown flags operands ≡ option_map_or (λ t. chown_action (number_of t.0) (number_of t.1.0) t.1.1) (three flags operands) action.Usage
asked_chown [] (x ∷ y ∷ z ∷ []) = refl
asked_chown (f ∷ []) operands = refl
asked_chown _ _ = refl

pub chown_read : (ws : List Text) (owner group node : Text) (o g : Option ℕ) → Some (owner, (group, node)) ≡ three (flags_of ws) (operands_of ws)
    → o ≡ number_of owner → g ≡ number_of group → chown_action o g node ≡ asked_by Chown ws
chown_read ws owner group node o g e f h = sym (asked_chown (flags_of ws) (operands_of ws) ∙ rw (sym e, f, h) refl)

-- words within their limits
pub limits_kept : (ws words : List Text) → words_of ws ≡ Ok words → Some words ≡ within_limits ws
limits_kept ws words h = elim (is_within_limits ws) as (λ is. is_within_limits ws ≡ is → Some words ≡ within_limits ws) [
  | true ↦ λ e.
      let t : ◌≡◌ {A = Result (List Text) Errno} (Ok ws) (Ok words) = rw e at h in
      rw e (ap (λ (r : Result (List Text) Errno). Some (result_unwrap_or r ws)) (sym t))
  | false ↦ λ e. let t : ◌≡◌ {A = Result (List Text) Errno} (Err EINVAL) (Ok words) = rw e at h in absurd (cc)
] refl

-- the first word is the node, and no flag
one_node : (w node : Text) → Some node ≡ lone (flags_of (w ∷ [])) (operands_of (w ∷ [])) → (is_flag_word w ≡ false) × (node ≡ w)
one_node w node h = elim (is_flag_word w) as (λ is. is_flag_word w ≡ is → (is_flag_word w ≡ false) × (node ≡ w)) [
  | true ↦ λ e. let t : Some node ≡ None = rw e at h in absurd (cc)
  | false ↦ λ e. let t : Some node ≡ Some w = rw e at h in (e, ap (λ (x : Option Text). unwrap_or x w) t)
] refl

pub options_read : {X : Type 0} (text : X → Text) (xs front behind : List X) (n : ℕ) (node : Text) (words : List Text) → n ≡ min (length xs) 1
    → front ≡ take n xs → behind ≡ drop n xs → Some node ≡ lone (flags_of (map text front)) (operands_of (map text front)) → Some words ≡ within_limits (map text behind)
    → action.Fsysopts node words ≡ fsysopts_action (map text xs)
options_read {X} text [] front behind n node words count f b h k =
    let none : n ≡ 0 = omega (arith, count) in
    let e : front ≡ [] = f ∙ ap (λ m. take m []) none in
    not_some (sym (h ∙ ap (λ (y : List X). lone (flags_of (map text y)) (operands_of (map text y))) e))
options_read {X} text (x ∷ xs) front behind n node words count f b h k =
    let one : n ≡ 1 = omega (arith, count) in
    let e = f ∙ ap (λ m. take m (x ∷ xs)) one in
    let first = one_node (text x) node (h ∙ ap (λ (y : List X). lone (flags_of (map text y)) (operands_of (map text y))) e) in
    let rest = k ∙ ap (λ (y : List X). within_limits (map text y)) (b ∙ ap (λ m. drop m (x ∷ xs)) one) in
    rw (first.0, first.1) (ap (λ (y : Option (List Text)). option_map_or (action.Fsysopts (text x)) y action.Usage) rest)
