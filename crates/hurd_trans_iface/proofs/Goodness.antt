-- How a kind of server is shown to be good: all that is asked of an effect, at once.
use Rattle.std.proofs.Common.{◌≡◌, ℕ, Bool, true, false, List, [], ◌∷◌, if◌then◌else◌, refl, subst}
use Rattle.std.specs.Prelude.{Some, Ok, Err}
use Rattle.hurd_creds.specs.declared.errno.Errno.{Errno}
use Rattle.hurd_creds.specs.declared.errno.Errno.TheVariants.{EINVAL}
use Rattle.hurd_creds.specs.Memory.{is_no_memory}
use Rattle.hurd_trans_iface.specs.Nodes.{Node, IsShaped}
use Rattle.hurd_trans_iface.specs.Behaviour.{Did, Effect, Behaviour, node_left}
use Rattle.hurd_trans_iface.specs.Good.{IsSized}
use Rattle.hurd_trans_iface.specs.Arguments.{no_options}

-- the size stays right
abbrev pub KeepsSize : {T : Type 0} → Behaviour → List ℕ → Node → Did T → Type 0
KeepsSize b text x d = IsShaped x.header x.body → IsSized b text x → IsSized b text (node_left d x)

-- an answer after which something holds, or a refusal that isn't ENOMEM
abbrev pub IsFine : {T : Type 0} → (Did T → Type 0) → Effect T → Type 0
IsFine P (Ok d) = P d
IsFine P (Err e) = is_no_memory e ≡ false

module _ {T : Type 0} (P : Did T → Type 0) where
  pub fine_done : (e : Effect T) (d : Did T) → IsFine P e → e ≡ Ok d → P d
  fine_done (Ok c) d fine is = let same : c ≡ d = cc in subst P same fine
  fine_done (Err e) d fine is = absurd (cc)

  pub fine_refused : (e : Effect T) (r : Errno) → IsFine P e → e ≡ Err r → is_no_memory r ≡ false
  fine_refused (Ok d) r fine is = absurd (cc)
  fine_refused (Err e) r fine is = let same : e ≡ r = cc in subst (λ (f : Errno). is_no_memory f ≡ false) same fine

  pub fine_if : (b : Bool) (x y : Effect T) → (b ≡ true → IsFine P x) → (b ≡ false → IsFine P y) → IsFine P (if b then x else y)
  fine_if true x y whole other = whole refl
  fine_if false x y whole other = other refl

-- a kind without options has no other text, and what it refuses isn't ENOMEM

pub no-options-text : (ws : List (List ℕ)) (new : List ℕ) → no_options ws ≡ Ok (Some new) → ⊥
no-options-text [] new h = absurd (cc)
no-options-text (w ∷ ws) new h = absurd (cc)

pub no-options-plain : (ws : List (List ℕ)) (e : Errno) → no_options ws ≡ Err e → is_no_memory e ≡ false
no-options-plain [] e h = absurd (cc)
no-options-plain (w ∷ ws) e h = let same : EINVAL ≡ e = cc in subst (λ (f : Errno). is_no_memory f ≡ false) same refl
