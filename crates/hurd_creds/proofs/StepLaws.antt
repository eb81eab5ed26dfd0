-- The three ways in which a call ends that may need memory: it refuses as it is to; it finds no memory; it answers as it is to.
use Rattle.std.proofs.Common.{◌≡◌, ◌∙◌, Bool, true, false, cond, refl, sym, ap, inl, inr, true≢false}
use Rattle.std.specs.Prelude.{Result, Ok, Err, IsOk, OnOk}
use Rattle.hurd_creds.specs.Memory.{Steps, is_no_memory, lacks_memory}
use Rattle.hurd_creds.specs.declared.errno.Errno.{Errno}
use Rattle.hurd_creds.specs.declared.errno.Errno.TheVariants.{ENOMEM}

module _ {T S : Type 0} (w : Result T Errno × S) (m : S) where
  same_either : (b : Bool) → m ≡ cond b m m
  same_either true = refl
  same_either false = refl

  pub steps-refused : (e : Errno) → w ≡ (Err e, m) → Steps m w (Err e) m
  steps-refused e is = rw is (record { answered = inl refl; left = same_either (is_no_memory e) })

  pub steps-short : (x : T) (n : S) → w ≡ (Ok x, n) → Steps m w (Err ENOMEM) m
  steps-short x n is = rw is (record { answered = inr (refl, refl); left = refl })

cond-inside : {A B : Type 0} (k : A → B) (b : Bool) (x y : A) → k (cond b x y) ≡ cond b (k x) (k y)
cond-inside k true x y = refl
cond-inside k false x y = refl

-- a step of a part of a state, or of what is seen of it, is one of the other
pub steps-inside : {T A B : Type 0} (k : A → B) (before after : A) (part : Result T Errno × A) (whole : Result T Errno × B) (got : Result T Errno) → whole ≡ (part.0, k part.1) → Steps before part got after → Steps (k before) whole got (k after)
steps-inside k before after part whole got is s =
    rw is (record { answered = s.answered; left = ap k s.left ∙ cond-inside k (lacks_memory got) before part.1 })

-- what an insert says of its success, where it has one
pub on_success : {A E : Type 0} {P : Type 0} (r : Result A E) → IsOk r → OnOk r P → P
on_success (Ok x) ok is = is
on_success (Err e) ok is = absurd (true≢false (sym ok))
