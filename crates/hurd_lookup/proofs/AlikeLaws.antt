-- What is asked alike in two worlds, shown in one go: it is the same in both, its answer has a property, and no refusal is ENOMEM.
use Rattle.std.proofs.Common.{◌≡◌, Bool, true, false, Option, Some, None, refl, subst}
use Rattle.std.specs.Prelude.{if◌then◌else◌, Result, Ok, Err}
use Rattle.hurd_machine.proofs.Common.{Errno, first, given, is_no_memory, on}
use Rattle.hurd_machine.proofs.Asks.{IsPlain, ok_plain, err_plain}

-- y is x, an answer of which has P, and no refusal of which is ENOMEM
pub record Alike {A : Type 0} (P : A → Type 0) (x y : Result A Errno) : Type 0 where
  pub same : y ≡ x
  pub has : (a : A) → x ≡ Ok a → P a
  pub plain : IsPlain x

pub ok_alike : {A : Type 0} (P : A → Type 0) (a : A) → P a → Alike P (Ok a) (Ok a)
ok_alike P a p = record { same = refl; has = λ b is. (let same : a ≡ b = cc (is) in subst P same p); plain = ok_plain a }

pub err_alike : {A : Type 0} (P : A → Type 0) (e : Errno) → is_no_memory e ≡ false → Alike P (Err e) (Err e)
err_alike P e out = record { same = refl; has = λ b is. absurd (cc (is)); plain = err_plain e out }

pub on_alike : {A B : Type 0} (P : B → Type 0) (e : Errno) (x y : Option A) (j k : A → Result B Errno) → is_no_memory e ≡ false → y ≡ x
    → ((a : A) → x ≡ Some a → Alike P (j a) (k a)) → Alike P (on e x j) (on e y k)
unfolding on
on_alike P e None y j k out same onward = rw same (err_alike P e out)
on_alike P e (Some a) y j k out same onward = rw same (onward a refl)

pub given_alike : {B : Type 0} (P : B → Type 0) (e : Errno) (b c : Bool) (p q : Result B Errno) → is_no_memory e ≡ false → c ≡ b → (b ≡ true → Alike P p q)
    → Alike P (given e b p) (given e c q)
unfolding given
given_alike P e true c p q out same onward = rw same (onward refl)
given_alike P e false c p q out same onward = rw same (err_alike P e out)

pub first_alike : {A B : Type 0} (Q : A → Type 0) (P : B → Type 0) (x y : Result A Errno) (j k : A → Result B Errno) → Alike Q x y
    → ((a : A) → x ≡ Ok a → Q a → Alike P (j a) (k a)) → Alike P (first x j) (first y k)
unfolding first
first_alike Q P (Err e) y j k asked onward = rw asked.same (err_alike P e (asked.plain e refl))
first_alike Q P (Ok a) y j k asked onward = rw asked.same (onward a refl (asked.has a refl))

pub if_alike : {A : Type 0} (P : A → Type 0) (b c : Bool) (x y p q : Result A Errno) → c ≡ b → Alike P x y → Alike P p q → Alike P (if b then x else p) (if c then y else q)
if_alike P true c x y p q same one other = rw same one
if_alike P false c x y p q same one other = rw same other
