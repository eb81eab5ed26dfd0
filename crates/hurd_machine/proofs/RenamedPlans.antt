-- Answers where things have other names: the same refusals, and what was found with other names.
use Rattle.std.proofs.Common.{◌≡◌, Bool, true, false, Option, Some, None, Result, Ok, Err, refl, ap, ◌∙◌}
use Rattle.std.specs.Option.{option_map}
use Rattle.hurd_machine.proofs.Common.{Errno, Meaning, Reply, or_refuse}
use Rattle.hurd_machine.specs.Plan.{Plan, answered, first, given, handing_back, looks, on, returning}

module _ {A B : Type 0} (g : A → B) where
  -- an answer with other names; a refusal has none
  abbrev pub answer_renamed : Result A Errno → Result B Errno
  answer_renamed (Ok x) = Ok (g x)
  answer_renamed (Err e) = Err e

  pub or_refuse-renamed : (e : Errno) (o : Option A) → or_refuse e (option_map g o) ≡ answer_renamed (or_refuse e o)
  or_refuse-renamed e None = refl
  or_refuse-renamed e (Some x) = refl

-- what follows from things and answers with other names

module _ {A B : Type 0} (g : A → B) {C D : Type 0} (h : C → D) where
  pub on-renamed : {p : Option B} (e : Errno) (o : Option A) (k : A → Result C Errno) (l : B → Result D Errno) → p ≡ option_map g o → ((x : A) → l (g x) ≡ answer_renamed h (k x))
      → on e p l ≡ answer_renamed h (on e o k)
  unfolding on
  on-renamed e o k l is alike = ap (λ q. on e q l) is ∙ go o
    where
      go : (o : Option A) → on e (option_map g o) l ≡ answer_renamed h (on e o k)
      go None = refl
      go (Some x) = alike x

  pub first-renamed : {s : Result B Errno} (r : Result A Errno) (k : A → Result C Errno) (l : B → Result D Errno) → s ≡ answer_renamed g r → ((x : A) → l (g x) ≡ answer_renamed h (k x))
      → first s l ≡ answer_renamed h (first r k)
  unfolding first
  first-renamed r k l is alike = ap (λ q. first q l) is ∙ go r
    where
      go : (r : Result A Errno) → first (answer_renamed g r) l ≡ answer_renamed h (first r k)
      go (Ok x) = alike x
      go (Err e) = refl

-- the same where that is told without names
module _ {A B : Type 0} (g : A → B) {C : Type 0} where
  pub on-told : {p : Option B} (e : Errno) (o : Option A) (k : A → Result C Errno) (l : B → Result C Errno) → p ≡ option_map g o → ((x : A) → l (g x) ≡ k x) → on e p l ≡ on e o k
  unfolding on
  on-told e o k l is alike = ap (λ q. on e q l) is ∙ go o
    where
      go : (o : Option A) → on e (option_map g o) l ≡ on e o k
      go None = refl
      go (Some x) = alike x

  pub first-told : {s : Result B Errno} (r : Result A Errno) (k : A → Result C Errno) (l : B → Result C Errno) → s ≡ answer_renamed g r → ((x : A) → l (g x) ≡ k x) → first s l ≡ first r k
  unfolding first
  first-told r k l is alike = ap (λ q. first q l) is ∙ go r
    where
      go : (r : Result A Errno) → first (answer_renamed g r) l ≡ first r k
      go (Ok x) = alike x
      go (Err e) = refl

-- where what it follows from has no names
module _ {A C D : Type 0} (h : C → D) where
  pub on-given : {o p : Option A} (e : Errno) (k : A → Result C Errno) (l : A → Result D Errno) → p ≡ o → ((x : A) → l x ≡ answer_renamed h (k x)) → on e p l ≡ answer_renamed h (on e o k)
  unfolding on
  on-given {o = o} e k l is alike = ap (λ q. on e q l) is ∙ go o
    where
      go : (o : Option A) → on e o l ≡ answer_renamed h (on e o k)
      go None = refl
      go (Some x) = alike x

  pub first-given : {r s : Result A Errno} (k : A → Result C Errno) (l : A → Result D Errno) → s ≡ r → ((x : A) → l x ≡ answer_renamed h (k x)) → first s l ≡ answer_renamed h (first r k)
  unfolding first
  first-given {r = r} k l is alike = ap (λ q. first q l) is ∙ go r
    where
      go : (r : Result A Errno) → first r l ≡ answer_renamed h (first r k)
      go (Ok x) = alike x
      go (Err e) = refl

-- where a test holds of both alike
module _ {C D : Type 0} (h : C → D) where
  pub given-renamed : {b c : Bool} {l : Result D Errno} (e : Errno) (k : Result C Errno) → c ≡ b → l ≡ answer_renamed h k → given e c l ≡ answer_renamed h (given e b k)
  unfolding given
  given-renamed {b = b} {l = l} e k is alike = ap (λ d. given e d l) is ∙ go b
    where
      go : (b : Bool) → given e b l ≡ answer_renamed h (given e b k)
      go true = alike
      go false = refl

-- replies of plans: where those that follow from the answers are alike
module _ {A B : Type 0} (g : A → B) where
  pub answered-renamed : {s : Result B Errno} (r : Result A Errno) (k : A → Plan) (l : B → Plan) → s ≡ answer_renamed g r → ((x : A) → (l (g x)).reply ≡ (k x).reply) → (answered s l).reply ≡ (answered r k).reply
  unfolding answered
  answered-renamed r k l is alike = ap (λ q. (answered q l).reply) is ∙ go r
    where
      go : (r : Result A Errno) → (answered (answer_renamed g r) l).reply ≡ (answered r k).reply
      go (Ok x) = alike x
      go (Err e) = refl

  -- of a call that only looks
  pub looks-renamed : {s : Result B Errno} (r : Result A Errno) (k : A → Reply) (l : B → Reply) → s ≡ answer_renamed g r → ((x : A) → l (g x) ≡ k x) → (looks s l).reply ≡ (looks r k).reply
  looks-renamed r k l is alike = answered-renamed r _ _ is alike

-- the same where the answer has no names
pub answered-given : {A : Type 0} {r s : Result A Errno} (k l : A → Plan) → s ≡ r → ((x : A) → (l x).reply ≡ (k x).reply) → (answered s l).reply ≡ (answered r k).reply
unfolding answered
answered-given {A} {r = r} k l is alike = ap (λ q. (answered q l).reply) is ∙ go r
  where
    go : (r : Result A Errno) → (answered r l).reply ≡ (answered r k).reply
    go (Ok x) = alike x
    go (Err e) = refl

-- with the box that was brought
pub returning-renamed : (o : Option Meaning) (P Q : Plan) → Q.reply ≡ P.reply → (returning o Q).reply ≡ (returning o P).reply
returning-renamed None P Q is = is
returning-renamed (Some m) P Q is = ap (handing_back m) is
