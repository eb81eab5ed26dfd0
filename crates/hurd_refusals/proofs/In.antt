-- Lists of errors, and answers that are refused by none but these.
use Rattle.std.proofs.Common.{List, ◌≡◌, Bool, true, false, Option, Some, None, [], ◌∷◌, refl, sym, ◌∙◌, ap, ap₂, subst, true≢false, ◌&&◌, ◌||◌, ◌==◌}
use Rattle.std.specs.Prelude.{if◌then◌else◌, Result, Ok, Err}
use Rattle.std.proofs.lemmas.Bool.{eqb-true}
use Rattle.hurd_creds.specs.Errors.{number_of}
use Rattle.hurd_creds.specs.declared.errno.Errno.{Errno}
use Rattle.hurd_machine.proofs.Common.{Plan, Reply, answered, first, given, on, or_refuse}
use Rattle.hurd_machine.specs.declared.call.Reply.TheVariants.{Refused}
use Rattle.hurd_refusals.specs.Errors.{is_among, refused_by}

-- each of these is among those
abbrev pub are_among : List Errno → List Errno → Bool
are_among [] es = true
are_among (d ∷ ds) es = is_among d es && are_among ds es

-- it is refused by one of these errors, or not at all
pub record In {A : Type 0} (es : List Errno) (r : Result A Errno) : Type 0 where
  pub by : (e : Errno) → r ≡ Err e → is_among e es ≡ true

-- Errors of one number are among the same.
same_number : (d e : Errno) (es : List Errno) → number_of d ≡ number_of e → is_among d es ≡ is_among e es
same_number d e [] h = refl
same_number d e (x ∷ xs) h = ap₂ (λ (b c : Bool). b || c) (ap (λ n. number_of x == n) h) (same_number d e xs h)

-- The first of two tests that both hold does.
pub and_one : (b c : Bool) → (b && c) ≡ true → b ≡ true
and_one true c h = refl
and_one false c h = h

-- Two tests that hold both do.
pub both_true : (b c : Bool) → b ≡ true → c ≡ true → (b && c) ≡ true
both_true true c h k = k
both_true false c h k = h

-- The second one does.
pub and_other : (b c : Bool) → (b && c) ≡ true → c ≡ true
and_other true c h = h
and_other false c h = absurd (true≢false (sym h))

-- An error that is this one, or among these, is among those.
either : (d e : Errno) (es : List Errno) (b c : Bool) → (number_of d == number_of e) ≡ b → is_among d es ≡ true → (c ≡ true → is_among e es ≡ true) → (b || c) ≡ true → is_among e es ≡ true
either d e es true c at h more is = sym (same_number d e es (eqb-true _ _ at)) ∙ h
either d e es false c at h more is = more is

-- An error among these is among those, if each of these is.
pub within : (e : Errno) (ds es : List Errno) → are_among ds es ≡ true → is_among e ds ≡ true → is_among e es ≡ true
within e [] es h is = absurd (true≢false (sym is))
within e (d ∷ ds) es h is = either d e es (number_of d == number_of e) (is_among e ds) refl (and_one _ _ h) (within e ds es (and_other (is_among d es) _ h)) is

-- What is refused by these alone is refused by those alone.
pub more_in : {A : Type 0} (ds : List Errno) {es : List Errno} {r : Result A Errno} → are_among ds es ≡ true → In ds r → In es r
more_in {A} ds {es} {r} h p = record { by = λ e is. within e ds es h (p.by e is) }

-- An answer is no refusal.
pub ok_in : {A : Type 0} {es : List Errno} {a : A} → In es (Ok a)
ok_in = record { by = λ e h. absurd (cc) }

-- A refusal by one of these is one.
pub err_in : {A : Type 0} {es : List Errno} {d : Errno} → is_among d es ≡ true → In {A = A} es (Err d)
err_in {A} {es} {d} out = record { by = λ e h. let same : d ≡ e = cc in subst (λ x. is_among x es ≡ true) same out }

-- Both ways of a test are refused by these alone.
pub if_in : {A : Type 0} {es : List Errno} (b : Bool) (x y : Result A Errno) → (b ≡ true → In es x) → (b ≡ false → In es y) → In es (if b then x else y)
if_in true x y px py = px refl
if_in false x y px py = py refl

-- An option that is wanted is there, or its error is one of these.
pub or_in : {A : Type 0} {es : List Errno} (e : Errno) (o : Option A) → is_among e es ≡ true → In es (or_refuse e o)
or_in e None out = err_in out
or_in e (Some a) out = ok_in

-- The same, if something follows from it that is refused by these alone.
pub on_in : {A B : Type 0} {es : List Errno} (e : Errno) (x : Option A) (k : A → Result B Errno) → is_among e es ≡ true → ((a : A) → x ≡ Some a → In es (k a)) → In es (on e x k)
unfolding on
on_in e None k out h = err_in out
on_in e (Some a) k out h = h a refl

-- A test holds, or its error is one of these.
pub given_in : {B : Type 0} {es : List Errno} (e : Errno) (c : Bool) (k : Result B Errno) → is_among e es ≡ true → (c ≡ true → In es k) → In es (given e c k)
unfolding given
given_in e true k out h = h refl
given_in e false k out h = err_in out

-- The same, if the error is one of these where the test fails.
pub given_if : {B : Type 0} {es : List Errno} (e : Errno) (c : Bool) (k : Result B Errno) → (c ≡ false → is_among e es ≡ true) → (c ≡ true → In es k) → In es (given e c k)
unfolding given
given_if e true k out h = h refl
given_if e false k out h = err_in (out refl)

-- What follows from an answer is refused by these alone, if the answer is.
pub first_in : {A B : Type 0} {es : List Errno} (x : Result A Errno) (k : A → Result B Errno) → In es x → ((a : A) → x ≡ Ok a → In es (k a)) → In es (first x k)
unfolding first
first_in (Err e) k out h = err_in (out.by e refl)
first_in (Ok a) k out h = h a refl

-- What follows from what follows.

-- What follows from an answer follows.
pub lead_ok : {A B : Type 0} {es : List Errno} (a : A) (k : A → Result B Errno) → In es (k a) → In es (first (Ok a) k)
unfolding first
lead_ok a k p = p

-- A refusal stays one.
pub lead_err : {A B : Type 0} {es : List Errno} (e : Errno) (k : A → Result B Errno) → is_among e es ≡ true → In es (first (Err e) k)
unfolding first
lead_err e k out = err_in out

-- Both ways of a test lead on to what is refused by these alone.
pub lead_if : {A B : Type 0} {es : List Errno} (b : Bool) (x y : Result A Errno) (k : A → Result B Errno) → In es (first x k) → In es (first y k) → In es (first (if b then x else y) k)
lead_if true x y k px py = px
lead_if false x y k px py = py

-- Both answers of a test do.
pub lead_either : {A B : Type 0} {es : List Errno} (b : Bool) (x y : A) (k : A → Result B Errno) → In es (k x) → In es (k y) → In es (k (if b then x else y))
lead_either true x y k px py = px
lead_either false x y k px py = py

-- An option that is wanted is there and leads on, or its error is one of these.
pub lead_on : {A B C : Type 0} {es : List Errno} (e : Errno) (x : Option A) (j : A → Result B Errno) (k : B → Result C Errno) → is_among e es ≡ true → ((a : A) → In es (first (j a) k)) → In es (first (on e x j) k)
unfolding on first
lead_on e None j k out h = err_in out
lead_on e (Some a) j k out h = h a

-- A test holds and what follows leads on, or its error is one of these.
pub lead_given : {B C : Type 0} {es : List Errno} (e : Errno) (c : Bool) (x : Result B Errno) (k : B → Result C Errno) → is_among e es ≡ true → In es (first x k) → In es (first (given e c x) k)
unfolding given first
lead_given e true x k out h = h
lead_given e false x k out h = err_in out

-- What follows from an answer leads on, if the answer is refused by these alone.
pub lead_first : {A B C : Type 0} {es : List Errno} (x : Result A Errno) (j : A → Result B Errno) (k : B → Result C Errno) → In es x → ((a : A) → In es (first (j a) k)) → In es (first (first x j) k)
unfolding first
lead_first (Err e) j k out h = err_in (out.by e refl)
lead_first (Ok a) j k out h = h a

-- a reply that is refused by one of these errors, or not at all
pub record Among (es : List Errno) (r : Reply) : Type 0 where
  pub by : (e : Errno) → refused_by r ≡ Some e → is_among e es ≡ true

-- A refusal by one of these is one.
pub refused_among : {es : List Errno} {d : Errno} → is_among d es ≡ true → Among es (Refused d)
refused_among {es} {d} out = record { by = λ e h. let same : d ≡ e = cc in subst (λ x. is_among x es ≡ true) same out }

-- A reply that is no refusal has no error.
pub done_among : {es : List Errno} {r : Reply} → refused_by r ≡ None → Among es r
done_among none = record { by = λ e h. absurd (cc) }

-- What follows from an answer is refused by these alone, if the answer is.
pub answered_among : {A : Type 0} {es : List Errno} (x : Result A Errno) (k : A → Plan) → In es x → ((a : A) → x ≡ Ok a → Among es (k a).reply) → Among es (answered x k).reply
unfolding answered
answered_among (Err e) k out h = refused_among (out.by e refl)
answered_among (Ok a) k out h = h a refl
