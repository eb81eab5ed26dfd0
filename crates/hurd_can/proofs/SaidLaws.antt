-- Texts of some things, one after another: one more, and that there is one such text.
use Rattle.std.proofs.Common.{◌≡◌, ◌∙◌, ℕ, zero, suc, ◌+◌, ◌<◌, add-one, arith, List, [], ◌∷◌, Result, Ok, Err, length, get_or, refl, sym, ap, ap₂}
use Rattle.std.specs.Prelude.{◌++◌, OnOk, drop, take}
use Rattle.std.specs.declared.alloc.AllocError.{AllocError}
use Rattle.hurd_can.specs.Tried.{AllSaid}
use Rattle.hurd_can.proofs.HelpLaws.{append_append, append_none}

said_next : {X : Type 0} (Says : X → List ℕ → Type 0) (xs : List X) (i : ℕ) (d : X) (done more : List ℕ) → i < length xs → AllSaid Says (take i xs) done → Says (get_or xs i d) more
    → AllSaid Says (take (suc i) xs) (done ++ more)
said_next Says [] i d done more lt all says = absurd (omega arith)
said_next Says (x ∷ xs) zero d done more lt all says = (more, [], ap (λ (l : List ℕ). l ++ more) all ∙ append_none more, says, refl)
said_next Says (x ∷ xs) (suc i) d done more lt (first, rest, is, said, all) says =
    (first, rest ++ more, ap (λ (l : List ℕ). l ++ more) is ∙ append_append first rest more, said, said_next Says xs i d rest more (omega arith) all says)

pub said_more : {X : Type 0} (Says : X → List ℕ → Type 0) (xs : List X) (i : ℕ) (d : X) (start old new : List ℕ) → i < length xs
    → ((done : List ℕ) × AllSaid Says (take i xs) done × (old ≡ start ++ done)) → ((more : List ℕ) × Says (get_or xs i d) more × (new ≡ old ++ more))
    → (done : List ℕ) × AllSaid Says (take (i + 1) xs) done × (new ≡ start ++ done)
said_more Says xs i d start old new lt (done, all, was) (more, says, is) =
    rw add-one (done ++ more, said_next Says xs i d done more lt all says, is ∙ (ap (λ (l : List ℕ). l ++ more) was ∙ append_append start done more))

pub all_said_once : {X : Type 0} (Says : X → List ℕ → Type 0) → ((x : X) (s t : List ℕ) → Says x s → Says x t → s ≡ t) → (xs : List X) (s t : List ℕ) → AllSaid Says xs s → AllSaid Says xs t → s ≡ t
all_said_once Says once [] s t a b = a ∙ sym b
all_said_once Says once (x ∷ xs) s t (first, rest, is, says, all) (one, more, too, said, each) =
    is ∙ (ap₂ (λ (l ls : List ℕ). l ++ ls) (once x first one says said) (all_said_once Says once xs rest more all each) ∙ sym too)

-- other words for each
pub all_said_as : {X : Type 0} (Says Tells : X → List ℕ → Type 0) → ((x : X) (t : List ℕ) → Says x t → Tells x t) → (xs : List X) (s : List ℕ) → AllSaid Says xs s → AllSaid Tells xs s
all_said_as Says Tells told [] s is = is
all_said_as Says Tells told (x ∷ xs) s (first, rest, is, says, all) = (first, rest, is, told x first says, all_said_as Says Tells told xs rest all)

-- a text, and then others, are said as one
pub both_said : (Says Whole : List ℕ → Type 0) (start mid end first : List ℕ) (r : Result (Unit {0}) AllocError) → mid ≡ start ++ first → ((rest : List ℕ) → Says rest → Whole (first ++ rest))
    → OnOk r ((said : List ℕ) × Says said × (end ≡ mid ++ said)) → OnOk r ((said : List ℕ) × Whole said × (end ≡ start ++ said))
both_said Says Whole start mid end first (Ok u) was whole (said, says, is) =
    (first ++ said, whole said says, is ∙ (ap (λ (l : List ℕ). l ++ said) was ∙ append_append start first said))
both_said Says Whole start mid end first (Err e) was whole is = tt

-- of those that are left, the next and the rest
next_left : {X : Type 0} (xs : List X) (i : ℕ) (d : X) → i < length xs → drop i xs ≡ get_or xs i d ∷ drop (suc i) xs
next_left [] i d lt = absurd (omega arith)
next_left (x ∷ xs) zero d lt = refl
next_left (x ∷ xs) (suc i) d lt = next_left xs i d (omega arith)

pub drop_next : {X : Type 0} (xs : List X) (i : ℕ) (d : X) → i < length xs → drop i xs ≡ get_or xs i d ∷ drop (i + 1) xs
drop_next xs i d lt = rw add-one (next_left xs i d lt)
