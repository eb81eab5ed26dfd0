-- What follows from answers of types that a crate keeps to itself, where things have other names.
use Rattle.std.proofs.Common.{◌≡◌, Bool, true, false, if◌then◌else◌, Option, Some, None, Result, Ok, Err, refl}
use Rattle.std.specs.Option.{option_map}
use Rattle.hurd_machine.proofs.Common.{Errno}
use Rattle.hurd_machine.specs.Plan.{first, given, on}
use Rattle.hurd_machine.proofs.RenamedPlans.{answer_renamed}

module _ {N M A B : Type 0} (h : A → B) (k : N → Result A Errno) (l : M → Result B Errno) where
  -- what follows from two answers is the same except for names
  abbrev pub LeadsAlike : Result N Errno → Result M Errno → Type 0
  LeadsAlike s t = first t l ≡ answer_renamed h (first s k)

  pub leads_if : {b c : Bool} (i j : Result N Errno) (m n : Result M Errno) → c ≡ b → LeadsAlike i m → LeadsAlike j n → LeadsAlike (if b then i else j) (if c then m else n)
  leads_if {b} i j m n is one other = rw is (go b)
    where
      go : (b : Bool) → first (if b then m else n) l ≡ answer_renamed h (first (if b then i else j) k)
      go true = one
      go false = other

  -- the same of what isn't refused
  pub leads_either : {b c : Bool} (i j : N) (m n : M) → c ≡ b → LeadsAlike (Ok i) (Ok m) → LeadsAlike (Ok j) (Ok n) → LeadsAlike (Ok (if b then i else j)) (Ok (if c then m else n))
  leads_either {b} i j m n is one other = rw is (go b)
    where
      go : (b : Bool) → first (Ok (if b then m else n)) l ≡ answer_renamed h (first (Ok (if b then i else j)) k)
      go true = one
      go false = other

  pub leads_given : {b c : Bool} (e : Errno) (s : Result N Errno) (t : Result M Errno) → c ≡ b → LeadsAlike s t → LeadsAlike (given e b s) (given e c t)
  unfolding first given
  leads_given {b} e s t is alike = rw is (go b)
    where
      go : (b : Bool) → first (given e b t) l ≡ answer_renamed h (first (given e b s) k)
      go true = alike
      go false = refl

  module _ {X Y : Type 0} (g : X → Y) where
    pub leads_on : {p : Option Y} (e : Errno) (o : Option X) (s : X → Result N Errno) (t : Y → Result M Errno) → p ≡ option_map g o → ((x : X) → LeadsAlike (s x) (t (g x))) → LeadsAlike (on e o s) (on e p t)
    unfolding first on
    leads_on e o s t is alike = rw is (go o)
      where
        go : (o : Option X) → first (on e (option_map g o) t) l ≡ answer_renamed h (first (on e o s) k)
        go None = refl
        go (Some x) = alike x

    pub leads_first : {q : Result Y Errno} (r : Result X Errno) (s : X → Result N Errno) (t : Y → Result M Errno) → q ≡ answer_renamed g r → ((x : X) → LeadsAlike (s x) (t (g x))) → LeadsAlike (first r s) (first q t)
    unfolding first
    leads_first r s t is alike = rw is (go r)
      where
        go : (r : Result X Errno) → first (first (answer_renamed g r) t) l ≡ answer_renamed h (first (first r s) k)
        go (Ok x) = alike x
        go (Err e) = refl
