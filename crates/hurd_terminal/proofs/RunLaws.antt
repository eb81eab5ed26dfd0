-- What a whole run has printed. A text that was cut off is bad, as the whole one is.
use Rattle.std.proofs.Common.{◌≡◌, ◌≢◌, ◌⊎◌, inl, inr, ℕ, ◌<◌, Bool, true, false, List, [], length, take, Option, Some, None, Result, Ok, Err, IfSome, refl, sym, ◌∙◌, ap, subst, arith, nat_lt}
use Rattle.std.specs.Prelude.{IfErr}
use Rattle.std.proofs.lemmas.List.{length-take, take_all}
use Rattle.std.proofs.lemmas.Bool.{ltb-false, ltb-true}
use Rattle.std.proofs.KnownBytes.{Appends-nil}
use Rattle.std.specs.Io.KnownBytes.{Appends}
use Rattle.hurd_terminal.specs.declared.fault.Fault.{Fault}
use Rattle.hurd_terminal.specs.declared.fault.Fault.TheVariants.{Read, Write, Bad, Unknown, Boot, Memory}
use Rattle.hurd_terminal.specs.declared.print.Output.{Output}
use Rattle.hurd_terminal.specs.declared.read.Input.{Input}
use Rattle.hurd_terminal.specs.Faults.{IsPrintFault, IsReadFault}
use Rattle.hurd_terminal.specs.Runs.{Adds, IsTaken, Prints, Program, Ran}

-- a text of more than 1,048,576 bytes is bad at line 0, and of each the same is said
pub record HasLimit (bad : List ℕ → Option ℕ) (complaint : List ℕ → List ℕ) : Type 0 where
  pub cut : (xs : List ℕ) → 1048576 < length xs → bad xs ≡ Some 0
  pub same : (xs ys : List ℕ) → 1048576 < length xs → 1048576 < length ys → complaint xs ≡ complaint ys

-- what was read is the whole, or both are too long, and the same is said of both
abbrev CutOff : Program → List ℕ → Type 0
CutOff p xs = (take 1048577 xs ≡ xs) ⊎ ((p.bad (take 1048577 xs) ≡ Some 0) × (p.bad xs ≡ Some 0) × (p.complaint (take 1048577 xs) ≡ p.complaint xs))

by_length : (p : Program) → HasLimit p.bad p.complaint → (xs : List ℕ) (q : Bool) → nat_lt 1048577 (length xs) ≡ q → CutOff p xs
by_length p limit xs false test = inl (take_all 1048577 xs (ltb-false _ _ test))
by_length p limit xs true test =
    let long : 1048577 < length xs = ltb-true _ _ test in
    let front : 1048576 < length (take 1048577 xs) = omega (arith, length-take 1048577 xs) in
    inr (limit.cut (take 1048577 xs) front, limit.cut xs (omega arith), limit.same (take 1048577 xs) xs front (omega arith))

cut_off : (p : Program) → HasLimit p.bad p.complaint → (xs : List ℕ) → CutOff p xs
cut_off p limit xs = by_length p limit xs (nat_lt 1048577 (length xs)) refl

not_good : {A : Type 0} (o : Option ℕ) → o ≡ Some 0 → o ≡ None → A
not_good o long good = absurd (cc)

long_prints : (p : Program) (xs ys : List ℕ) (ended : Result (Unit {0}) Fault) (printed : List ℕ) → p.bad ys ≡ Some 0 → p.bad xs ≡ Some 0 → Prints p ys ended printed → Prints p xs ended printed
unfolding Prints
long_prints p xs ys (Ok _) printed cut long prints = not_good (p.bad ys) cut prints.0.good
long_prints p xs ys (Err Read) printed cut long prints = prints
long_prints p xs ys (Err Write) printed cut long prints = not_good (p.bad ys) cut prints.0.good
long_prints p xs ys (Err (Bad line)) printed cut long prints = (long ∙ (sym cut ∙ prints.0), prints.1)
long_prints p xs ys (Err Unknown) printed cut long prints = not_good (p.bad ys) cut prints.0
long_prints p xs ys (Err (Boot e)) printed cut long prints = not_good (p.bad ys) cut prints.0
long_prints p xs ys (Err Memory) printed cut long (inl none) = inl none
long_prints p xs ys (Err Memory) printed cut long (inr prints) = not_good (p.bad ys) cut prints.0.good

whole_prints : (p : Program) (xs ys : List ℕ) (ended : Result (Unit {0}) Fault) (printed : List ℕ) → ys ≡ take 1048577 xs → Prints p ys ended printed
    → CutOff p xs → Prints p xs ended printed
whole_prints p xs ys ended printed cut prints (inl same) = subst (λ (zs : List ℕ). Prints p zs ended printed) (cut ∙ same) prints
whole_prints p xs ys ended printed cut prints (inr long) = long_prints p xs ys ended printed (ap (λ (zs : List ℕ). p.bad zs) cut ∙ long.0) long.1 prints

whole_said : (p : Program) (xs ys : List ℕ) → ys ≡ take 1048577 xs → CutOff p xs → p.complaint xs ≡ p.complaint ys
whole_said p xs ys cut (inl same) = ap (λ (zs : List ℕ). p.complaint zs) (sym (cut ∙ same))
whole_said p xs ys cut (inr long) = sym (ap (λ (zs : List ℕ). p.complaint zs) cut ∙ long.2)

-- a run of the first bytes of a text is one of the text, and says the same of a bad one
abbrev pub RanAs : Program → Option (List ℕ) → Option (List ℕ) → Option (List ℕ) → Result (Unit {0}) Fault → List ℕ → Type 0
RanAs p held before after ended ys = (ran : Ran p held before after ended) × (p.complaint ran.text ≡ p.complaint ys)

pub ran_whole : (p : Program) → HasLimit p.bad p.complaint → (held before after : Option (List ℕ)) (ended : Result (Unit {0}) Fault) (ys : List ℕ) → IfSome held (λ xs. ys ≡ take 1048577 xs)
    → Adds p ys before after ended → RanAs p held before after ended ys
ran_whole p limit None before after ended ys cut adds = (record { text = ys; read = tt; adds = adds }, refl)
ran_whole p limit (Some xs) before after ended ys cut (printed, appends, prints) =
    let off = cut_off p limit xs in
    (record { text = xs; read = refl; adds = (printed, appends, whole_prints p xs ys ended printed cut prints off) }, whole_said p xs ys cut off)

known : Option (List ℕ) → List ℕ
known None = []
known (Some xs) = xs

known_held : (held : Option (List ℕ)) → IfSome held (λ xs. known held ≡ xs)
unfolding known
known_held None = tt
known_held (Some xs) = refl

-- nothing was printed of a text
pub adds_nothing : (p : Program) (before : Option (List ℕ)) (text : List ℕ) (ended : Result (Unit {0}) Fault) → Prints p text ended [] → Adds p text before before ended
adds_nothing p before text ended prints = ([], Appends-nil before, prints)

-- no memory, and nothing was printed
pub no_memory : (p : Program) (before : Option (List ℕ)) (text : List ℕ) → Adds p text before before (Err Memory)
unfolding Prints
no_memory p before text = adds_nothing p before text (Err Memory) (inl refl)

-- somebody is named who isn't in the text
pub adds_unknown : (p : Program) (before : Option (List ℕ)) (text : List ℕ) → p.bad text ≡ None → p.known text ≡ false → Adds p text before before (Err Unknown)
unfolding Prints
adds_unknown p before text good none = adds_nothing p before text (Err Unknown) (good, none, refl)

-- the text could not be read
unread_prints : (p : Program) {R : Type 0} (input : Input R) (text : List ℕ) (fault : Fault) → IsReadFault input fault → Prints p text (Err fault) []
unfolding Prints
unread_prints p input text fault (inl failed) = rw failed.0 refl
unread_prints p input text fault (inr memory) = rw memory (inl refl)

pub unread : (p : Program) {R : Type 0} (input : Input R) (held before : Option (List ℕ)) (fault : Fault) → IsReadFault input fault → Ran p held before before (Err fault)
unread p input held before fault failed = record { text = known held; read = known_held held; adds = adds_nothing p before (known held) (Err fault) (unread_prints p input (known held) fault failed) }

-- a run that was begun printed the whole output, or a front of it

pub adds_all : (p : Program) (before after : Option (List ℕ)) (text printed : List ℕ) (u : Unit {0}) → IsTaken p text → p.IsAll text printed → Appends before after printed → Adds p text before after (Ok u)
unfolding Prints
adds_all p before after text printed u taken all appends = (printed, appends, (taken, all))

part_prints : (p : Program) {W : Type 0} (output : Output W) (text printed : List ℕ) (fault : Fault) → IsPrintFault output fault → IsTaken p text → p.IsPart text printed → Prints p text (Err fault) printed
unfolding Prints
part_prints p output text printed fault (inl failed) taken part = rw failed.0 (taken, part)
part_prints p output text printed fault (inr memory) taken part = rw memory (inr (taken, part))

pub adds_part : (p : Program) {W : Type 0} (output : Output W) (before after : Option (List ℕ)) (text printed : List ℕ) (fault : Fault) → IsPrintFault output fault → IsTaken p text → p.IsPart text printed
    → Appends before after printed → Adds p text before after (Err fault)
adds_part p output before after text printed fault is taken part appends = (printed, appends, part_prints p output text printed fault is taken part)

-- a fault of printing is none of reading, and blames the output where it is one of writing

pub read_nowhere : {W : Type 0} (o : Output W) (Q : Fault → Type 0) (r : Result (Unit {0}) Fault) → IfErr r (λ f. IsPrintFault o f × Q f) → r ≢ Err Read
read_nowhere o Q (Ok u) err is = absurd (cc (is))
read_nowhere o Q (Err f) err is = elim err.0 [ inl w ↦ absurd (cc (is, w.0)) | inr m ↦ absurd (cc (is, m)) ]

pub write_blamed : {W : Type 0} (o : Output W) (Q : Fault → Type 0) (r : Result (Unit {0}) Fault) → IfErr r (λ f. IsPrintFault o f × Q f) → r ≡ Err Write → o.failed ≡ true
write_blamed o Q (Ok u) err is = absurd (cc (is))
write_blamed o Q (Err f) err is = elim err.0 [ inl w ↦ w.1 | inr m ↦ absurd (cc (is, m)) ]

-- no memory before the text was read
pub ran_out : (p : Program) (held before : Option (List ℕ)) → Ran p held before before (Err Memory)
ran_out p held before = record { text = known held; read = known_held held; adds = no_memory p before (known held) }

-- where nothing was printed of a bad text, the fault may be one of memory too
pub bad_or_not : (p : Program) (before after : Option (List ℕ)) (text : List ℕ) (line : ℕ) → Adds p text before after (Err (Bad line)) → Adds p text before after (Err Memory)
unfolding Prints
bad_or_not p before after text line (printed, appends, prints) = (printed, appends, inl prints.1)
