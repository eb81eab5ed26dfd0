-- What a call may answer where memory may be refused.
use Rattle.std.specs.Prelude.{◌≡◌, ◌⊎◌, Bool, true, false, cond, Result, Ok, Err, IsOk}
use Rattle.hurd_creds.specs.declared.errno.Errno.{Errno}
use Rattle.hurd_creds.specs.declared.errno.Errno.TheVariants.{ENOMEM}

-- the answer is the one that is wanted, by what it stands for; or ENOMEM, where this holds
abbrev pub MeetsOr : {A B : Type 0} → Type 0 → (B → A) → Result A Errno → Result B Errno → Type 0
MeetsOr Lacks of wanted (Ok b) = wanted ≡ Ok (of b)
MeetsOr Lacks of wanted (Err e) = (wanted ≡ Err e) ⊎ ((e ≡ ENOMEM) × Lacks)

-- the same, of answers that stand for themselves: the one that is wanted, or, where that is no refusal, ENOMEM
abbrev pub Meets : {T : Type 0} → Result T Errno → Result T Errno → Type 0
Meets wanted (Ok x) = wanted ≡ Ok x
Meets wanted (Err e) = (wanted ≡ Err e) ⊎ ((e ≡ ENOMEM) × IsOk wanted)

-- whether an error is ENOMEM
abbrev pub is_no_memory : Errno → Bool
is_no_memory ENOMEM = true
is_no_memory _ = false

-- whether an answer is ENOMEM
abbrev pub lacks_memory : {T : Type 0} → Result T Errno → Bool
lacks_memory (Ok _) = false
lacks_memory (Err e) = is_no_memory e

-- a call that is to answer and leave what `wanted` says did so, or found no memory and changed nothing
pub record Steps {T S : Type 0} (before : S) (wanted : Result T Errno × S) (got : Result T Errno) (after : S) : Type 0 where
  pub answered : Meets wanted.0 got
  pub left : after ≡ cond (lacks_memory got) before wanted.1
