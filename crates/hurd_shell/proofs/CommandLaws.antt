-- The reads of cat, and the options of a server.
use Rattle.std.proofs.Common.{◌≡◌, ◌≤◌, ◌<◌, inl, inr, ℕ, zero, suc, ◌-◌, ◌++◌, ◌==◌, true, false, true≢false, List, [], ◌∷◌, length, Some, Result, Ok, Err, refl, sym, ◌∙◌, arith}
use Rattle.std.proofs.lemmas.Bool.Decides.{eqb_tells}
use Rattle.hurd_creds.specs.declared.errno.Errno.{Errno}
use Rattle.hurd_creds.specs.Limits.{most_read}
use Rattle.hurd_machine.specs.declared.call.Call.TheVariants.{Plain}
use Rattle.hurd_machine.specs.declared.call.PlainCall.TheVariants.{FsysSetOptions, IoRead}
use Rattle.hurd_world.specs.Noting.{State}
use Rattle.hurd_trans_iface.specs.Nodes.{has_words}
use Rattle.hurd_client.specs.Programs.{Prog, gives, made, data_of, done_of}
use Rattle.hurd_shell.specs.Commands.{at_cursor, cat_from, cat_read, options, prints, refuses, silent}
use Rattle.hurd_shell.specs.Progress.{LeadsTo}
use Rattle.hurd_shell.proofs.ProgramLaws.{leads_refl, tried_ends}

sub_one : (n : ℕ) → suc n - 1 ≡ n
sub_one n = omega arith

-- a read
abbrev pub reading : ℕ → Prog (List ℕ)
reading p = made (Plain (IoRead p most_read at_cursor)) data_of

cat_turn : {t : ℕ} {w x : State} (reads p : ℕ) (output : List ℕ) (r : Result (List ℕ) Errno) → 0 < reads → LeadsTo t (reading p) w (gives r) x
    → LeadsTo t (cat_from reads p output) w (cat_read output (cat_from (reads - 1) p) r) x
unfolding cat_from
cat_turn zero p output r some l = absurd (omega arith)
cat_turn (suc reads) p output r some l = rw sub_one (tried_ends (cat_read output (cat_from reads p)) l)

-- no more reads
pub cat_over : {t : ℕ} {w : State} (reads p : ℕ) (output : List ℕ) → reads ≤ 0 → LeadsTo t (cat_from reads p output) w (gives (Ok (prints output))) w
unfolding cat_from
cat_over zero p output none = leads_refl _ _ _
cat_over (suc reads) p output none = absurd (omega arith)

not_none : (b : ℕ) (bs : List ℕ) → (length (b ∷ bs) == 0) ≡ false
not_none b bs = elim (eqb_tells (suc (length bs)) 0) [ inl (e, same) ↦ absurd (omega arith) | inr (e, apart) ↦ e ]

-- a read at the end
pub cat_none : {t : ℕ} {w x : State} (reads p : ℕ) (output bytes : List ℕ) → 0 < reads → LeadsTo t (reading p) w (gives (Ok bytes)) x → true ≡ (length bytes == 0)
    → LeadsTo t (cat_from reads p output) w (gives (Ok (prints output))) x
cat_none reads p output [] some l none = cat_turn reads p output (Ok []) some l
cat_none reads p output (b ∷ bs) some l none = absurd (true≢false (none ∙ not_none b bs))

-- a read of some bytes
pub cat_some : {t : ℕ} {w x : State} (reads p : ℕ) (output bytes next : List ℕ) → 0 < reads → LeadsTo t (reading p) w (gives (Ok bytes)) x → false ≡ (length bytes == 0)
    → next ≡ output ++ bytes → LeadsTo t (cat_from reads p output) w (cat_from (reads - 1) p next) x
cat_some reads p output [] next some l full same = absurd (true≢false (sym full))
cat_some reads p output (b ∷ bs) next some l full same = rw same (cat_turn reads p output (Ok (b ∷ bs)) some l)

-- a refused read
pub cat_err : {t : ℕ} {w x : State} (reads p : ℕ) (output : List ℕ) (e : Errno) → 0 < reads → LeadsTo t (reading p) w (gives (Err e)) x
    → LeadsTo t (cat_from reads p output) w (gives (Ok (refuses output e))) x
cat_err reads p output e some l = cat_turn reads p output (Err e) some l

-- with words, they are given to the server
pub options_given : (words : List (List ℕ)) (c : ℕ) → has_words words ≡ true → options words c ≡ silent (made (Plain (FsysSetOptions c words)) done_of)
options_given [] c some = absurd (cc)
options_given (w ∷ ws) c some = refl

-- with none, its options are shown
pub options_shown : (words : List (List ℕ)) (c : ℕ) → has_words words ≡ false → options words c ≡ options [] c
options_shown [] c none = refl
options_shown (w ∷ ws) c none = absurd (cc)
