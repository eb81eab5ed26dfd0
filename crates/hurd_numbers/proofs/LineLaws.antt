-- A line that was read back.
use Rattle.std.proofs.Common.{◌≡◌, ◌∙◌, ◌≤◌, ◌<◌, ap, arith, refl, sym, ℕ, List, [], ◌∷◌, Result, Ok, Err, Some, get_or, map, length}
use Rattle.std.specs.Prelude.{Option}
use Rattle.std.specs.Result.{result_ok}
use Rattle.hurd_trans_iface.specs.Meaning.{Meaning}
use Rattle.hurd_machine.specs.Calls.{call_by}
use Rattle.hurd_lists.specs.Calls.{begun, with_server}
use Rattle.hurd_lists.specs.Lists.{Listed, listed_by}
use Rattle.hurd_lists.specs.declared.reader.ListedCall.{ListedCall}
use Rattle.hurd_numbers.specs.Lines.{IsOnly}

-- what was read is what is said
pub ok_of : {T E : Type 0} (r : Result T E) (x : T) → result_ok r ≡ Some x → r ≡ Ok x
ok_of (Ok y) x is = cc
ok_of (Err e) x is = cc

-- two calls with the same task, call and words of a server are the same, but for their lines
pub listed_same : {S : Type 0} (f : S → Meaning) (read call : ListedCall S) → read.task.0 ≡ call.task.0 → call_by f read.call ≡ call_by f call.call → read.server ≡ call.server
    → listed_by f read ≡ record (listed_by f call) { line = read.line }
listed_same f read call task same server = λ i. record {
  task = record { 0 = task i };
  call = with_server (begun (server i)) (same i);
  line = read.line;
}

one_thing : {X : Type 0} (xs : List X) (d : X) → 1 ≤ length xs → length xs < 2 → xs ≡ get_or xs 0 d ∷ []
one_thing [] d some few = absurd (omega (arith, some))
one_thing (x ∷ []) d some few = refl
one_thing (x ∷ y ∷ xs) d some few = absurd (omega (arith, few))

-- one call was read, which is this one
pub one_only : {S : Type 0} (f : S → Meaning) (calls : List (ListedCall S)) (call read : ListedCall S) → 1 ≤ length calls → length calls < 2 → read ≡ get_or calls 0 read
    → listed_by f read ≡ record (listed_by f call) { line = read.line } → IsOnly (map (listed_by f) calls) (listed_by f call)
one_only f calls call read some few first same =
    (read.line, ap (map (listed_by f)) (one_thing calls read some few ∙ ap (λ c. c ∷ []) (sym first)) ∙ ap (λ (c : Listed). c ∷ []) same)
