-- A list of calls with one more, and the servers that these bring.
use Rattle.std.proofs.Common.{◌≡◌, ℕ, List, [], ◌∷◌, ◌++◌, sym}
use Rattle.std.specs.Prelude.{Option, Some, None}
use Rattle.std.specs.Option.{IfSome, option_map}
use Rattle.hurd_creds.specs.declared.name.TaskId.{TaskId}
use Rattle.hurd_trans_iface.specs.Meaning.{Begins, Meaning, begin}
use Rattle.hurd_machine.specs.declared.call.Call as call
use Rattle.hurd_machine.specs.Calls.{BringsBegun, call_by}
use Rattle.hurd_lists.specs.Calls.{begun}
use Rattle.hurd_world.specs.Held.{AllBegun}

-- where words begin the server that it brings, if any, they begin that of each
pub all-begun : {S : Type 0} (f : S → Meaning) (ms : List (TaskId × call.Call S)) (m : TaskId × call.Call S) → AllBegun f ms → BringsBegun (call_by f m.1) → AllBegun f (ms ++ m ∷ [])
all-begun f [] m all one = (one, tt)
all-begun f (n ∷ ms) m all one = (all.0, all-begun f ms m all.1 one)

-- words begin the server that they make, if they make one
pub brings : {S : Type 0} (f : S → Meaning) (words : Option (List (List ℕ))) (server : Option S) → begun words ≡ option_map f server → IfSome server (λ s. Begins (f s))
brings f words None is = tt
brings f None (Some s) is = absurd (let none : None ≡ Some (f s) = is in cc)
brings f (Some ws) (Some s) is = (ws, is)

-- the same of words that there are
pub made : {S : Type 0} (f : S → Meaning) (words : List (List ℕ)) (server : Option S) → option_map f server ≡ begin words → IfSome server (λ s. Begins (f s))
made f words None is = tt
made f words (Some s) is = (words, sym is)
