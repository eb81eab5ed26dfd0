-- What was served of a list of calls, call by call.
use Rattle.std.proofs.Common.{◌≡◌, List, [], ◌∷◌, ◌++◌, map, append_assoc, append-nil, refl, ap, sym, ◌∙◌, subst}
use Rattle.std.proofs.lemmas.List.{map-append}
use Rattle.hurd_machine.proofs.Common.{Meaning, TaskId, World, call_by, reply_by}
use Rattle.hurd_machine.specs.declared.call.Call as code
use Rattle.hurd_machine.specs.declared.call.Reply as code_reply
use Rattle.hurd_machine.specs.Calls.{BringsBegun}
use Rattle.hurd_laws.specs.Called.{Called}
use Rattle.hurd_laws.specs.Served.{Served}
use Rattle.hurd_laws.proofs.Served.{served_push}
use Rattle.hurd_world.specs.Held.{AllBegun, AllComeBack, ComesBack, made_by}

-- one box more that comes back, at the end
more_back : {S : Type 0} (ms : List (TaskId × code.Call S)) (rs : List (code_reply.Reply S)) (m : TaskId × code.Call S) (r : code_reply.Reply S) → AllComeBack ms rs → ComesBack m.1 r
    → AllComeBack (ms ++ m ∷ []) (rs ++ r ∷ [])
more_back [] [] m r before one = (one, tt)
more_back [] (q ∷ rs) m r before one = absurd before
more_back (n ∷ ms) [] m r before one = absurd before
more_back (n ∷ ms) (q ∷ rs) m r before one = (before.0, more_back ms rs m r before.1 one)

module _ {S : Type 0} (f : S → Meaning) where
  abbrev Made : Type 0
  Made = TaskId × code.Call S

  abbrev Told : Type 0
  Told = code_reply.Reply S

  -- of all calls, those before the ones that are left were served so
  pub record ServedSoFar (w : World) (all left : List Made) (replies : List Told) (x : World) : Type 0 where
    pub done : List Made
    pub whole : all ≡ done ++ left
    pub served : Served w (map (made_by f) done) (map (reply_by f) replies) x
    pub back : AllComeBack done replies

  -- the condition on the box of the first call
  pub first_begun : (left less : List Made) (m : Made) → left ≡ m ∷ less → AllBegun f left → BringsBegun (call_by f m.1)
  first_begun left less m is all = (subst (λ (l : List Made). AllBegun f l) is all).0

  pub rest_begun : (left less : List Made) (m : Made) → left ≡ m ∷ less → AllBegun f left → AllBegun f less
  rest_begun left less m is all = (subst (λ (l : List Made). AllBegun f l) is all).1

  module _ (w : World) (all : List Made) where
    pub none_served : ServedSoFar w all all [] w
    none_served = record { done = []; whole = refl; served = refl; back = tt }

    -- one call more
    pub next_served : (left less : List Made) (m : Made) (replies next : List Told) (r : Told) (x y : World) → left ≡ m ∷ less → next ≡ replies ++ r ∷ []
        → Called x m.0.0 (call_by f m.1) (reply_by f r) y → ComesBack m.1 r → ServedSoFar w all left replies x → ServedSoFar w all less next y
    next_served left less m replies next r x y is so called comes before = record {
      done = before.done ++ m ∷ [];
      whole = before.whole ∙ ap (λ (l : List Made). before.done ++ l) is ∙ sym (append_assoc before.done (m ∷ []) less);
      served = rw (so, map-append (made_by f) before.done (m ∷ []), map-append (reply_by f) replies (r ∷ []))
          (served_push w x y (map (made_by f) before.done) (map (reply_by f) replies) (made_by f m) (reply_by f r) before.served called);
      back = rw so (more_back before.done replies m r before.back comes);
    }

    module _ (left : List Made) (replies : List Told) (x : World) (none : left ≡ []) (so : ServedSoFar w all left replies x) where
      whole_done : all ≡ so.done
      whole_done = so.whole ∙ ap (λ (l : List Made). so.done ++ l) none ∙ append-nil so.done

      -- no call is left
      pub all_served : Served w (map (made_by f) all) (map (reply_by f) replies) x
      all_served = rw whole_done so.served

      pub all_back : AllComeBack all replies
      all_back = rw whole_done so.back
