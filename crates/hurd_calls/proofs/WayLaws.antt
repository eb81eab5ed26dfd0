-- How far a list of calls is.
use Rattle.std.proofs.Common.{◌≡◌, ◌+◌, ◌∙◌, codes, ℕ, List, [], ◌∷◌, Some, None, ◌<◌, refl, sym, ap, arith, map, length, slice_index_or}
use Rattle.std.proofs.lemmas.Bool.{lt-ltb}
use Rattle.hurd_creds.specs.Limits.{most_script}
use Rattle.hurd_kinds.specs.Boxes.{box_meaning}
use Rattle.hurd_kinds.specs.declared.server_box.ServerBox.{ServerBox}
use Rattle.hurd_lists.specs.Lists.{listed_by}
use Rattle.hurd_lists.specs.declared.reader.ListedCall.{ListedCall}
use Rattle.hurd_terminal.proofs.RunLaws.{HasLimit}
use Rattle.hurd_words.specs.declared.answers.Answer.{Answer}
use Rattle.hurd_world.specs.Held.{Whole, world_of}
use Rattle.hurd_dialogue.specs.Parts.{Goes, next_task}
use Rattle.hurd_calls.specs.Lists.{lists, way_of}
use Rattle.hurd_calls.specs.Making.{after_call, answer_to, parts_of}

-- a list that is too long is bad at line 0
said_long : (xs : List ℕ) → 1048576 < length xs → lists.complaint xs ≡ codes ": longer than 1048576 bytes\n"
said_long xs long = rw (lt-ltb most_script (length xs) long) refl

pub lists_limited : HasLimit lists.bad lists.complaint
lists_limited = record {
  cut = λ xs long. rw (lt-ltb most_script (length xs) long) refl;
  same = λ xs ys long longer. said_long xs long ∙ sym (said_long ys longer);
}

-- the next call is made
pub call_goes : (w x : Whole ServerBox) (c : ListedCall ServerBox) (calls rest : List (ListedCall ServerBox)) (n m tasks : ℕ) (answer : Answer) → calls ≡ c ∷ rest → m ≡ n + 1
    → answer ≡ answer_to (listed_by box_meaning c) (world_of box_meaning w) → world_of box_meaning x ≡ after_call (listed_by box_meaning c) (world_of box_meaning w)
    → Goes (way_of w calls n tasks) (Some answer) (way_of x rest m tasks)
unfolding parts_of
call_goes w x c calls rest n m tasks answer is count said next = (
  c.task.0,
  rw is (λ i. record { task = c.task.0; answer = sym said i; world = sym next i } ∷ parts_of (map (listed_by box_meaning) rest) (sym next i)),
  count,
)

-- none is left
pub none_goes : (w : Whole ServerBox) (calls rest : List (ListedCall ServerBox)) (n tasks : ℕ) → calls ≡ [] → rest ≡ calls → Goes (way_of w calls n tasks) None (way_of w rest n tasks)
unfolding parts_of
none_goes w calls rest n tasks none same = (
  ap (λ (cs : List (ListedCall ServerBox)). parts_of (map (listed_by box_meaning) cs) (world_of box_meaning w)) none,
  ap (λ (cs : List (ListedCall ServerBox)). way_of w cs n tasks) same,
)

-- the task of the next

pub task_first : (w : Whole ServerBox) (c : ListedCall ServerBox) (calls : List (ListedCall ServerBox)) (n tasks : ℕ) → 0 < length calls → c ≡ slice_index_or calls 0 c
    → Some c.task.0 ≡ next_task (way_of w calls n tasks).left
unfolding parts_of
task_first w c [] n tasks some is = absurd (omega (arith, some))
task_first w c (d ∷ rest) n tasks some is = ap (λ (x : ListedCall ServerBox). Some x.task.0) is

pub task_none : (w : Whole ServerBox) (calls : List (ListedCall ServerBox)) (n tasks : ℕ) → (0 < length calls → ⊥) → None ≡ next_task (way_of w calls n tasks).left
unfolding parts_of
task_none w [] n tasks none = refl
task_none w (d ∷ rest) n tasks none = absurd (none (omega arith))
