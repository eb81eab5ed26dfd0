-- The tasks that a word names.
use Rattle.std.proofs.Common.{◌≡◌, ◌∙◌, ◌++◌, ◌∷◌, [], ℕ, List, Option, Some, None, sym, ap, append-nil}
use Rattle.std.proofs.lemmas.List.{map-append}
use Rattle.hurd_creds.specs.declared.name.TaskId.{TaskId}
use Rattle.hurd_words.proofs.Loops.{behind-push}
use Rattle.hurd_words.specs.Reading.{behind}
use Rattle.hurd_words.specs.Words.{onto}
use Rattle.hurd_teaching.specs.Learners.{numbers, tasks_of}

-- one task more
numbers_more : (tasks more : List TaskId) (t : TaskId) → more ≡ tasks ++ t ∷ [] → numbers more ≡ numbers tasks ++ t.0 ∷ []
numbers_more tasks more t same = ap numbers same ∙ map-append (λ (x : TaskId). x.0) tasks (t ∷ [])

-- a task is taken, whatever names follow
pub task_taken : (finds : List ℕ → Option ℕ) (tasks more : List TaskId) (t : TaskId) (name : List ℕ) (rest : List (List ℕ)) → Some t.0 ≡ finds name → more ≡ tasks ++ t ∷ []
    → behind (numbers tasks) (tasks_of finds (name ∷ rest)) ≡ behind (numbers more) (tasks_of finds rest)
unfolding tasks_of
task_taken finds tasks more t name rest is one =
    ap (λ (o : Option ℕ). behind (numbers tasks) (onto o (tasks_of finds rest))) (sym is)
    ∙ (behind-push (numbers tasks) t.0 (tasks_of finds rest) ∙ ap (λ (x : List ℕ). behind x (tasks_of finds rest)) (sym (numbers_more tasks more t one)))

pub no_task : (finds : List ℕ → Option ℕ) (name : List ℕ) (rest : List (List ℕ)) → None ≡ finds name → tasks_of finds (name ∷ rest) ≡ None
unfolding tasks_of
no_task finds name rest none = ap (λ (o : Option ℕ). onto o (tasks_of finds rest)) (sym none)

pub tasks_ended : (finds : List ℕ → Option ℕ) (front : List ℕ) → behind front (tasks_of finds []) ≡ Some front
unfolding tasks_of
tasks_ended finds front = ap Some (append-nil front)
