-- Names and rows of tasks, gone over together.
use Rattle.std.proofs.Common.{◌≡◌, ◌∙◌, refl, sym, ap, ℕ, suc, ◌+◌, ◌<◌, ◌≤◌, List, [], ◌∷◌, ◌++◌, append_assoc, append-nil, drop, get_or, length, map, arith}
use Rattle.std.proofs.lemmas.List.{drop_all, drop_more}
use Rattle.hurd_creds.specs.Access.{least_uid}
use Rattle.hurd_creds.specs.declared.name.TaskId.{TaskId}
use Rattle.hurd_ports.specs.Seats.{seat_task}
use Rattle.hurd_ports.specs.Tables.{Task}
use Rattle.hurd_ports.specs.declared.table.TaskSeat.{TaskSeat}
use Rattle.hurd_pictures.specs.declared.names.Owner.{Owner}
use Rattle.hurd_teaching.specs.Owners.{owner_by, owners_of, tasks_below}

none_left : (names : List (List ℕ)) → owners_of names [] ≡ []
unfolding owners_of
none_left [] = refl
none_left (n ∷ ns) = refl

one_more : (name : List ℕ) (names : List (List ℕ)) (s : TaskSeat) (ss : List TaskSeat)
    → owners_of (name ∷ names) (map seat_task (s ∷ ss)) ≡ owner_by name (least_uid s.ids) ++ owners_of names (map seat_task ss)
unfolding owners_of
one_more name names s ss = refl

-- no name is left
no_names : (ts : List Task) → owners_of [] ts ≡ []
unfolding owners_of
no_names ts = refl

module _ (names : List (List ℕ)) (ss : List TaskSeat) (i : ℕ) (front all : List Owner) where
  -- no task is left
  pub tasks_past : length ss ≤ i → front ++ owners_of (drop i names) (map seat_task (drop i ss)) ≡ all → front ≡ all
  tasks_past past so_far =
      sym (append-nil front)
      ∙ (ap (λ (t : List Owner). front ++ t) (sym (ap (λ (ys : List TaskSeat). owners_of (drop i names) (map seat_task ys)) (drop_all i ss past) ∙ none_left (drop i names))) ∙ so_far)

  -- no name is
  pub names_past : length names ≤ i → front ++ owners_of (drop i names) (map seat_task (drop i ss)) ≡ all → front ≡ all
  names_past past so_far =
      sym (append-nil front)
      ∙ (ap (λ (t : List Owner). front ++ t) (sym (ap (λ (ns : List (List ℕ)). owners_of ns (map seat_task (drop i ss))) (drop_all i names past) ∙ no_names (map seat_task (drop i ss)))) ∙ so_far)

  -- the next ones were gone over
  pub owners_here : (name : List ℕ) (s : TaskSeat) (more : List Owner) → i < length names → i < length ss → name ≡ get_or names i name → s ≡ get_or ss i s
      → more ≡ front ++ owner_by name (least_uid s.ids)
      → front ++ owners_of (drop i names) (map seat_task (drop i ss)) ≡ all → more ++ owners_of (drop (i + 1) names) (map seat_task (drop (i + 1) ss)) ≡ all
  owners_here name s more in_names in_seats named is grown so_far =
      let rest = owners_of (drop (i + 1) names) (map seat_task (drop (i + 1) ss)) in
      let step = ap (λ (ns : List (List ℕ)). owners_of ns (map seat_task (drop i ss))) (drop_more names i name in_names ∙ ap (λ (n : List ℕ). n ∷ drop (i + 1) names) (sym named))
      ∙ (ap (λ (ys : List TaskSeat). owners_of (name ∷ drop (i + 1) names) (map seat_task ys)) (drop_more ss i s in_seats ∙ ap (λ (y : TaskSeat). y ∷ drop (i + 1) ss) (sym is))
      ∙ one_more name (drop (i + 1) names) s (drop (i + 1) ss)) in
      ap (λ (t : List Owner). t ++ rest) grown
      ∙ (append_assoc front (owner_by name (least_uid s.ids)) rest ∙ (ap (λ (t : List Owner). front ++ t) (sym step) ∙ so_far))

-- tasks by their numbers
pub no_tasks : tasks_below 0 ≡ []
unfolding tasks_below
no_tasks = refl

below_next : (n : ℕ) → tasks_below (suc n) ≡ tasks_below n ++ record { 0 = n } ∷ []
unfolding tasks_below
below_next n = refl

pub next_below : (n : ℕ) → tasks_below (n + 1) ≡ tasks_below n ++ record { 0 = n } ∷ []
next_below n = let is : n + 1 ≡ suc n = omega arith in ap tasks_below is ∙ below_next n
