-- What was done of an opening so far.
use Rattle.std.specs.List.{All}
use Rattle.std.specs.Option.{is_some}
use Rattle.std.proofs.Common.{◌≡◌, ◌∙◌, ◌⊎◌, ℕ, true, false, List, [], ◌∷◌, ◌++◌, Option, Some, None, Result, Ok, Err, IfErr, ap, append-nil, append_assoc, inl, inr, refl, subst, sym, arith}
use Rattle.std.proofs.lemmas.List.Elements.{All-push}
use Rattle.hurd_creds.specs.declared.errno.Errno.{Errno}
use Rattle.hurd_creds.specs.declared.errno.Errno.TheVariants.{ENOENT}
use Rattle.hurd_creds.specs.declared.name.TaskId.{TaskId}
use Rattle.hurd_trans_iface.specs.Meaning.{Meaning, begin}
use Rattle.hurd_machine.specs.Calls.{Call, Reply, start_call}
use Rattle.hurd_machine.specs.World.{World}
use Rattle.hurd_laws.specs.Step.{after, reply_of}
use Rattle.hurd_lists.specs.Lists.{Listed}
use Rattle.hurd_calls.specs.Making.{after_call}
use Rattle.hurd_client.specs.Looking.{start_with}
use Rattle.hurd_client.specs.Openings.{opening_after, start_end}
use Rattle.hurd_client.specs.Programs.{Prog, gives, calls, asks, after_reply, started_of}
use Rattle.hurd_client.specs.declared.opening.Opening.{Opening}
use Rattle.hurd_client.proofs.OpeningLaws.{starts}
use Rattle.hurd_numbers.specs.Lines.{HasLine}
use Rattle.hurd_teaching.specs.declared.learners.Learners.{Learners}
use Rattle.hurd_sitting.specs.Openings.{IsSaid, Ran, RanSome, RunsAs, Starts, made_by}
use Rattle.hurd_sitting.specs.Replies.{Answers}
use Rattle.hurd_sitting.specs.Sittings.{Adds, behind}
use Rattle.hurd_sitting.proofs.MadeLaws.{adds_more, adds_none, leaves_more}
use Rattle.hurd_sitting.proofs.PartLaws.{none_behind}

-- what holds anyway holds after an error
pub if_err : {A E P : Type 0} (r : Result A E) → P → IfErr r (λ e. P)
if_err (Ok a) p = tt
if_err (Err e) p = p

-- from world x on a program makes some calls, and ends
total : (t : TaskId) (p : Prog ℕ) (x : World) → (rest : List Listed) × (end : Result ℕ Errno) × RunsAs t p x rest end
unfolding RunsAs
total t (gives r) x = ([], r, refl)
total t (calls c k) x = let more = total t (k (reply_of x t.0 c)) (after x t.0 c) in (made_by t c ∷ more.0, more.1, (refl, refl, more.2))
total t (asks words k) x = total t (k (begin words)) x

-- the first of its calls
one_runs : (t : TaskId) (p : Prog ℕ) (call : Call) (k : Reply → Prog ℕ) (c : Listed) (r : Reply) (x y : World) (rest : List Listed) (end : Result ℕ Errno) → p ≡ calls call k → c.task ≡ t → c.call ≡ call
    → r ≡ reply_of x t.0 call → y ≡ after x t.0 call → RunsAs t (k r) y rest end → RunsAs t p x (c ∷ rest) end
unfolding RunsAs
one_runs t p call k c r x y rest end is task same reply next more =
    subst (λ (q : Prog ℕ). RunsAs t q x (c ∷ rest) end) (sym is)
    (task, same, subst (λ (v : World). RunsAs t (k (reply_of x t.0 call)) v rest end) next (subst (λ (z : Reply). RunsAs t (k z) y rest end) reply more))

-- a program of a task came from world w to world x, by calls that were told, and this is left of it
pub record Come (who : Option Learners) (t : TaskId) (p : Prog ℕ) (w : World) (before now : List ℕ) (q : Prog ℕ) (x : World) : Type 0 where
  pub first : List Listed
  pub said : All IsSaid first
  pub runs : (rest : List Listed) (end : Result ℕ Errno) → RunsAs t q x rest end → RunsAs t p w (first ++ rest) end
  pub adds : Adds who first w before now
  pub leaves : x ≡ behind first w

-- at first nothing was done
pub come_none : (who : Option Learners) (t : TaskId) (p : Prog ℕ) (w : World) (before : List ℕ) → Come who t p w before before p w
come_none who t p w before = record { first = []; said = λ k d lt. absurd (omega (arith, lt)); runs = λ rest end more. more; adds = adds_none who w before; leaves = sym (none_behind w) }

module _ {who : Option Learners} {t : TaskId} {p : Prog ℕ} {w : World} {before now : List ℕ} {q : Prog ℕ} {x : World} (so : Come who t p w before now q x) where
  -- the same is left of it
  pub come_same : (s : Prog ℕ) → s ≡ q → Come who t p w before now s x
  come_same s same = subst (λ (z : Prog ℕ). Come who t p w before now z x) (sym same) so

  -- the server of its words is there
  pub come_asks : (words : List (List ℕ)) (k : Option Meaning → Prog ℕ) → q ≡ asks words k → Come who t p w before now (k (begin words)) x
  unfolding RunsAs
  come_asks words k is = record {
    first = so.first;
    said = so.said;
    runs = λ rest end more. so.runs rest end (subst (λ (z : Prog ℕ). RunsAs t z x rest end) (sym is) more);
    adds = so.adds;
    leaves = so.leaves;
  }

  module _ (call : Call) (k : Reply → Prog ℕ) (is : q ≡ calls call k) where
    -- its next call was made and told
    pub come_call : (c : Listed) (r : Reply) (later : List ℕ) (y : World) → HasLine (made_by t call) c → Answers who c x r now later y → Come who t p w before later (k r) y
    come_call c r later y line answers =
        let task : c.task ≡ t = ap (λ (z : Listed). z.task) line.is in
        let same : c.call ≡ call = ap (λ (z : Listed). z.call) line.is in
        let reply : r ≡ reply_of x t.0 call = answers.reply ∙ (ap (λ (u : TaskId). reply_of x u.0 c.call) task ∙ ap (reply_of x t.0) same) in
        let next : y ≡ after x t.0 call = answers.leaves ∙ (ap (λ (u : TaskId). after x u.0 c.call) task ∙ ap (after x t.0) same) in
        record {
          first = so.first ++ c ∷ [];
          said = All-push IsSaid so.first c so.said (line.text, line.reads);
          runs = λ rest end more. subst (λ (cs : List Listed). RunsAs t p w cs end) (sym (append_assoc so.first (c ∷ []) rest)) (so.runs (c ∷ rest) end (one_runs t q call k c r x y rest end is task same reply next more));
          adds = adds_more who so.first w x c so.leaves before now later so.adds answers.adds;
          leaves = leaves_more who so.first w x c so.leaves y answers.leaves;
        }

    pub come_turn : (c : Listed) (r : Reply) (later : List ℕ) (y : World) (s : Prog ℕ) → HasLine (made_by t call) c → Answers who c x r now later y → s ≡ after_reply q r
        → Come who t p w before later s y
    come_turn c r later y s line answers same =
        subst (λ (z : Prog ℕ). Come who t p w before later z y) (sym (same ∙ ap (λ (z : Prog ℕ). after_reply z r) is)) (come_call c r later y line answers)

    -- or perhaps it was made, and not told
    pub come_lost : (y : World) → (y ≡ x) ⊎ (y ≡ after x t.0 call) → RanSome who t p w before now y
    come_lost y made =
        let more = total t (k (reply_of x t.0 call)) (after x t.0 call) in
        let runs = so.runs (made_by t call ∷ more.0) more.1 (one_runs t q call k (made_by t call) _ x _ more.0 more.1 is refl refl refl refl more.2) in
        record {
          calls = so.first ++ made_by t call ∷ more.0;
          end = more.1;
          runs = runs;
          some = record { first = so.first; rest = made_by t call ∷ more.0; split = refl; tells = so.adds; leaves = left y made };
          said = so.said;
        }
      where
        left : (y : World) → (y ≡ x) ⊎ (y ≡ after x t.0 call) → (y ≡ behind so.first w) ⊎ (y ≡ behind (so.first ++ made_by t call ∷ []) w)
        left y (inl same) = inl (same ∙ so.leaves)
        left y (inr next) = inr (leaves_more who so.first w x (made_by t call) so.leaves y next)

    pub come_failed : (c : Listed) (y : World) → HasLine (made_by t call) c → (y ≡ x) ⊎ (y ≡ after_call c x) → RanSome who t p w before now y
    come_failed c y line (inl same) = come_lost y (inl same)
    come_failed c y line (inr next) =
        come_lost y (inr (next ∙ (ap (λ (u : TaskId). after x u.0 c.call) (ap (λ (z : Listed). z.task) line.is) ∙ ap (after x t.0) (ap (λ (z : Listed). z.call) line.is))))

  -- it was not made to its end
  pub come_stopped : RanSome who t p w before now x
  come_stopped =
      let more = total t q x in
      record {
        calls = so.first ++ more.0;
        end = more.1;
        runs = so.runs more.0 more.1 more.2;
        some = record { first = so.first; rest = more.0; split = refl; tells = so.adds; leaves = inl so.leaves };
        said = so.said;
      }

  -- it is at its end
  pub come_end : (end : Result ℕ Errno) → q ≡ gives end → Ran who t p w end before now x
  unfolding RunsAs
  come_end end is = record {
    calls = so.first;
    said = so.said;
    runs = subst (λ (cs : List Listed). RunsAs t p w cs end) (append-nil so.first) (so.runs [] end (subst (λ (z : Prog ℕ). RunsAs t z x [] end) (sym is) refl));
    adds = so.adds;
    leaves = so.leaves;
  }

-- a translator that is started with a server, and one that has none
module _ {who : Option Learners} {t : TaskId} {w : World} {before now : List ℕ} {x : World} (c : Listed) (r : Reply) where
  pub starts_with : (server : Option Meaning) (end : Result (Unit {0}) Errno) → true ≡ is_some server → HasLine (made_by t (start_call server)) c → Answers who c w r before now x → end ≡ started_of r
      → Starts who t server w end before now x
  starts_with (Some server) end some line answers is = record { call = c; line = line; reply = r; answers = answers; ends = is }
  starts_with None end some line answers is = absurd (cc)

  pub starts_without : (server : Option Meaning) → false ≡ is_some server → HasLine (made_by t (start_call server)) c → Answers who c w r before now x → Starts who t server w (Err ENOENT) before now x
  starts_without (Some server) none line answers = absurd (cc)
  starts_without None none line answers = record { call = c; line = line; reply = r; answers = answers; ends = refl }

module _ {who : Option Learners} {t : TaskId} {p : Prog ℕ} {w : World} {before now : List ℕ} {q : Prog ℕ} {x : World} (so : Come who t p w before now q x)
    (words : List (List ℕ)) (o : Opening) (is : q ≡ asks words (λ server. opening_after o (start_with server))) where
  -- an opening that waits for a translator makes the call that starts it
  begins : Come who t p w before now (opening_after o (start_with (begin words))) x
  begins = come_asks so words (λ server. opening_after o (start_with server)) is

  pub come_started : (end : Result (Unit {0}) Errno) (later : List ℕ) (y : World) (s : Prog ℕ) → Starts who t (begin words) x end now later y → s ≡ opening_after o (gives end)
      → Come who t p w before later s y
  come_started end later y s started same =
      subst (λ (z : Prog ℕ). Come who t p w before later z y) (sym (same ∙ ap (λ (z : Result (Unit {0}) Errno). opening_after o (gives z)) started.ends))
      (come_call begins (start_call (begin words)) (λ r. opening_after o (gives (start_end (begin words) r))) (starts o (begin words)) started.call started.reply later y started.line started.answers)

  pub come_not_started : (y : World) → (y ≡ x) ⊎ (y ≡ after x t.0 (start_call (begin words))) → RanSome who t p w before now y
  come_not_started y made = come_lost begins (start_call (begin words)) (λ r. opening_after o (gives (start_end (begin words) r))) (starts o (begin words)) y made
