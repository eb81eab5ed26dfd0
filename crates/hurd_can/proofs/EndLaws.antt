-- What is found out at the end of a text, and on the way to it.
use Rattle.std.proofs.Common.{◌≡◌, inl, inr, ℕ, zero, suc, ◌+◌, ◌<◌, add-one, arith, Bool, true, false, true≢false, List, [], ◌∷◌, Result, map, length, get_or, refl, sym, ap, subst, ◌∙◌}
use Rattle.std.specs.Prelude.{OnOk, ◌++◌, if◌then◌else◌, not, take}
use Rattle.hurd_creds.specs.declared.name.TaskId.{TaskId}
use Rattle.hurd_dialogue.specs.Parts.{Goes, Part, Way}
use Rattle.hurd_words.specs.declared.answers.Answer.{Answer}
use Rattle.std.specs.Prelude.{IfErr, Option, Some, drop, is_some}
use Rattle.std.specs.Io.KnownBytes.{Appends}
use Rattle.std.proofs.lemmas.List.{length-map}
use Rattle.hurd_ports.specs.Seats.{seat_task}
use Rattle.hurd_ports.specs.Tables.{Task}
use Rattle.hurd_ports.specs.declared.table.TaskSeat.{TaskSeat}
use Rattle.hurd_dialogue.specs.Parts.{world_behind}
use Rattle.hurd_dialogue.specs.Sorts.{Begins, Sort, last_world}
use Rattle.hurd_teaching.specs.Learners.{Named, tasks_named}
use Rattle.hurd_teaching.specs.Looks.{asks_of, starts_of}
use Rattle.hurd_teaching.specs.Owners.{all_tasks, tasks_below}
use Rattle.hurd_teaching.specs.declared.learners.Learners.{Learners}
use Rattle.hurd_teaching.proofs.ProgramLaws.{adds_piece, these}
use Rattle.hurd_terminal.specs.Faults.{AppendsFront}
use Rattle.hurd_terminal.specs.Runs.{Adds}
use Rattle.hurd_terminal.specs.declared.fault.Fault.{Fault}
use Rattle.hurd_terminal.specs.declared.fault.Fault.TheVariants.{Write}
use Rattle.hurd_terminal.specs.declared.print.Output.{Output}
use Rattle.hurd_words.specs.Lines.{lines_of}
use Rattle.hurd_machine.specs.World.{World, nodes_of}
use Rattle.hurd_machine.specs.Sight.{Sees}
use Rattle.hurd_sight.specs.Looks.{Looks, sees_with}
use Rattle.hurd_sight.specs.Parts.{part_of}
use Rattle.hurd_sight.specs.Reach.{among}
use Rattle.hurd_sight.specs.declared.looks.Sight.{Sight}
use Rattle.hurd_sight.specs.declared.parts.SeenPart.{SeenPart}
use Rattle.hurd_views.specs.declared.view.View.{View}
use Rattle.hurd_views.specs.Views.{Views}
use Rattle.hurd_can.specs.Ending.{HelpsAtEnd}
use Rattle.hurd_can.specs.Help.{AreHelped, Help, Picks}
use Rattle.hurd_can.specs.Listed.{Unseen, kept_if}
use Rattle.hurd_can.specs.Dated.{worlds_from}
use Rattle.hurd_can.specs.Programs.{IsCould, asked, could, others_of}
use Rattle.hurd_can.specs.Remembered.{Each, Remembers}
use Rattle.hurd_can.specs.Saying.{Asked, SaysAll}
use Rattle.hurd_can.proofs.EachLaws.{each_next}
use Rattle.hurd_can.proofs.HelpLaws.{look_exact}
use Rattle.hurd_can.proofs.RecallLaws.{more_worlds}

-- of the tasks one more
others_by : (b : Bool) (t : TaskId) (all some more : List TaskId) → all ≡ some ++ more → (if b then all else t ∷ all) ≡ (if b then some else t ∷ some) ++ more
others_by true t all some more is = is
others_by false t all some more is = ap (λ l. t ∷ l) is

others_next : (who : List TaskId) (ts : List TaskId) (i : ℕ) (d : TaskId) → i < length ts → others_of who (take (suc i) ts) ≡ others_of who (take i ts) ++ others_of who (get_or ts i d ∷ [])
others_next who [] i d lt = absurd (omega arith)
others_next who (t ∷ ts) zero d lt = refl
others_next who (t ∷ ts) (suc i) d lt = others_by (among who t.0) t _ _ _ (others_next who ts i d (omega arith))

pub others_more : (who ts : List TaskId) (i : ℕ) (d : TaskId) (old new : List TaskId) → i < length ts → old ≡ others_of who (take i ts) → new ≡ old ++ others_of who (get_or ts i d ∷ [])
    → new ≡ others_of who (take (i + 1) ts)
others_more who ts i d old new lt was is = rw add-one (is ∙ (ap (λ l. l ++ others_of who (get_or ts i d ∷ [])) was ∙ sym (others_next who ts i d lt)))

kept_by : (w : World) (who : List TaskId) (p : SeenPart) (ps rest : List SeenPart) (b : Bool) → (b ≡ true → Sees (among who) w (part_of p)) → (b ≡ false → Unseen w who p) → Picks (Unseen w who) ps rest
    → Picks (Unseen w who) (p ∷ ps) ((if not b then p ∷ [] else []) ++ rest)
kept_by w who p ps rest true seen unseen picks = inr (λ no_sight. no_sight (seen refl), picks)
kept_by w who p ps rest false seen unseen picks = inl (unseen refl, rest, refl, picks)

-- the parts that a look doesn't show are those that those tasks don't see
pub kept_unseen : (w : World) (who : List TaskId) (v : Sight) → Looks (among who) w v → (ps : List SeenPart) → Picks (Unseen w who) ps (kept_if (λ p. not (sees_with (nodes_of w) v p)) ps)
kept_unseen w who v looks [] = refl
kept_unseen w who v looks (p ∷ ps) =
    kept_by w who p ps (kept_if (λ q. not (sees_with (nodes_of w) v q)) ps) (sees_with (nodes_of w) v p) (λ is. (look_exact w who v looks p).0 is) (λ out seen. true≢false (sym ((look_exact w who v looks p).1 seen) ∙ out))
    (kept_unseen w who v looks ps)

-- on the way: what the worlds that are left will add, with what was noted, is what all worlds add
abbrev pub Left : Way → Way → View → List TaskId → List Help → List Help → Type 0
Left start here last tasks old now =
    (new : List Help) → Each (Remembers (map (λ (p : Part). p.world) here.left) last tasks) now new → Each (Remembers (worlds_from start.world start.left) last tasks) old new

-- the first world was noted
pub left_first : (start : Way) (last : View) (tasks : List TaskId) (old now : List Help) → Each (Remembers (start.world ∷ []) last tasks) old now → Left start start last tasks old now
left_first start last tasks old now first new rest =
    each_next _ _ _ (more_worlds last (start.world ∷ []) (map (λ (p : Part). p.world) start.left) tasks) old now new first rest

-- and the world after one more part
pub left_next : (start before here : Way) (answer : Answer) (last : View) (tasks : List TaskId) (old was now : List Help) → Goes before (Some answer) here → Each (Remembers (here.world ∷ []) last tasks) was now
    → Left start before last tasks old was → Left start here last tasks old now
left_next start before here answer last tasks old was now goes one left new rest =
    left new (subst (λ (ws : List World). Each (Remembers ws last tasks) was new) (sym (ap (λ ps. map (λ (p : Part). p.world) ps) goes.1))
    (each_next _ _ _ (more_worlds last (here.world ∷ []) (map (λ (p : Part). p.world) here.left) tasks) was now new one rest))

-- all were noted
pub left_none : (start here : Way) (last : View) (tasks : List TaskId) (old now : List Help) → here.left ≡ [] → ((ys : List Help) → Each (Remembers [] last tasks) ys ys)
    → Left start here last tasks old now → Each (Remembers (worlds_from start.world start.left) last tasks) old now
left_none start here last tasks old now none same left =
    left now (subst (λ (ps : List Part). Each (Remembers (map (λ (p : Part). p.world) ps) last tasks) now now) (sym none) (same now))

-- the tasks of the rows are all
pub numbered : (seats : List TaskSeat) (all : List Task) (tasks : List TaskId) → map seat_task seats ≡ all → tasks ≡ tasks_below (length seats) → tasks ≡ all_tasks all
numbered seats all tasks rows is = is ∙ ap tasks_below (sym (length-map seats seat_task) ∙ ap length rows)

module _ (sort : Sort) (every how : Bool) (text word : List ℕ) (way again : Way) (begins : Begins sort text way) (anew : Begins sort text again) (learners : Learners)
    (named : Named (tasks_named way.finds word) (sort.called word) (drop way.heading (asks_of (lines_of text))) (starts_of way.heading (lines_of text)) (Some learners)) where
  -- what could be shown was printed, or a front of it
  pub could_adds : {W : Type 0} (output : Output W) (was : Bool) (before after : Option (List ℕ)) (ended : Result (Unit {0}) Fault) (whole : List ℕ)
      → IsCould (asked sort how text way.names learners) every (worlds_from again.world again.left) (world_behind way.world way.left) whole → OnOk ended (Appends before after whole × (output.failed ≡ was))
      → IfErr ended (λ fault. (fault ≡ Write) × (output.failed ≡ true) × AppendsFront before after whole) → Adds (could sort every how word) text before after ended
  could_adds output was before after ended whole found ok err =
      let are = these sort text word way begins learners named in
      let there : IsCould (asked sort how text (sort.names text) learners) every (worlds_from (sort.world text) (sort.parts text)) (last_world sort text) whole =
      rw (begins.names, begins.world, begins.left, anew.world, anew.left) at found in
      adds_piece (could sort every how word) output was before after text whole ended (record { good = begins.good; known = ap is_some are.tasks }) (learners, are, there) (λ front is. (whole, (learners, are, there), is)) ok err

-- what was found out and noted is what could be shown
pub could_be : (a : Asked) (every : Bool) (ws : List World) (w : World) (view : View) (tasks : List TaskId) (helps noted : List Help) (text : List ℕ)
    → tasks ≡ all_tasks w.tasks → Views tasks w view → HelpsAtEnd w view a.who tasks every helps → Each (Remembers ws view tasks) helps noted → SaysAll a view w.tasks tasks noted text
    → IsCould a every ws w text
could_be a every ws w view tasks helps noted text are views helped remembered says = record {
  view = view;
  all = subst (λ (ts : List TaskId). Views ts w view) are views;
  parts = helped.0;
  unseen = helped.1;
  helps = helps;
  helped = subst (λ (ts : List TaskId). AreHelped w a.who (others_of a.who ts) helped.0 helps) are helped.2;
  noted = noted;
  remembered = subst (λ (ts : List TaskId). Each (Remembers ws view ts) helps noted) are remembered;
  says = subst (λ (ts : List TaskId). SaysAll a view w.tasks ts noted text) are says;
}
