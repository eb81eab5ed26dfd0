use Rattle.std.proofs.Common.{◌≡◌, ◌∙◌, ap, inl, inr, not, refl, sym, true, true≢false}
use Rattle.std.proofs.lemmas.Result.{err_from_is_err_and}
use Rattle.hurd_teaching.specs.Learners.{speech}
use Rattle.hurd_teaching.proofs.StepLaws.{none_told, part_cut, part_told}
use Rattle.hurd_touches.specs.Touched.{listed}
use Rattle.hurd_teaching.specs.Watched.{misses}
use Rattle.hurd_teaching.proofs.UnmovedLaws.{still_sees}
use Rattle.hurd_teaching.proofs.steps.tell_next.Goals.{then-not-quiet, else-not-quiet}
use Rattle.hurd_teaching.proofs.steps.tell_next.Goals as goal

pub returns-in_err-quiet-clause-err : goal.returns-in_err-quiet-clause-err
returns-in_err-quiet-clause-err g c =
    let p = err_from_is_err_and c.from_residual.result c.from_residual.ensures.1 in
    rw (p.1, p.2) (inr refl, inl refl)

pub returns-in_err-answer-clause-err : goal.returns-in_err-answer-clause-err
returns-in_err-answer-clause-err g c =
    let p = err_from_is_err_and c.from_residual-in_err-answer.result c.from_residual-in_err-answer.ensures.1 in
    rw (p.1, p.2) (inr refl, inl refl)

pub returns-in_default-clause-ok : goal.returns-in_default-clause-ok
returns-in_default-clause-ok g c =
    let goes = rw (c.in_ok-quiet.ensures.same, c.in_default.is) at c.in_ok-answer.ensures.goes in
    none_told _ _ c.args.most (g.T.Telling.way c.args.telling.now) (g.T.Telling.way c.next.new.self) c.args.tally.now _ _ goes

pub returns-in_err-said-clause-err : goal.returns-in_err-said-clause-err
returns-in_err-said-clause-err g c =
    let p = err_from_is_err_and c.from_residual-in_err-said.result c.from_residual-in_err-said.ensures.1 in
    rw (p.1, p.2) (inr refl, inl refl)

pub returns-in_err-shown-clause-err : goal.returns-in_err-shown-clause-err
returns-in_err-shown-clause-err g c =
    let p = err_from_is_err_and c.from_residual-in_err-shown.result c.from_residual-in_err-shown.ensures.1 in
    rw (p.1, p.2) (inr refl, inl refl)

pub returns-in_err-print_all-clause-err : goal.returns-in_err-print_all-clause-err
returns-in_err-print_all-clause-err g c =
    let p = err_from_is_err_and c.from_residual-in_err-print_all.result c.from_residual-in_err-print_all.ensures.1 in
    let failed = c.in_err-print_all.ensures.err in
    let goes = rw (c.in_ok-quiet.ensures.same, c.in-Some.is) at c.in_ok-answer.ensures.goes in
    let says = rw c.world.ensures at c.in_ok-said.ensures in
    let shows = rw (c.are_shown-asked.ensures, c.told.ensures, c.world-2.ensures) at c.in_ok-shown.ensures in
    rw (p.1, p.2) (
      failed.0,
      part_cut c.args.learners.now.tasks.items (speech c.args.learners.now) (g.T.Telling.way c.args.telling.now) (g.T.Telling.way c.next.new.self) c.in-Some.answer goes c.in_ok-quiet.quiet c.looked.new.watch.seen c.said_if_moved.new.watch.seen
          c.in_ok-said.said c.in_ok-shown.shown c.in_ok-quiet.ensures.quiet c.in_ok-quiet.ensures.sees says shows c.args.most _ _ failed.1,
    )

pub returns-clause-ok : goal.returns-clause-ok
returns-clause-ok g c =
    let goes = rw (c.in_ok-quiet.ensures.same, c.in-Some.is) at c.in_ok-answer.ensures.goes in
    let says = rw c.world.ensures at c.in_ok-said.ensures in
    let shows = rw (c.are_shown-asked.ensures, c.told.ensures, c.world-2.ensures) at c.in_ok-shown.ensures in
    part_told c.args.learners.now.tasks.items (speech c.args.learners.now) (g.T.Telling.way c.args.telling.now) (g.T.Telling.way c.next.new.self) c.in-Some.answer goes c.in_ok-quiet.quiet c.looked.new.watch.seen c.said_if_moved.new.watch.seen
    c.in_ok-said.said c.in_ok-shown.shown c.in_ok-quiet.ensures.quiet c.in_ok-quiet.ensures.sees says shows c.args.most c.args.tally.now c.counted-count.result _ _ c.in_ok-print_all.ensures.ok c.counted-count.ensures

-- where none of what was touched was seen, what was seen is what these see now
pub said_if_moved-requires : goal.said_if_moved-requires
said_if_moved-requires g c =
    elim c.if-not-quiet.branch [
      | then-not-quiet b ↦ λ is.
          let stays = rw c.in_ok-quiet.ensures.same at c.in_ok-answer.ensures.noted in
          let missed : misses (listed (g.T.Telling.noted c.next.new.self)) c.looked.new.watch.seen ≡ true = rw b.noted.ensures at (sym b.misses-unmoved.ensures ∙ (sym b.unmoved-is ∙ is)) in
          rw c.world.ensures (b.if-not-quiet.true, still_sees _ _ _ _ _ _ c.requires.sound stays (c.in_ok-quiet.ensures.sees b.if-not-quiet.true) missed)
      | else-not-quiet b ↦ λ is. absurd (true≢false (sym is ∙ (b.unmoved-is ∙ ap not b.if-not-quiet.false)))
    ]
