use Rattle.std.proofs.Common.{ap, ℕ, List}
use Rattle.hurd_program.specs.Requests.{asked, sort_of}
use Rattle.hurd_program.proofs.Asked.{complains}
use Rattle.hurd_program.proofs.Ended.{bad_ends}
use Rattle.hurd_program.proofs.performing.perform_on.Goals as goal

pub returns-in-Err-Bad : goal.returns-in-Err-Bad
returns-in-Err-Bad g c =
    let same = ap (λ (f : List ℕ → List ℕ). f c.args.text.now) (complains (sort_of c.args.request.now.sort) c.args.request.now.verb) in
    bad_ends (asked c.args.request.now) c.args.file.now c.args.text.now g.W.Write.contents g.E.Write.contents c.args.output.now c.done.new.output c.args.errors.now c.blame.new.errors c.in-Err-Bad.line c.blame.result
    c.blame.ensures.0 (rw (c.in-Err-Bad.is, c.in-Err-Bad.field-0-is) at c.done.ensures.adds) c.blame.ensures.1 (rw same at c.blame.ensures.2) c.blame.ensures.3
