use Rattle.std.proofs.Common.{◌∙◌, ◌<◌, Err, ap, arith, length, subst, sym, List, ℕ}
use Rattle.hurd_words.specs.Reading.{said}
use Rattle.hurd_script.specs.Flaws.{TellsFlaw, ReadsLine, line_flaw}
use Rattle.hurd_script.specs.Reading.{with_line}
use Rattle.hurd_words.proofs.Loops.{length-said, piece_at-said}
use Rattle.hurd_script.proofs.ScriptLemmas.{good_line, line_fault}
use Rattle.hurd_script.proofs.reader.read_lines.Goals as goal

pub loop-index-preserved : goal.loop-index-preserved
loop-index-preserved c =
    let lines = said c.args.lines.now in
    let i = c.loop-index.index in
    let before = c.loop-index.reader in
    let within : i < length lines = omega (arith, length-said c.args.lines.now) in
    let line = piece_at-said c.args.lines.now i c.loop-index-test.true in
    let p = good_line lines i before c.take_line.new.self within c.loop-index.invariant.so_far (ap (with_line before) (sym line) ∙ c.in-Ok.ensures.read) in
    record { so_far = p.0; fine = sym p.1 ∙ c.loop-index.invariant.fine }

pub returns-in-Err-clause-fault : goal.returns-in-Err-clause-fault
returns-in-Err-clause-fault c =
    let lines = said c.args.lines.now in
    let i = c.loop-index.index in
    let before = c.loop-index.reader in
    let within : i < length lines = omega (arith, length-said c.args.lines.now) in
    let line = piece_at-said c.args.lines.now i c.loop-index-test.true in
    let after = c.take_line.new.self in
    let fault = c.in-Err.fault in
    let read = subst (λ (l : List ℕ). ReadsLine {X = Unit {0}} (λ _. after) (with_line before l) (Err fault)) line c.in-Err.ensures.read in
    let blamed = subst (λ (l : List ℕ). TellsFlaw {X = Unit {0}} (line_flaw before l) (Err fault)) line c.in-Err.ensures.blamed in
    rw c.fault_at.ensures (line_fault lines i before after fault within c.loop-index.invariant.so_far c.loop-index.invariant.fine read blamed)
