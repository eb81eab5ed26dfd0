use Rattle.std.proofs.Common.{ap, List, ℕ, map}
use Rattle.std.specs.Global.{Vec}
use Rattle.hurd_creds.specs.declared.name.Name.{Name}
use Rattle.hurd_lessons.specs.Beside.{keyed, with_things}
use Rattle.hurd_lessons.specs.Values.{names_of}
use Rattle.hurd_lessons.proofs.EachName.{name_there, things_all, things_next}
use Rattle.hurd_lessons.proofs.beside.things_of.Goals as goal

pub loop-i-init : goal.loop-i-init
loop-i-init c = ap (λ (es : List (Vec ℕ × Name)). with_things c.args.view.now (map keyed es) (names_of c.args.view.now)) c.new-things.ensures.empty

pub loop-i-preserved : goal.loop-i-preserved
loop-i-preserved c =
    things_next c.args.view.now c.loop-i.i c.in-Some.name (map keyed c.loop-i.things.entries) (map keyed c.note_thing.new.things.entries) _ c.in-Some.ensures c.in_ok-note_thing.ensures c.loop-i.invariant

pub returns-in_default : goal.returns-in_default
returns-in_default c = name_there c.args.view.now.rows c.loop-i.i (rw c.len-i-end.ensures at c.loop-i-test.true) c.in_default.ensures

pub returns : goal.returns
returns c = things_all c.args.view.now c.loop-i.i (map keyed c.loop-i.things.entries) _ (rw c.len-i-end.ensures at c.loop-i-test.false) c.loop-i.invariant
