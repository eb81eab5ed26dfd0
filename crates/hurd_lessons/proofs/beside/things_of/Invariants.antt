use Rattle.std.proofs.Common.{◌≡◌, [], drop, map}
use Rattle.hurd_lessons.specs.Beside.{keyed, with_things}
use Rattle.hurd_lessons.specs.Values.{names_of}
use Rattle.hurd_lessons.proofs.LineLaws.{named}
use Rattle.hurd_lessons.proofs.beside.things_of.Given as goal

-- the things so far, and those that are left
abbrev pub invariant-loop-i : goal.invariant-loop-i
invariant-loop-i l = with_things l.fn.view (map keyed l.things.entries) (named (drop l.i l.fn.view.rows)) ≡ with_things l.fn.view [] (names_of l.fn.view)
