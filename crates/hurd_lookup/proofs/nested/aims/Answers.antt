-- None of no words; else those after the program's name, or none.
use Rattle.hurd_lookup.proofs.NestedLaws.{aims_behind, aims_none, aims_not}
use Rattle.hurd_lookup.proofs.nested.aims.Goals as goal

pub returns-in_default : goal.returns-in_default
returns-in_default c = aims_none c.args.words.now c.in_default.ensures.cases

pub returns-then-says_aims : goal.returns-then-says_aims
returns-then-says_aims c = aims_behind c.args.words.now c.in-Some.arguments.now c.in-Some.program.now c.in-Some.ensures.cases.0 c.if-says_aims.ensures

pub returns-else-says_aims : goal.returns-else-says_aims
returns-else-says_aims c = aims_not c.args.words.now c.in-Some.arguments.now c.in-Some.program.now c.in-Some.ensures.cases.0 c.if-says_aims.ensures
