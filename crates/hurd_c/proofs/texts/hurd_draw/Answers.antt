use Rattle.std.specs.Prelude.{false}
use Rattle.hurd_teaching.specs.Drawings.{drawing}
use Rattle.hurd_program.specs.Requests.{sort_of}
use Rattle.hurd_c.specs.Texts.{marked_in}
use Rattle.hurd_c.proofs.Unnamed.{says_none}
use Rattle.hurd_c.proofs.texts.hurd_draw.Goals as goal

pub returns-in-Err : goal.returns-in-Err
returns-in-Err c =
    says_none c.args.who.now c.args.sort (λ s. drawing s false (marked_in c.args.who.now)) c.args.text.now c.args.out.now (sort_of c.in-Some.sort) c.in-Err.fault c.ending.result c.in-Some.ensures c.in-Err.ensures c.ending.ensures
