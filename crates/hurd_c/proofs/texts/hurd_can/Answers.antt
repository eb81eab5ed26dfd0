use Rattle.std.specs.Prelude.{◌==◌, false, not}
use Rattle.hurd_can.specs.Programs.{could}
use Rattle.hurd_program.specs.Requests.{sort_of}
use Rattle.hurd_c.proofs.Unnamed.{says_none}
use Rattle.hurd_c.proofs.texts.hurd_can.Goals as goal

pub returns-in-Err : goal.returns-in-Err
returns-in-Err c =
    says_none c.args.who.now c.args.sort (λ s. could s (not (c.args.every == 0)) false c.args.who.now) c.args.text.now c.args.out.now (sort_of c.in-Some.sort) c.in-Err.fault c.ending.result c.in-Some.ensures c.in-Err.ensures c.ending.ensures
