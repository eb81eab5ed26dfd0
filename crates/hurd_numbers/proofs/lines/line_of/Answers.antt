use Rattle.std.proofs.Common.{◌∙◌, ap}
use Rattle.hurd_lists.specs.Lists.{listed_by, reading_of, said_by}
use Rattle.hurd_numbers.proofs.LineLaws.{ok_of}
use Rattle.hurd_numbers.proofs.lines.line_of.Goals as goal

pub returns-then-has_only : goal.returns-then-has_only
returns-then-has_only g c =
    rw c.new.ensures (record {
      call = listed_by g.S.Server.meaning c.in_ok-call.call;
      is = c.in_ok-call.ensures;
      said = said_by g.S.Server.meaning c.in_ok-read.read;
      reads = ok_of (reading_of c.in_ok-line.line.items) (said_by g.S.Server.meaning c.in_ok-read.read) (rw c.as_slice.ensures.value at c.in_ok-read.ensures);
      only = c.has_only.ensures c.if-has_only.true;
    })
