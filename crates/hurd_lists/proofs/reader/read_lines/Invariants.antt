use Rattle.std.proofs.Common.{◌≡◌, ◌+◌, drop}
use Rattle.hurd_words.specs.Reading.{said}
use Rattle.hurd_lists.specs.Lists.{read_from, said_by, unsaid}
use Rattle.hurd_lists.proofs.reader.read_lines.Given as goal

abbrev pub invariant-loop-index : goal.invariant-loop-index
invariant-loop-index g l =
    read_from (l.index + 1) (said_by g.S.Server.meaning l.list) (drop l.index (said l.lines)) ≡ read_from 1 unsaid (said l.lines)
