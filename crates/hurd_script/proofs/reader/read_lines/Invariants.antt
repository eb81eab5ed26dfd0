use Rattle.std.proofs.Common.{◌≡◌, ◌+◌, drop, take}
use Rattle.hurd_script.specs.Script.{first_bad}
use Rattle.hurd_words.specs.Reading.{said}
use Rattle.hurd_script.specs.Reading.{standing}
use Rattle.hurd_script.proofs.ScriptLemmas.{bad_from}
use Rattle.hurd_script.proofs.reader.read_lines.Given as goal

abbrev pub invariant-loop-index : goal.invariant-loop-index
invariant-loop-index l =
    record {
      so_far : l.reader ≡ standing (take l.index (said l.lines));
      fine : bad_from (l.index + 1) (take l.index (said l.lines)) (drop l.index (said l.lines)) ≡ first_bad (said l.lines);
    }
