use Rattle.std.proofs.Common.{◌≡◌, drop, map, string_bytes}
use Rattle.std.specs.List.{list_any}
use Rattle.hurd_script.specs.Usage.{is_other_flag}
use Rattle.hurd_script.proofs.usage.has_other_flag.Given as goal

abbrev pub invariant-loop-word : goal.invariant-loop-word
invariant-loop-word l = list_any is_other_flag (map string_bytes (drop l.word-index l.words)) ≡ list_any is_other_flag (map string_bytes l.words)
