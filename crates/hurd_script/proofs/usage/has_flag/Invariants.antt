use Rattle.std.proofs.Common.{◌≡◌, drop, map, string_bytes}
use Rattle.std.specs.List.{list_any}
use Rattle.hurd_script.specs.Flags.{is_flag_word}
use Rattle.hurd_script.proofs.usage.has_flag.Given as goal

abbrev pub invariant-loop-word : goal.invariant-loop-word
invariant-loop-word l = list_any is_flag_word (map string_bytes (drop l.word-index l.words)) ≡ list_any is_flag_word (map string_bytes l.words)
