use Rattle.std.proofs.Common.{◌≡◌, ◌≤◌, ◌+◌, ◌-◌, drop, length, map, string_bytes}
use Rattle.hurd_script.specs.Settrans.{flag_count}
use Rattle.hurd_script.proofs.settrans.flag_count.Given as goal

abbrev pub invariant-loop-count : goal.invariant-loop-count
invariant-loop-count l =
    record { within : l.count ≤ length l.words; so_far : l.count + flag_count (drop l.count (map string_bytes l.words)) ≡ flag_count (map string_bytes l.words) }

abbrev pub decreases-loop-count : goal.decreases-loop-count
decreases-loop-count l = length l.words - l.count
