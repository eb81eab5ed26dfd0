use Rattle.std.proofs.Common.{◌≡◌, ℕ, ◌+◌, true, false, List, length, take, drop, Bor, refl}
use Rattle.std.specs.Prelude.{Option, Some, None, MatchOption}
use Rattle.std.specs.Option.{option_map}
use Rattle.std.specs.Str.{bytes_eq}
use Rattle.hurd_trans_iface.specs.Arguments.{behind}
use Rattle.hurd_trans_iface.proofs.begun.behind.Goals as goal

stripped : (first word : List ℕ) (r : Option (Bor (List ℕ))) → MatchOption r (bytes_eq (take (length first) word) first ≡ false) (λ x. (bytes_eq (take (length first) word) first ≡ true) × (x.now ≡ drop (length first) word) × (length x.now + length first ≡ length word)) → option_map (λ (x : Bor (List ℕ)). x.now) r ≡ behind first word
stripped first word None cases = rw cases refl
stripped first word (Some x) cases = rw (cases.0, cases.1) refl

pub returns : goal.returns
returns c = stripped c.args.first.now c.args.word.now c.strip_prefix.result c.strip_prefix.ensures.cases
