-- The first name, and what follows it.
use Rattle.std.proofs.Common.{◌≡◌, ◌∙◌, length, ap, sym, arith}
use Rattle.std.proofs.lemmas.Grind.{common_steps}
use Rattle.std.proofs.lemmas.Bool.Decides.{nat_tests}
use Rattle.std.proofs.lemmas.List.Sums.{prefix_len-le-length}
use Rattle.hurd_lookup.specs.Path.{from_name}
use Rattle.hurd_lookup.proofs.PathLaws.{none_in, one_in}
use Rattle.hurd_lookup.proofs.path.first_name.Goals as goal

pub returns-then-is_empty : goal.returns-then-is_empty
returns-then-is_empty c =
    let zero : length c.from_name-path.result.now ≡ 0 = grind (arith, common_steps, nat_tests, c.is_empty.ensures) in
    none_in c.args.path.now (ap length (sym c.from_name-path.ensures) ∙ zero)

pub split_at-requires : goal.split_at-requires
split_at-requires c = rw c.first_slash.ensures (prefix_len-le-length _ c.from_name-path.result.now)

pub returns : goal.returns
returns c =
    let some : (length (from_name c.args.path.now) ≡ 0 → ⊥) = λ e. grind (arith, common_steps, nat_tests, c.is_empty.ensures, ap length c.from_name-path.ensures ∙ e) in
    let one = one_in c.args.path.now some in
    rw (c.split_at.ensures.front, c.split_at.ensures.back, c.first_slash.ensures, c.from_name-path.ensures) one
