-- A list that was read has as many calls as the reader gives.
use Rattle.std.proofs.Common.{◌≡◌, ◌∙◌, ℕ, length, subst, sym, arith}
use Rattle.std.specs.Prelude.{Result}
use Rattle.std.proofs.lemmas.List.{length-map}
use Rattle.std.proofs.lemmas.Bool.Decides.{nat_tests}
use Rattle.hurd_lists.specs.Flaws.{BadLine}
use Rattle.hurd_lists.specs.Lists.{Standing}
use Rattle.hurd_sample.specs.Listed.{HasCalls}
use Rattle.hurd_sample.proofs.lists.has_calls.Goals as goal

pub returns : goal.returns
returns c = λ has.
    let given = c.len.ensures in
    let many : length c.in-Ok.list.calls.items ≡ c.args.count = grind (arith, nat_tests, has, given) in
    subst (λ (r : Result Standing BadLine). HasCalls c.args.count r) (sym c.in-Ok.ensures) (length-map c.in-Ok.list.calls.items _ ∙ many)
