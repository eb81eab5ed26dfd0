use Rattle.std.proofs.Common.{◌∙◌, sym}
use Rattle.hurd_creds.proofs.NumberLemmas.{number_read}
use Rattle.hurd_creds.proofs.decimal.number.Goals as goal

pub returns-then-are_digits : goal.returns-then-are_digits
returns-then-are_digits c =
    number_read 32 c.args.digits.now c.parse.result c.ok.result (rw c.as_bytes.ensures.value at (sym c.are_digits.ensures ∙ c.if-are_digits.true)) c.parse.ensures.value.0 c.ok.ensures.value
