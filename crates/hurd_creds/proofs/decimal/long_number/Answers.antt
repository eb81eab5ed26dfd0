use Rattle.std.proofs.Common.{◌≡◌, ◌∙◌, sym}
use Rattle.hurd_creds.proofs.NumberLemmas.{digits_text, number_read}
use Rattle.hurd_creds.proofs.decimal.long_number.Goals as goal

pub returns-in-Ok : goal.returns-in-Ok
returns-in-Ok c = let same : c.in-Ok.digits.now ≡ c.args.digits.now = c.in-Ok.ensures.cases.0 in number_read 64 c.args.digits.now c.parse.result c.ok.result (sym c.are_digits.ensures ∙ c.if-not-are_digits.false) (rw same at c.parse.ensures.value.0) c.ok.ensures.value

pub returns-in-Err : goal.returns-in-Err
returns-in-Err c = absurd (c.in-Err.ensures.cases.0 (digits_text c.args.digits.now (sym c.are_digits.ensures ∙ c.if-not-are_digits.false)))
