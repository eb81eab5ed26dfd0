use Rattle.std.proofs.Common.{◌∙◌, sym}
use Rattle.hurd_creds.proofs.NumberLemmas.{octal_number_read}
use Rattle.hurd_creds.proofs.octal.octal_number.Goals as goal

pub returns-then-are_octal_digits : goal.returns-then-are_octal_digits
returns-then-are_octal_digits c =
    octal_number_read c.args.digits.now c.from_str_radix.result c.ok.result
    (rw c.as_bytes.ensures.value at (sym c.are_octal_digits.ensures ∙ c.if-are_octal_digits.true)) c.from_str_radix.ensures.value c.ok.ensures.value
