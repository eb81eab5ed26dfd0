use Rattle.std.proofs.Common.{[], inl, inr, refl}
use Rattle.std.proofs.KnownBytes.{Appends-nil}
use Rattle.std.proofs.lemmas.Result.{IfErr-weaker, err_from_is_err_and, on_ok_weaker}
use Rattle.hurd_teaching.proofs.telling.print_all.Goals as goal

pub returns-in_err-said-clause-err : goal.returns-in_err-said-clause-err
returns-in_err-said-clause-err g c =
    let p = err_from_is_err_and c.from_residual.result c.from_residual.ensures.1 in
    rw (p.1, p.2) (inr refl, ([], (_, refl), Appends-nil _))

pub returns-in_err-shown-clause-err : goal.returns-in_err-shown-clause-err
returns-in_err-shown-clause-err g c =
    let p = err_from_is_err_and c.from_residual-in_err-shown.result c.from_residual-in_err-shown.ensures.1 in
    rw (p.1, p.2) (inr refl, ([], (_, refl), Appends-nil _))

pub returns-in_err-text-clause-err : goal.returns-in_err-text-clause-err
returns-in_err-text-clause-err g c =
    let p = err_from_is_err_and c.from_residual-in_err-text.result c.from_residual-in_err-text.ensures.1 in
    rw (p.1, p.2) (inr refl, ([], (_, refl), Appends-nil _))

pub returns-clause-ok : goal.returns-clause-ok
returns-clause-ok g c =
    let said = rw c.as_slice.ensures.value at c.in_ok-said.ensures in
    let shown = rw c.as_slice-2.ensures.value at c.in_ok-shown.ensures in
    on_ok_weaker c.print.result (λ printed. printed.0) (rw (c.as_slice-3.ensures.value, c.in_ok-text.ensures, said, shown) at c.print.ensures.ok)

pub returns-clause-err : goal.returns-clause-err
returns-clause-err g c =
    let said = rw c.as_slice.ensures.value at c.in_ok-said.ensures in
    let shown = rw c.as_slice-2.ensures.value at c.in_ok-shown.ensures in
    IfErr-weaker c.print.result _ _ (λ fault cut. (inl (cut.0, cut.1), cut.2)) (rw (c.as_slice-3.ensures.value, c.in_ok-text.ensures, said, shown) at c.print.ensures.err)
