use Rattle.std.proofs.Common.{◌≡◌, ◌==◌, ℕ, length, not, sym, ap, ◌∙◌}
use Rattle.std.proofs.lemmas.List.{length-map}
use Rattle.std.proofs.lemmas.Result.{err_from_is_err_and}
use Rattle.hurd_lists.specs.Lists.{listed_by, said_by}
use Rattle.hurd_lists.proofs.reader.CallList.take_line.Goals as goal

pub returns-in_err-read_line : goal.returns-in_err-read_line
returns-in_err-read_line g c =
    let list = c.args.self.now in
    let none = ap (λ (n : ℕ). n == 0) (length-map list.calls.items (listed_by g.S.Server.meaning) ∙ sym list.calls.ok.0) ∙ sym c.is_empty.ensures in
    let p = err_from_is_err_and c.from_residual.result c.from_residual.ensures.1 in
    rw (p.1, p.2) (c.in_err-read_line.ensures (said_by g.S.Server.meaning list) (sym (c.len.ensures ∙ list.tasks.ok.0)) (ap not none))
