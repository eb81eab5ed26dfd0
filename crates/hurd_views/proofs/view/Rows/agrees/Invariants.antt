use Rattle.std.proofs.Common.{◌≡◌, take, true}
use Rattle.hurd_creds.specs.declared.name.Name.{Name}
use Rattle.hurd_views.specs.Views.{has_row, row_at}
use Rattle.hurd_views.proofs.view.Rows.agrees.Given as goal

-- the same is kept there under the names so far
abbrev pub invariant-loop-i : goal.invariant-loop-i
invariant-loop-i l = (n : Name) → has_row (take l.i l.self) n ≡ true → row_at l.self n ≡ row_at l.other n
