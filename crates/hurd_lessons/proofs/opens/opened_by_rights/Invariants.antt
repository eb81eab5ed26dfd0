use Rattle.std.proofs.Common.{◌≡◌, drop}
use Rattle.hurd_lessons.specs.Seen.{opened_by_rights}
use Rattle.hurd_lessons.proofs.opens.opened_by_rights.Given as goal

abbrev pub invariant-loop-right : goal.invariant-loop-right
invariant-loop-right l = opened_by_rights l.wanted (drop l.right-index l.rights) ≡ opened_by_rights l.fn.wanted l.fn.rights
