-- What a core served is told as in a run in which things have other names.
use Rattle.std.proofs.Common.{◌∙◌, List}
use Rattle.hurd_machine.specs.Calls.{Reply}
use Rattle.hurd_machine.proofs.Common.{Sound, World}
use Rattle.hurd_laws.specs.Runs.{TaskCall}
use Rattle.hurd_laws.specs.Served.{Served, kept}
use Rattle.hurd_laws.proofs.Served.{told_kept}
use Rattle.hurd_laws.specs.ServedByLooks.{ComparedByLooks}
use Rattle.hurd_laws.proofs.SideBySide.{side_by_side_renamed}
use Rattle.hurd_laws.proofs.Assembled.{names_untold}

pub served_by_looks : (w : World) (ms : List TaskCall) (rs : List Reply) (x : World) → Served w ms rs x → Sound w → ComparedByLooks w ms rs
served_by_looks w ms rs x h s S v ns sv same looks = told_kept S w ms rs x h ∙ side_by_side_renamed names_untold S w v (kept ms rs) ns s sv same looks
