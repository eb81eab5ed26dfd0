-- What a list of calls was told by a core that may be refused memory, beside a run in which things have other names.
use Rattle.std.specs.Prelude.{◌≡◌, ℕ, Bool, List}
use Rattle.hurd_machine.specs.Calls.{Reply}
use Rattle.hurd_machine.specs.World.{World}
use Rattle.hurd_machine.specs.Sound.{Sound}
use Rattle.hurd_laws.specs.Runs.{TaskCall, calls_of, replies_to, worlds_of}
use Rattle.hurd_laws.specs.Served.{kept, told_to}
use Rattle.hurd_laws.specs.Untold.{SameViewsRenamed}

-- calls made from w: in a run of the written machine from any sound world, in which S makes the same calls, and each in a world that looks the same
-- to it as here except for names, whatever the others did before it, S is told the same
abbrev pub ComparedByLooks : World → List TaskCall → List Reply → Type 0
ComparedByLooks w ms rs =
    (S : ℕ → Bool) (v : World) (ns : List TaskCall) → Sound v
    → calls_of S (kept ms rs) ≡ calls_of S ns → SameViewsRenamed S (worlds_of S w (kept ms rs)) (worlds_of S v ns)
    → told_to S ms rs ≡ replies_to S v ns
