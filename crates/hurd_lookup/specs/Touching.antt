-- What a lookup touches, as the code says it.
use Rattle.std.specs.Prelude.{◌≡◌, ◌⊎◌}
use Rattle.hurd_machine.specs.World.{World}
use Rattle.hurd_machine.specs.Sight.{Part, BodyOf, EmptyOf}
use Rattle.hurd_machine.specs.Touched.{OnNode, OnOpen}
use Rattle.hurd_lookup.specs.declared.touches.Touching.{Touching}
use Rattle.hurd_lookup.specs.declared.touches.Touching.TheVariants.{Nothing, Opens, Makes}

-- the parts that are touched, beside the caller's task
abbrev pub TouchedBy : World → Touching → Part → Type 0
TouchedBy w Nothing p = ⊥
TouchedBy w (Opens n) p = OnOpen w n p
TouchedBy w (Makes d) p = OnNode w d p ⊎ ((p ≡ BodyOf d) ⊎ (p ≡ EmptyOf d))
