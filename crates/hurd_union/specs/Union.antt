-- What a union means.
use Rattle.hurd_trans_iface.specs.Meaning.{Meaning}
use Rattle.hurd_trans_iface.specs.declared.begun.ServerKind.TheVariants.{Union as UnionKind}
use Rattle.hurd_small.specs.declared.lone.Lone.{Lone}
use Rattle.hurd_small.specs.declared.still.Still.{Still}
use Rattle.hurd_small.specs.Meanings.{meaning_as}
use Rattle.hurd_union.specs.declared.branches.Branches.{Branches}

-- a server of this kind and its text
abbrev pub union_meaning : Lone (Still Branches) → Meaning
union_meaning s = meaning_as (λ _. UnionKind) (λ b. b.text) s
