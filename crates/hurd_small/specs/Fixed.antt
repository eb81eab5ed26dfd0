-- What a server of one node means of which nothing but options changes.
use Rattle.hurd_trans_iface.specs.Meaning.{Meaning}
use Rattle.hurd_small.specs.declared.lone.Lone.{Lone}
use Rattle.hurd_small.specs.declared.still.Still.{Still}
use Rattle.hurd_small.specs.declared.fixed.Fixed.{Fixed}
use Rattle.hurd_small.specs.FixedKinds.{kind_of}
use Rattle.hurd_small.specs.Meanings.{meaning_as}

-- a server of its kind and its text
abbrev pub fixed_meaning : Lone (Still Fixed) → Meaning
fixed_meaning s = meaning_as (λ f. kind_of f.kind) (λ f. f.text) s
