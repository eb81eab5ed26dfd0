-- What a server of one node means, of any kind of which nothing changes.
use Rattle.std.specs.Prelude.{ℕ, List, []}
use Rattle.hurd_trans_iface.specs.Meaning.{Meaning}
use Rattle.hurd_trans_iface.specs.declared.begun.ServerKind.{ServerKind}
use Rattle.hurd_small.specs.declared.lone.Lone.{Lone}
use Rattle.hurd_small.specs.declared.still.Still.{Still}
use Rattle.hurd_small.specs.Lone.{lone_meaning}

-- of the kind and with the text that it says of itself
abbrev pub meaning_as : {S : Type 0} → (S → ServerKind) → (S → List ℕ) → Lone (Still S) → Meaning
meaning_as kind_of text_of s = lone_meaning (kind_of s.keeper.single) (text_of s.keeper.single) [] s.presence
