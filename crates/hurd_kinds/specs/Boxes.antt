-- What a server of some kind means.
use Rattle.hurd_trans_iface.specs.Meaning.{Meaning}
use Rattle.hurd_small.specs.Fixed.{fixed_meaning}
use Rattle.hurd_small.specs.Kept.{kept_meaning}
use Rattle.hurd_union.specs.Union.{union_meaning}
use Rattle.hurd_tmpfs.specs.Tree.{tree}
use Rattle.hurd_kinds.specs.declared.server_box.ServerBox.{ServerBox}
use Rattle.hurd_kinds.specs.declared.server_box.ServerBox.TheVariants.{Tmpfs, Fixed, Union, Kept}

-- what the server in the box means
unfoldable pub box_meaning : ServerBox → Meaning
box_meaning (Tmpfs s) = tree s.value
box_meaning (Fixed s) = fixed_meaning s.value
box_meaning (Union s) = union_meaning s.value
box_meaning (Kept s) = kept_meaning s.value
