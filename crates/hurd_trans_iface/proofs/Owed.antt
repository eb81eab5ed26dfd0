-- What is owed is there, of each kind of server.
pub mod Tmpfs
pub mod Hello
pub mod Null
pub mod Zero
pub mod Symlink
pub mod Firmlink
pub mod Union
pub mod Magic
pub mod Drip
pub mod Fifo
use Rattle.hurd_trans_iface.specs.Kinds.{ServerKind}
use Rattle.hurd_trans_iface.specs.declared.begun.ServerKind.TheVariants as kind
use Rattle.hurd_trans_iface.proofs.Owes.{Owes}
use Rattle.hurd_trans_iface.proofs.Owed.Tmpfs.{tmpfs_owes}
use Rattle.hurd_trans_iface.proofs.Owed.Hello.{hello_owes}
use Rattle.hurd_trans_iface.proofs.Owed.Null.{null_owes}
use Rattle.hurd_trans_iface.proofs.Owed.Zero.{zero_owes}
use Rattle.hurd_trans_iface.proofs.Owed.Symlink.{symlink_owes}
use Rattle.hurd_trans_iface.proofs.Owed.Firmlink.{firmlink_owes}
use Rattle.hurd_trans_iface.proofs.Owed.Union.{union_owes}
use Rattle.hurd_trans_iface.proofs.Owed.Magic.{magic_owes}
use Rattle.hurd_trans_iface.proofs.Owed.Drip.{drip_owes}
use Rattle.hurd_trans_iface.proofs.Owed.Fifo.{fifo_owes}

pub owed : (k : ServerKind) → Owes k
owed kind.Tmpfs = tmpfs_owes
owed kind.Hello = hello_owes
owed kind.Null = null_owes
owed kind.Zero = zero_owes
owed kind.Symlink = symlink_owes
owed kind.Firmlink = firmlink_owes
owed kind.Union = union_owes
owed kind.Magic = magic_owes
owed kind.Drip = drip_owes
owed kind.Fifo = fifo_owes
