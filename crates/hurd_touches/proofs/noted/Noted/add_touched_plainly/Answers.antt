-- No more is touched than what goes with the port.
use Rattle.hurd_creds.specs.Access.{owns}
use Rattle.hurd_core.specs.Core.{world_of}
use Rattle.hurd_files.specs.Access.{gives}
use Rattle.hurd_touches.proofs.AddsLaws.{adds_less}
use Rattle.hurd_touches.proofs.EntryLaws.{link_ports, mkdir_port, mkfile_port, rename_ports, rmdir_port, unlink_port}
use Rattle.hurd_touches.proofs.PortLaws.{deallocate_port, openmodes_port, read_port, seek_port, send_port, set_size_port, setting_port, share_port, write_port}
use Rattle.hurd_touches.proofs.noted.Noted.add_touched_plainly.Goals as goal

pub returns-in-PortDeallocate : goal.returns-in-PortDeallocate
returns-in-PortDeallocate g c = rw c.in-PortDeallocate.is (adds_less _ _ _ _ c.add_deallocated.ensures (deallocate_port (world_of g.S.Server.meaning c.args.core.now) c.args.task.0 c.in-PortDeallocate.port))

pub returns-in-PortSend : goal.returns-in-PortSend
returns-in-PortSend g c = rw c.in-PortSend.is (adds_less _ _ _ _ c.add_sent.ensures (send_port (world_of g.S.Server.meaning c.args.core.now) c.args.task.0 c.in-PortSend.port c.in-PortSend.to.0))

pub returns-in-DirLookup : goal.returns-in-DirLookup
returns-in-DirLookup g c = rw c.in-DirLookup.is (adds_less _ _ _ _ c.add_looked_up.ensures (rw c.as_slice.ensures at c.dir_lookup_touches-touching.ensures))

pub returns-in-IoRead : goal.returns-in-IoRead
returns-in-IoRead g c = rw c.in-IoRead.is (adds_less _ _ _ _ c.add_read.ensures (read_port (world_of g.S.Server.meaning c.args.core.now) c.args.task.0 c.in-IoRead.port c.in-IoRead.amount c.in-IoRead.offset))

pub returns-in-IoWrite : goal.returns-in-IoWrite
returns-in-IoWrite g c = rw c.in-IoWrite.is (adds_less _ _ _ _ c.add_written.ensures (write_port (world_of g.S.Server.meaning c.args.core.now) c.args.task.0 c.in-IoWrite.port c.in-IoWrite.bytes c.in-IoWrite.offset))

pub returns-in-IoSeek : goal.returns-in-IoSeek
returns-in-IoSeek g c = rw c.in-IoSeek.is (adds_less _ _ _ _ c.add_open.ensures (seek_port (world_of g.S.Server.meaning c.args.core.now) c.args.task.0 c.in-IoSeek.port c.in-IoSeek.offset c.in-IoSeek.whence))

pub returns-in-IoSetAllOpenmodes : goal.returns-in-IoSetAllOpenmodes
returns-in-IoSetAllOpenmodes g c = rw c.in-IoSetAllOpenmodes.is (adds_less _ _ _ _ c.add_open-in-IoSetAllOpenmodes.ensures (openmodes_port (world_of g.S.Server.meaning c.args.core.now) c.args.task.0 c.in-IoSetAllOpenmodes.port c.in-IoSetAllOpenmodes.flags))

pub returns-in-IoDuplicate : goal.returns-in-IoDuplicate
returns-in-IoDuplicate g c = rw c.in-IoDuplicate.is (adds_less _ _ _ _ c.add_shared.ensures (share_port (world_of g.S.Server.meaning c.args.core.now) c.args.task.0 c.in-IoDuplicate.port))

pub returns-in-IoReauthenticate : goal.returns-in-IoReauthenticate
returns-in-IoReauthenticate g c = rw c.in-IoReauthenticate.is (adds_less _ _ _ _ c.add_shared-in-IoReauthenticate.ensures (share_port (world_of g.S.Server.meaning c.args.core.now) c.args.task.0 c.in-IoReauthenticate.port))

pub returns-in-IoRestrictAuth : goal.returns-in-IoRestrictAuth
returns-in-IoRestrictAuth g c = rw c.in-IoRestrictAuth.is (adds_less _ _ _ _ c.add_shared-in-IoRestrictAuth.ensures (share_port (world_of g.S.Server.meaning c.args.core.now) c.args.task.0 c.in-IoRestrictAuth.port))

pub returns-in-FileSetSize : goal.returns-in-FileSetSize
returns-in-FileSetSize g c = rw c.in-FileSetSize.is (adds_less _ _ _ _ c.add_resized.ensures (set_size_port (world_of g.S.Server.meaning c.args.core.now) c.args.task.0 c.in-FileSetSize.port c.in-FileSetSize.size))

pub returns-in-FileChmod : goal.returns-in-FileChmod
returns-in-FileChmod g c = rw c.in-FileChmod.is (adds_less _ _ _ _ c.add_attributes.ensures (setting_port (world_of g.S.Server.meaning c.args.core.now) c.args.task.0 c.in-FileChmod.port owns))

pub returns-in-FileChown : goal.returns-in-FileChown
returns-in-FileChown g c = rw c.in-FileChown.is (adds_less _ _ _ _ c.add_attributes-in-FileChown.ensures (setting_port (world_of g.S.Server.meaning c.args.core.now) c.args.task.0 c.in-FileChown.port (gives c.in-FileChown.owner c.in-FileChown.group)))

pub returns-in-DirMkdir : goal.returns-in-DirMkdir
returns-in-DirMkdir g c = rw c.in-DirMkdir.is (adds_less _ _ _ _ c.add_entries.ensures (mkdir_port (world_of g.S.Server.meaning c.args.core.now) c.args.task.0 c.in-DirMkdir.dir c.in-DirMkdir.name c.in-DirMkdir.mode))

pub returns-in-DirMkfile : goal.returns-in-DirMkfile
returns-in-DirMkfile g c = rw c.in-DirMkfile.is (adds_less _ _ _ _ c.add_made.ensures (mkfile_port (world_of g.S.Server.meaning c.args.core.now) c.args.task.0 c.in-DirMkfile.dir c.in-DirMkfile.flags c.in-DirMkfile.mode))

pub returns-in-DirRmdir : goal.returns-in-DirRmdir
returns-in-DirRmdir g c = rw c.in-DirRmdir.is (adds_less _ _ _ _ c.add_taken.ensures (rmdir_port (world_of g.S.Server.meaning c.args.core.now) c.args.task.0 c.in-DirRmdir.dir c.in-DirRmdir.name))

pub returns-in-DirUnlink : goal.returns-in-DirUnlink
returns-in-DirUnlink g c = rw c.in-DirUnlink.is (adds_less _ _ _ _ c.add_taken-in-DirUnlink.ensures (unlink_port (world_of g.S.Server.meaning c.args.core.now) c.args.task.0 c.in-DirUnlink.dir c.in-DirUnlink.name))

pub returns-in-DirLink : goal.returns-in-DirLink
returns-in-DirLink g c = rw c.in-DirLink.is (adds_less _ _ _ _ c.add_named.ensures (link_ports (world_of g.S.Server.meaning c.args.core.now) c.args.task.0 c.in-DirLink.dir c.in-DirLink.file c.in-DirLink.name))

pub returns-in-DirRename : goal.returns-in-DirRename
returns-in-DirRename g c = rw c.in-DirRename.is (adds_less _ _ _ _ c.add_renamed.ensures (rename_ports (world_of g.S.Server.meaning c.args.core.now) c.args.task.0 c.in-DirRename.dir c.in-DirRename.to c.in-DirRename.name c.in-DirRename.new))
