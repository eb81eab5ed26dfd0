-- The words that proofs speak in: definitions of this crate and of those that it is built on.
pub use Rattle.std.specs.Borrow.{Bor}
pub use Rattle.std.specs.Cmp.{nat_cmp_total, tied_itself}
pub use Rattle.std.specs.FinMap.{empty, entries, entries-insert, get, get-empty, insert, nat_cmp-IsAntisymmetric, put, remove, retain_keys}
pub use Rattle.std.specs.FinSet.{contains-from_list_nat}
pub use Rattle.std.specs.List.{flat_map, list_any, slice_split}
pub use Rattle.std.specs.Map.{lookup}
pub use Rattle.std.specs.Ordering.{eq_by_cmp, is_eq, nat_cmp}
pub use Rattle.std.specs.Str.{bytes_eq}
pub use Rattle.std.specs.Vec.Iter.{into_iter_items}
pub use Rattle.hurd_creds.specs.Access.{IdSet, IdSets, has_no_uids, holds_gid, holds_uid, ids_of, is_among, least_uid, may, owns}
pub use Rattle.hurd_creds.specs.Bits.{READ, WRITE, asks, known_mode, open_modes}
pub use Rattle.hurd_creds.specs.Limits.{most_read}
pub use Rattle.hurd_creds.specs.Memory.{Meets, Steps, is_no_memory}
pub use Rattle.hurd_creds.specs.NameMaps.{NameMap}
unfoldable pub use Rattle.hurd_creds.specs.NameMaps.{edit}
pub use Rattle.hurd_creds.specs.Names.{is_one, name_of, same_name}
unfoldable pub use Rattle.hurd_creds.specs.Names.{name_cmp}
pub use Rattle.hurd_creds.specs.TransBits.{FORCE, SET, asks_goaway, asks_trans}
pub use Rattle.hurd_creds.specs.declared.attrs.Attrs.{Attrs}
pub use Rattle.hurd_creds.specs.declared.attrs.Kind.{Kind}
pub use Rattle.hurd_creds.specs.declared.attrs.Kind.TheVariants.{Dir, File}
pub use Rattle.hurd_creds.specs.declared.attrs.Want.{Want}
pub use Rattle.hurd_creds.specs.declared.attrs.Want.TheVariants.{Exec, Read, Write}
pub use Rattle.hurd_creds.specs.declared.errno.Errno.{Errno}
pub use Rattle.hurd_creds.specs.declared.errno.Errno.TheVariants.{EACCES, EBADF, EBUSY, EDIED, EEXIST, EINVAL, EISDIR, ENAMETOOLONG, ENOENT, ENOMEM, ENOSPC, ENOTDIR, ENOTEMPTY, ENXIO, EOPNOTSUPP, EOVERFLOW, EPERM, EROFS, ESRCH, EWOULDBLOCK, EXDEV}
pub use Rattle.hurd_creds.specs.declared.mode.Mode.{Mode}
pub use Rattle.hurd_creds.specs.declared.name.Name.{Name}
pub use Rattle.hurd_creds.specs.declared.name.TaskId.{TaskId}
pub use Rattle.hurd_creds.specs.declared.open_flags.OpenFlags.{OpenFlags}
pub use Rattle.hurd_trans_iface.specs.Answers.{edits_if, entry_in, entry_of, header_after, is_made, is_plain, is_taken, is_tree, link_in, made_node, most_links, move_edits, named_by, names_of, rename_edits, unlink_edits}
pub use Rattle.hurd_trans_iface.specs.Behaviour.{Did, Question, edit_bytes, edit_size, edits_of, fitting, resizing, writing}
pub use Rattle.hurd_trans_iface.specs.Good.{GoodBehaviour}
pub use Rattle.hurd_trans_iface.specs.Texts.{reads_text}
pub use Rattle.hurd_trans_iface.specs.Meaning.{Meaning, counts_opens, first_body, keeps_tree, limit_of, new_root, options_of, root_body, size_of}
pub use Rattle.hurd_trans_iface.specs.Nodes.{AddNode, Body, Content, Edit, Header, IsShaped, Listing, Node, NodeMap, OnBody, OnHeader, body_of, edit_all, has_words, header_of, is_dir, is_empty_dir, is_entered, is_entered_at, is_listed, less_entry, moved_to, new_dir, new_file, node_of_edit, on_bytes, passive_of, some_words, unlinked, with_body, with_entry, with_header, with_passive, with_size, without_entry}
pub use Rattle.hurd_trans_iface.specs.declared.header_edit.HeaderEdit.{HeaderEdit}
pub use Rattle.hurd_trans_iface.specs.declared.new_node.NewNode.{NewNode}
pub use Rattle.hurd_trans_iface.specs.declared.root.Crossing.{Crossing}
pub use Rattle.hurd_trans_iface.specs.declared.root.Crossing.TheVariants.{Firm, Plain}
pub use Rattle.hurd_ports.specs.Seats.{seat_task}
pub use Rattle.hurd_ports.specs.Steps.{deallocate_at, deallocate_step, edit_task, insert_at, insert_step, name_step, new_open, new_right, new_task, pend_at, pend_step, receive_at, receive_step, received, send_step, sent_to, share_at, share_step, take_ids_at, take_ids_step, taken_by, with_ids, with_ids_for, with_new_port, with_pending, with_port, with_sent, without_port}
pub use Rattle.hurd_ports.specs.Tables.{IsSettled, OpenMap, PortState, Tables, Task, can_name, count_rights, first_sent, fresh, has_room, ids_at, io_right_of, names_open, naming_of, or_refuse, pending_of, right_at, right_in, rights_of, room_at, room_of, start_of, task_of, u64_greatest, uses_node, ways_of, ends_of, is_end, open_of}
unfoldable pub use Rattle.hurd_ports.specs.Tables.{is_held}
pub use Rattle.hurd_creds.specs.Weights.{count_list, one_if}
pub use Rattle.hurd_ports.specs.declared.table.IoRight.{IoRight}
pub use Rattle.hurd_ports.specs.declared.table.Opened.{Opened}
pub use Rattle.hurd_ports.specs.declared.table.PendingStart.{PendingStart}
pub use Rattle.hurd_ports.specs.declared.table.Right.{Right}
pub use Rattle.hurd_ports.specs.declared.table.Right.TheVariants.{Control, Io, Start}
pub use Rattle.hurd_nodes.specs.Held.{active_in, home_in, new_site}
pub use Rattle.hurd_nodes.specs.Needs.{counts_by}
pub use Rattle.hurd_nodes.specs.Settle.{Outside, node_stays, stays_by, stays_with}
pub use Rattle.hurd_nodes.specs.Shown.{NodeState, ServerInfo, are_kin, asked_of, attached, begun_info, begun_root, boot_mode, boot_name, booted, can_make, edit_by, edit_header_at, info_in, is_other, is_root_at, is_root_of, limit_by, link_by, make_at, out_server, own_edits, own_nodes, server_of, shown, sizing, sizing_unless, state_of, takes_options, tree_by, vacated, with_active, with_edits, with_home, with_made, with_text, without_old, without_sites}
pub use Rattle.hurd_nodes.specs.declared.seat.Site.{Site}
pub use Rattle.hurd_machine.specs.Calls.{Call, Reply, box_in, call_by, refusal, reply_by}
pub use Rattle.hurd_machine.specs.Change.{Attach, Change, DropServer, EditBody, EditHeader, EditOpen, EditTask, LetGo, MakeNode, MakeOpen, Send, SetText, Settle, Unseat, apply, apply_all, changes_of, dropping, letting_go, namings, opening, outside, outside_by, pending, retexting, stays, with_nodes}
pub use Rattle.hurd_machine.specs.Handle.{Named, any_mode, both_asks, handle_asks, port_asks}
pub use Rattle.hurd_machine.specs.Plan.{Plan, Planned, after_plan, handing_back, is_refused, looks, refuse, told}
unfoldable pub use Rattle.hurd_machine.specs.Plan.{answered, first, given, on}
pub use Rattle.hurd_machine.specs.Sight.{AText, ABody, AnEnds, EndsOf, SeesInside, ATask, AUsers, InRoot, SeesText, TextOf, ToControl, faced, known_text, Active, Allowed, AnAttr, AnEmpty, AnOpen, AnOptions, AttrOf, BodyOf, ByBody, ByControl, ByNode, ByParent, BySeat, Child, Could, CouldServe, EmptyOf, GidOfRight, GidOfTask, HasGid, HasUid, Holds, IsGone, IsOpen, Knows, MaySend, OfControl, OfNode, OfSeat, OpenOf, OptionsOf, Owns, OwnsIt, Part, Pending, SameView, Seen, Sees, SeesBody, SeesEmpty, Sends, ServerRoot, Taken, Target, TaskOf, ToPut, ToRead, ToSearch, UidOfRight, UidOfTask, UsersOf, Way, bare, holders, is_on, part, tells, users, uses_server, ATotal, TotalOf, SeesTotal}
pub use Rattle.hurd_machine.specs.Sound.{Above, AreDistinct, AreFilled, AreSeated, AreTables, AtRest, AtRoot, Below, CanBeAt, CanBeWritten, Coherent, Hangs, HasDistinctNames, IsFilled, IsGivenRight, LeadsUp, Linked, Sound, times_in}
unfoldable pub use Rattle.hurd_machine.specs.Sound.{times_listed}
pub use Rattle.hurd_machine.specs.Touched.{Nothing, OnDid, OnDrop, OnRight}
unfoldable pub use Rattle.hurd_machine.specs.Touched.{asked_parts}
pub use Rattle.hurd_machine.specs.World.{IsAmong, World, active_at, asked_at, body_at, boot_root, counts_at, ends_at, gives_text, header_at, home_at, info_at, is_of, is_removed, is_server_root, leads_on, links_at, lists, lists_at, makes_at, node_at, only_reads, open_at, ports_of, renames_at, server_at, sets_attrs_at, shape_at, shape_by, site_at, stream_at, targets_at, targets_in, task_at, words_at, words_in, world_from, total_at, space_at}
pub use Rattle.hurd_trans_iface.specs.Totals.{counts_for, overfills, space_with}
unfoldable pub use Rattle.hurd_trans_iface.specs.Totals.{total_in}
pub use Rattle.hurd_nodes.specs.Totals.{nodes_in, total_if, total_of}
