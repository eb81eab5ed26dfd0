use Rattle.hurd_looks.proofs.MeetLaws.{ok_then, pairs_as, pairs_if, pairs_never}
use Rattle.hurd_looks.proofs.SplitLaws.{bytes_alike, bytes_no_entries, entries_alike, entries_no_bytes}
use Rattle.hurd_looks.proofs.rows.BodyRowMeet.meet.Goals as goal

pub returns-in-Bytes-Bytes : goal.returns-in-Bytes-Bytes
returns-in-Bytes-Bytes c = pairs_if _ c.is_same.result
    (λ is g. (bytes_alike g c.args.self.now c.args.other.now _ _ c.in-Bytes-Bytes.is-0 c.in-Bytes-Bytes.is-1).0 (c.is_same.ensures.0 is))
    (λ g e. c.is_same.ensures.1 ((bytes_alike g c.args.self.now c.args.other.now _ _ c.in-Bytes-Bytes.is-0 c.in-Bytes-Bytes.is-1).1 e)) _

pub returns-in-Entries-Entries : goal.returns-in-Entries-Entries
returns-in-Entries-Entries c =
    ok_then _ _ (λ met h. pairs_as _ _ (λ g. entries_alike g c.args.self.now c.args.other.now _ _ c.in-Entries-Entries.is-0 c.in-Entries-Entries.is-1) _ met _
    (rw (c.as_slice.ensures, c.as_slice-in-Entries-Entries.ensures) at h)) c.meet_all.result c.meet_all.ensures

pub returns-in_default : goal.returns-in_default
returns-in_default c = pairs_never _ (λ g. bytes_no_entries g c.args.self.now c.args.other.now _ _ c.in_default.is-0 c.in_default.is-1) _ _

pub returns-in_default-2 : goal.returns-in_default-2
returns-in_default-2 c = pairs_never _ (λ g. entries_no_bytes g c.args.self.now c.args.other.now _ _ c.in_default.is-0 c.in_default.is-1) _ _
