use Rattle.hurd_vectors.proofs.PieceLemmas.{two_printed}
use Rattle.hurd_vectors.proofs.reply.push_reply_fields.Goals as goal

pub returns-in_ok-extend_from_slice-in-Found : goal.returns-in_ok-extend_from_slice-in-Found
returns-in_ok-extend_from_slice-in-Found g c = rw c.in-Found.is (two_printed c.push_lookup.result _ _ _ _ _ c.in_ok-extend_from_slice-in-Found.ensures.items c.push_lookup.ensures)

pub returns-in_ok-extend_from_slice-in-Data : goal.returns-in_ok-extend_from_slice-in-Data
returns-in_ok-extend_from_slice-in-Data g c =
    rw c.in-Data.is (two_printed c.push_quoted.result _ _ _ _ _ c.in_ok-extend_from_slice-in-Data.ensures.items (rw c.as_slice.ensures at c.push_quoted.ensures))

pub returns-in_ok-extend_from_slice-in-Names : goal.returns-in_ok-extend_from_slice-in-Names
returns-in_ok-extend_from_slice-in-Names g c =
    rw c.in-Names.is (two_printed c.push_texts.result _ _ _ _ _ c.in_ok-extend_from_slice-in-Names.ensures.items (rw c.as_slice-in-Names.ensures at c.push_texts.ensures))

pub returns-in_ok-extend_from_slice-in-Words : goal.returns-in_ok-extend_from_slice-in-Words
returns-in_ok-extend_from_slice-in-Words g c =
    rw c.in-Words.is (two_printed c.push_texts-in-Words.result _ _ _ _ _ c.in_ok-extend_from_slice-in-Words.ensures.items (rw c.as_slice-in-Words.ensures at c.push_texts-in-Words.ensures))

pub returns-in_ok-extend_from_slice-in-Modes : goal.returns-in_ok-extend_from_slice-in-Modes
returns-in_ok-extend_from_slice-in-Modes g c = rw c.in-Modes.is (two_printed c.push_modes.result _ _ _ _ _ c.in_ok-extend_from_slice-in-Modes.ensures.items c.push_modes.ensures)
