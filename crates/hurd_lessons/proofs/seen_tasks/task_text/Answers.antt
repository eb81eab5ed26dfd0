use Rattle.std.proofs.Common.{◌∙◌, ◌++◌, ap, List, ℕ, Some, codes, length}
use Rattle.std.specs.Option.{option_map}
use Rattle.hurd_words.specs.Printing.{spaced}
use Rattle.hurd_ports.specs.Seats.{seat_task}
use Rattle.hurd_lessons.specs.Seen.{port_numbers, start_text, uid_text}
use Rattle.hurd_lessons.specs.Values.{with_part}
use Rattle.hurd_lessons.proofs.seen_tasks.task_text.Goals as goal

pub returns : goal.returns
returns c =
    let x = seat_task c.args.seat.now in
    c.in_ok-add_start.ensures
    ∙ ap (λ (words : List ℕ). with_part words (option_map (start_text c.args.view.now) x.pending))
    (c.in_ok-add_count-2.ensures
    ∙ ap (λ (words : List ℕ). with_part words (Some (codes "made" ++ spaced x.made)))
    (c.in_ok-add_count.ensures
    ∙ ap (λ (words : List ℕ). with_part words (Some (codes "next port" ++ spaced x.next)))
    ((rw c.as_slice-2.ensures.value at c.in_ok-add_inbox.ensures)
    ∙ ap (λ (words : List ℕ). with_part words (Some (codes "inbox" ++ spaced (length x.inbox))))
    ((rw c.as_slice.ensures.value at c.in_ok-add_ports.ensures)
    ∙ ap (λ (words : List ℕ). with_part words (Some (codes "ports" ++ port_numbers x.ports)))
    (c.in_ok-add_ids.ensures ∙ ap (λ (words : List ℕ). with_part words (Some (codes "uid " ++ uid_text x.ids))) c.new-words.ensures.items)))))
