use Rattle.std.proofs.Common.{◌≡◌, ◌≤◌, ℕ, length, length-append, arith, ap}
use Rattle.std.proofs.lemmas.List.{length-take}
use Rattle.hurd_terminal.proofs.InputLaws.{all_bytes, first_bytes, read_on}
use Rattle.hurd_terminal.proofs.read.read_text.Goals as goal

pub returns-then-not-branch-clause-ok : goal.returns-then-not-branch-clause-ok
returns-then-not-branch-clause-ok g c =
    let read = c.in_ok-read_more.ensures.ok in
    let consumed = read_on _ _ _ _ _ _ c.loop-text.invariant.consumed read.1 read.2 in
    let few : length c.read_more.new.text.items ≤ 1048577 =
    omega (arith, read.3, length-take {A = ℕ}, simp length-append at (ap (length {A = ℕ}) read.2)) in
    rw c.new.ensures (all_bytes _ _ _ 1048577 consumed (read.4 c.if-not-branch.true) few)

pub returns-then-len-ge-MOST_BYTES-clause-ok : goal.returns-then-len-ge-MOST_BYTES-clause-ok
returns-then-len-ge-MOST_BYTES-clause-ok g c =
    let read = c.in_ok-read_more.ensures.ok in
    let consumed = read_on _ _ _ _ _ _ c.loop-text.invariant.consumed read.1 read.2 in
    let all : length c.read_more.new.text.items ≡ 1048577 =
    omega (arith, read.3, length-take {A = ℕ}, simp length-append at (ap (length {A = ℕ}) read.2)) in
    rw c.new-then-len-ge-MOST_BYTES.ensures (first_bytes _ _ _ 1048577 consumed all)
