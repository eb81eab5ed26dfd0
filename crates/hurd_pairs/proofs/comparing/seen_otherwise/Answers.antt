use Rattle.std.proofs.Common.{◌∙◌, true≢false, sym}
use Rattle.hurd_pairs.proofs.comparing.seen_otherwise.Goals as goal

pub returns-then-branch : goal.returns-then-branch
returns-then-branch g c =
    let first = rw c.as_slice.ensures.value at c.in_ok-first.ensures in
    let second = rw c.as_slice-2.ensures.value at c.in_ok-second.ensures in
    let alike = rw (c.deref.ensures, c.deref-2.ensures, c.as_slice-3.ensures.value) at c.in_ok-look_alike.ensures in
    (c.in_ok-first.first.value, c.in_ok-second.second.value, first, second, alike.0 c.if-branch.true)

pub returns : goal.returns
returns g c =
    let first = rw c.as_slice.ensures.value at c.in_ok-first.ensures in
    let second = rw c.as_slice-2.ensures.value at c.in_ok-second.ensures in
    let alike = rw (c.deref.ensures, c.deref-2.ensures, c.as_slice-3.ensures.value) at c.in_ok-look_alike.ensures in
    let said = rw (c.as_slice-4.ensures.value, c.deref-3.ensures, c.deref-4.ensures) at c.in_ok-said.ensures in (
      (c.in_ok-first.first.value, c.in_ok-second.second.value, first, second, λ is. true≢false (sym (alike.1 is) ∙ c.if-branch.false)),
      (c.in_ok-first.first.value, c.in_ok-second.second.value, first, second, said),
    )
