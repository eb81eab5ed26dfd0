use Rattle.std.proofs.Common.{◌∙◌}
use Rattle.hurd_client.proofs.OpeningLaws.{last_of, next_deallocate, next_ends, next_lookup, next_reauthenticate, none_last}
use Rattle.hurd_client.proofs.opening.Opening.next.Goals.{in-Some, in-None}
use Rattle.hurd_client.proofs.opening.Opening.next.Goals as goal

pub returns-in_ok-copied-in-LooksUp : goal.returns-in_ok-copied-in-LooksUp
returns-in_ok-copied-in-LooksUp c =
    next_lookup c.args.self.now.way c.args.self.now.step c.in-LooksUp.target c.in_ok-copied-in-LooksUp.field-0 c.in-LooksUp.is (c.in_ok-copied-in-LooksUp.ensures ∙ c.as_slice.ensures)

pub returns-in-Reauthenticates : goal.returns-in-Reauthenticates
returns-in-Reauthenticates c = next_reauthenticate c.args.self.now.way c.args.self.now.step c.in-Reauthenticates.target c.in-Reauthenticates.is

pub returns-after-last : goal.returns-after-last
returns-after-last c =
    elim c.match-last.branch [
      | in-Some w ↦
          let last = last_of c.args.self.now.way.held.items _ (rw c.deref.ensures.value at w.in-Some.ensures.value) in
          rw w.result-is (next_deallocate c.args.self.now.way c.args.self.now.step c.in-Ends.end last.0 _ c.in-Ends.is last.1)
      | in-None w ↦ rw w.result-is (next_ends c.args.self.now.way c.args.self.now.step c.in-Ends.end c.in-Ends.is (none_last _ (rw c.deref.ensures.value at w.in-None.ensures.value)))
    ]
