use Rattle.std.proofs.Common.{◌≡◌, ◌≤◌, ℕ, length, subst, sym, take}
use Rattle.hurd_machine.proofs.Common.{NodeState, shown}
use Rattle.hurd_sight.specs.Found.{gathered, of_nodes, of_plain, of_tasks}
use Rattle.hurd_sight.proofs.FoundLaws.{Entries}
use Rattle.hurd_sight.proofs.RoundLaws.{both_rounds, plain_there, plain_within}
use Rattle.hurd_sight.proofs.found.Found.of.Goals as goal

pub follow-requires : goal.follow-requires
follow-requires g c =
    let h : NodeState = shown g.S.Server.meaning c.args.nodes.now in
    let ids = c.args.reach.now in
    let plain : Entries = c.in_ok-found.found in
    let start : Entries = c.add_tasks.new.self in
    let rights : Entries = of_tasks h c.args.ports.now.state.tasks c.args.tasks.now in
    record {
      so_many = subst (λ (k : ℕ). k ≤ length start) (sym c.len-plain.ensures) (plain_within h ids rights plain start c.in_ok-found.ensures c.in_ok-add_tasks.ensures);
      there =
          subst (λ (k : ℕ). start ≡ gathered (of_nodes (of_plain h ids) (take k start)) start) (sym c.len-plain.ensures)
          (plain_there h ids rights plain start c.in_ok-found.ensures c.in_ok-add_tasks.ensures);
    }

pub returns : goal.returns
returns g c =
    both_rounds (shown g.S.Server.meaning c.args.nodes.now) c.args.ports.now.state.tasks c.args.reach.now c.args.tasks.now c.in_ok-found.found c.add_tasks.new.self c.follow.new.self c.in_ok-found.ensures c.in_ok-add_tasks.ensures
    c.in_ok-follow.ensures
