-- All users are those of the boot root.
use Rattle.std.proofs.Common.{◌≡◌, ℕ, List, Result, Ok, Err, ap, refl}
use Rattle.std.specs.Prelude.{IfOk}
use Rattle.hurd_creds.specs.declared.errno.Errno.{Errno}
use Rattle.hurd_creds.specs.declared.name.Name.{Name}
use Rattle.hurd_trans_iface.proofs.Beginnings.{begun-empty}
use Rattle.hurd_trans_iface.specs.Meaning.{Meaning}
use Rattle.hurd_nodes.specs.Held.{Held}
use Rattle.hurd_nodes.specs.Shown.{NodeState, booted, shown, state_of}
use Rattle.hurd_ports.specs.Tables.{Task}
use Rattle.hurd_core.specs.Users.{AreUsers}
use Rattle.hurd_core.proofs.UserLaws.{users_begun, users_still}
use Rattle.hurd_core.proofs.the_core.Core.starting.Goals as goal

-- the first nodes have the sites of the first world, so what is counted of the boot root is counted of them
first_used : {S : Type 0} (f : S → Meaning) (m : Meaning) (es : List (Name × ℕ)) (ts : List Task) (r : Result (Held S) (Errno × S)) → IfOk r (λ n. shown f n ≡ state_of (booted m)) → AreUsers es (state_of (booted m)).sites ts
    → IfOk r (λ n. AreUsers es n.sites ts)
first_used f m es ts (Ok n) is all = users_still es _ _ ts ts all (ap (λ (M : NodeState). M.sites) is) (λ s. refl)
first_used f m es ts (Err e) is all = tt

pub over-requires : goal.over-requires
over-requires g c =
    let f = g.S.Server.meaning in
    let m = f c.args.boot in
    let ts = c.args.ports.state.tasks in
    first_used f m c.in-Some.users.entries ts c.starting.result c.starting.ensures.shown (users_begun m c.in-Some.users.entries ts (begun-empty c.requires.0 m c.requires.1) c.in-Some.ensures)
