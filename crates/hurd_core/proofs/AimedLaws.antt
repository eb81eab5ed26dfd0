-- What the server of a seen node aims at is seen, and so are the directories that the node shows as one.
use Rattle.std.proofs.Common.{◌≡◌, ℕ, Bool, Option, Some, None, refl, inl}
use Rattle.hurd_machine.proofs.Common.{Crossing, Firm, IsAmong, Name, Plain, Seen, ServerInfo, Target, World, home_at, info_at, info_in, server_at, targets_at, targets_in}
use Rattle.hurd_trans_iface.specs.Meaning.{root_of}
use Rattle.hurd_trans_iface.specs.declared.root.Crossing.TheVariants.{Link, Union}
use Rattle.hurd_core.specs.Branches.{branches, branches_at, branches_by}

-- a branch is a target
pub branch_aimed : (o : Option ServerInfo) (b : Name) → IsAmong b (branches_by o) → IsAmong b (targets_in o)
branch_aimed None b among = absurd among
branch_aimed (Some i) b among = by (root_of i.kind i.text).crossing among
  where
    by : (c : Crossing) → IsAmong b (branches c i.targets) → IsAmong b i.targets
    by Union k = k
    by Plain k = absurd k
    by Firm k = absurd k
    by (Link absolute) k = absurd k

module _ (S : ℕ → Bool) (v : World) where
  -- the targets of the server of a seen node are seen
  pub aimed_seen : (m n : Name) → Seen S v m → IsAmong n (targets_at v m) → Seen S v n
  aimed_seen m n seen among = home (home_at v m) refl among
    where
      home : (o : Option Name) → home_at v m ≡ o → IsAmong n (targets_in (info_in v.servers o)) → Seen S v n
      home None e aim = absurd aim
      home (Some s) e aim = server (server_at v s) refl aim
        where
          server : (o : Option ServerInfo) → server_at v s ≡ o → IsAmong n (targets_in o) → Seen S v n
          server None is aim = absurd aim
          server (Some i) is aim = Target m s i seen (inl e) is aim

  -- so are the branches of one
  pub branches_seen : (d b : Name) → Seen S v d → IsAmong b (branches_at v d) → Seen S v b
  branches_seen d b seen among = aimed_seen d b seen (branch_aimed (info_at v d) b among)
