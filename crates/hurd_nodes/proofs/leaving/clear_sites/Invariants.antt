use Rattle.std.proofs.Common.{◌≡◌, ◌≢◌, ◌≤◌, ◌∷◌, true, take}
use Rattle.std.specs.Prelude.{Some}
use Rattle.indexmap.specs.IndexMap.{spare}
use Rattle.hurd_creds.specs.declared.name.Name.{Name}
use Rattle.hurd_trans_iface.specs.Nodes.{is_listed}
use Rattle.hurd_nodes.specs.Held.{AreApart, home_in, row_key, seat_key, seats_of, sites_of}
use Rattle.hurd_nodes.specs.Quiet.{IsClearing}
use Rattle.hurd_nodes.proofs.leaving.clear_sites.Given as goal

-- the root and the nodes so far are no nodes of the server any more
abbrev pub invariant-loop-node : goal.invariant-loop-node
invariant-loop-node g l =
    IsClearing l.server (sites_of l.fn.sites.entries) (sites_of l.sites.entries) l.fn.asked l.fn.seats.entries l.asked l.seats.entries
    × ((n : Name) → is_listed n (l.fn.root ∷ take l.node-index l.own) ≡ true → home_in (sites_of l.sites.entries) n ≢ Some l.server)
    × (AreApart row_key l.fn.sites.entries → AreApart row_key l.sites.entries)
    × (seats_of l.seats.entries ≡ seats_of l.fn.seats.entries)
    × AreApart seat_key l.seats.entries
    × (spare l.fn.sites ≤ spare l.sites)
    × (spare l.fn.seats ≤ spare l.seats)
