-- The space that a box says it has is what is shown of it, since it hides nothing: what is shown of a server's nodes is all that its box has.
use Rattle.std.proofs.Common.{◌≡◌, ℕ, Bool, true, false, cond, refl, sym, ap, ◌∙◌, true≢false}
use Rattle.std.specs.Prelude.{List, Option, Some, None, is_some, slice_get}
use Rattle.std.specs.Map.{values_of}
use Rattle.std.specs.Option.{option_map}
use Rattle.std.specs.FinMap as fin
use Rattle.hurd_creds.specs.declared.name.Name.{Name}
use Rattle.hurd_creds.specs.NameMaps.{NameMap, place_by}
use Rattle.hurd_creds.proofs.NameLaws.{same_map_by, same_name-itself}
use Rattle.hurd_creds.proofs.Retained.{get-retained}
use Rattle.hurd_creds.specs.Names.{is_one}
use Rattle.hurd_trans_iface.specs.Nodes.{Node}
use Rattle.hurd_trans_iface.specs.Meaning.{Meaning, keeps_tree, space_of}
use Rattle.hurd_trans_iface.specs.Totals.{space_with, total_in}
use Rattle.hurd_nodes.specs.declared.seat.Site.{Site}
use Rattle.hurd_nodes.specs.declared.seat.Seat.{Seat}
use Rattle.hurd_nodes.specs.Held.{Seated, box_by, home_in, mean, mean_seat, seat_key, seat_value, seats_of, sites_of}
use Rattle.hurd_nodes.specs.Shown.{ServerInfo, flat, node_in, nodes_in, nodes_of, servers_of, space_at, space_for, tree_by}
use Rattle.hurd_nodes.specs.Totals.{total_if, total_of}
use Rattle.hurd_nodes.proofs.GoneLaws.{own_home}
use Rattle.hurd_nodes.proofs.HideLaws.{TellsAll}
use Rattle.hurd_nodes.proofs.SeatLaws.{seat-is}
use Rattle.hurd_nodes.proofs.ShownLaws.{get-nodes, get-servers}

module _ (sites : NameMap Site) (seats : NameMap (Seated Meaning)) (tells : TellsAll sites seats) where
  module _ (s : Name) (e : Seated Meaning) (is : fin.get seats s ≡ Some e) where
    abbrev mine : Name → Bool
    mine n = is_one s (home_in sites n)

    -- of a node of another server the box has none
    not_other : (n : Name) → mine n ≡ false → (o : Option Node) → fin.get e.server.nodes n ≡ o → None ≡ o
    not_other n other None held = refl
    not_other n other (Some x) held =
        let home = tells s n e is (ap (λ (p : Option Node). is_some p) held) in
        absurd (true≢false (sym (ap (is_one s) home ∙ same_name-itself s) ∙ other))

    there : (n : Name) → mine n ≡ true → fin.get (nodes_of sites seats) n ≡ fin.get e.server.nodes n
    there n ours =
        get-nodes sites seats n ∙ ap (λ o. node_in n (box_by seats o)) (own_home s (home_in sites n) ours)
        ∙ ap (λ (o : Option (Seated Meaning)). node_in n (option_map (λ (k : Seated Meaning). k.server) o)) is

    kept_or : (n : Name) (b : Bool) → mine n ≡ b → cond b (fin.get (nodes_of sites seats) n) None ≡ fin.get e.server.nodes n
    kept_or n true ours = there n ours
    kept_or n false other = not_other n other (fin.get e.server.nodes n) refl

    pub own-shown : nodes_in (nodes_of sites seats) sites s ≡ e.server.nodes
    own-shown = same_map_by _ _ (λ n. get-retained (nodes_of sites seats) mine n ∙ kept_or n (mine n) refl)

    space-seat : space_for (flat sites seats) (Some s) ≡ space_of e.server
    space-seat = rw (get-servers seats s, is, own-shown) refl

  space-by : (m : Meaning) (o : Option Name) → Some m ≡ box_by seats o → space_for (flat sites seats) o ≡ space_of m
  space-by m None box = absurd (cc)
  space-by m (Some s) box = go (fin.get seats s) refl box
    where
      go : (p : Option (Seated Meaning)) → fin.get seats s ≡ p → Some m ≡ option_map (λ (k : Seated Meaning). k.server) p → space_for (flat sites seats) (Some s) ≡ space_of m
      go None is at = absurd (cc)
      go (Some e) is at = let same : e.server ≡ m = cc in space-seat s e is ∙ ap space_of same

  -- the space of a node's server is that of its box
  pub space-told : (m : Meaning) (n : Name) → Some m ≡ box_by seats (home_in sites n) → space_at (flat sites seats) n ≡ space_of m
  space-told m n box = space-by m (home_in sites n) box

  -- what the files of a server that is not there have in all is nothing that is told
  pub total-none : (s : Name) → fin.get (servers_of seats) s ≡ None → total_of (flat sites seats) s ≡ None
  total-none s gone = ap (λ (o : Option ServerInfo). total_if (tree_by o) (total_in (nodes_in (nodes_of sites seats) sites s))) gone

  -- and of one that is there, if it keeps a tree, it is what its box says
  pub total-told : (s : Name) (e : Seated Meaning) → fin.get seats s ≡ Some e → total_of (flat sites seats) s ≡ total_if (keeps_tree e.server.kind) (total_in e.server.nodes)
  total-told s e is = rw (get-servers seats s, is, own-shown s e is) refl

-- there is space, more or less, exactly where there is a limit
pub space_limited : (limit : Option ℕ) (k : ℕ) → is_some (space_with limit k) ≡ is_some limit
space_limited None k = refl
space_limited (Some most) k = refl

-- a server that is found by its place
pub total-found : {S : Type 0} (f : S → Meaning) (rs : List (Name × Site)) (ss : List (Name × Seat S)) → TellsAll (sites_of rs) (mean f (seats_of ss)) → (s : Name) (i : ℕ) (x : Seat S)
    → Some i ≡ place_by seat_key s ss → slice_get (values_of ss) i ≡ Some x
    → total_of (flat (sites_of rs) (mean f (seats_of ss))) s ≡ total_if (keeps_tree (f x.server).kind) (total_in (f x.server).nodes)
total-found f rs ss tells s i x at read = total-told (sites_of rs) (mean f (seats_of ss)) tells s (mean_seat f (seat_value x)) (seat-is f ss s i x at read)
