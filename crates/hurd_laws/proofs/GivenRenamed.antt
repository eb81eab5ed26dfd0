-- What stands was given where things have other names, if names that were given stay so.
use Rattle.std.proofs.Common.{◌≡◌, Some, refl, subst}
use Rattle.hurd_ports.specs.Tables.{nodes_of as nodes_named}
use Rattle.hurd_machine.proofs.Common.{Below, Control, Header, Io, IsAmong, IsGivenRight, Name, Node, Opened, Right, ServerInfo, Start, World}
use Rattle.hurd_machine.specs.Sound.{AreGiven}
use Rattle.hurd_machine.specs.Renamed.{OtherNames, node_renamed, open_renamed, renamed, right_renamed}
use Rattle.hurd_machine.proofs.RenamedTasks.{nodes_of-renamed}
use Rattle.hurd_laws.proofs.FoundRenamed.{of_among, of_entries, of_found, of_headers, of_mapped, of_rights}
use Rattle.hurd_laws.proofs.HousedRenamed.{of_servers}

-- each name that was given goes to one that was
abbrev pub StaysGiven : OtherNames → World → Type 0
StaysGiven f w = (n : Name) → Below w n → Below (renamed f w) (f.to n)

module _ (f : OtherNames) (w : World) where
  abbrev other : World
  other = renamed f w

  module _ (stays : StaysGiven f w) where
    right_given : (r : Right) → IsGivenRight w r → IsGivenRight other (right_renamed f.to r)
    right_given (Io r) is =
        (λ n among. of_among f.to (nodes_named (Io r)) (Below other) (λ n in_old. stays n (is.0 n in_old)) n (subst (IsAmong n) (nodes_of-renamed f (Io r)) among), stays r.open_name is.1)
    right_given (Control s) is = stays s is
    right_given (Start n) is = stays n is

    pub given-renamed : AreGiven w → AreGiven other
    given-renamed a = record {
      nodes = of_found f (node_renamed f.to) w.nodes (λ (n : Name) (x : Node). Below other n) (λ n x is. stays n (a.nodes n x is));
      opens = of_found f (open_renamed f.to) w.opens (λ (o : Name) (x : Opened). Below other o × Below other x.node) (λ o x is. let g = a.opens o x is in (stays o g.0, stays x.node g.1));
      servers = of_servers f w (λ (s : Name) (i : ServerInfo). Below other s) (λ s i is. stays s (a.servers s i is));
      rights = λ t. of_rights f w t (IsGivenRight other) (λ x r is among. right_given r (a.rights t x r is among));
      entries = of_entries f w (λ (d n : Name). Below other n) (λ d n is. stays n (a.entries d n is));
      parents = λ n p h is. of_headers f w (λ (n : Name) (h : Header). (p : Name) → h.parent ≡ Some p → Below other p)
          (λ n h is. of_mapped f.to h.parent refl (Below other) (λ p up. stays p (a.parents n p h is up))) n h is p;
      targets = λ s n i is. of_servers f w (λ (s : Name) (i : ServerInfo). (n : Name) → IsAmong n i.targets → Below other n)
          (λ s i is. of_among f.to i.targets (Below other) (λ n among. stays n (a.targets s n i is among))) s i is n;
    }
