-- What the changes of a call owe, as pieces, and how pieces are put together.
use Rattle.std.proofs.Common.{◌≡◌, ℕ, Bool, true, List, [], ◌∷◌, ◌++◌, sym, subst, inl}
use Rattle.hurd_machine.proofs.Common.{AreFilled, AtRest, AttrOf, Change, Coherent, EditHeader, Header, IsSettled, Linked, Name, Part, Settle, Sound, World, apply_all, ports_of}
use Rattle.hurd_machine.specs.World.{nodes_of}
use Rattle.hurd_machine.proofs.Coherence.{AllProper}
use Rattle.hurd_machine.proofs.Keeping.{apply_all-append, coherent_all, proper_append}
use Rattle.hurd_machine.proofs.Settle.{AreQuiet, rests_quiet, settle_settled}
use Rattle.hurd_machine.proofs.Frame.{AllWithin, within_append, Recounts}
use Rattle.hurd_machine.proofs.Filled.{AreOfPorts, KeepsHeader, nodes-ports, filled_ports, filled_header, filled_settle}
use Rattle.hurd_machine.proofs.Links.{linked_steady}
use Rattle.hurd_machine.proofs.Swept.{settle_sound}
use Rattle.hurd_machine.proofs.Several.{AllMay}
use Rattle.hurd_machine.proofs.Permits.{AllExact, may_append}

-- a world between the changes of a call: it hangs together, its nodes are linked, and filled as they may be, and each open is held
pub record Stands (w : World) : Type 0 where
  pub coherent : Coherent w
  pub linked : Linked (nodes_of w)
  pub filled : AreFilled (nodes_of w)
  pub held : IsSettled (ports_of w)

pub stands : {w : World} → Sound w → Stands w
stands s = record { coherent = s.coherent; linked = s.linked; filled = s.filled; held = s.settled.opens }

-- changes made in w by a call of task t that was planned in v and may write T: the world that is left stands too, and S may make them where it has the task
pub record Piece (t : ℕ) (T : Part → Type 0) (v w : World) (cs : List Change) : Type 0 where
  pub within : AllWithin T w cs
  pub proper : AllProper w cs
  pub linked : Linked (nodes_of (apply_all cs w))
  pub filled : AreFilled (nodes_of (apply_all cs w))
  pub held : IsSettled (ports_of (apply_all cs w))
  pub may : (S : ℕ → Bool) → S t ≡ true → AllMay S v w cs

-- the last ones: from the world that they leave nothing is to be taken out
pub record Whole (t : ℕ) (T : Part → Type 0) (v w : World) (cs : List Change) : Type 0 where
  pub piece : Piece t T v w cs
  pub rests : AtRest (apply_all cs w)

module _ {t : ℕ} {T : Part → Type 0} {v w : World} where
  pub left_stands : {cs : List Change} → Stands w → Piece t T v w cs → Stands (apply_all cs w)
  left_stands {cs} s p = record { coherent = coherent_all cs w s.coherent p.proper; linked = p.linked; filled = p.filled; held = p.held }

  -- changes, and then others, settling among the last alone
  pub piece_then : (cs ds : List Change) → AllExact cs → Stands w → Piece t T v w cs → (Stands (apply_all cs w) → Piece t T v (apply_all cs w) ds) → Piece t T v w (cs ++ ds)
  piece_then cs ds exact s p then =
      let q = then (left_stands s p) in
      record {
        within = within_append T cs ds w p.within q.within;
        proper = proper_append cs ds w s.coherent p.proper (λ c. q.proper);
        linked = subst (λ x. Linked (nodes_of x)) (sym (apply_all-append cs ds w)) q.linked;
        filled = subst (λ x. AreFilled (nodes_of x)) (sym (apply_all-append cs ds w)) q.filled;
        held = subst (λ x. IsSettled (ports_of x)) (sym (apply_all-append cs ds w)) q.held;
        may = λ S ours. may_append S v cs ds w exact (p.may S ours) (q.may S ours);
      }

  -- none
  pub whole_none : Sound w → Whole t T v w []
  whole_none s = record { piece = record { within = tt; proper = tt; linked = s.linked; filled = s.filled; held = s.settled.opens; may = λ S ours. tt }; rests = s.settled }

  -- also where nothing is to be taken out between them
  pub whole_then : (cs ds : List Change) → AllExact cs → Sound w → Whole t T v w cs → (Sound (apply_all cs w) → Whole t T v (apply_all cs w) ds) → Whole t T v w (cs ++ ds)
  whole_then cs ds exact s p then =
      let sound : Stands (apply_all cs w) → Sound (apply_all cs w) = λ x. record { coherent = x.coherent; linked = x.linked; filled = x.filled; settled = p.rests } in
      record {
        piece = piece_then cs ds exact (stands s) p.piece (λ x. (then (sound x)).piece);
        rests = subst AtRest (sym (apply_all-append cs ds w)) (then (sound (left_stands (stands s) p.piece))).rests;
      }

  -- changes after which the world settles
  pub settled : (cs : List Change) → AllExact cs → Stands w → Piece t T v w cs → Whole t T v w (cs ++ Settle ∷ [])
  settled cs exact s p = record {
    piece = piece_then cs (Settle ∷ []) exact s p (λ x. record {
      within = (tt, tt);
      proper = (x.linked, λ one. tt);
      linked = (settle_sound (apply_all cs w) x.coherent x.linked).1;
      filled = filled_settle (apply_all cs w) x.filled;
      held = x.held;
      may = λ S ours. tt;
    });
    rests = subst AtRest (sym (apply_all-append cs (Settle ∷ []) w)) (settle_settled (apply_all cs w) p.held);
  }

  -- changes by which nothing comes to be taken out
  pub quiet : (cs : List Change) → AreQuiet w cs → Sound w → Piece t T v w cs → Whole t T v w cs
  quiet cs still s p = record { piece = p; rests = rests_quiet cs w still s.settled }

  -- changes of ports alone
  pub of_ports : (cs : List Change) → AreOfPorts cs → IsSettled (ports_of (apply_all cs w)) → Stands w → AllWithin T w cs → AllProper w cs → ((S : ℕ → Bool) → S t ≡ true → AllMay S v w cs) → Piece t T v w cs
  of_ports cs ports held s within proper may = record {
    within = within;
    proper = proper;
    linked = subst Linked (sym (nodes-ports cs w ports)) s.linked;
    filled = filled_ports cs w ports s.filled;
    held = held;
    may = may;
  }

  -- a header that keeps its kind, parent, links and size
  pub of_header : (n : Name) (f : Header → Header) → ((h : Header) → ((f h).kind ≡ h.kind) × ((f h).parent ≡ h.parent) × ((f h).links ≡ h.links)) → ((h : Header) → (f h).size ≡ h.size) → KeepsHeader w n f → Stands w → T (AttrOf n) → Recounts T w n f
      → ((S : ℕ → Bool) → S t ≡ true → AllMay S v w (EditHeader n f ∷ [])) → Piece t T v w (EditHeader n f ∷ [])
  of_header n f keeps size has s attr counts may = record {
    within = ((attr, counts), tt);
    proper = (λ h is. ((keeps h).0, inl (keeps h).1), λ one. tt);
    linked = linked_steady (EditHeader n f ∷ []) w (keeps, tt) s.linked;
    filled = filled_header w n f size has s.filled;
    held = s.held;
    may = may;
  }
