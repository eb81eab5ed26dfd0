-- One can be wherever a lookup leads: nobody is led to the root of a server that leads on.
use Rattle.std.proofs.Common.{◌≡◌, ℕ, false, length, List, Option, Some, None, refl, ◌∙◌, ap, inl, inr}
use Rattle.std.specs.Prelude.{Result, Ok}
use Rattle.hurd_machine.proofs.Common.{CanBeAt, Errno, IdSets, IsAmong, Name, ServerInfo, World, home_at, info_in, is_no_memory, leads_on, server_at, shape_by, targets_at, targets_in}
use Rattle.hurd_machine.specs.World.{nodes_of}
use Rattle.hurd_machine.proofs.Piece.{Stands}
use Rattle.hurd_machine.proofs.Shapes.{child_held, parent_held}
use Rattle.hurd_lookup.specs.Lookup.{NewPort, Outcome}
use Rattle.hurd_lookup.specs.Resolve.{resolve_all}
use Rattle.hurd_lookup.proofs.WalkLaws.{Ground, PortOn}
use Rattle.hurd_lookup.proofs.EndLaws.{OutcomeOn}
use Rattle.hurd_lookup.proofs.ResolveLaws.{each_alike}

-- an answer, if it is no refusal, is such
pub record Gives {A : Type 0} (P : A → Type 0) (x : Result A Errno) : Type 0 where
  pub has : (a : A) → x ≡ Ok a → P a

module _ (w : World) where
  -- whatever the ids, and wherever it is
  abbrev pub AnyIds : IdSets → Type 0
  AnyIds ids = Unit {0}

  abbrev pub Anywhere : Name → Type 0
  Anywhere n = Unit {0}

  -- one can be where a port is to be made, and at what is done at the end
  abbrev pub PortHeld : NewPort → Type 0
  PortHeld e = PortOn (CanBeAt (nodes_of w)) AnyIds e

  abbrev pub OutcomeHeld : Outcome → Type 0
  OutcomeHeld o = OutcomeOn (CanBeAt (nodes_of w)) Anywhere AnyIds o

  module _ (st : Stands w) where
    -- at what the server of a node aims
    target_held : (m n : Name) → IsAmong n (targets_at w m) → CanBeAt (nodes_of w) n
    target_held m n among = home (home_at w m) among
      where
        server : (s : Name) (o : Option ServerInfo) → server_at w s ≡ o → IsAmong n (targets_in o) → CanBeAt (nodes_of w) n
        server s None e aim = absurd aim
        server s (Some i) e aim = st.coherent.kinds.ends s n i e aim

        home : (o : Option Name) → IsAmong n (targets_in (info_in w.servers o)) → CanBeAt (nodes_of w) n
        home None aim = absurd aim
        home (Some s) aim = server s (server_at w s) refl aim

    pub held_ground : Ground w w (CanBeAt (nodes_of w)) Anywhere Anywhere AnyIds
    held_ground = record {
      top = inl refl;
      near = λ n at. tt;
      header = λ n near. refl;
      face = λ n near. refl;
      home = λ n near. refl;
      is_root = λ n near. refl;
      crossed = λ n near. refl;
      up = λ d p h near is e. parent_held w st.coherent st.linked d p h is e;
      aims = λ m n near among. target_held m n among;
      over_to = λ n root near is. tt;
      inside = λ root i near is stays. inr (ap (λ o. leads_on (shape_by o)) is ∙ stays);
      searches = λ ids taken d h near is dir m. record { entries = tt; same = refl; down = λ name n e. child_held w st.coherent d n name e };
      beside = λ d near. tt;
      makes = λ d name near. refl;
    }

    -- along paths that the core follows for itself
    module _ (ids : IdSets) where
      -- one can be at each, and they are as many as the paths
      abbrev AllHeld : List (List ℕ) → List Name → Type 0
      AllHeld paths ns = ((n : Name) → IsAmong n ns → CanBeAt (nodes_of w) n) × (length ns ≡ length paths)

      pub resolve_all_gives : (asleep : Errno) → is_no_memory asleep ≡ false → (paths : List (List ℕ)) → Gives (AllHeld paths) (resolve_all asleep w ids paths)
      resolve_all_gives asleep plain paths = record { has = (each_alike held_ground ids tt asleep plain paths).has }
