-- The targets of a server are found alike in worlds that agree, where S has the ids of who starts it; S sees them, and no refusal is ENOMEM.
use Rattle.std.proofs.Common.{◌≡◌, ℕ, ◌&&◌, Bool, true, false, List, [], ◌∷◌, Option, Some, refl, sym, ◌∙◌, ap, ap₂, inl, inr}
use Rattle.std.proofs.lemmas.Bool.{and_parts}
use Rattle.std.specs.Prelude.{Ok, length}
use Rattle.hurd_machine.proofs.Common.{Crossing, Dir, ENOTDIR, Errno, Header, IdSets, IsAmong, Meaning, Name, Seen, Taken, World, header_at, is_no_memory}
use Rattle.hurd_trans_iface.specs.Meaning.{root_of, targets_of}
use Rattle.hurd_trans_iface.specs.declared.root.Crossing.TheVariants.{Union}
use Rattle.hurd_machine.proofs.Views.{Agree, Agree-refl, header_same}
use Rattle.hurd_machine.proofs.Asks.{first_ok, given_ok}
use Rattle.hurd_machine.proofs.Coherence.{CanBeNamed}
use Rattle.hurd_machine.proofs.Confine.{seen_old}
use Rattle.hurd_machine.proofs.Piece.{Stands}
use Rattle.hurd_lookup.specs.Resolve.{resolve_all}
use Rattle.hurd_lookup.proofs.AlikeLaws.{Alike, ok_alike, given_alike, first_alike}
use Rattle.hurd_lookup.proofs.HeldLaws.{resolve_all_gives}
use Rattle.hurd_lookup.specs.Lent.{lent}
use Rattle.hurd_lookup.proofs.LentLaws.{lent_powers}
use Rattle.hurd_lookup.proofs.WalkLaws.{Powers, dir_is}
use Rattle.hurd_lookup.proofs.ResolveLaws.{AllSeen, resolve_all_alike}
use Rattle.hurd_fsys.specs.Aims.{aims_asks, are_dirs, fits, is_dir_there}

module _ {S : ℕ → Bool} {v w : World} (a : Agree S v w) (ids : IdSets) (taken : Taken S v ids) (owner : ℕ) (asleep : Errno) (plain : is_no_memory asleep ≡ false) (m : Meaning) where
  abbrev powers : Powers S v (lent ids owner)
  powers = lent_powers S v ids taken owner

  dirs_same : (ns : List Name) → AllSeen a (lent ids owner) powers ns → are_dirs w ns ≡ are_dirs v ns
  dirs_same [] seen = refl
  dirs_same (n ∷ ns) seen = ap₂ (λ (o : Option Header) (b : Bool). is_dir_there o && b) (header_same a n (seen n (inl refl))) (dirs_same ns (λ k i. seen k (inr i)))

  fits_same : (c : Crossing) (ns : List Name) → AllSeen a (lent ids owner) powers ns → fits w c ns ≡ fits v c ns
  fits_same Union ns seen = dirs_same ns seen
  fits_same _ ns seen = refl

  pub aims_alike : Alike (AllSeen a (lent ids owner) powers) (aims_asks asleep v (lent ids owner) m) (aims_asks asleep w (lent ids owner) m)
  aims_alike =
      first_alike _ _ _ _ _ _ (resolve_all_alike a (lent ids owner) powers asleep plain (targets_of m.kind m.text)) (λ ns is seen.
      given_alike _ _ _ _ _ _ refl (fits_same (root_of m.kind m.text).crossing ns seen) (λ k. ok_alike _ ns seen))

-- targets that a server that means this may have: it may name each, they are as many as its paths, and directories if it is a union
pub record Aims (w : World) (m : Meaning) (ns : List Name) : Type 0 where
  pub named : (n : Name) → IsAmong n ns → CanBeNamed w n
  pub count : length ns ≡ length (targets_of m.kind m.text)
  pub dirs : (root_of m.kind m.text).crossing ≡ Union → (n : Name) (h : Header) → IsAmong n ns → header_at w n ≡ Some h → h.kind ≡ Dir

dir_there : (w : World) (ns : List Name) → are_dirs w ns ≡ true → (n : Name) (h : Header) → IsAmong n ns → header_at w n ≡ Some h → h.kind ≡ Dir
dir_there w [] all n h i is = absurd i
dir_there w (m ∷ ns) all n h i is =
    let both = and_parts (is_dir_there (header_at w m)) (are_dirs w ns) all in
    elim i [
      | inl same ↦ dir_is h.kind (sym (ap is_dir_there (ap (header_at w) same ∙ is)) ∙ both.0)
      | inr rest ↦ dir_there w ns both.1 n h rest is
    ]

-- those that are found are such, if they were seen by all
pub aims_fit : (w : World) → Stands w → (ids : IdSets) (asleep : Errno) → is_no_memory asleep ≡ false → (m : Meaning) (ns : List Name) → aims_asks asleep w ids m ≡ Ok ns → ((n : Name) → IsAmong n ns → Seen (λ t. true) w n) → Aims w m ns
aims_fit w st ids asleep plain m ns is seen =
    let l = first_ok (resolve_all asleep w ids (targets_of m.kind m.text)) _ ns is in
    let k = given_ok ENOTDIR (fits w (root_of m.kind m.text).crossing l.0) _ ns l.2 in
    let same : l.0 ≡ ns = cc (k.1) in
    let held = (resolve_all_gives w st ids asleep plain (targets_of m.kind m.text)).has ns (l.1 ∙ ap Ok same) in
    record {
      named = λ n among. (seen_old st.coherent n (seen n among), held.0 n among);
      count = held.1;
      dirs = λ union n h among. dir_there w ns (sym (ap₂ (fits w) union same) ∙ k.0) n h among;
    }

-- S saw each target that is found
pub aims_seen : (S : ℕ → Bool) (w : World) (ids : IdSets) → Taken S w ids → (owner : ℕ) (asleep : Errno) → is_no_memory asleep ≡ false → (m : Meaning) (ns : List Name) → aims_asks asleep w (lent ids owner) m ≡ Ok ns → (n : Name) → IsAmong n ns → Seen S w n
aims_seen S w ids taken owner asleep plain m ns is = (aims_alike (Agree-refl S w) ids taken owner asleep plain m).has ns is
