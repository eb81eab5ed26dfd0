-- What a seat tells of its server stays true where sites change.
use Rattle.std.proofs.Common.{◌≡◌, inl, inr, ℕ, true, [], ◌∷◌, refl, sym, ap, ◌∙◌, true≢false}
use Rattle.std.specs.Prelude.{Option, Some, None, is_some}
use Rattle.std.specs.FinMap as fin
use Rattle.hurd_creds.specs.declared.name.Name.{Name}
use Rattle.hurd_creds.specs.Names.{name_cmp}
use Rattle.hurd_creds.specs.NameMaps.{NameMap, edit}
use Rattle.hurd_creds.proofs.NameLaws.{same_name-itself}
use Rattle.hurd_trans_iface.specs.Nodes.{is_listed}
use Rattle.hurd_nodes.specs.declared.seat.Seat.{Seat}
use Rattle.hurd_nodes.specs.declared.seat.Site.{Site}
use Rattle.hurd_nodes.specs.Held.{active_in, home_in, new_site, sites_of}
use Rattle.hurd_nodes.specs.Shown.{with_active, without_sites}
use Rattle.hurd_nodes.specs.Quiet.{Behind, IsTold}
use Rattle.hurd_nodes.proofs.SeatedLaws.{active-was, known-none, seated-none}
use Rattle.hurd_nodes.proofs.Sites.{home-edited, home-was, active-removed, home-removed, active-inserted, home-inserted, active-was_edited}

module _ {S : Type 0} (sites : NameMap Site) (x : Name × Seat S) (t : IsTold sites x) where
  -- without a site
  pub told-less : (n : Name) → IsTold (fin.remove sites n) x
  told-less n = record { placed = λ m is. t.placed m (active-removed sites n m x.0 is); listed = λ m is. t.listed m (home-removed sites n m x.0 is) }

  -- with a site of a server, which lists it if the seat is that server's
  pub told-put : (n s : Name) → (s ≡ x.0 → is_listed n (x.1.root ∷ x.1.own.items) ≡ true) → IsTold (fin.insert sites n (new_site s)) x
  told-put n s lists = record {
    placed = λ m is. t.placed m (active-inserted sites n (new_site s) m x.0 refl is);
    listed = λ m is. elim (home-inserted sites n (new_site s) m x.0 is) [
      | inl here ↦ ap (λ (q : Name). is_listed q (x.1.root ∷ x.1.own.items)) here.0 ∙ lists here.1
      | inr far ↦ t.listed m far.1
    ];
  }

  -- with a server active on a node, or none, where the seat says so if it is that server's
  pub told-active : (n : Name) (o : Option Name) → (o ≡ Some x.0 → x.1.at ≡ Some n) → IsTold (edit n (with_active o) sites) x
  told-active n o at = record {
    placed = λ m is. elim (active-was_edited sites n o m x.0 is) [ inl here ↦ at here.1 ∙ ap Some (sym here.0) | inr was ↦ t.placed m was ];
    listed = λ m is. t.listed m (sym (home-edited sites n o m) ∙ is);
  }

  -- without a server
  pub told-left : (s : Name) → IsTold (without_sites s sites) x
  told-left s = record { placed = λ m is. t.placed m (active-was sites s m x.0 is).1; listed = λ m is. t.listed m (home-was sites s m x.0 is) }

-- a server that comes: its root is its only node, and it is active where it was attached
pub told-new : {S : Type 0} (sites : NameMap Site) (s : Name) (e : Seat S) → ((n : Name) → active_in sites n ≡ Some s → e.at ≡ Some n) → ((n : Name) → home_in sites n ≡ Some s → n ≡ e.root) → IsTold sites (s, e)
told-new sites s e placed alone = record { placed = placed; listed = λ n is. rw (alone n is, same_name-itself e.root) refl }

-- the first server: its root is the only node, and it is active nowhere
pub told-first : {S : Type 0} (s : Name) (e : Seat S) → e.root ≡ s → IsTold (fin.insert (sites_of []) s (new_site s)) (s, e)
told-first s e root = told-put (sites_of []) (s, e) none s s (λ same. rw (root, same_name-itself s) refl)
  where
    none : IsTold (sites_of []) (s, e)
    none = record {
      placed = λ n is. absurd (true≢false (sym (known-none {S = Unit {0}} fin.empty n s is) ∙ ap (λ (o : Option _). is_some o) (fin.get-empty name_cmp s)));
      listed = λ n is. absurd (true≢false (sym (seated-none {S = Unit {0}} fin.empty n s is) ∙ ap (λ (o : Option _). is_some o) (fin.get-empty name_cmp s)));
    }

-- nothing is on an empty list
pub nowhere : {X : Type 0} (k : ℕ) (x : X) → Behind k [] x → ⊥
nowhere k x b = let none : None ≡ Some x = b.is in absurd (cc)
