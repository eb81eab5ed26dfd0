-- What `Nodes` keeps to, where a server's box is another, and where seats change places.
use Rattle.std.proofs.Common.{◌≡◌, ℕ, Bool, true, cond, List, refl, sym, subst}
use Rattle.std.specs.Prelude.{Result, Some, slice_get}
use Rattle.std.specs.Map.{values_of}
use Rattle.indexmap.specs.IndexMap.{set_value_at}
use Rattle.hurd_creds.specs.declared.name.Name.{Name}
use Rattle.hurd_creds.specs.NameMaps.{NameMap, place_by}
use Rattle.hurd_creds.specs.declared.errno.Errno.{Errno}
use Rattle.hurd_trans_iface.specs.Nodes.{Edit}
use Rattle.hurd_trans_iface.specs.Answers.{edits_if}
use Rattle.hurd_trans_iface.specs.Meaning.{Meaning, edited}
use Rattle.hurd_nodes.specs.declared.seat.Seat.{Seat}
use Rattle.hurd_nodes.specs.declared.seat.Site.{Site}
use Rattle.hurd_nodes.specs.Held.{AreApart, Held, Seated, box_by, held_of, home_in, mean, place_of_home, seat_key, seats_of, sites_of}
use Rattle.hurd_nodes.specs.Quiet.{AreAmong, AreCalm, AreForeign, AreOld, Behind}
use Rattle.hurd_nodes.specs.Shown.{HideNothing, without_server}
use Rattle.hurd_nodes.specs.Aims.{AreAims}
use Rattle.hurd_nodes.specs.Tables.{AreKept, AreTables, AreWhole}
use Rattle.hurd_nodes.proofs.AimLaws.{kept-set}
use Rattle.hurd_nodes.proofs.AskedLaws.{named-at}
use Rattle.hurd_nodes.proofs.AttachLaws.{hides-left}
use Rattle.hurd_nodes.proofs.CalmLaws.{KeepAll, KeepsEntries, calm-put, keep-if, keeps-or}
use Rattle.hurd_nodes.proofs.HideLaws.{TellsAll, adds_none, hides-kept, if-adds_none}
use Rattle.hurd_nodes.proofs.SeatLaws.{box-placed, placed}

-- another box in a server's seat
pub whole-seat : {S : Type 0} (f : S → Meaning) (rs : List (Name × Site)) (ss : List (Name × Seat S)) (es : List (Name × ℕ)) (k : ℕ) (s : Name) (i : ℕ) (x : Seat S) → Some i ≡ place_by seat_key s ss
    → slice_get (values_of ss) i ≡ Some x → (w : S) → ((q : Name) → q ≡ s → Behind k ss (q, x) → KeepsEntries (f x.server) (f w))
    → TellsAll (sites_of rs) (mean f (seats_of (set_value_at ss i (record x { server = w })))) → AreWhole f rs ss es k → AreWhole f rs (set_value_at ss i (record x { server = w })) es k
whole-seat f rs ss es k s i x at read w keeps hides whole = record {
  kept = kept-set rs ss es k s i x w at read whole.kept;
  calm = calm-put f ss k i x (record x { server = w }) read whole.calm refl (λ q past is. keeps q (named-at ss s i (q, x) (sym at) is) (record { at = i; past = past; is = is }));
  hides = hides;
}

-- the box of a node's server, at its place
module _ {S : Type 0} (f : S → Meaning) (rs : List (Name × Site)) (ss : List (Name × Seat S)) (n : Name) (i : ℕ) (x : Seat S) (at : Some i ≡ place_of_home ss (home_in (sites_of rs) n)) (read : slice_get (values_of ss) i ≡ Some x) where
  pub box-there : Some (f x.server) ≡ box_by (mean f (seats_of ss)) (home_in (sites_of rs) n)
  box-there = sym (box-placed f ss (home_in (sites_of rs) n) i x at read)

  -- which edited nodes that are there, and took no entry from one, unless the server is asked
  pub whole-edited : (w : S) (answer : Result (Unit {0}) Errno) (edits : List Edit) → adds_none edits ≡ true → (short : Bool) → f w ≡ cond short (f x.server) (edited (edits_if answer edits) (f x.server)) → (es : List (Name × ℕ)) (k : ℕ)
      → ((s : Name) → home_in (sites_of rs) n ≡ Some s → Behind k ss (s, x) → KeepAll edits) → AreWhole f rs ss es k → AreWhole f rs (set_value_at ss i (record x { server = w })) es k
  whole-edited w answer edits only short left es k keeps whole =
      let p = placed ss _ i at in
      whole-seat f rs ss es k p.0 i x p.2 read w
      (λ q same b. keeps-or short (f x.server) (f w) (edits_if answer edits) (keep-if answer edits (keeps p.0 p.1 (subst (λ (r : Name). Behind k ss (r, x)) same b))) left)
      (hides-kept f rs ss n i x at read w (edits_if answer edits) (if-adds_none answer edits only) short left whole.hides) whole

-- the same seats in another order
module _ {S : Type 0} (f : S → Meaning) (rs : List (Name × Site)) (ss ts : List (Name × Seat S)) (es : List (Name × ℕ)) (k l : ℕ) (is : seats_of ts ≡ seats_of ss) (apart : AreApart seat_key ts) (among : AreAmong ss ts)
    (old : AreOld k ss l ts) where
  pub whole-order : AreWhole f rs ss es k → AreWhole f rs ts es l
  whole-order whole =
      let t = whole.kept.tables in
      record {
        kept = record {
          tables = record {
            sites_apart = t.sites_apart;
            seats_apart = apart;
            housed = rw is t.housed;
            known = rw is t.known;
            told = λ x b. t.told x (among x b);
            quiet = λ x b. t.quiet x (old x b);
          };
          aims = subst (λ (m : NameMap (Seated S)). AreAims es m) (sym is) whole.kept.aims;
        };
        calm = λ x b. whole.calm x (old x b);
        hides = subst (λ (m : NameMap (Seated S)). let h : Held S = record { sites = sites_of rs; seats = m } in HideNothing f h) (sym is) whole.hides;
      }

-- where the server of a node is asked
pub whole-asked : {S : Type 0} (f : S → Meaning) (rs : List (Name × Site)) (ss ts : List (Name × Seat S)) (es : List (Name × ℕ)) (k l : ℕ) (n : Name) → seats_of ts ≡ seats_of ss → AreApart seat_key ts → AreAmong ss ts
    → AreForeign (sites_of rs) n k ss l ts → AreWhole f rs ss es k → AreWhole f rs ts es l
whole-asked f rs ss ts es k l n is apart among less = whole-order f rs ss ts es k l is apart among (λ x b. (less x b).1)

-- where a list of nodes is another
pub whole-listed : {S : Type 0} (f : S → Meaning) (rs : List (Name × Site)) (ss ts : List (Name × Seat S)) (es : List (Name × ℕ)) (k : ℕ) → seats_of ts ≡ seats_of ss → (AreTables rs ss k → AreTables rs ts k)
    → (AreCalm f ss k → AreCalm f ts k) → AreWhole f rs ss es k → AreWhole f rs ts es k
whole-listed {S} f rs ss ts es k is tables calm whole = record {
  kept = record { tables = tables whole.kept.tables; aims = subst (λ (m : NameMap (Seated S)). AreAims es m) (sym is) whole.kept.aims };
  calm = calm whole.calm;
  hides = subst (λ (m : NameMap (Seated S)). let h : Held S = record { sites = sites_of rs; seats = m } in HideNothing f h) (sym is) whole.hides;
}

-- without a server
pub whole-left : {S : Type 0} (f : S → Meaning) (rs qs : List (Name × Site)) (ss ts : List (Name × Seat S)) (es ds : List (Name × ℕ)) (k l : ℕ) (s : Name) → held_of qs ts ≡ without_server (held_of rs ss) s
    → AreKept qs ts ds l → AreOld k ss l ts → AreWhole f rs ss es k → AreWhole f qs ts ds l
whole-left f rs qs ss ts es ds k l s is kept old whole = record {
  kept = kept;
  calm = λ x b. whole.calm x (old x b);
  hides = subst (HideNothing f) (sym is) (hides-left f (held_of rs ss) s whole.hides);
}
