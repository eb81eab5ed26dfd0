-- The laws of setting a translator.
use Rattle.std.proofs.Common.{◌≡◌, ◌∙◌, ◌||◌, ◌&&◌, ◌==◌, not, slice_get, ℕ, Bool, true, false, if◌then◌else◌, List, [], ◌∷◌, ◌++◌, Option, Some, None, refl, sym, ap, ap₂, subst, inl, inr}
use Rattle.std.specs.Prelude.{Ok, is_some}
use Rattle.hurd_machine.proofs.Common.{BySeat, Change, Coherent, DropServer, EBUSY, EINVAL, ENXIO, EOPNOTSUPP, FORCE, GidOfRight, Holds, Io, IsAmong, Meaning, Name, NameMap, Named, Part, SET, Seen, Settle, Site, Sound, Taken, Task, UidOfRight, Unseat, UsersOf, World, active_at, active_in, apply_all, asks_goaway, asks_trans, can_name, has_words, info_at, is_server_root, tree_by, users}
use Rattle.hurd_creds.specs.TransBits.{ORPHAN}
use Rattle.hurd_nodes.proofs.PartLaws.{and_both}
use Rattle.hurd_machine.specs.declared.call.Reply.TheVariants.{Done, Words}
use Rattle.hurd_machine.specs.Touched.{Goes}
use Rattle.hurd_machine.proofs.Views.{Agree, Agree-refl, active_same}
use Rattle.hurd_machine.proofs.Frame.{Full}
use Rattle.hurd_machine.proofs.Opens.{own_task, fresh_new, later_new}
use Rattle.hurd_machine.proofs.Going.{goes_piece, unseats_piece}
use Rattle.hurd_machine.proofs.Asks.{IsPlainReply, port_same, port_plain, info_alike, is_root_same, first_ok, given_ok, first_same, given_same, first_plain, given_plain, on_plain, ok_plain, answered_same, answered_plain, done_plain}
use Rattle.hurd_machine.proofs.CallLaws.{CallLaws, answered_piece, answered_whole, looking_laws}
use Rattle.hurd_core.specs.Core.{attaching, naming_asks}
use Rattle.hurd_machine.specs.declared.call.Setting.{Setting}
use Rattle.hurd_lookup.specs.Lent.{lent, server_ids}
use Rattle.hurd_fsys.specs.Setting.{sets_nothing, setter_asks, may_seat, is_excluded, may_replace, may_set, seat_asks, leaver, emptying, storing, seat_on, box_aims, seating, setting_where, plan_set_translator, GoesFor, seat_parts, box_parts, parts_where, touches_set_translator, root_mode, root_kind, stored_asks, plan_get_translator, touches_get_translator}
use Rattle.hurd_fsys.specs.Owned.{owned_asks}
use Rattle.hurd_fsys.proofs.OwnedLaws.{Owner, owner, owner_right, owner_sees, owned_same, owned_plain}
use Rattle.hurd_fsys.proofs.ControlLaws.{owner_holds}
use Rattle.hurd_fsys.proofs.StoringLaws.{IsLike, aims_like, goes_like, storing_like, storing_exact, storing_whole}
use Rattle.hurd_fsys.specs.Setting as spec
use Rattle.hurd_fsys.proofs.AimsLaws.{aims_alike, aims_fit, aims_seen}
use Rattle.hurd_fsys.proofs.BegunLaws.{comings_whole, counted_task, naming_same, naming_plain}
use Rattle.hurd_machine.proofs.Piece.{Whole, stands, whole_none, whole_then, settled}

-- S has the ids of its right
right_taken : (S : ℕ → Bool) (w : World) (n : Named) → Holds S w (Io n.right) → Taken S w n.right.ids
right_taken S w n held = record { uids = λ u h. UidOfRight n.right held h; gids = λ g h. GidOfRight n.right held h }

-- what is asked

module _ (t p : ℕ) (f : Setting) where
  pub setter : (w : World) (b : Bool) (n : Named) → setter_asks w t p f b ≡ Ok n → Owner t p w n
  setter w b n is =
      let k = first_ok (owned_asks w t p) _ n is in
      let h = given_ok EINVAL _ _ n k.2 in
      let same : k.0 ≡ n = cc (h.1) in
      subst (Owner t p w) same (owner t p w k.0 k.1)

  -- a server may sit there, and what is active there is this
  seated : (w : World) (n : Named) (old : Option Name) → seat_asks w f n ≡ Ok old → (may_seat w n.right.node ≡ true) × (active_at w n.right.node ≡ old)
  seated w n old is =
      let g = given_ok EOPNOTSUPP _ _ old is in
      let h = given_ok EBUSY _ _ old g.1 in
      (g.0, cc (h.1))

  leaver_is : (old : Option Name) (q : Name) → leaver f old ≡ Some q → old ≡ Some q
  leaver_is old q = go (not (asks_trans f.active SET) || asks_trans f.active ORPHAN)
    where
      go : (b : Bool) → (if b then None else old) ≡ Some q → old ≡ Some q
      go true e = absurd (cc)
      go false e = e

  -- in worlds that agree

  module _ {S : ℕ → Bool} {v w : World} (c : Coherent v) (a : Agree S v w) (ours : S t ≡ true) (n : Named) (k : Owner t p v n) where
    held : Holds S v (Io n.right)
    held = owner_right t p ours n k

    seen : Seen S v n.right.node
    seen = owner_sees t p ours n k

    replace_same : (o : Option Name) → active_at v n.right.node ≡ o → may_replace w f o ≡ may_replace v f o
    replace_same None e = refl
    replace_same (Some q) e =
        let i = c.seating.seated n.right.node q e in
        let parts = a.parts (UsersOf q) (record { info = i.1; is_server = i.2; other = i.0; why = BySeat n.right.node n.header seen e k.is_named.is_header (owner_holds S v n held k.owned) }) in
        let used : users w q ≡ users v q = cc in
        ap (λ z. not (asks_trans f.active SET) || (asks_trans f.active ORPHAN || (asks_goaway f.goaway FORCE || (z == 0)))) used

    set_same : may_set w f n.header.passive (active_at w n.right.node) ≡ may_set v f n.header.passive (active_at v n.right.node)
    set_same =
        ap (may_set w f n.header.passive) (active_same a n.right.node seen)
        ∙ ap (λ z. not (is_excluded f.passive (has_words n.header.passive)) && (not (is_excluded f.active (is_some (active_at v n.right.node))) && z)) (replace_same (active_at v n.right.node) refl)

    seat_same : seat_asks w f n ≡ seat_asks v f n
    seat_same =
        given_same _ _ _ _ _ (ap₂ (λ (i b : Bool). i && not b) (info_alike a n.right.node tree_by (λ i. refl) seen) (is_root_same a n.right.node seen)) (λ e.
        given_same _ _ _ _ _ set_same (λ e. ap Ok (active_same a n.right.node seen)))

  module _ (words : List (List ℕ)) (box : Option Meaning) where
    abbrev sets : Bool
    sets = asks_trans f.passive SET

    -- the world with the words stored
    abbrev stored : Name → World → World
    stored n w = apply_all (storing f n words) w

    like : (w : World) (n : Named) → Owner t p w n → IsLike w (stored n.right.node w) n.right.node
    like w n k = storing_like n.right.node words sets w n.header k.is_named.is_header

    module _ (w : World) (s : Sound w) (n : Named) (k : Owner t p w n) (seats : may_seat w n.right.node ≡ true) (old : Option Name) (e : active_at w n.right.node ≡ old) where
      abbrev v : World
      v = stored n.right.node w

      abbrev Written : Part → Type 0
      Written = Full w t (seat_parts w f n.right.node old)

      -- the words stored, and then what is done in that world
      with_words : (cs : List Change) → (Sound v → Whole t Written w v cs) → Whole t Written w w (storing f n.right.node words ++ cs)
      with_words cs done = whole_then (storing f n.right.node words) cs (storing_exact n.right.node words sets) s
          (storing_whole n.right.node words s (and_both (tree_by (info_at w n.right.node)) (not (is_server_root w n.right.node)) seats).0 n.header k.is_named.is_header (inl (inl refl)) (λ S ours. owner_holds S w n (owner_right t p ours n k) k.owned) sets) done

      -- what goes there goes here
      left_here : (q : Name) → leaver f old ≡ Some q → (r : Part) → Goes v q r → Written r
      left_here q is r goes = inl (inr (subst (λ (o : Option Name). GoesFor w o r) (sym is) (goes_like w v n.right.node (like w n k) q r goes)))

      emptied_whole : Whole t Written w w (storing f n.right.node words ++ emptying f n.right.node old)
      emptied_whole = with_words (emptying f n.right.node old) (λ x. by_seat x old refl)
        where
          by_flags : Sound v → (q : Name) → old ≡ Some q → (b z : Bool) → asks_trans f.active ORPHAN ≡ z → not (asks_trans f.active SET) ≡ b
              → Whole t Written w v (if b then [] else if z then Unseat n.right.node ∷ Settle ∷ [] else DropServer q ∷ Settle ∷ [])
          by_flags x q is true z orphan set = whole_none x
          by_flags x q is false true orphan set = settled (Unseat n.right.node ∷ []) (tt, tt) (stands x) (unseats_piece (stands x) n.right.node (inl (inl refl)))
          by_flags x q is false false orphan set =
              settled (DropServer q ∷ []) (tt, tt) (stands x) (goes_piece (stands x) q (s.coherent.seating.seated n.right.node q (e ∙ is)).0 (left_here q (ap₂ (λ (b z : Bool). if b || z then None else old) set orphan ∙ is)))

          by_seat : Sound v → (o : Option Name) → old ≡ o → Whole t Written w v (emptying f n.right.node o)
          by_seat x None is = whole_none x
          by_seat x (Some q) is = by_flags x q is (not (asks_trans f.active SET)) (asks_trans f.active ORPHAN) refl refl

      -- the targets of a box that are found, a task of S saw
      targets_seen : (S : ℕ → Bool) → S t ≡ true → (m : Meaning) (targets : List Name) → box_aims w n (Some m) ≡ Ok targets → (q : Name) → IsAmong q targets → Seen S w q
      targets_seen S ours m targets is q among = aims_seen S w n.right.ids (right_taken S w n (owner_right t p ours n k)) n.header.owner ENXIO refl m targets is q among

      box_whole : (o : Option Meaning) (targets : List Name) → box_aims w n o ≡ Ok targets → Whole t (Full w t (box_parts w t f o n.right.node old)) w w (spec.seated w t n f words o old targets).changes
      box_whole None targets found = emptied_whole
      box_whole (Some m) targets found = answered_piece s (naming_asks w t 2) _ (λ x. seat_parts w f n.right.node old) (λ x at.
          let is = counted_task w t (can_name 2) x at in
          let later = later_new w t 1 x is in
          let tasks = (like w n k).tasks in
          let aims = aims_like w v n.right.node (like w n k) m targets (aims_fit w (stands s) (lent n.right.ids n.header.owner) ENXIO refl m targets found (targets_seen (λ u. true) refl m targets found)) in
          with_words (attaching t (seat_on n.right.node n.header m (leaver f old) false) (server_ids n.header.owner) targets m x) (λ y.
          comings_whole v t n.right.node n.header (like w n k).there m x (ap (λ (ts : List Task). slice_get ts t) tasks ∙ is) targets aims (stands y) (own_task w t (seat_parts w f n.right.node old)) (inr (inr later)) (inr (inr later))
          (inr (inr later)) (inr (inr later)) (inr (inr (fresh_new w t x is))) (inr (inr (fresh_new w t x is))) (inr (inr (fresh_new w t x is))) (inl (inl refl)) (leaver f old) (λ q is. ap (λ (rs : NameMap Site). active_in rs n.right.node) (like w n k).sites ∙ (e ∙ leaver_is old q is)) left_here (λ S ours q among. inl (targets_seen S ours m targets found q among))))

    half_whole : (w : World) → Sound w → (n : Named) → Owner t p w n → (b : Bool) → Whole t (Full w t (parts_where b w t f box n)) w w (setting_where b w t f words box n).changes
    half_whole w s n k true = whole_none s
    half_whole w s n k false = answered_piece s (seat_asks w f n) (seating w t n f words box) _ (λ old is.
        answered_piece s (box_aims w n box) (spec.seated w t n f words box old) (λ targets. box_parts w t f box n.right.node old) (λ targets found. let seat = seated w n old is in box_whole w s n k seat.0 old seat.1 box targets found))

    half_same : {S : ℕ → Bool} {v w : World} → Coherent v → Agree S v w → S t ≡ true → (n : Named) → Owner t p v n → (b : Bool) → setting_where b w t f words box n ≡ setting_where b v t f words box n
    half_same c a ours n k true = refl
    half_same {S} {v} {w} c a ours n k false = answered_same _ _ _ _ (seat_same c a ours n k) (λ old is. of_box box old)
      where
        of_box : (o : Option Meaning) (old : Option Name) → seating w t n f words o old ≡ seating v t n f words o old
        of_box None old = answered_same _ _ _ _ refl (λ targets found. refl)
        of_box (Some m) old =
            answered_same _ _ _ _ (aims_alike a n.right.ids (right_taken S v n (owner_right t p ours n k)) n.header.owner ENXIO refl m).same (λ targets found. answered_same _ _ _ _ (naming_same a t ours) (λ x at. refl))

    half_plain : (w : World) (n : Named) → Owner t p w n → (b : Bool) → IsPlainReply (setting_where b w t f words box n).reply
    half_plain w n k true = done_plain Done refl
    half_plain w n k false = answered_plain _ _ (given_plain _ _ _ refl (λ e. given_plain _ _ _ refl (λ h. ok_plain _))) (λ old is. of_box box old)
      where
        of_box : (o : Option Meaning) (old : Option Name) → IsPlainReply (seating w t n f words o old).reply
        of_box None old = answered_plain _ _ (ok_plain _) (λ targets found. done_plain Done refl)
        of_box (Some m) old =
            answered_plain _ _ (aims_alike (Agree-refl (λ u. true) w) n.right.ids (right_taken (λ u. true) w n (owner_right t p refl n k)) n.header.owner ENXIO refl m).plain
            (λ targets found. answered_plain _ _ (naming_plain w t) (λ x at. done_plain Done refl))

    pub set_translator_laws : CallLaws t (λ w. plan_set_translator w t p f words box) (λ w. touches_set_translator w t p f box)
    set_translator_laws = record {
      piece = λ w s. answered_piece s (setter_asks w t p f (is_some box)) _ _ (λ n is. half_whole w s n (setter w (is_some box) n is) (sets_nothing f));
      same = λ S v w c d a ours. answered_same _ _ _ _ (first_same _ _ _ _ (owned_same t p a ours) (λ n is. refl)) (λ n is. half_same c a ours n (setter v (is_some box) n is) (sets_nothing f));
      plain = λ w. answered_plain _ _ (first_plain _ _ (owned_plain t p w) (λ n is. given_plain _ _ _ refl (λ h. ok_plain _))) (λ n is. half_plain w n (setter w (is_some box) n is) (sets_nothing f));
    }

-- file_get_translator: what it asks is the same in worlds that agree, whose header the caller sees

pub get_translator_laws : (t p : ℕ) → CallLaws t (λ w. plan_get_translator w t p) (λ w. touches_get_translator w t p)
get_translator_laws t p =
    looking_laws t (λ w. stored_asks w t p) Words
    (λ S v w c a ours. first_same _ _ _ _ (port_same a t ours p) (λ n is. refl))
    (λ w. first_plain _ _ (port_plain w t p) (λ n is. on_plain _ _ _ refl (λ words e. ok_plain words)))
    (λ words. refl)
