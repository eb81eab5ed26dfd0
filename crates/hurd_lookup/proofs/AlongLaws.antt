-- Walking along names: what is asked is the same in both worlds, and leads to where the walk can be.
use Rattle.std.proofs.Common.{◌≡◌, ℕ, Bool, true, false, if◌then◌else◌, ◌&&◌, List, [], ◌∷◌, Option, Some, None, refl, sym, ◌∙◌, ap, subst, inl, inr}
use Rattle.std.specs.Prelude.{Result, Ok, codes, is_some, slice_get}
use Rattle.std.specs.Option.{option_map}
use Rattle.hurd_machine.proofs.Common.{Body, Crossing, EDIED, ENOENT, Errno, Exec, Firm, Header, IdSets, IsAmong, Name, OpenFlags, Plain, ServerInfo, World, active_at, asks, bare, body_at, bytes_eq, entry_of, header_at, info_at, is_dir, may, node_at, passive_of, targets_in}
use Rattle.hurd_creds.specs.Bits.{NOTRANS}
use Rattle.hurd_trans_iface.specs.Answers.{leads_away}
use Rattle.hurd_trans_iface.specs.Meaning.{root_of}
use Rattle.hurd_trans_iface.specs.declared.root.Crossing.TheVariants.{Link, Union}
use Rattle.hurd_ports.specs.declared.parents.Parent.{Parent}
use Rattle.hurd_machine.specs.declared.call.RetryKind.{RetryKind}
use Rattle.hurd_machine.proofs.Faces.{face_reads}
use Rattle.hurd_core.specs.Branches.{branches_at}
use Rattle.hurd_core.proofs.AimedLaws.{branch_aimed}
use Rattle.hurd_lookup.specs.declared.request.Request.{Request}
use Rattle.hurd_lookup.specs.declared.walk.Next.{Next}
use Rattle.hurd_lookup.specs.declared.walk.Next.TheVariants.{There, Entry, Branch, Back, Absent}
use Rattle.hurd_lookup.specs.Path.{rest_of, onto}
use Rattle.hurd_lookup.specs.Lookup.{Authority, NewPort, Outcome, Retries, Active, Waiting, Crossed, to_parent, came_in_at, shows_name, branch_in, entry_or, step_asks, is_last, go_back, ways_into, go_into, enter, link_retry, hold_on, crossing, cross, root_on, to_cross, over, stepped, walk}
use Rattle.hurd_lookup.proofs.AlikeLaws.{Alike, ok_alike, err_alike, on_alike, given_alike, first_alike, if_alike}
use Rattle.hurd_lookup.proofs.FaceLaws.{branches_face, crossed_by, crossed_face}
use Rattle.hurd_lookup.proofs.WalkLaws.{Ground, PortOn, WaysOn}
use Rattle.hurd_lookup.proofs.EndLaws.{OutcomeShown, make_alike, open_alike}

-- a step leads to a node at which the walk can be, or is missed in a directory whose entries it knows
abbrev NextOn : (At Entries : Name → Type 0) → Name → Next → Type 0
NextOn At Entries d (There n) = At n
NextOn At Entries d (Entry n) = At n
NextOn At Entries d (Branch b) = At b
NextOn At Entries d Back = Unit {0}
NextOn At Entries d Absent = Entries d

-- the server to be crossed at a node is active there
is_active : (w : World) (r : Request) (n : Name) (names : List (List ℕ)) (root : Name) → to_cross w r n names ≡ Some (Active root) → root_on w n ≡ Some root
is_active w r n names root is = by (is_last names && asks r.flags NOTRANS) (is_some (active_at w n)) (root_on w n) (passive_of (node_at w n)) is
  where
    by : (stays some : Bool) (o : Option Name) (p : Option (List (List ℕ)))
        → (if stays then None else if some then option_map Active o else option_map Waiting p) ≡ Some (Active root) → o ≡ Some root
    by false true (Some m) p k = cc (k)
    by false true None p k = absurd (cc (k))
    by false false o None k = absurd (cc (k))
    by false false o (Some words) k = absurd (cc (k))
    by true some o p k = absurd (cc (k))

-- what is got from a list is among it
got_among : (n : Name) (ns : List Name) → slice_get ns 0 ≡ Some n → IsAmong n ns
got_among n [] is = absurd (cc)
got_among n (m ∷ ns) is = inl (let same : m ≡ n = cc in same)

-- what a walk asks is the same in both worlds, it leads to where it can be, and no refusal on the way is ENOMEM
module _ {v w : World} {At Near Entries : Name → Type 0} {T : IdSets → Type 0} (g : Ground v w At Near Entries T) (q : Authority) (taken : T q.ids) (ways : WaysOn At q.ways) where
  -- one way more
  longer : (n d : Name) → At n → At d → WaysOn At (record { at = n; parent = d } ∷ q.ways)
  longer n d at left m (inl e) = subst At e at
  longer n d at left m (inr (inl e)) = subst At e left
  longer n d at left m (inr (inr i)) = ways m i

  -- the ways of a port into a branch
  into_branch : (ps : List Parent) → WaysOn At ps → (b : Name) → At b → WaysOn At (ways_into b ps)
  into_branch [] held b at m i = absurd i
  into_branch (p ∷ ps) held b at m (inl e) = subst At e at
  into_branch (p ∷ ps) held b at m (inr i) = held m (inr i)

  -- from a directory, up to its parent or on to an entry
  module _ (d : Name) (at : At d) (h : Header) (is : header_at v d ≡ Some h) where
    parent_alike : (o : Option Name) → h.parent ≡ o → Alike (NextOn At Entries d) (to_parent o) (to_parent o)
    parent_alike None e = err_alike _ ENOENT refl
    parent_alike (Some p) e = ok_alike _ (There p) (g.up d p h (g.near d at) is e)

    entry_alike : (o p : Option Name) (next more : Next) → p ≡ o → ((n : Name) → o ≡ Some n → At n) → Alike (NextOn At Entries d) (Ok next) (Ok more)
        → Alike (NextOn At Entries d) (Ok (entry_or o next)) (Ok (entry_or p more))
    entry_alike None p next more same down onward = rw same onward
    entry_alike (Some n) p next more same down onward = rw same (ok_alike _ (Entry n) (down n refl))

    -- in a branch
    shows_same : (name : List ℕ) (b : Name) → At b → shows_name w q.ids name b (header_at w b) ≡ shows_name v q.ids name b (header_at v b)
    shows_same name b here = ap (shows_name w q.ids name b) (g.header b (g.near b here)) ∙ by (header_at v b) refl
      where
        by : (o : Option Header) → header_at v b ≡ o → shows_name w q.ids name b o ≡ shows_name v q.ids name b o
        by None e = refl
        by (Some k) e = dir_by (is_dir k.kind) refl (may q.ids (bare k) Exec) refl
          where
            shown : World → Bool → Bool → Bool
            shown x dir may_search = if dir then may_search && is_some (entry_of name (body_at x b)) else false

            dir_by : (dir : Bool) → is_dir k.kind ≡ dir → (m : Bool) → may q.ids (bare k) Exec ≡ m → shown w dir m ≡ shown v dir m
            dir_by false is_it m may_it = refl
            dir_by true is_it false may_it = refl
            dir_by true is_it true may_it = ap (λ (c : Option Body). is_some (entry_of name c)) (g.searches q.ids taken b k (g.near b here) e is_it may_it).same

    branch_alike : (name : List ℕ) → Entries d → (bs : List Name) → ((b : Name) → IsAmong b bs → At b) → Alike (NextOn At Entries d) (Ok (branch_in v q.ids name bs)) (Ok (branch_in w q.ids name bs))
    branch_alike name body [] here = ok_alike _ Absent body
    branch_alike name body (b ∷ bs) here =
        by (shows_name v q.ids name b (header_at v b)) (shows_name w q.ids name b (header_at w b)) (shows_same name b (here b (inl refl))) (branch_alike name body bs (λ c i. here c (inr i)))
      where
        by : (x y : Bool) → y ≡ x → Alike (NextOn At Entries d) (Ok (branch_in v q.ids name bs)) (Ok (branch_in w q.ids name bs))
            → Alike (NextOn At Entries d) (Ok (if x then Branch b else branch_in v q.ids name bs)) (Ok (if y then Branch b else branch_in w q.ids name bs))
        by true y same rest = rw same (ok_alike _ (Branch b) (here b (inl refl)))
        by false y same rest = rw same rest

  -- one name
  step_alike : (d : Name) (name : List ℕ) → At d → Alike (NextOn At Entries d) (step_asks v q d name) (step_asks w q d name)
  step_alike d name at =
      let near = g.near d at in
      on_alike _ _ _ _ _ _ refl (g.header d near) (λ h is. given_alike _ _ _ _ _ _ refl refl (λ k. given_alike _ _ _ _ _ _ refl refl (λ m.
      let s = g.searches q.ids taken d h near is k m in
      if_alike _ (bytes_eq name (codes ".")) _ _ _ _ _ refl (ok_alike _ (There d) at) (
      if_alike _ (bytes_eq name (codes "..")) _ _ _ _ _ refl
      (if_alike _ (came_in_at q.ways d) _ _ _ _ _ refl (ok_alike _ Back tt) (if_alike _ _ _ _ _ _ _ (g.is_root d near) (ok_alike _ (There d) at) (parent_alike d at h is h.parent refl)))
      (entry_alike d at h is _ _ _ _ (ap (entry_of name) s.same) (s.down name)
      (subst (λ (bs : List Name). Alike (NextOn At Entries d) (Ok (branch_in v q.ids name (branches_at v d))) (Ok (branch_in w q.ids name bs))) (sym (branches_face (info_at v d) (info_at w d) (g.face d near)))
      (branch_alike d at h is name s.entries (branches_at v d) (λ b among. g.aims d b near (branch_aimed (info_at v d) b among)))))))))

  -- a name that is looked up elsewhere, by a port
  shown : {flags : OpenFlags} {kind : RetryKind} {name : List ℕ} {e : NewPort} → PortOn At T e → OutcomeShown At Entries T v flags (Retries kind name (Some e))
  shown on = record { on = on; leads = tt }

  -- a way back
  back_alike : (r : Request) (names : List (List ℕ)) (ps : List Parent) → WaysOn At ps → Alike (OutcomeShown At Entries T v r.flags) (go_back v r names ps) (go_back w r names ps)
  back_alike r names [] held = err_alike _ ENOENT refl
  back_alike r names (way ∷ ps) held =
      let left = held way.parent (inr (inl refl)) in
      on_alike _ _ _ _ _ _ refl (g.header way.parent (g.near way.parent left)) (λ h e. ok_alike _ _ (shown (record { node = left; ids = inl refl; ways = λ m i. held m (inr (inr i)) })))

  -- a crossing, from a directory to the root of a server
  module _ (r : Request) (d root : Name) (at : At d) (near : Near root) where
    enter_alike : (names : List (List ℕ)) → At root → Alike (OutcomeShown At Entries T v r.flags) (enter v q r d root names) (enter w q r d root names)
    enter_alike [] there = given_alike _ _ _ _ _ _ refl refl (λ short. open_alike g q taken ways r root _ there (longer root d there at))
    enter_alike (name ∷ names) there = given_alike _ _ _ _ _ _ refl refl (λ short. ok_alike _ _ (shown (record { node = there; ids = inr taken; ways = longer root d there at })))

    link_on : (absolute : Bool) (name : List ℕ) → OutcomeShown At Entries T v r.flags (link_retry absolute q d name)
    link_on true name = record { on = tt; leads = tt }
    link_on false name = shown (record { node = at; ids = inl refl; ways = ways })

    -- to a target
    hold_alike : (o : Option Name) (names : List (List ℕ)) → ((n : Name) → o ≡ Some n → At n) → Alike (OutcomeShown At Entries T v r.flags) (hold_on v q r d o names) (hold_on w q r d o names)
    hold_alike None names aimed = err_alike _ EDIED refl
    hold_alike (Some n) names aimed =
        let target = aimed n refl in
        on_alike _ _ _ _ _ _ refl (g.header n (g.near n target)) (λ h e. given_alike _ _ _ _ _ _ refl refl (λ short. ok_alike _ _ (shown (record { node = target; ids = inl refl; ways = longer n d target at }))))

    crossing_alike : (c : Crossing) (i : ServerInfo) (names : List (List ℕ)) → info_at v root ≡ Some i → (leads_away c ≡ false → At root) → Alike (OutcomeShown At Entries T v r.flags) (crossing v c q r d root i names) (crossing w c q r d root i names)
    crossing_alike Plain i names is there = enter_alike names (there refl)
    crossing_alike (Link absolute) i names is there =
        if_alike _ _ _ _ _ _ _ refl (enter_alike names (there refl)) (given_alike _ _ _ _ _ _ refl refl (λ short. ok_alike _ _ (link_on absolute (onto i.text (rest_of names r.slash)))))
    crossing_alike Firm i names is there =
        hold_alike (slice_get i.targets 0) names (λ n first_is. g.aims root n near (subst (λ (o : Option ServerInfo). IsAmong n (targets_in o)) (sym is) (got_among n i.targets first_is)))
    crossing_alike Union i names is there = enter_alike names (there refl)

    pub cross_alike : (names : List (List ℕ)) → Alike (OutcomeShown At Entries T v r.flags) (cross v q r d root names) (cross w q r d root names)
    cross_alike names =
        subst (Alike (OutcomeShown At Entries T v r.flags) (cross v q r d root names))
        (sym (face_reads (λ o. crossed_by w q r d root names (header_at w root) o) (crossed_face w q r d root names (header_at w root)) (info_at v root) (info_at w root) (g.face root near)))
        (first_alike (λ i. info_at v root ≡ Some i) _ _ _ _ _
        (on_alike _ _ _ _ _ _ refl (g.header root near) (λ h e. on_alike _ _ _ _ _ _ refl refl (λ i k. ok_alike _ i k)))
        (λ i is k. crossing_alike (root_of i.kind i.text).crossing i names k (g.inside root i near k)))

  module _ (r : Request) where
    -- at an entry's node, on or across
    over_alike : (d n : Name) (o p : Option Crossed) (names : List (List ℕ)) (j k : Result Outcome Errno) → p ≡ o → At d → At n
        → ((root : Name) → o ≡ Some (Active root) → root_on v n ≡ Some root) → Alike (OutcomeShown At Entries T v r.flags) j k → Alike (OutcomeShown At Entries T v r.flags) (over v q r d n o names j) (over w q r d n p names k)
    over_alike d n None p names j k same at here active onward = rw same onward
    over_alike d n (Some (Active root)) p names j k same at here active onward =
        rw same (given_alike _ _ _ _ _ _ refl refl (λ e. cross_alike r d root at (g.over_to n root (g.near n here) (active root refl)) names))
    over_alike d n (Some (Waiting words)) p names j k same at here active onward = rw same (given_alike _ _ _ _ _ _ refl refl (λ e. ok_alike _ _ (record { on = here; leads = tt })))

    -- after one name
    stepped_alike : (d : Name) (name : List ℕ) (names : List (List ℕ)) (s : Next) (j k : Name → Result Outcome Errno) → At d → NextOn At Entries d s
        → ((n : Name) → At n → Alike (OutcomeShown At Entries T v r.flags) (j n) (k n)) → Alike (OutcomeShown At Entries T v r.flags) (stepped v q r d name names j s) (stepped w q r d name names k s)
    stepped_alike d name names (There n) j k at here onward = onward n here
    stepped_alike d name names (Entry n) j k at here onward =
        over_alike d n _ _ names (j n) (k n) (ap (λ (o : Option Crossed). if is_last names && asks r.flags NOTRANS then None else o) (g.crossed n (g.near n here))) at here (is_active v r n names) (onward n here)
    stepped_alike d name names Back j k at here onward = back_alike r names q.ways ways
    stepped_alike d name names (Branch b) j k at here onward = ok_alike _ (go_into q r b (name ∷ names)) (shown (record { node = here; ids = inl refl; ways = into_branch q.ways ways b here }))
    stepped_alike d name names Absent j k at here onward = given_alike _ _ _ _ _ _ refl refl (λ e. make_alike g q taken ways r d name here)

    -- along the names
    pub walk_alike : (d : Name) (names : List (List ℕ)) → At d → Alike (OutcomeShown At Entries T v r.flags) (walk v q r d names) (walk w q r d names)
    walk_alike d [] at = given_alike _ _ _ _ _ _ refl refl (λ e. open_alike g q taken ways r d q.ways at ways)
    walk_alike d (name ∷ names) at = first_alike _ _ _ _ _ _ (step_alike d name at) (λ s is here. stepped_alike d name names s _ _ at here (λ n there. walk_alike n names there))
