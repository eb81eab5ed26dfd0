-- What setting and starting translators leave where things have other names, and the caller's own things keep theirs.
use Rattle.std.proofs.Common.{◌≡◌, ◌++◌, ◌||◌, not, ℕ, Bool, true, false, if◌then◌else◌, List, [], ◌∷◌, Option, Some, None, Result, Ok, Err, map, is_some, refl, sym, ap, ap₂, subst, ◌∙◌}
use Rattle.std.specs.Option.{option_map}
use Rattle.hurd_creds.specs.declared.mode.Mode.{Mode}
use Rattle.hurd_creds.specs.TransBits.{ORPHAN, SET, asks_trans}
use Rattle.hurd_trans_iface.specs.Nodes.{with_passive}
use Rattle.hurd_machine.proofs.Common.{Attach, Body, Change, DropServer, EditHeader, Errno, IdSets, Meaning, Name, Named, Node, PendingStart, Settle, Task, Unseat, World, begun_info, begun_root, root_body, fresh, is_dir}
use Rattle.hurd_trans_iface.specs.Meaning.{behaviour_of, root_of}
use Rattle.hurd_ports.specs.Steps.{named, with_pending}
use Rattle.hurd_machine.specs.declared.call.Setting.{Setting}
use Rattle.hurd_machine.specs.Plan.{Plan}
use Rattle.hurd_machine.specs.Renamed.{OtherNames, body_renamed, node_renamed, renamed, start_renamed}
use Rattle.hurd_machine.proofs.RenamedHandles.{named_renamed}
use Rattle.hurd_machine.proofs.RenamedPlans.{answer_renamed}
use Rattle.hurd_lookup.specs.Lent.{server_ids}
use Rattle.hurd_core.specs.declared.to_make.ServerToMake.{ServerToMake}
use Rattle.hurd_core.specs.Core.{attaching, leaving, starting_over}
use Rattle.hurd_fsys.specs.Setting.{emptying, leaver, plan_set_translator, seat_on, seated, seating, sets_nothing, setting_where, storing}
use Rattle.hurd_fsys.specs.Starting.{Startup, plan_start_failed, plan_startup, started, startup_asks}
use Rattle.hurd_laws.proofs.AimsRenamed.{ResolvesRenamed}
use Rattle.hurd_laws.proofs.CoreRenamed.{caller_renamed, naming_asks-renamed}
use Rattle.hurd_laws.proofs.SettingTold.{box_aims-renamed, seat_asks-renamed, setter_asks-renamed}
use Rattle.hurd_laws.proofs.StartingTold.{pending_asks-renamed, startup_asks-renamed, startup_renamed}
use Rattle.hurd_laws.specs.After.{KeepsOwn}
use Rattle.hurd_laws.proofs.Changes.{Alike, attaches, both, cons, drops_server, edits_header, edits_task, just, none, settles, unseats}
use Rattle.hurd_laws.proofs.MakingLeft.{next_is, next_kept}
use Rattle.hurd_laws.proofs.Plans.{Changing, answered-left}
use Rattle.hurd_laws.proofs.RightsLeft.{pending-left}
use Rattle.hurd_laws.proofs.SeatsLeft.{dropped-left}
use Rattle.hurd_laws.proofs.TaskChanges.{named-renamed}

module _ (f : OtherNames) where
  -- a new root has no names

  root_body-renamed : (b : Bool) (bs : List ℕ) → body_renamed f.to (root_body b bs) ≡ root_body b bs
  root_body-renamed true bs = refl
  root_body-renamed false bs = refl

  begun_root-renamed : (m : Meaning) (owner group : ℕ) (mode : Mode) → node_renamed f.to (begun_root m owner group mode) ≡ begun_root m owner group mode
  begun_root-renamed m owner group mode =
      ap (λ (b : Body). record (begun_root m owner group mode) { body = b }) (root_body-renamed (is_dir (root_of m.kind m.text).kind) ((behaviour_of m.kind).first m.text))

  -- where a server is to come, with other names
  abbrev place_renamed : ServerToMake → ServerToMake
  place_renamed p = record p { seat = f.to p.seat; instead = option_map f.to p.instead }

  leaving-left : (o : Option Name) → Alike f (leaving o) (leaving (option_map f.to o))
  leaving-left None = none f
  leaving-left (Some q) = just f (drops_server f q)

  starting_over-left : (t : ℕ) (starts : Bool) → Alike f (starting_over t starts) (starting_over t starts)
  starting_over-left t true = just f (edits_task f t (with_pending None) (with_pending None) (λ x. refl))
  starting_over-left t false = none f

  -- words that are stored
  storing-left : (s : Setting) (n : Name) (words : List (List ℕ)) → Alike f (storing s n words) (storing s (f.to n) words)
  storing-left s n words = go (asks_trans s.passive SET)
    where
      go : (b : Bool) → Alike f (if b then EditHeader n (with_passive words) ∷ [] else []) (if b then EditHeader (f.to n) (with_passive words) ∷ [] else [])
      go true = just f (edits_header f n (with_passive words) (with_passive words) (λ h. refl))
      go false = none f

  -- what goes where nothing comes
  emptying-left : (s : Setting) (n : Name) (o : Option Name) → Alike f (emptying s n o) (emptying s (f.to n) (option_map f.to o))
  emptying-left s n None = none f
  emptying-left s n (Some q) = go (not (asks_trans s.active SET)) (asks_trans s.active ORPHAN)
    where
      go : (a b : Bool) → Alike f (if a then [] else (if b then Unseat n ∷ (Settle ∷ []) else DropServer q ∷ (Settle ∷ [])))
          (if a then [] else (if b then Unseat (f.to n) ∷ (Settle ∷ []) else DropServer (f.to q) ∷ (Settle ∷ [])))
      go true b = none f
      go false true = cons f (unseats f n) (just f (settles f))
      go false false = dropped-left f q

  leaver-renamed : (s : Setting) (o : Option Name) → leaver s (option_map f.to o) ≡ option_map f.to (leaver s o)
  leaver-renamed s o = go (not (asks_trans s.active SET) || asks_trans s.active ORPHAN)
    where
      go : (b : Bool) → (if b then None else option_map f.to o) ≡ option_map f.to (if b then None else o)
      go true = refl
      go false = refl

  module _ (t : ℕ) (keeps : KeepsOwn f t) where
    -- the name after the next is kept too
    after_next : (x : Task) → fresh t (named 1 (caller_renamed f x)) ≡ f.to (fresh t (named 1 x))
    after_next x = ap (fresh t) (named-renamed f 0 1 x) ∙ next_is f t keeps (named 1 x) ∙ sym (next_kept f t keeps (named 1 x))

    pub attaching-left : (p : ServerToMake) (ids : IdSets) (targets : List Name) (m : Meaning) (x : Task)
        → Alike f (attaching t p ids targets m x) (attaching t (place_renamed p) ids (map f.to targets) m (caller_renamed f x))
    attaching-left p ids targets m x =
        let s = fresh t x in
        let info = begun_info m (fresh t (named 1 x)) ids targets in
        let root = begun_root m p.owner p.group p.mode in
        let whole = both f (leaving-left p.instead) (cons f (attaches f s p.seat info root (next_kept f t keeps x)) (both f (starting_over-left t p.starts) (just f (settles f)))) in
        let with : Name → Name → Node → List Change = λ q r y. leaving (option_map f.to p.instead) ++ (Attach q (f.to p.seat) (begun_info m r ids (map f.to targets)) y ∷ (starting_over t p.starts ++ (Settle ∷ []))) in
        subst (λ (ds : List Change). Alike f (attaching t p ids targets m x) ds)
        (sym (ap (λ (q : Name). with q (fresh t (named 1 (caller_renamed f x))) root) (next_is f t keeps x) ∙ ap₂ (λ (r : Name) (y : Node). with s r y) (after_next x) (sym (begun_root-renamed m p.owner p.group p.mode)))) whole

    -- file_set_translator, where paths lead to the same nodes

    module _ (w : World) (resolves : ResolvesRenamed f w) where
      module _ (s : Setting) (words : List (List ℕ)) where
        seated-left : (n : Named) (box : Option Meaning) (old : Option Name) (targets : List Name)
            → Changing f (seated w t n s words box old targets) (seated (renamed f w) t (named_renamed f n) s words box (option_map f.to old) (map f.to targets))
        seated-left n None old targets = both f (storing-left s n.right.node words) (emptying-left s n.right.node old)
        seated-left n (Some m) old targets = answered-left f (caller_renamed f) _ _ _ (naming_asks-renamed f w t keeps.none 2) (λ x.
            let whole = both f (storing-left s n.right.node words) (attaching-left (seat_on n.right.node n.header m (leaver s old) false) (server_ids n.header.owner) targets m x) in
            let with : Option Name → List Change = λ o. storing s (f.to n.right.node) words ++ attaching t (seat_on (f.to n.right.node) n.header m o false) (server_ids n.header.owner) (map f.to targets) m (caller_renamed f x) in
            subst (λ (ds : List Change). Alike f (storing s n.right.node words ++ attaching t (seat_on n.right.node n.header m (leaver s old) false) (server_ids n.header.owner) targets m x) ds) (sym (ap with (leaver-renamed s old))) whole)

        seating-left : (n : Named) (box : Option Meaning) (old : Option Name) → Changing f (seating w t n s words box old) (seating (renamed f w) t (named_renamed f n) s words box (option_map f.to old))
        seating-left n box old = answered-left f (map f.to) _ _ _ (box_aims-renamed f w resolves n box) (seated-left n box old)

        setting_where-left : (nothing : Bool) (n : Named) (box : Option Meaning) → Changing f (setting_where nothing w t s words box n) (setting_where nothing (renamed f w) t s words box (named_renamed f n))
        setting_where-left true n box = none f
        setting_where-left false n box = answered-left f (option_map f.to) _ _ _ (seat_asks-renamed f w s n) (seating-left n box)

      pub set_translator-left : (p : ℕ) (s : Setting) (words : List (List ℕ)) (box : Option Meaning) → Changing f (plan_set_translator w t p s words box) (plan_set_translator (renamed f w) t p s words box)
      set_translator-left p s words box = answered-left f (named_renamed f) _ _ _ (setter_asks-renamed f w t p s (is_some box)) (λ n. setting_where-left s words (sets_nothing s) n box)

      -- fsys_startup

      module _ (m : Meaning) where
        started-left : (s : PendingStart) (found : Result Startup Errno) → Changing f (started t s m found) (started t (start_renamed f.to s) m (answer_renamed (startup_renamed f) found))
        started-left s (Ok a) = attaching-left (seat_on s.node a.header m None true) (server_ids a.header.owner) a.targets m a.task
        started-left s (Err e) = pending-left f t None

        pub startup-left : Changing f (plan_startup w t m) (plan_startup (renamed f w) t m)
        startup-left = answered-left f (start_renamed f.to) _ _ _ (pending_asks-renamed f w t) (λ s.
            subst (λ (found : Result Startup Errno). Changing f (started t s m (startup_asks w t m s)) (started t (start_renamed f.to s) m found)) (sym (startup_asks-renamed f w resolves t keeps.none m s))
            (started-left s (startup_asks w t m s)))

  -- start_failed
  pub start_failed-left : (w : World) (t : ℕ) → Changing f (plan_start_failed w t) (plan_start_failed (renamed f w) t)
  start_failed-left w t = answered-left f (start_renamed f.to) _ _ _ (pending_asks-renamed f w t) (λ s. pending-left f t None)
