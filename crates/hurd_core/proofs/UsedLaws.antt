-- What settles was used by nobody: each node that a right is to use has the server that it had.
use Rattle.std.proofs.Common.{◌≡◌, ◌∙◌, ℕ, zero, suc, Bool, true, false, cond, List, Option, Some, None, refl, sym, ap, inl, inr, slice_get, is_some}
use Rattle.std.proofs.lemmas.Bool.{or_left}
use Rattle.hurd_machine.proofs.Common.{Control, Io, IsAmong, Name, NodeState, Outside, Right, ServerInfo, Start, Task, count_rights, get, home_in, is_one, node_stays, outside_by, rights_of, uses_server}
use Rattle.hurd_nodes.specs.Settle.{AreServed, server_stays, named, sweep, sweeps, size, settle}
use Rattle.hurd_nodes.proofs.PartLaws.{cond_some}
use Rattle.hurd_nodes.proofs.Sites.{home-kept}
use Rattle.hurd_machine.proofs.Holders.{named_by_right}
use Rattle.hurd_creds.proofs.Retained.{retained}
use Rattle.hurd_machine.proofs.Stays.{HasHeld, kept_by, kept_why, server_by}
use Rattle.hurd_machine.proofs.Tasks.{count_alike}

some_there : {X : Type 0} (o : Option X) → is_some o ≡ true → (x : X) × (o ≡ Some x)
some_there None h = absurd (cc)
some_there (Some x) h = (x, refl)

module _ (o : Outside) where
  -- a node that is held stays where its server is there
  held_stays : (h : NodeState) (n s : Name) (i : ServerInfo) → home_in h.sites n ≡ Some s → get h.servers s ≡ Some i → o.held n ≡ true → node_stays (named o h) h n ≡ true
  held_stays h n s i home there held =
      let is : (named o h).held n ≡ true = or_left (o.held n) _ held in
      kept_by (named o h) h n (record { server = s; info = i; is_home = home; is_info = there; lives = server_by (named o h) h s (HasHeld n home is); why = inr (inr is) })

  module _ (h : NodeState) (served : AreServed h) where
    -- so its home is what it was
    sweep_home : (n : Name) → o.held n ≡ true → home_in (sweep o h).sites n ≡ home_in h.sites n
    sweep_home n held = home-kept h.sites (node_stays (named o h) h) n ∙ by (home_in h.sites n) refl
      where
        nothing : (b : Bool) (u : Option Name) → u ≡ None → cond b u None ≡ u
        nothing true u e = refl
        nothing false u e = sym e

        by : (u : Option Name) → home_in h.sites n ≡ u → cond (node_stays (named o h) h n) (home_in h.sites n) None ≡ home_in h.sites n
        by None e = nothing (node_stays (named o h) h n) (home_in h.sites n) e
        by (Some s) e =
            let i = some_there (get h.servers s) (served n s e) in
            ap (λ (b : Bool). cond b (home_in h.sites n) None) (held_stays h n s i.0 e i.1 held)

    -- and the server of each node that is left is left
    sweep_served : AreServed (sweep o h)
    sweep_served n s home =
        let left = cond_some (node_stays (named o h) h n) (home_in h.sites n) s (sym (home-kept h.sites (node_stays (named o h) h) n) ∙ home) in
        let k = kept_why (named o h) h n left.0 in
        let same : Some k.server ≡ Some s = sym k.is_home ∙ left.1 in
        let is : k.server ≡ s = cc in
        ap is_some (ap (get (sweep o h).servers) (sym is) ∙ retained h.servers (server_stays (named o h) h) k.server k.lives ∙ k.is_info)

  sweeps_home : (k : ℕ) (h : NodeState) → AreServed h → (n : Name) → o.held n ≡ true → home_in (sweeps o k h).sites n ≡ home_in h.sites n
  sweeps_home zero h served n held = refl
  sweeps_home (suc k) h served n held = sweeps_home k (sweep o h) (sweep_served h served) n held ∙ sweep_home h served n held

  pub settle_home : (h : NodeState) → AreServed h → (n : Name) → o.held n ≡ true → home_in (settle o h).sites n ≡ home_in h.sites n
  unfolding settle
  settle_home h served n held = sweeps_home (size h) h served n held

-- so a server has as many users
pub settle_users : (h : NodeState) (ts : List Task) → AreServed h → (s : Name) → count_rights (uses_server (settle (outside_by ts) h).sites s) ts ≡ count_rights (uses_server h.sites s) ts
settle_users h ts served s = count_alike (uses_server (settle (outside_by ts) h).sites s) (uses_server h.sites s) ts on
  where
    on : (t : ℕ) (x : Task) (r : Right) → slice_get ts t ≡ Some x → IsAmong r (rights_of x) → uses_server (settle (outside_by ts) h).sites s r ≡ uses_server h.sites s r
    on t x (Io r) at i = ap (is_one s) (settle_home (outside_by ts) h served r.node (named_by_right ts t x (Io r) r.node at i (inl refl)))
    on t x (Control q) at i = refl
    on t x (Start m) at i = refl
