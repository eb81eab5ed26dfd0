-- How many opens read and write a node, where its server is told: what leaves that as it was.
use Rattle.std.proofs.Common.{◌≡◌, ◌≢◌, ℕ, ◌+◌, ◌&&◌, Bool, true, false, true≢false, List, Option, Some, None, sym, refl, ◌∙◌, ap, ap₂, arith}
use Rattle.std.specs.Prelude.{if◌then◌else◌}
use Rattle.std.specs.Option.{option_map}
use Rattle.hurd_machine.proofs.Common.{MakeNode, Name, NameMap, Node, OpenMap, Opened, ServerInfo, Task, World, apply, counts_at, counts_by, counts_opens, edit, ends_at, ends_of, get, home_at, info_at, info_in, insert, is_end, is_held, keeps_tree, new_site, one_if, remove, same_name, with_text}
use Rattle.hurd_creds.specs.Bits.{READ, WRITE}
use Rattle.hurd_creds.proofs.NameLaws.{same_name-apart}
use Rattle.hurd_trans_iface.specs.declared.begun.ServerKind.{ServerKind}
use Rattle.hurd_trans_iface.proofs.Goods.{good}
use Rattle.hurd_nodes.proofs.Sites.{home-here}
use Rattle.hurd_ports.specs.declared.table.Ends.{Ends}
use Rattle.hurd_ports.specs.Steps.{settled_at}
use Rattle.hurd_ports.specs.Tables.{ends}
use Rattle.hurd_ports.proofs.EndLaws.{ends-made, ends-gone, ends-absent, ends-kept, ends-none}
use Rattle.hurd_machine.proofs.Nodes.{edit_keeps}
use Rattle.hurd_machine.proofs.Coherence.{GoodNode, KeepsEnds}

-- where a server is told the same way, of as many opens
pub ends_by : (x y : World) (n : Name) → counts_at y n ≡ counts_at x n → (counts_at x n ≡ true → ends_of y.opens n ≡ ends_of x.opens n) → ends_at y n ≡ ends_at x n
ends_by x y n counts same = ap (λ (b : Bool). if b then Some (ends_of y.opens n) else None) counts ∙ go (counts_at x n) same
  where
    go : (b : Bool) → (b ≡ true → ends_of y.opens n ≡ ends_of x.opens n) → (if b then Some (ends_of y.opens n) else None) ≡ (if b then Some (ends_of x.opens n) else None)
    go true same = ap Some (same refl)
    go false same = refl

-- where its server is as it was, and all opens are
pub ends_same : (x y : World) (n : Name) → info_at y n ≡ info_at x n → y.opens ≡ x.opens → ends_at y n ≡ ends_at x n
ends_same x y n info opens = ends_by x y n (ap counts_by info) (λ counts. ap (λ (m : OpenMap). ends_of m n) opens)

-- without a server there are none
pub ends_gone : (y : World) (n : Name) → home_at y n ≡ None → ends_at y n ≡ None
ends_gone y n home = ap (λ (b : Bool). if b then Some (ends_of y.opens n) else None) (ap (λ o. counts_by (info_in y.servers o)) home)

-- what follows where they are the same in two worlds
pub ends_told : (x y : World) (n : Name) → ends_at y n ≡ ends_at x n → (counts_at y n ≡ counts_at x n) × (counts_at x n ≡ true → ends_of y.opens n ≡ ends_of x.opens n)
ends_told x y n = go (counts_at x n) (counts_at y n)
  where
    go : (a b : Bool) → (if b then Some (ends_of y.opens n) else None) ≡ (if a then Some (ends_of x.opens n) else None) → (b ≡ a) × (a ≡ true → ends_of y.opens n ≡ ends_of x.opens n)
    go true true e = (refl, λ yes. cc)
    go true false e = absurd (cc)
    go false true e = absurd (cc)
    go false false e = (refl, λ no. absurd (true≢false (sym no)))

-- both counts at once
both_ends : (m k : OpenMap) (n : Name) → ends m n READ ≡ ends k n READ → ends m n WRITE ≡ ends k n WRITE → ends_of m n ≡ ends_of k n
both_ends m k n reads writes = ap₂ (λ (r w : ℕ). let e : Ends = record { readers = r; writers = w } in e) reads writes

-- an open of another node is none of this one
pub other_end : (n : Name) (mode : ℕ) (z : Opened) → z.node ≢ n → one_if (is_end n mode z) ≡ 0
other_end n mode z apart = let no = same_name-apart n z.node (λ e. apart (sym e)) in rw no refl

module _ (m : OpenMap) (n : Name) where
  -- an open of another node, which is made, or goes, or one that changes and is for what it was

  made_one : (o : Name) (z : Opened) → get m o ≡ None → z.node ≢ n → (mode : ℕ) → ends (insert m o z) n mode ≡ ends m n mode
  made_one o z none apart mode = let all = ends-made m n mode o z none in let out = other_end n mode z apart in omega arith

  pub ends_made_apart : (o : Name) (z : Opened) → get m o ≡ None → z.node ≢ n → ends_of (insert m o z) n ≡ ends_of m n
  ends_made_apart o z none apart = both_ends (insert m o z) m n (made_one o z none apart READ) (made_one o z none apart WRITE)

  gone_one : (o : Name) → ((z : Opened) → get m o ≡ Some z → z.node ≢ n) → (mode : ℕ) → ends (remove m o) n mode ≡ ends m n mode
  gone_one o apart mode = go (get m o) refl
    where
      go : (u : Option Opened) → get m o ≡ u → ends (remove m o) n mode ≡ ends m n mode
      go None is = ends-absent m n mode o is
      go (Some z) is = let all = ends-gone m n mode o z is in let out = other_end n mode z (apart z is) in omega arith

  pub ends_let_go_apart : (ts : List Task) (o : Name) → ((z : Opened) → get m o ≡ Some z → z.node ≢ n) → ends_of (settled_at (is_held ts) o m) n ≡ ends_of m n
  ends_let_go_apart ts o apart = go (is_held ts o)
    where
      go : (b : Bool) → ends_of (if b then m else remove m o) n ≡ ends_of m n
      go true = refl
      go false = both_ends (remove m o) m n (gone_one o apart READ) (gone_one o apart WRITE)

  pub ends_edited : (o : Name) (f : Opened → Opened) → KeepsEnds f → ends_of (edit o f m) n ≡ ends_of m n
  ends_edited o f keeps =
      both_ends (edit o f m) m n (ends-kept m n READ o f (λ z. ap₂ (λ k b. same_name n k && b) (keeps z).0 (keeps z).1))
      (ends-kept m n WRITE o f (λ z. ap₂ (λ k b. same_name n k && b) (keeps z).0 (keeps z).2))

  -- a node that no open is of
  pub ends_fresh : ((o : Name) (z : Opened) → get m o ≡ Some z → z.node ≢ n) → ends_of m n ≡ record { readers = 0; writers = 0 }
  ends_fresh apart = ap₂ (λ (r w : ℕ). let e : Ends = record { readers = r; writers = w } in e) (ends-none m n READ apart) (ends-none m n WRITE apart)

-- opens of which as many are of a node, in two maps: where one is made in both, or goes from both, that stays so
module _ (m k : OpenMap) (n : Name) (same : ends_of k n ≡ ends_of m n) where
  pub ends_made_alike : (o : Name) (z : Opened) → get m o ≡ None → get k o ≡ None → ends_of (insert k o z) n ≡ ends_of (insert m o z) n
  ends_made_alike o z one two = both_ends (insert k o z) (insert m o z) n (by READ (ap (λ (e : Ends). e.readers) same)) (by WRITE (ap (λ (e : Ends). e.writers) same))
    where
      by : (mode : ℕ) → ends k n mode ≡ ends m n mode → ends (insert k o z) n mode ≡ ends (insert m o z) n mode
      by mode e = ends-made k n mode o z two ∙ ap (λ (i : ℕ). i + one_if (is_end n mode z)) e ∙ sym (ends-made m n mode o z one)

  pub ends_let_go_alike : (ts us : List Task) (o : Name) → is_held us o ≡ is_held ts o → get k o ≡ get m o → ends_of (settled_at (is_held us) o k) n ≡ ends_of (settled_at (is_held ts) o m) n
  ends_let_go_alike ts us o held stands = ap (λ (b : Bool). ends_of (if b then k else remove k o) n) held ∙ go (is_held ts o)
    where
      by : (mode : ℕ) (u : Option Opened) → get m o ≡ u → ends k n mode ≡ ends m n mode → ends (remove k o) n mode ≡ ends (remove m o) n mode
      by mode None is e = ends-absent k n mode o (stands ∙ is) ∙ e ∙ sym (ends-absent m n mode o is)
      by mode (Some z) is e = let here = ends-gone m n mode o z is in let there = ends-gone k n mode o z (stands ∙ is) in omega arith

      go : (b : Bool) → ends_of (if b then k else remove k o) n ≡ ends_of (if b then m else remove m o) n
      go true = same
      go false = both_ends (remove k o) (remove m o) n (by READ (get m o) refl (ap (λ (e : Ends). e.readers) same)) (by WRITE (get m o) refl (ap (λ (e : Ends). e.writers) same))

-- whether a server is told doesn't go by its text
pub counts_text : (m : NameMap ServerInfo) (s : Name) (text : List ℕ) (o : Option Name) → counts_by (info_in (edit s (with_text text) m) o) ≡ counts_by (info_in m o)
counts_text m s text None = refl
counts_text m s text (Some q) = edit_keeps counts_by (with_text text) (λ i. kind i) m s q
  where
    kind : (i : Option ServerInfo) → counts_by (option_map (with_text text) i) ≡ counts_by i
    kind None = refl
    kind (Some i) = refl

-- what keeps a tree is told of nobody
pub tree_counts : (k : ServerKind) → keeps_tree k ≡ true → counts_opens k ≡ false
tree_counts k tree = (good k).uncounted tree

-- nor is the server of a node that it made
pub made_uncounted : (w : World) (n s : Name) (node : Node) → GoodNode w s node → counts_at (apply (MakeNode n s node) w) n ≡ false
made_uncounted w n s node good = ap (λ o. counts_by (info_in w.servers o)) (home-here w.sites n (new_site s)) ∙ ap counts_by good.is_server ∙ tree_counts good.info.kind good.tree
