-- The law that a step changes only what its caller may change.
use Rattle.std.proofs.Common.{◌≡◌, ◌≢◌, ◌⊎◌, ◌∙◌, ℕ, Bool, true, List, Option, Some, None, refl, sym, ap, subst, inl, inr}
use Rattle.hurd_trans_iface.specs.Answers.{entry_of}
use Rattle.hurd_machine.proofs.Common.{Body, Call, Header, Name, Node, Part, Sound, TaskOf, World, active_at, body_at, get, header_at, part}
use Rattle.hurd_machine.specs.Sound.{Below}
use Rattle.hurd_machine.proofs.Coherence.{header_old}
use Rattle.hurd_machine.proofs.Frame.{Full}
use Rattle.hurd_machine.proofs.Nodes.{body_in, header_in, node_of_header}
use Rattle.hurd_laws.specs.Step.{after, plan, touches}
use Rattle.hurd_laws.specs.Laws.{IsOld}
use Rattle.hurd_laws.specs.Integrity.{ByReason, EntryByReason, Integrity, IsDelivered, IsLost, MayChange, MaySeat}
use Rattle.hurd_laws.proofs.Assembled.{old_named}
use Rattle.hurd_laws.proofs.CallReasons.{all_reasoned}
use Rattle.hurd_laws.proofs.Ends.{Stays, ends_stays}
use Rattle.hurd_laws.proofs.Reasons.{Since, since_all}
use Rattle.hurd_laws.proofs.Rows.{call_laws}

-- parts

-- what a call doesn't touch stays, or goes unseen
pub untouched : (w : World) (t : ℕ) (c : Call) (p : Part) → Sound w → IsOld w p → (touches w t c p → ⊥) → p ≢ TaskOf t → Stays w (after w t c) p
untouched w t c p s old apart other =
    let r = call_laws t c in
    let q = (r.laws.piece w s).piece in
    ends_stays w p (Full w t (touches w t c)) unwritten (λ u. true) (plan w t c).changes (all_reasoned (r.reasons (λ u. true) w s.coherent refl)) s.coherent q.proper q.within
  where
    unwritten : Full w t (touches w t c) p → ⊥
    unwritten (inl on) = apart on
    unwritten (inr (inl own)) = other own
    unwritten (inr (inr new)) = old_named w p old new

-- one's own task one may change
own_may : (S : ℕ → Bool) (w : World) (t : ℕ) → S t ≡ true → (p : Part) → (MayChange S w p → ⊥) → p ≢ TaskOf t
own_may S w t ours p out e = out (subst (MayChange S w) (sym e) ours)

pub parts_kept : (w : World) (t : ℕ) (c : Call) → Sound w → (S : ℕ → Bool) (p : Part) → S t ≡ true → IsOld w p → (MayChange S w p → ⊥)
    → (part (after w t c) p ≡ part w p) ⊎ (IsLost (after w t c) p ⊎ IsDelivered S w (after w t c) p)
parts_kept w t c s S p ours old out = elim ((call_laws t c).may S w s ours p out) [
  | inl apart ↦ elim (untouched w t c p s old apart (own_may S w t ours p out)) [ inl same ↦ inl same | inr lost ↦ inr (inl lost) ]
  | inr sent ↦ inr (inr sent)
]

-- nodes

-- what a node has become by a step of S
pub stepped : (S : ℕ → Bool) (w : World) (t : ℕ) (c : Call) → Sound w → S t ≡ true → (n : Name) → Below w n → (z : Node) → get (after w t c).nodes n ≡ Some z → Since S w (after w t c) n z
stepped S w t c s ours =
    let r = call_laws t c in
    since_all S w true (plan w t c).changes s.coherent (r.laws.piece w s).piece.proper (all_reasoned (r.reasons S w s.coherent ours))

-- a body is of a node that is there
node_of_body : (o : Option Node) (b : Body) → body_in o ≡ Some b → (x : Node) × (o ≡ Some x) × (x.body ≡ b)
node_of_body None b e = absurd (cc)
node_of_body (Some x) b e = (x, refl, cc)

pub integrity : Integrity
integrity w t c s = record { parts = parts_kept w t c s; attributes = attributes; entries = entries }
  where
    attributes : (S : ℕ → Bool) (n : Name) (h k : Header) → S t ≡ true → header_at w n ≡ Some h → header_at (after w t c) n ≡ Some k → ByReason S w n h k × ((MaySeat S w n → ⊥) → active_at (after w t c) n ≡ active_at w n)
    attributes S n h k ours is e =
        let z = node_of_header (get (after w t c).nodes n) k e in
        let since = stepped S w t c s ours n (header_old s.coherent n h is) z.0 z.1 in
        let old : since.node.header ≡ h = cc (ap header_in since.is_node, is) in
        (subst (λ (x : Header). ByReason S w n x k) old (subst (ByReason S w n since.node.header) z.2 since.header), since.seat)

    entries : (S : ℕ → Bool) (d : Name) (name : List ℕ) (h : Header) (b : Body) → S t ≡ true → header_at w d ≡ Some h → body_at (after w t c) d ≡ Some b → EntryByReason S w d name b
    entries S d name h b ours is e =
        let z = node_of_body (get (after w t c).nodes d) b e in
        let since = stepped S w t c s ours d (header_old s.coherent d h is) z.0 z.1 in
        let kept = since.entry name in
        let old : body_at w d ≡ Some since.node.body = ap body_in since.is_node in
        let now : entry_of name (Some z.0.body) ≡ entry_of name (Some b) = ap (λ (x : Body). entry_of name (Some x)) z.2 in
        record {
          stays = λ n at out. sym now ∙ kept.stays n at out (ap (entry_of name) (sym old) ∙ at);
          free = λ at out. sym now ∙ kept.free at out (ap (entry_of name) (sym old) ∙ at);
        }
