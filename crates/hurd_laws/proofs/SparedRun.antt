-- What stays over a run: each call leaves a part that is spared, or it goes unseen; and a file that its callers are apart from.
use Rattle.std.proofs.Common.{◌≡◌, ◌≢◌, ◌⊎◌, ◌∙◌, ℕ, Bool, true, false, List, [], ◌∷◌, Some, refl, sym, ap, subst, inl, inr}
use Rattle.hurd_creds.specs.declared.attrs.Kind.TheVariants.{Dir}
use Rattle.hurd_machine.proofs.Common.{AttrOf, BodyOf, Call, Header, Name, Node, Part, Sound, TaskOf, World, body_at, get, header_at, part}
use Rattle.hurd_machine.specs.Sound.{Below}
use Rattle.hurd_machine.proofs.Coherence.{header_old}
use Rattle.hurd_machine.proofs.Frame.{gone_kept}
use Rattle.hurd_machine.proofs.Nodes.{body_in, header_in, node_of_header}
use Rattle.hurd_laws.specs.Step.{after, plan, touches}
use Rattle.hurd_laws.specs.Laws.{IsOld}
use Rattle.hurd_laws.specs.Runs.{TaskCall, run}
use Rattle.hurd_laws.specs.Integrity.{Entered, Gone, IsDelivered, IsLost, MayBody, MayChange, SameOwned, ToDrain, ToEnter, ToWrite}
use Rattle.hurd_machine.specs.Sight.{IsThing}
use Rattle.hurd_laws.specs.Spared.{Apart, IntegrityRun, IsApart, SparedFile, SparedPart}
use Rattle.hurd_laws.proofs.Assembled.{stays_sound}
use Rattle.hurd_laws.proofs.Integrity.{parts_kept, stepped, untouched}
use Rattle.hurd_laws.proofs.Reasons.{below_all, both_owned, same_owned}
use Rattle.hurd_laws.proofs.Rows.{call_laws}

-- what was there before stays so

below_after : (w : World) (t : ℕ) (c : Call) → Sound w → (n : Name) → Below w n → Below (after w t c) n
below_after w t c s = let q = ((call_laws t c).laws.piece w s).piece in below_all (plan w t c).changes w s.coherent q.proper

old_after : (w : World) (t : ℕ) (c : Call) → Sound w → (p : Part) → IsOld w p → IsOld (after w t c) p
old_after w t c s (TaskOf q) old = tt
old_after w t c s p old = below_after w t c s _ old

-- parts

pub no_task : (p : Part) (t : ℕ) → IsThing p → p ≢ TaskOf t
no_task (TaskOf q) t thing e = thing
no_task p t thing e = absurd (cc (e))

not_delivered : (S : ℕ → Bool) (w x : World) (p : Part) → IsThing p → IsDelivered S w x p → ⊥
not_delivered S w x (TaskOf q) thing d = thing
not_delivered S w x p thing d = d

module _ (S : ℕ → Bool) where
  -- one call
  step_spared : (w : World) (t : ℕ) (c : Call) (p : Part) → Sound w → IsThing p → IsOld w p → (S t ≡ true → MayChange S w p → ⊥) → (S t ≡ false → touches w t c p → ⊥)
      → (part (after w t c) p ≡ part w p) ⊎ IsLost (after w t c) p
  step_spared w t c p s thing old own other = by (S t) refl
    where
      by : (b : Bool) → S t ≡ b → (part (after w t c) p ≡ part w p) ⊎ IsLost (after w t c) p
      by true ours = elim (parts_kept w t c s S p ours old (own ours)) [ inl same ↦ inl same | inr o ↦ elim o [ inl lost ↦ inr lost | inr d ↦ absurd (not_delivered S w (after w t c) p thing d) ] ]
      by false theirs = untouched w t c p s old (other theirs) (no_task p t thing)

  part_spared : (ms : List TaskCall) (w : World) (p : Part) → Sound w → SparedPart S w ms (run w ms) p
  part_spared [] w p s thing old spared = inl refl
  part_spared (m ∷ ms) w p s thing old spared =
      let x = after w m.task m.call in
      let rest = part_spared ms x p (stays_sound w m.task m.call s) thing (old_after w m.task m.call s p old) spared.1 in
      elim (step_spared w m.task m.call p s thing old spared.0.0 spared.0.1) [
        | inl same ↦ elim rest [ inl e ↦ inl (e ∙ same) | inr k ↦ inr (k.0, inr k.1) ]
        | inr lost ↦ elim rest [ inl e ↦ inr (gone_kept x (run x ms) p e lost.0, inl lost) | inr k ↦ inr (k.0, inr k.1) ]
      ]

  -- files

  -- a node that was there, with what a file keeps
  record Was (w : World) (n : Name) (z : Node) : Type 0 where
    node : Node
    is_node : get w.nodes n ≡ Some node
    owned : SameOwned node.header z.header
    body : z.body ≡ node.body

  -- what is apart from a file may not change what is in it
  body_apart : (w : World) (n : Name) (old : Node) → get w.nodes n ≡ Some old → old.header.kind ≢ Dir → IsApart S w n → MayBody S w n → ⊥
  body_apart w n old is file apart (ToWrite h) = apart.unwritten h
  body_apart w n old is file apart (ToDrain h stream) = apart.undrained h stream
  body_apart w n old is file apart (ToEnter (Entered e)) = let same : old.header ≡ e.header = cc (ap header_in is, e.is_header) in file (ap (λ (h : Header). h.kind) same ∙ e.kind)
  body_apart w n old is file apart (ToEnter (Gone s rules home)) = apart.served s home rules

  body_there : (x w : World) (n : Name) (z : Node) → get x.nodes n ≡ Some z → (part x (BodyOf n) ≡ part w (BodyOf n)) ⊎ IsLost x (BodyOf n) → body_at w n ≡ Some z.body
  body_there x w n z is (inl same) = let e : body_at x n ≡ body_at w n = cc (same) in sym e ∙ ap body_in is
  body_there x w n z is (inr lost) = let e = lost.0 in absurd (cc (e, ap body_in is))

  header_there : (x w : World) (n : Name) (z : Node) → get x.nodes n ≡ Some z → (part x (AttrOf n) ≡ part w (AttrOf n)) ⊎ IsLost x (AttrOf n) → header_at w n ≡ Some z.header
  header_there x w n z is (inl same) = let e : header_at x n ≡ header_at w n = cc (same) in sym e ∙ ap header_in is
  header_there x w n z is (inr lost) = let e = lost.0 in absurd (cc (e, ap header_in is))

  module _ (w : World) (m : TaskCall) (n : Name) (s : Sound w) (b : Below w n) (z : Node) (is : get (after w m.task m.call).nodes n ≡ Some z) (file : z.header.kind ≢ Dir) where
    abbrev x : World
    x = after w m.task m.call

    -- a call of S, which is apart from the file
    own_call : S m.task ≡ true → IsApart S w n → Was w n z
    own_call ours apart =
        let since = stepped S w m.task m.call s ours n b z is in
        let owned = since.header.owned apart.unowned in
        let still : since.node.header.kind ≢ Dir = λ dir. file (owned.kind ∙ dir) in
        let stayed : (part x (BodyOf n) ≡ part w (BodyOf n)) ⊎ IsLost x (BodyOf n) = step_spared w m.task m.call (BodyOf n) s tt b (λ o. body_apart w n since.node since.is_node still apart) (λ theirs. absurd (cc (ours, theirs))) in
        let body : body_at w n ≡ Some z.body = body_there x w n z is stayed in
        let same : z.body ≡ since.node.body = cc (body, ap body_in since.is_node) in
        record { node = since.node; is_node = since.is_node; owned = owned; body = same }

    -- a call of another, which touches it not
    other_call : S m.task ≡ false → (touches w m.task m.call (AttrOf n) → ⊥) → (touches w m.task m.call (BodyOf n) → ⊥) → Was w n z
    other_call theirs attrs body =
        let header : header_at w n ≡ Some z.header = header_there x w n z is (untouched w m.task m.call (AttrOf n) s b attrs (no_task (AttrOf n) m.task tt)) in
        let k = node_of_header (get w.nodes n) z.header header in
        let now : body_at w n ≡ Some z.body = body_there x w n z is (untouched w m.task m.call (BodyOf n) s b body (no_task (BodyOf n) m.task tt)) in
        let same : z.body ≡ k.0.body = cc (now, ap body_in k.1) in
        record { node = k.0; is_node = k.1; owned = subst (λ (h : Header). SameOwned k.0.header h) k.2 (same_owned k.0.header); body = same }

    one_call : (b : Bool) → S m.task ≡ b → (S m.task ≡ true → IsApart S w n) → (S m.task ≡ false → (touches w m.task m.call (AttrOf n) → ⊥) × (touches w m.task m.call (BodyOf n) → ⊥)) → Was w n z
    one_call true e own other = own_call e (own e)
    one_call false e own other = other_call e (other e).0 (other e).1

  node_spared : (ms : List TaskCall) (w : World) (n : Name) → Sound w → Below w n → Apart S w ms n → (z : Node) → get (run w ms).nodes n ≡ Some z → z.header.kind ≢ Dir → Was w n z
  node_spared [] w n s b apart z is file = record { node = z; is_node = is; owned = same_owned z.header; body = refl }
  node_spared (m ∷ ms) w n s b apart z is file =
      let rest = node_spared ms (after w m.task m.call) n (stays_sound w m.task m.call s) (below_after w m.task m.call s n b) apart.1 z is file in
      let still : rest.node.header.kind ≢ Dir = λ dir. file (rest.owned.kind ∙ dir) in
      let first = one_call w m n s b rest.node rest.is_node still (S m.task) refl apart.0.0 apart.0.1 in
      record { node = first.node; is_node = first.is_node; owned = both_owned first.owned rest.owned; body = rest.body ∙ first.body }

  file_spared : (ms : List TaskCall) (w : World) (n : Name) → Sound w → SparedFile S w ms (run w ms) n
  file_spared ms w n s h k is file apart e =
      let z = node_of_header (get (run w ms).nodes n) k e in
      let was = node_spared ms w n s (header_old s.coherent n h is) apart z.0 z.1 (λ dir. file (ap (λ (q : Header). q.kind) (sym z.2) ∙ dir)) in
      let old : was.node.header ≡ h = cc (ap header_in was.is_node, is) in (
        subst (λ (q : Header). SameOwned q k) old (subst (SameOwned was.node.header) z.2 was.owned),
        ap body_in z.1 ∙ ap Some was.body ∙ sym (ap body_in was.is_node),
      )

pub integrity_run : IntegrityRun
integrity_run w ms s = record { parts = λ S p. part_spared S ms w p s; files = λ S n. file_spared S ms w n s }
