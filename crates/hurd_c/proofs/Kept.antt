-- What C keeps, as a machine value: what its fields own, and the box, if there is one.
use mathlib.Core.Path.{◌≡◌, refl, subst}
use mathlib.Core.List.{List, [], ◌∷◌, ◌++◌}
use Prim.Native.Nat.{ℕ}
use seplogic.Ra.Ura.{Ura}
use mir.Syntax.{impl, tnil, dnil}
use mir.Raw.{raw as bare}
use mir.Val.{Val, vstruct, vnil, vcons, of_list}
use base.Logic.{SProp, ent, via, snd∗, never_e, guard, guard_i}
use base.Fml.{ftrue}
use types.Logic.{Logic, sem}
use types.Kit.{Goal, Item, Seq, Step, step, ‵, given, ◌$◌, move, drop, use1, learn, fsplit, fjoin, fpick, fpack, feq_l, feq_i}
use contract.Monad.{fact_use}
use denote.RattleType.{RattleType, Valss}
use denote.Builtin.{RawPtr}
use denote.Memory.{lone}
use denote.RawPtr.{Ptr, block_ptr, null_ptr, ptr_val, lies_at, Testable}
use base.Fraction.{full_share}
use denote.Signature.{Slot, plain}
use denote.Steps.{nothing}
use denote.Struct.Struct.{within}
use denote.Struct.Owning.{shape}
use Rattle.core.proofs.alloc.Calls.{Fits, handle_tells}
use Rattle.std.specs.Prelude.{Option, Some, None}
use Rattle.std.specs.Global.{Global}
use Rattle.std_alloc.specs.Box.Ownership.{box_owns}
use Rattle.std_alloc.proofs.BoxSteps.Form.{Bx}
use Rattle.std_heap.specs.contracts.Global as Heap
use Rattle.std_heap.specs.contracts.GlobalAllocator.TheImpl.{ghosts, dict}
use Rattle.std_heap.proofs.Global.TheLaws as heap
use Rattle.std_heap.proofs.GlobalToken.{dealloc_token-Testable}
use Rattle.hurd_c.specs.Held.{holds}
use Rattle.hurd_sitting.specs.contracts.sitting.Sitting as World
use Rattle.hurd_sitting.proofs.sitting.Sitting.TheLaws as world
use Rattle.hurd_c.specs.contracts.parts.Parts as Parts
use Rattle.hurd_c.specs.contracts.handle.Handle as Handle

-- a box of a world, from the heap
abbrev pub E : Bx
E = record { row = World.the_row; laws = world.the_row_laws; al = record { row = Heap.the_row; laws = heap.the_row_laws; g = ghosts; d = dict; drops = impl [] tnil dnil } }

-- the parameters of the three functions that are walked

abbrev pub FromParts : Slot 0
FromParts = plain (λ _. Parts.the_row World.the_row Heap.the_row ghosts)

abbrev pub FromHandle : Slot 0
FromHandle = plain (λ _. Handle.the_row)

abbrev pub FromGlobal : Slot 0
FromGlobal = plain (λ _. Heap.the_row)

-- a handle of null
abbrev pub null_word : Val → Val
null_word h = vstruct (vcons (ptr_val null_ptr) (vcons h vnil))

module _ {M : Type 1} {𝓤 : Ura M} (𝓛 : Logic 𝓤) (R : RattleType) (a : Global) where
  -- a pointer that owns a box may be compared with null
  testable : (p : Ptr) (x : R.Denot) → ent 𝓤 (sem 𝓛 (box_owns (ghosts.dealloc_token a) R p x)) (guard 𝓤 (Testable p) (sem 𝓛 (box_owns (ghosts.dealloc_token a) R p x)))
  testable p x = let B : SProp 𝓤 = sem 𝓛 (box_owns (ghosts.dealloc_token a) R p x) in
      fact_use 𝓤 (Testable p) (via 𝓤 _ (snd∗ 𝓤 (sem 𝓛 (lies_at R full_share p x)) (sem 𝓛 (ghosts.dealloc_token a (bare (lone R.mir)) p))) (dealloc_token-Testable 𝓛 a (bare (lone R.mir)) p)) (guard_i 𝓤 (Testable p) B)

module _ {M : Type 1} {𝓤 : Ura M} {𝓛 : Logic 𝓤} {K : Type 0} {Γ : List (Item 𝓤)} {G : Goal 𝓤 𝓛.H} where
  -- what is kept: nothing at null, and the box elsewhere
  pub held : K → (R : RattleType) (a : Global) (p : Ptr) (o : Option R.Denot) → (p ≡ null_ptr → o ≡ None → Seq K 𝓛 Γ G)
      → ((b c : ℕ) (x : R.Denot) → p ≡ block_ptr b c → o ≡ Some x → Testable (block_ptr b c) → Seq K 𝓛 (‵ (box_owns (ghosts.dealloc_token a) R (block_ptr b c) x) ∷ Γ) G)
      → Seq K 𝓛 (‵ (holds R a p o) ∷ Γ) G
  held t R a null_ptr None none one = drop t $ none refl refl
  held t R a null_ptr (Some x) none one = use1 𝓛 (given ⊥ (‵ ftrue)) (never_e 𝓤 _) $ learn t (λ z. absurd z)
  held t R a (block_ptr b c) None none one = use1 𝓛 (given ⊥ (‵ ftrue)) (never_e 𝓤 _) $ learn t (λ z. absurd z)
  held t R a (block_ptr b c) (Some x) none one =
      use1 𝓛 (given (Testable (block_ptr b c)) (‵ (box_owns (ghosts.dealloc_token a) R (block_ptr b c) x))) (testable 𝓛 R a (block_ptr b c) x) $ learn t (λ z. one b c x refl refl z)

  -- a handle by value is [what it keeps; its allocator]
  pub handle_out : K → (d : (Handle.the_row).Denot) (vs : List Val)
      → ((h : Val) → vs ≡ vstruct (of_list (ptr_val d.at ∷ h ∷ [])) ∷ [] → Fits E.al h → Seq K 𝓛 (‵ (holds World.the_row d.alloc d.at d.value) ∷ ‵ ((Heap.the_row).own_val d.alloc (h ∷ [])) ∷ Γ) G)
      → Seq K 𝓛 (‵ ((Handle.the_row).own_val d vs) ∷ Γ) G
  handle_out t d vs k =
      fsplit t $ fpick t (λ vss. fsplit t $ feq_l t (λ ev. fsplit t $ feq_l t (λ ep. fsplit t $ handle_tells E.al t d.alloc vss.1.0 (λ h ea fits. move t (1 ∷ []) $ drop t $ move t (1 ∷ []) $ k h
      (subst (λ (ws : List Val). vs ≡ vstruct (of_list (ptr_val d.at ∷ (ws ++ []))) ∷ []) ea (subst (λ (ps : List Val). vs ≡ vstruct (of_list (ps ++ (vss.1.0 ++ []))) ∷ []) ep ev)) fits))))

  -- null keeps nothing
  pub none_in : K → (a : Global) (h : Val) → Step K 𝓛 (‵ ((Handle.the_row).own_val (record { at = null_ptr; alloc = a; value = None }) (null_word h ∷ [])) ∷ Γ) G (‵ ((Heap.the_row).own_val a (h ∷ [])) ∷ Γ) G
  none_in t a h = step (λ s. let v : Val = null_word h in
      nothing t $ move t (1 ∷ 0 ∷ []) $ fjoin t $ feq_i t (List Val) (ptr_val null_ptr ∷ []) (ptr_val null_ptr ∷ []) refl $ fjoin t $ feq_i t (List Val) (v ∷ []) (v ∷ []) refl $ fjoin t $
      fpack t (Valss (RawPtr ∷ Heap.the_row ∷ [])) (within (shape Handle.the_type) (null_ptr, (((tt, tt), tt), tt)) (v ∷ [])) (ptr_val null_ptr ∷ [], (h ∷ [], tt)) $
      nothing t $ move t (1 ∷ 0 ∷ []) $ fjoin t $ s)
