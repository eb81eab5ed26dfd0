-- `into_parts` looks whether the pointer is null, and hands on what is kept.
use mathlib.Core.Path.{◌≡◌, refl, sym, subst}
use mathlib.Core.List.{List, [], ◌∷◌, ◌++◌}
use lib.Dec.{T, lit<}
use seplogic.Ra.Ura.{Ura}
use mir.Val.{Val, vstruct, of_list, vnil, vcons, has_ty, WT}
use base.Logic.{SProp, ent, emp, id⊢}
use base.Fml.{ftrue, fsep}
use prog.Memory.{Memory}
use prog.Routine.{Routine}
use prog.Wp.{WpFn, Tables}
use types.Logic.{Logic}
use contract.Monad.{Fun}
use contract.Running.{tables, tables_of}
use sound.WpLaws.{WpFn-mono}
use types.Kit.{Item, at_ret, ‵, raw, ◌⊛◌, ◌$◌, ◌∵◌, !, qed, by, move, drop, use0, use1, join, split, fsplit, fjoin, suffices, done}
use types.Match.{live}
use types.Part.{whole, sub, agg}
use types.Run.{stop, fld, lit, bin, no_more, and_then, of_opd, returns, enter, first, branches, exec}
use types.ByLocal.{alloc_all, pass_all, free_all, look_at, get, get_in, sets, sets_last, env}
use denote.Exit.{yes}
use denote.Memory.{lone}
use denote.RawPtr.{Ptr, block_ptr, ptr_val, tests_null}
use denote.Signature.{type_at}
use denote.Steps.{nothing}
use denote.Triple.Spec.{triple_of}
use denote.Triple.Table.{entered}
use denote.Triple.Walked.{says, Stays, stay_dropped, walk_of, ends_at, Goes-dropped, walk_Meets}
use Rattle.core.proofs.alloc.Calls.{α}
use Rattle.core.proofs.alloc.Shapes.{after}
use Rattle.core.proofs.option.Made.{Some-of, none_of}
use Rattle.std.specs.Prelude.{Some, None}
use Rattle.std_alloc.proofs.BoxSteps.Form.{D, word, box_typed}
use Rattle.std_alloc.proofs.BoxSteps.Steps.{box_in}
use Rattle.std_alloc.proofs.ResultValues.{and_tt}
use Rattle.std_heap.specs.contracts.Global as Heap
use Rattle.std_heap.specs.contracts.GlobalAllocator.TheImpl.{ghosts}
use Rattle.hurd_sitting.specs.contracts.sitting.Sitting as World
use Rattle.hurd_c.specs.contracts.parts.Parts as Parts
use Rattle.hurd_c.proofs.Kept.{E, FromHandle as From, held, handle_out, null_word}
use Rattle.hurd_c.specs.contracts.handle.Handle as Handle
use Rattle.hurd_c.specs.contracts.handle.Handle.into_parts as F
use Rattle.hurd_c.specs.contracts.handle.Handle.into_parts.Key.{name as #self}
use Rattle.hurd_c.proofs.handle.Handle.into_parts.Statement as stated
use Rattle.hurd_c.proofs.handle.Handle.into_parts.Code as code

abbrev stayed : Stays (F.ended).signature.params (F.ended).kept
stayed = (stay_dropped From yes, tt)

module _ {M : Type 1} {𝓤 : Ura M} (𝓛 : Logic 𝓤) (at_mem : Memory → SProp 𝓤) (run : Routine → Fun 𝓤) (𝓣 : Tables 𝓤 𝓛.H) where
  open 𝓛 use {H}

  walk : (z : (walk_of 𝓛 F.ended stayed (F.clauses 𝓛 at_mem run)).Ghost)
      → ent 𝓤 ((walk_of 𝓛 F.ended stayed (F.clauses 𝓛 at_mem run)).pre z) (WpFn 𝓤 H 𝓣.C 𝓣.Λ code.function (z.0.4.0 ++ []) ((walk_of 𝓛 F.ended stayed (F.clauses 𝓛 at_mem run)).post z))
  walk z =
      let Post = (walk_of 𝓛 F.ended stayed (F.clauses 𝓛 at_mem run)).post z in
      let v = z.0.3.0 in let fn = code.function in
      let To = type_at (F.signature).result tt in
      let Pr = Parts.the_row World.the_row Heap.the_row ghosts in
      qed 𝓛 ((‵ ftrue ⊛ ‵ (fsep ((Handle.the_row).own_val v z.0.4.0) ftrue)) ∷ raw (emp 𝓤) ∷ []) ∵ split ! $ drop ! $ fsplit ! $
      handle_out ! v z.0.4.0 (λ h ws fits. move ! (2 ∷ 3 ∷ []) $ drop ! $ drop ! $
      held ! World.the_row v.alloc v.at v.value
      (λ is_null is_none. drop ! $
      let w = null_word h in
      let ends : To.Denot = None in
      let good : T (has_ty ((lone To.mir)) (live 0 vnil)) × WT (live 0 vnil) = (tt, (record { fits = lit< tt }, tt)) in
      by ! (subst (λ (us : List Val). ent 𝓤 (types.Kit.⋆ 𝓛 []) (WpFn 𝓤 H 𝓣.C 𝓣.Λ fn (us ++ []) Post)) (sym (subst (λ (p : Ptr). z.0.4.0 ≡ vstruct (of_list (ptr_val p ∷ h ∷ [])) ∷ []) is_null ws))
      (qed 𝓛 [] ∵ enter ! 𝓣.C 𝓣.Λ fn (w ∷ []) _ $ alloc_all ! (λ l. pass_all ! refl ((and_tt (has_ty (α E.al) h) fits.0, (record { fits = lit< tt }, (fits.1, tt))), tt) $
      sets ! (of_opd ! (get_in ! (fld ! refl (stop !)) (sub ! 0 refl (whole !)))) refl (tt, record { fits = lit< tt }) $ sets ! (of_opd ! (get_in ! (fld ! refl (stop !)) (sub ! 1 refl (whole !)))) refl fits $
      sets ! (bin ! (get ! refl) (lit ! tt) tt) refl (tt, tt) $ first ! $ branches ! (get ! refl)
      (λ _. sets_last ! (agg ! (and_then ! (lit ! tt) (no_more !))) refl good $ exec ! 𝓣.C 𝓣.Λ (env fn.locals l) (after 4 fn.body) (at_ret (env fn.locals l) Post) $ sets ! (of_opd ! (get ! refl)) refl good $
      returns ! (look_at ! 0 refl) $ free_all ! refl $
      use0 𝓛 (‵ (To.own_val ends (live 0 vnil ∷ []))) (none_of 𝓛 Pr) $
      suffices ! _ (ends_at 𝓛 F.ended stayed (F.clauses 𝓛 at_mem run) z (live 0 vnil) ends (tt, tt) (tt, tt)) $ says ! is_none $
      nothing ! $ nothing ! $ fjoin ! $ join ! $ nothing ! $ join ! $ done !)
      (λ wrong. absurd wrong)))))
      (λ b o x is_block is_some testable.
      let u : D E = record { ptr = block_ptr b o; alloc = v.alloc; value = x } in
      let made : Pr.Denot = record { ptr = block_ptr b o; alloc = v.alloc; value = x } in
      let w = word E h b o in let ends : To.Denot = Some made in let v₁ : Val = live 1 (vcons w vnil) in
      let typed = box_typed E h b o fits in
      let good : T (has_ty ((lone To.mir)) v₁) × WT v₁ = (and_tt _ typed.0, (record { fits = lit< tt }, (typed.1, tt))) in
      fsplit ! $ box_in E ! u b o x refl refl $ use1 𝓛 (‵ (Pr.own_val made (w ∷ []))) (id⊢ 𝓤 _) $
      let Γ : List (Item 𝓤) = ‵ (Pr.own_val made (w ∷ [])) ∷ [] in
      by ! (subst (λ (us : List Val). ent 𝓤 (types.Kit.⋆ 𝓛 Γ) (WpFn 𝓤 H 𝓣.C 𝓣.Λ fn (us ++ []) Post)) (sym (subst (λ (p : Ptr). z.0.4.0 ≡ vstruct (of_list (ptr_val p ∷ h ∷ [])) ∷ []) is_block ws))
      (qed 𝓛 Γ ∵ enter ! 𝓣.C 𝓣.Λ fn (w ∷ []) _ $ alloc_all ! (λ l. pass_all ! refl (typed, tt) $
      sets ! (of_opd ! (get_in ! (fld ! refl (stop !)) (sub ! 0 refl (whole !)))) refl (tt, tt) $ sets ! (of_opd ! (get_in ! (fld ! refl (stop !)) (sub ! 1 refl (whole !)))) refl fits $
      sets ! (bin ! (get ! refl) (lit ! tt) (tests_null (block_ptr b o) testable)) refl (tt, tt) $ first ! $ branches ! (get ! refl) (λ wrong. absurd wrong)
      (λ _. sets ! (of_opd ! (get ! refl)) refl (tt, tt) $
      sets ! (agg ! (and_then ! (get ! refl) (and_then ! (get ! refl) (no_more !)))) refl typed $ sets_last ! (agg ! (and_then ! (lit ! tt) (and_then ! (get ! refl) (no_more !)))) refl good $
      exec ! 𝓣.C 𝓣.Λ (env fn.locals l) (after 4 fn.body) (at_ret (env fn.locals l) Post) $ sets ! (of_opd ! (get ! refl)) refl good $
      returns ! (look_at ! 0 refl) $ free_all ! refl $
      use1 𝓛 (‵ (To.own_val ends (v₁ ∷ []))) (Some-of 𝓛 Pr made w) $
      suffices ! _ (ends_at 𝓛 F.ended stayed (F.clauses 𝓛 at_mem run) z v₁ ends (tt, tt) (tt, tt)) $ says ! is_some $
      nothing ! $ nothing ! $ fjoin ! $ join ! $ nothing ! $ join ! $ done !))))))

pub into_parts_spec : {M : Type 1} → stated.statement M
unfolding tables_of
into_parts_spec 𝓤 𝓛 𝓜 𝓡 wired =
    let 𝓣 : Tables 𝓤 𝓛.H = tables_of 𝓤 𝓛.H 𝓜 (tables 𝓤 𝓛.H 𝓜 𝓡 𝓡.env) in
    entered 𝓤 𝓛.H (triple_of 𝓛 F.signature (F.spec 𝓛 𝓜.mem 𝓡.returns)) 𝓣.C 𝓣.Λ #self code.function (code.unfolded 𝓤 𝓛.H 𝓜 𝓡 wired)
    (walk_Meets 𝓛 F.ended stayed (Goes-dropped 𝓛 0 From yes (λ κs x f. refl), tt) (F.clauses 𝓛 𝓜.mem 𝓡.returns) (WpFn 𝓤 𝓛.H 𝓣.C 𝓣.Λ code.function) (WpFn-mono 𝓤 𝓛.H 𝓛.laws 𝓣 code.function)
    (walk 𝓛 𝓜.mem 𝓡.returns 𝓣))
