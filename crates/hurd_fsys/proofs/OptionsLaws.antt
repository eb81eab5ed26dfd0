-- The laws of giving options to a server.
use Rattle.std.proofs.Common.{◌≡◌, ℕ, Bool, true, List, Option, Some, None, refl, ap, subst, ◌∙◌, inl, inr}
use Rattle.std.specs.Prelude.{Result, Ok, Err}
use Rattle.hurd_machine.proofs.Common.{Coherent, Control, EDIED, Errno, Name, Plan, ServerInfo, World, ports_of, retexting, server_at, takes_options}
use Rattle.hurd_trans_iface.specs.Meaning.{behaviour_of}
use Rattle.hurd_trans_iface.proofs.Goods.{good}
use Rattle.hurd_nodes.specs.Shown.{info_taken}
use Rattle.hurd_machine.specs.declared.call.Reply.TheVariants.{Done}
use Rattle.hurd_machine.proofs.Views.{Agree, control_known}
use Rattle.hurd_machine.proofs.Asks.{IsPlain, holds_right, ok_plain, err_plain, answered_same, answered_plain, done_plain}
use Rattle.hurd_machine.proofs.Retexting.{MayGet, retexts_whole, retexts_same}
use Rattle.hurd_machine.proofs.CallLaws.{CallLaws, answered_piece}
use Rattle.hurd_core.specs.Control.{control_of}
use Rattle.hurd_fsys.specs.Fsys.{plan_set_options, touches_set_options}
use Rattle.hurd_fsys.proofs.ControlLaws.{control_is, control_same, control_plain}

module _ (t c : ℕ) (words : List (List ℕ)) where
  abbrev asks : World → Name → Result (ServerInfo × Option (List ℕ)) Errno
  asks w s = takes_options words (server_at w s)

  -- the server is there, and its kind takes the words
  record Takes (w : World) (s : Name) (a : ServerInfo × Option (List ℕ)) : Type 0 where
    is_server : server_at w s ≡ Some a.0
    takes : (behaviour_of a.0.kind).set_options words ≡ Ok a.1

  taking : (w : World) (s : Name) (a : ServerInfo × Option (List ℕ)) → asks w s ≡ Ok a → Takes w s a
  taking w s a = by_server (server_at w s) refl
    where
      by_answer : (i : ServerInfo) (r : Result (Option (List ℕ)) Errno) → server_at w s ≡ Some i → (behaviour_of i.kind).set_options words ≡ r → info_taken i r ≡ Ok a → Takes w s a
      by_answer i (Err e) at answer is = absurd (cc)
      by_answer i (Ok o) at answer is = let same : (i, o) ≡ a = cc in subst (Takes w s) same (record { is_server = at; takes = answer })

      by_server : (o : Option ServerInfo) → server_at w s ≡ o → takes_options words o ≡ Ok a → Takes w s a
      by_server None at is = absurd (cc)
      by_server (Some i) at is = by_answer i ((behaviour_of i.kind).set_options words) at refl is

  may_get : (w : World) (s : Name) (a : ServerInfo × Option (List ℕ)) → Takes w s a → MayGet w s a.0 a.1
  may_get w s a k text is = (good a.0.kind).options_root words text (k.takes ∙ ap Ok is)

  asks_plain : (w : World) (s : Name) → IsPlain (asks w s)
  asks_plain w s = by_server (server_at w s)
    where
      by_answer : (i : ServerInfo) (r : Result (Option (List ℕ)) Errno) → (behaviour_of i.kind).set_options words ≡ r → IsPlain (info_taken i r)
      by_answer i (Ok o) answer = ok_plain _
      by_answer i (Err e) answer = err_plain e ((good i.kind).options_plain words e answer)

      by_server : (o : Option ServerInfo) → IsPlain (takes_options words o)
      by_server None = err_plain EDIED refl
      by_server (Some i) = by_answer i ((behaviour_of i.kind).set_options words) refl

  -- who controls a server knows it
  known : {S : ℕ → Bool} {v w : World} → Agree S v w → S t ≡ true → (s : Name) → control_of (ports_of v) t c ≡ Ok s → server_at w s ≡ server_at v s
  known {S} {v} {w} a ours s is = control_known a s (holds_right t ours c (Control s) (control_is v t c s is))

  abbrev gets : World → Name → ServerInfo × Option (List ℕ) → Plan
  gets w s b = record { reply = Done; changes = retexting w s b.0 b.1 }

  gets_same : {S : ℕ → Bool} {v w : World} → Coherent v → Coherent w → Agree S v w → S t ≡ true → (s : Name) → control_of (ports_of v) t c ≡ Ok s → (b : ServerInfo × Option (List ℕ)) → asks v s ≡ Ok b
      → gets w s b ≡ gets v s b
  gets_same {S} {v} {w} cv cw a ours s is b takes =
      let k = taking v s b takes in
      ap (λ cs. let p : Plan = record { reply = Done; changes = cs } in p)
      (retexts_same v w cv cw s b.0 k.is_server (known a ours s is ∙ k.is_server) b.1)

  pub set_options_laws : CallLaws t (λ w. plan_set_options w t c words) (λ w. touches_set_options w t c words)
  set_options_laws = record {
    piece = λ w x. answered_piece x (control_of (ports_of w) t c) _ _ (λ s is. answered_piece x (asks w s) _ _ (λ b takes.
        let k = taking w s b takes in
        retexts_whole w s b.0 x k.is_server b.1 (may_get w s b k) (inl (inl refl)) (λ kept. inl (inr (inl (kept, refl)))) (λ lone. inl (inr (inr (lone, refl)))) (λ S ours. inl (holds_right t ours c (Control s) (control_is w t c s is)))));
    same = λ S v w x y a ours. answered_same _ _ _ _ (control_same a t ours c) (λ s is.
        answered_same _ _ _ _ (ap (takes_options words) (known a ours s is)) (λ b takes. gets_same x y a ours s is b takes));
    plain = λ w. answered_plain _ _ (control_plain w t c) (λ s is. answered_plain _ _ (asks_plain w s) (λ b takes. done_plain Done refl));
  }
