-- What a call of a list is told.
use Rattle.std.proofs.Common.{◌≡◌, ◌⊎◌, subst, List, inl, inr, false, true, Option, Some, None, ℕ, refl, sym, ap, ◌∙◌, true≢false}
use Rattle.std.specs.Option.{option_map}
use Rattle.hurd_creds.specs.declared.errno.Errno.TheVariants.{ENOMEM}
use Rattle.hurd_trans_iface.specs.Meaning.{Meaning}
use Rattle.hurd_machine.specs.declared.call.Call as call
use Rattle.hurd_machine.specs.declared.call.Reply as reply
use Rattle.hurd_machine.specs.declared.call.Reply.TheVariants.{Done}
use Rattle.hurd_machine.specs.Calls.{Call, Reply, call_by, reply_by, lacks_memory, refusal}
use Rattle.hurd_machine.specs.World.{World}
use Rattle.hurd_laws.specs.Step.{after, reply_of}
use Rattle.hurd_laws.specs.Called.{Called}
use Rattle.hurd_lists.specs.Calls.{with_server}
use Rattle.hurd_lists.proofs.CallLemmas.{served_by}
use Rattle.hurd_lists.specs.Lists.{listed_by}
use Rattle.hurd_lists.specs.Replies.{answered}
use Rattle.hurd_lists.specs.declared.reader.ListedCall.{ListedCall}
use Rattle.hurd_words.specs.declared.answers.Answer.{Answer}
use Rattle.hurd_calls.specs.Making.{after_call, answer_to}
use Rattle.hurd_lists.specs.Calls.{begun}

-- ENOMEM, whatever boxes mean
lacks_by : {S : Type 0} (f : S → Meaning) (r : reply.Reply S) → lacks_memory (reply_by f r) ≡ lacks_memory r
lacks_by f Done = refl
lacks_by f _ = refl

refusal_lacks : {S : Type 0} (o : Option S) → lacks_memory (refusal o ENOMEM) ≡ true
refusal_lacks None = refl
refusal_lacks (Some s) = refl

-- a call that wants no memory is told what the machine says, and leaves its world
told_right : {S : Type 0} (f : S → Meaning) (r : reply.Reply S) (w : World) (t : ℕ) (c : Call) (x : World) → Called w t c (reply_by f r) x → lacks_memory r ≡ false
    → (reply_by f r ≡ reply_of w t c) × (x ≡ after w t c)
told_right f r w t c x (inl step) has = (ap (λ (p : Reply × World). p.0) step, ap (λ (p : Reply × World). p.1) step)
told_right f r w t c x (inr lacks) has =
    absurd (true≢false (sym (ap lacks_memory lacks.told ∙ refusal_lacks _) ∙ (lacks_by f r ∙ has)))

module _ {S : Type 0} (f : S → Meaning) (listed : ListedCall S) (server : Option S) (made : begun listed.server ≡ option_map f server) (d : call.Call S) (is : d ≡ with_server server listed.call) where
  -- the call that is made is the one that was read
  pub made_call : call_by f d ≡ (listed_by f listed).call
  made_call = ap (call_by f) is ∙ (served_by f server listed.call ∙ ap (λ (o : Option Meaning). with_server o (call_by f listed.call)) (sym made))

  module _ (w : World) (r : reply.Reply S) (x : World) (called : Called w listed.task.0 (call_by f d) (reply_by f r) x) (has : lacks_memory r ≡ false) where
    pub right : (reply_by f r ≡ reply_of w listed.task.0 (listed_by f listed).call) × (x ≡ after_call (listed_by f listed) w)
    right =
        told_right f r w listed.task.0 (listed_by f listed).call x (subst (λ (c : Call). Called w listed.task.0 c (reply_by f r) x) made_call called) has

    pub answer_right : (line : List ℕ) (answer : Answer) → line ≡ listed.line → answer ≡ answered line (reply_by f r) → answer ≡ answer_to (listed_by f listed) w
    answer_right line answer here e = e ∙ (ap (λ (bs : List ℕ). answered bs (reply_by f r)) here ∙ ap (answered listed.line) right.0)

    pub world_right : x ≡ after_call (listed_by f listed) w
    world_right = right.1

called_leaves : (w : World) (t : ℕ) (c : Call) (reply : Reply) (x : World) → Called w t c reply x → (x ≡ w) ⊎ (x ≡ after w t c)
called_leaves w t c reply x (inl step) = inr (ap (λ (p : Reply × World). p.1) step)
called_leaves w t c reply x (inr lacks) = inl lacks.same

-- a call of a list was made, or nothing changed
pub made_or_same : {S : Type 0} (f : S → Meaning) (listed : ListedCall S) (server : Option S) → begun listed.server ≡ option_map f server → (d : call.Call S) → d ≡ with_server server listed.call
    → (w : World) (reply : Reply) (x : World) → Called w listed.task.0 (call_by f d) reply x → (x ≡ w) ⊎ (x ≡ after_call (listed_by f listed) w)
made_or_same f listed server made d is w reply x called =
    called_leaves w listed.task.0 (listed_by f listed).call reply x (subst (λ (c : Call). Called w listed.task.0 c reply x) (made_call f listed server made d is) called)
