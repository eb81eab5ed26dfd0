-- A refused call changes nothing and touches nothing; and take-outs end alike in every order.
use Rattle.std.proofs.Common.{◌≡◌, ◌∙◌, ℕ, Bool, true, false, true≢false, List, [], Option, Some, None, refl, sym, ap, inl, inr}
use Rattle.std.specs.Prelude.{Result, Ok, Err}
use Rattle.hurd_creds.specs.declared.name.Name.{Name}
use Rattle.hurd_creds.specs.declared.errno.Errno.{Errno}
use Rattle.hurd_nodes.specs.Parts.{TakesOut}
use Rattle.hurd_nodes.specs.Settle.{Outside, settle}
use Rattle.hurd_nodes.specs.Shown.{NodeState}
use Rattle.hurd_nodes.proofs.SettleLaws.{IsOnTheWay, part-itself, settled, way-end, way-less}
use Rattle.hurd_machine.proofs.Common.{Call, Meaning, Named, Nothing, Part, Plan, Reply, World, answered, asked_parts, box_in, handing_back, is_refused, looks}
use Rattle.hurd_machine.specs.declared.call.Call.TheVariants.{Plain, FileSetTranslator, FsysStartup}
use Rattle.hurd_machine.specs.declared.call.PlainCall.{PlainCall}
use Rattle.hurd_machine.specs.declared.call.PlainCall.TheVariants.{PortDeallocate, PortSend, PortReceive, AuthMakeauth, DirLookup, IoRead, IoWrite, IoSeek, IoStat, IoReadable, IoGetOpenmodes, IoSetAllOpenmodes, IoDuplicate, IoReauthenticate, IoRestrictAuth, IoIdentity, FileSetSize, FileChmod, FileChown, FileCheckAccess, FileGetTranslator, FileGetTranslatorCntl, FileGetcontrol, StartFailed, FsysGetroot, FsysGoaway, FsysGetOptions, FsysSetOptions, DirReaddir, DirMkdir, DirRmdir, DirUnlink, DirLink, DirMkfile, DirRename}
use Rattle.hurd_machine.specs.declared.call.Reply.TheVariants.{Refused, Back}
use Rattle.hurd_machine.specs.declared.call.Setting.{Setting}
use Rattle.hurd_machine.specs.Change.{apply_all}
use Rattle.hurd_machine.specs.Plan.{returning}
use Rattle.hurd_fsys.specs.Setting.{box_parts, parts_where, seated, sets_nothing, setting_where}
use Rattle.hurd_fsys.specs.Starting.{pending_asks, startup_asks}
use Rattle.hurd_laws.specs.Step.{plan, plan_of, reply_of, after, step, touches}
use Rattle.hurd_laws.specs.Called.{Called}
use Rattle.hurd_laws.specs.Refusals.{AllStay, AnyOrder, EndsAt, LeavesIfRefused, RefusedChangesNothing, RefusedTouchesNothing, TakenOut, is_startup}

-- plans

-- if it is refused, it touches nothing
abbrev Calm : Plan → (Part → Type 0) → Type 0
Calm P T = is_refused P.reply ≡ true → (p : Part) → T p → ⊥

-- if it is refused, it changes nothing
abbrev Still : Plan → Type 0
Still P = is_refused P.reply ≡ true → P.changes ≡ []

record Both (P : Plan) (T : Part → Type 0) : Type 0 where
  still : Still P
  calm : Calm P T

-- what isn't refused is both
done_both : (P : Plan) (T : Part → Type 0) → is_refused P.reply ≡ false → Both P T
done_both P T out = record { still = λ is. absurd (true≢false (sym is ∙ out)); calm = λ is. absurd (true≢false (sym is ∙ out)) }

answered_both : {A : Type 0} (x : Result A Errno) (k : A → Plan) (parts : A → Part → Type 0) → ((a : A) → Both (k a) (parts a)) → Both (answered x k) (asked_parts x parts)
unfolding answered asked_parts
answered_both (Err e) k parts h = record { still = λ is. refl; calm = λ is p on. on }
answered_both (Ok a) k parts h = h a

-- a plan that touches nothing at all
answered_none : {A : Type 0} (x : Result A Errno) (k : A → Plan) → ((a : A) → Still (k a)) → Both (answered x k) Nothing
unfolding answered
answered_none (Err e) k h = record { still = λ is. refl; calm = λ is p on. on }
answered_none (Ok a) k h = record { still = h a; calm = λ is p on. on }

looks_both : {A : Type 0} (x : Result A Errno) (reply : A → Reply) → Both (looks x reply) Nothing
looks_both x reply = answered_none x _ (λ a is. refl)

-- file_set_translator
module _ (w : World) (t : ℕ) (f : Setting) (words : List (List ℕ)) where
  box_both : (n : Named) (box : Option Meaning) (old : Option Name) (targets : List Name) → Both (seated w t n f words box old targets) (box_parts w t f box n.right.node old)
  box_both n None old targets = done_both _ _ refl
  box_both n (Some m) old targets = answered_both _ _ _ (λ x. done_both _ _ refl)

  half_both : (box : Option Meaning) (n : Named) (b : Bool) → Both (setting_where b w t f words box n) (parts_where b w t f box n)
  half_both box n true = done_both _ _ refl
  half_both box n false = answered_both _ _ _ (λ old. answered_both _ _ _ (λ targets. box_both n box old targets))

-- each call except fsys_startup
plain_both : (w : World) (t : ℕ) (c : PlainCall) → Both (plan_of w t (Plain c)) (touches w t (Plain c))
plain_both w t (PortDeallocate p) = answered_both _ _ _ (λ r. done_both _ _ refl)
plain_both w t (PortSend p q) = answered_both _ _ _ (λ r. done_both _ _ refl)
plain_both w t PortReceive = answered_none _ _ (λ x is. absurd (true≢false (sym is)))
plain_both w t (AuthMakeauth ids) = answered_none _ _ (λ x is. absurd (true≢false (sym is)))
plain_both w t (DirLookup p path flags mode) = answered_both _ _ _ (λ l. done_both _ _ refl)
plain_both w t (IoRead p amount offset) = answered_both _ _ _ (λ a. answered_both _ _ _ (λ d. done_both _ _ refl))
plain_both w t (IoWrite p bytes offset) = answered_both _ _ _ (λ a. answered_both _ _ _ (λ d. done_both _ _ refl))
plain_both w t (IoSeek p offset whence) = answered_both _ _ _ (λ s. done_both _ _ refl)
plain_both w t (IoStat p) = looks_both _ _
plain_both w t (IoReadable p) = looks_both _ _
plain_both w t (IoGetOpenmodes p) = looks_both _ _
plain_both w t (IoSetAllOpenmodes p flags) = answered_both _ _ _ (λ a. done_both _ _ refl)
plain_both w t (IoDuplicate p) = answered_both _ _ _ (λ a. done_both _ _ refl)
plain_both w t (IoReauthenticate p) = answered_both _ _ _ (λ a. done_both _ _ refl)
plain_both w t (IoRestrictAuth p ids) = answered_both _ _ _ (λ a. done_both _ _ refl)
plain_both w t (IoIdentity p q) = looks_both _ _
plain_both w t (FileSetSize p size) = answered_both _ _ _ (λ n. answered_both _ _ _ (λ d. done_both _ _ refl))
plain_both w t (FileChmod p mode) = answered_both _ _ _ (λ n. done_both _ _ refl)
plain_both w t (FileChown p owner group) = answered_both _ _ _ (λ n. done_both _ _ refl)
plain_both w t (FileCheckAccess p) = looks_both _ _
plain_both w t (FileGetTranslator p) = looks_both _ _
plain_both w t (FileGetTranslatorCntl p) = answered_none _ _ (λ s. (answered_none _ _ (λ x is. absurd (true≢false (sym is)))).still)
plain_both w t (FileGetcontrol p) = answered_none _ _ (λ s. (answered_none _ _ (λ x is. absurd (true≢false (sym is)))).still)
plain_both w t StartFailed = answered_none _ _ (λ s is. absurd (true≢false (sym is)))
plain_both w t (FsysGetroot c dir flags) = answered_both _ _ _ (λ l. done_both _ _ refl)
plain_both w t (FsysGoaway c flags) = answered_both _ _ _ (λ s. done_both _ _ refl)
plain_both w t (FsysGetOptions c) = looks_both _ _
plain_both w t (FsysSetOptions c words) = answered_both _ _ _ (λ s. answered_both _ _ _ (λ a. done_both _ _ refl))
plain_both w t (DirReaddir p) = looks_both _ _
plain_both w t (DirMkdir p name mode) = answered_both _ _ _ (λ f. answered_both _ _ _ (λ m. done_both _ _ refl))
plain_both w t (DirRmdir p name) = answered_both _ _ _ (λ x. done_both _ _ refl)
plain_both w t (DirUnlink p name) = answered_both _ _ _ (λ x. done_both _ _ refl)
plain_both w t (DirLink p name q) = answered_both _ _ _ (λ n. answered_both _ _ _ (λ u. done_both _ _ refl))
plain_both w t (DirMkfile p flags mode) = answered_both _ _ _ (λ a. answered_both _ _ _ (λ m. done_both _ _ refl))
plain_both w t (DirRename p name q new) = answered_both _ _ _ (λ r. done_both _ _ refl)

still : (w : World) (t : ℕ) (c : Call) → is_startup c ≡ false → Still (plan_of w t c)
still w t (Plain c) other = (plain_both w t c).still
still w t (FileSetTranslator p f words box) other = (answered_both _ _ _ (λ n. half_both w t f words box n (sets_nothing f))).still
still w t (FsysStartup m) other = absurd (true≢false other)

-- fsys_startup touches nothing either if it is refused
startup_calm : (w : World) (t : ℕ) (m : Meaning) → Calm (plan_of w t (FsysStartup m)) (touches w t (FsysStartup m))
unfolding answered asked_parts
startup_calm w t m = go (pending_asks w t) refl
  where
    go : (x : Result _ Errno) → pending_asks w t ≡ x → Calm (plan_of w t (FsysStartup m)) (touches w t (FsysStartup m))
    go (Err e) is = rw is (λ refused p on. on)
    go (Ok s) is = by s is (startup_asks w t m s) refl
      where
        by : (s : _) → pending_asks w t ≡ Ok s → (y : Result _ Errno) → startup_asks w t m s ≡ y → Calm (plan_of w t (FsysStartup m)) (touches w t (FsysStartup m))
        by s is (Err e) asks = rw (is, asks) (λ refused p on. on)
        by s is (Ok a) asks = rw (is, asks) (λ refused p on. absurd (true≢false (sym refused)))

calm : (w : World) (t : ℕ) (c : Call) → Calm (plan_of w t c) (touches w t c)
calm w t (Plain c) = (plain_both w t c).calm
calm w t (FileSetTranslator p f words box) = (answered_both _ _ _ (λ n. half_both w t f words box n (sets_nothing f))).calm
calm w t (FsysStartup m) = startup_calm w t m

-- the box that comes back makes no other refusal of it

handed : (m : Meaning) (r : Reply) → is_refused (handing_back m r) ≡ is_refused r
handed m (Refused e) = refl
handed m r = refl

returned : (box : Option Meaning) (P : Plan) → is_refused (returning box P).reply ≡ is_refused P.reply
returned None P = refl
returned (Some m) P = handed m P.reply

returned_changes : (box : Option Meaning) (P : Plan) → (returning box P).changes ≡ P.changes
returned_changes None P = refl
returned_changes (Some m) P = refl

pub refused_changes_nothing : RefusedChangesNothing
refused_changes_nothing w t c other is =
    ap (λ cs. apply_all cs w) (returned_changes (box_in c) (plan_of w t c) ∙ still w t c other (sym (returned (box_in c) (plan_of w t c)) ∙ is))

pub refused_touches_nothing : RefusedTouchesNothing
refused_touches_nothing w t c p is = calm w t c (sym (returned (box_in c) (plan_of w t c)) ∙ is) p

-- by a core that may run out of memory
pub called_refused : (w x : World) (t : ℕ) (c : Call) (r : Reply) → Called w t c r x → LeavesIfRefused w c r x
called_refused w x t c r (inl h) other is =
    ap (λ (p : Reply × World). p.1) h ∙ refused_changes_nothing w t c other (sym (ap (λ (p : Reply × World). is_refused p.0) h) ∙ is)
called_refused w x t c r (inr l) other is = l.same

-- take-outs

on_the_way : (o : Outside) (start now r : NodeState) → IsOnTheWay o start now → EndsAt o now r → r ≡ settle o start
on_the_way o start now r way (AllStay stays) = settled o start now (way-end o start now stays way)
on_the_way o start now r way (TakenOut out rest) = on_the_way o start _ r (way-less o start now _ out.less out.kept way) rest

pub any_order : AnyOrder
any_order o h r ends = on_the_way o h h r (record { part = part-itself h; most = λ q part stays. part }) ends
