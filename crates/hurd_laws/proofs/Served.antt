-- What was served is a run of the written machine.
use Rattle.std.proofs.Common.{◌≡◌, ◌∙◌, ◌&&◌, if◌then◌else◌, inl, inr, ℕ, Bool, true, false, true≢false, List, [], ◌∷◌, ◌++◌, Option, Some, None, sym, refl, ap, ap₂, subst}
use Rattle.hurd_machine.proofs.Common.{Call, ENOMEM, Meaning, Reply, SameView, Sound, World, box_in, refusal}
use Rattle.hurd_laws.specs.Step.{reply_of, after, step}
use Rattle.hurd_laws.specs.Called.{Lacks, Called, lacks_memory}
use Rattle.hurd_laws.specs.Runs.{TaskCall, run, replies_to}
use Rattle.hurd_laws.specs.Served.{Served, kept, told_to, IsolatedRun, ComparedRun}
use Rattle.hurd_laws.proofs.Assembled.{stays_sound, never_wants_memory}
use Rattle.hurd_trans_iface.specs.Answers.{entry_of}
use Rattle.hurd_laws.specs.Integrity.{ByReason, KeepsIntegrity}
use Rattle.hurd_laws.specs.Spared.{SparesAll}
use Rattle.hurd_laws.proofs.Headline.{isolated, side_by_side}
use Rattle.hurd_laws.proofs.Reasons.{same_header}
use Rattle.hurd_laws.proofs.Integrity.{integrity}
use Rattle.hurd_laws.proofs.SparedRun.{integrity_run}

-- one call

pub called_sound : (w x : World) (t : ℕ) (c : Call) (r : Reply) → Called w t c r x → Sound w → Sound x
called_sound w x t c r (inl h) s = subst Sound (sym (ap (λ p. p.1) h)) (stays_sound w t c s)
called_sound w x t c r (inr l) s = subst Sound (sym l.same) s

-- where nothing has changed, nothing has by who may not
same_integrity : (w : World) (t : ℕ) → KeepsIntegrity w t w
same_integrity w t = record {
  parts = λ S p ours old out. inl refl;
  attributes = λ S n h k ours is e. let same : h ≡ k = cc (is, e) in (subst (ByReason S w n h) same (same_header h), λ out. refl);
  entries = λ S d name h b ours is e. record { stays = λ n at out. ap (entry_of name) (sym e) ∙ at; free = λ at out. ap (entry_of name) (sym e) ∙ at };
}

pub called_integrity : (w x : World) (t : ℕ) (c : Call) (r : Reply) → Called w t c r x → Sound w → KeepsIntegrity w t x
called_integrity w x t c r (inl h) s = subst (KeepsIntegrity w t) (sym (ap (λ p. p.1) h)) (integrity w t c s)
called_integrity w x t c r (inr l) s = subst (KeepsIntegrity w t) (sym l.same) (same_integrity w t)

lacks_told : (box : Option Meaning) → lacks_memory (refusal box ENOMEM) ≡ true
lacks_told None = refl
lacks_told (Some m) = refl

-- a reply that isn't ENOMEM is the machine's
pub called_step : (w x : World) (t : ℕ) (c : Call) (r : Reply) → Called w t c r x → lacks_memory r ≡ false → (r, x) ≡ step w t c
called_step w x t c r (inl h) found = h
called_step w x t c r (inr l) found = absurd (true≢false (sym (ap lacks_memory l.told ∙ lacks_told (box_in c)) ∙ found))

-- and a reply that is, isn't
pub called_lacks : (w x : World) (t : ℕ) (c : Call) (r : Reply) → Called w t c r x → lacks_memory r ≡ true → Lacks w t c r x
called_lacks w x t c r (inl h) lacks = absurd (true≢false (sym lacks ∙ (ap (λ (p : Reply × World). lacks_memory p.0) h ∙ never_wants_memory w t c)))
called_lacks w x t c r (inr l) lacks = l

-- lists of calls

-- one call more, at the end
pub served_push : (w y z : World) (ms : List TaskCall) (rs : List Reply) (m : TaskCall) (r : Reply) → Served w ms rs y → Called y m.task m.call r z → Served w (ms ++ m ∷ []) (rs ++ r ∷ []) z
served_push w y z [] [] m r h c = (z, subst (λ v. Called v m.task m.call r z) h c, refl)
served_push w y z [] (q ∷ rs) m r h c = absurd h
served_push w y z (n ∷ ms) [] m r h c = absurd h
served_push w y z (n ∷ ms) (q ∷ rs) m r h c = (h.0, h.1, served_push h.0 y z ms rs m r h.2 c)

pub served_sound : (w : World) (ms : List TaskCall) (rs : List Reply) (x : World) → Served w ms rs x → Sound w → Sound x
served_sound w [] [] x h s = subst Sound (sym h) s
served_sound w [] (r ∷ rs) x h s = absurd h
served_sound w (m ∷ ms) [] x h s = absurd h
served_sound w (m ∷ ms) (r ∷ rs) x h s = served_sound h.0 ms rs x h.2 (called_sound w h.0 m.task m.call r h.1 s)

-- the calls that found memory led where the machine goes, and told S what it tells
abbrev Ran : (ℕ → Bool) → World → List TaskCall → List Reply → World → Type 0
Ran S w ms rs x = (x ≡ run w (kept ms rs)) × (told_to S ms rs ≡ replies_to S w (kept ms rs))

module _ (S : ℕ → Bool) where
  one_more : (w y x : World) (m : TaskCall) (r : Reply) (ms : List TaskCall) (rs : List Reply) → Called w m.task m.call r y → Ran S y ms rs x
      → (lacks : Bool) → lacks_memory r ≡ lacks → Ran S w (m ∷ ms) (r ∷ rs) x
  one_more w y x m r ms rs h l true e =
      let same = (called_lacks w y m.task m.call r h e).same in
      rw e (l.0 ∙ ap (λ z. run z (kept ms rs)) same, go (S m.task) ∙ l.1 ∙ ap (λ z. replies_to S z (kept ms rs)) same)
    where
      go : (b : Bool) → (if b && false then r ∷ told_to S ms rs else told_to S ms rs) ≡ told_to S ms rs
      go true = refl
      go false = refl
  one_more w y x m r ms rs h l false e =
      rw e (l.0 ∙ ap (λ z. run z (kept ms rs)) next, go (S m.task))
    where
      is : (r, y) ≡ step w m.task m.call
      is = called_step w y m.task m.call r h e

      next : y ≡ after w m.task m.call
      next = ap (λ p. p.1) is

      rest : told_to S ms rs ≡ replies_to S (after w m.task m.call) (kept ms rs)
      rest = l.1 ∙ ap (λ z. replies_to S z (kept ms rs)) next

      go : (b : Bool) → (if b && true then r ∷ told_to S ms rs else told_to S ms rs)
          ≡ (if b then reply_of w m.task m.call ∷ replies_to S (after w m.task m.call) (kept ms rs) else replies_to S (after w m.task m.call) (kept ms rs))
      go true = ap₂ ◌∷◌ (ap (λ p. p.0) is) rest
      go false = rest

  ran : (ms : List TaskCall) (rs : List Reply) (w x : World) → Served w ms rs x → Ran S w ms rs x
  ran [] [] w x h = (h, refl)
  ran [] (r ∷ rs) w x h = absurd h
  ran (m ∷ ms) [] w x h = absurd h
  ran (m ∷ ms) (r ∷ rs) w x h = one_more w h.0 x m r ms rs h.1 (ran ms rs h.0 x h.2) (lacks_memory r) refl

pub served_isolated : (w : World) (ms : List TaskCall) (rs : List Reply) (x : World) → Served w ms rs x → Sound w → IsolatedRun w ms rs x
served_isolated w ms rs x h s S v ns sv view same qw qv =
    let l : Ran S w ms rs x = ran S ms rs w x h in
    let i = isolated S w v (kept ms rs) ns s sv view same qw qv in
    (l.1 ∙ i.0, subst (λ z. SameView S z (run v ns)) (sym l.0) i.1)

-- what S was told is what the written machine tells it in reply to the calls that found memory
pub told_kept : (S : ℕ → Bool) (w : World) (ms : List TaskCall) (rs : List Reply) (x : World) → Served w ms rs x → told_to S ms rs ≡ replies_to S w (kept ms rs)
told_kept S w ms rs x h = (ran S ms rs w x h).1

pub served_compared : (w : World) (ms : List TaskCall) (rs : List Reply) (x : World) → Served w ms rs x → Sound w → ComparedRun w ms rs
served_compared w ms rs x h s S v ns sv same views = told_kept S w ms rs x h ∙ side_by_side S w v (kept ms rs) ns s sv same views

pub served_spared : (w : World) (ms : List TaskCall) (rs : List Reply) (x : World) → Served w ms rs x → Sound w → SparesAll w (kept ms rs) x
served_spared w ms rs x h s = subst (SparesAll w (kept ms rs)) (sym (ran (λ t. true) ms rs w x h).0) (integrity_run w (kept ms rs) s)
