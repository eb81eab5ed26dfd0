-- What a row answers is what its call owes.
use Rattle.std.specs.Prelude.{IfErr, IfSome, IsNone}
use Rattle.std.specs.Option.{option_map}
use Rattle.std.proofs.Common.{◌≡◌, ◌⊎◌, inl, inr, ℕ, false, List, Result, Ok, Err, Option, Some, None, refl, ap, sym, ◌∙◌}
use Rattle.hurd_machine.proofs.Common.{Call, Errno, Meaning, Mode, OpenFlags, Plan, Reply, World, after_plan, call_by, handing_back, is_refused, refusal, reply_by, told}
use Rattle.hurd_trans_iface.specs.Meaning.{Begins}
use Rattle.hurd_machine.specs.declared.call.Call as code
use Rattle.hurd_machine.specs.declared.call.Call.TheVariants.{Plain, FileSetTranslator, FsysStartup}
use Rattle.hurd_machine.specs.declared.call.PlainCall.TheVariants.{DirLookup}
use Rattle.hurd_machine.specs.declared.call.Reply as code_reply
use Rattle.hurd_machine.specs.declared.call.Reply.TheVariants.{Done, Found, Port, Data, Count, Names, Words, Stat, Modes, Same, Refused, Back}
use Rattle.hurd_machine.specs.declared.call.Lookup as code_lookup
use Rattle.hurd_machine.specs.declared.call.Setting.{Setting}
use Rattle.hurd_machine.specs.Plan.{Follows}
use Rattle.hurd_core.specs.Core.{without_box}
use Rattle.hurd_lookup.specs.Lacking.{PlannedOr, TriedOr}
use Rattle.hurd_lookup.specs.Seeking.{LookupLacks, plan_lookup}
use Rattle.hurd_fsys.specs.Setting.{SetLacks, plan_set_translator}
use Rattle.hurd_fsys.specs.Starting.{StartLacks, plan_startup}
use Rattle.hurd_laws.specs.Called.{Called}
use Rattle.hurd_laws.specs.Step.{after, reply_of}
use Rattle.hurd_world.specs.Held.{ComesBack, set_told, start_told, told_of}

-- a call that made its step
stepped : (w x : World) (t : ℕ) (c : Call) (reply : Reply) → reply ≡ reply_of w t c → x ≡ after w t c → Called w t c reply x
stepped w x t c reply r e = inl (rw (r, e) refl)

-- one call of the world v, which is the core's w, with a reply and a world after it, as the code has them
module _ {S : Type 0} (f : S → Meaning) (v w : World) (t : ℕ) (call : code.Call S) (reply : code_reply.Reply S) (y : World) (seen : w ≡ v) where
  -- what it owes
  abbrev Owes : Type 0
  Owes = Called v t (call_by f call) (reply_by f reply) y × ComesBack call reply

  owed : (c : code.Call S) (got : code_reply.Reply S) (x : World) → call ≡ c → reply ≡ got → y ≡ x → Called w t (call_by f c) (reply_by f got) x → ComesBack c got → Owes
  owed c got x is same left called back = rw (is, same, left, ← seen) (called, back)

  -- a lookup, which may find none where targets are to be looked at
  pub lookup_row : (p : ℕ) (path : List ℕ) (flags : OpenFlags) (mode : Mode) (r : Result code_lookup.Lookup Errno) (got : code_reply.Reply S) (x : World) → call ≡ Plain (DirLookup p path flags mode) → reply ≡ got → y ≡ x
      → got ≡ told_of (λ n. Found n) r → PlannedOr (LookupLacks w t p path flags mode) w (plan_lookup w t p path flags mode) (λ n. Found n) r x → Owes
  lookup_row p path flags mode (Ok a) got x is same left so h = owed (Plain (DirLookup p path flags mode)) (Found a) x is (same ∙ so) left (stepped w x t (Plain (DirLookup p path flags mode)) (Found a) h.0 h.1) tt
  lookup_row p path flags mode (Err e) got x is same left so (back, inl bars) =
      owed (Plain (DirLookup p path flags mode)) (Refused e) x is (same ∙ so) left
      (stepped w x t (Plain (DirLookup p path flags mode)) (Refused e) (ap (λ (P : Plan). P.reply) (sym bars)) (back ∙ ap (λ (P : Plan). after_plan w P) (sym bars))) tt
  lookup_row p path flags mode (Err e) got x is same left so (back, inr lacks) =
      owed (Plain (DirLookup p path flags mode)) (Refused e) x is (same ∙ so) left
      (inr (record { told = ap (λ (n : Errno). Refused n) lacks.0; takes = refl; needs = λ n. n; wanted = lacks.1; same = back })) tt

  -- a call that brings a box, or none

  kept_refused : (m : Meaning) (r : Reply) → is_refused r ≡ false → is_refused (handing_back m r) ≡ false
  kept_refused m (Refused e) is = is
  kept_refused m Done is = is
  kept_refused m (Found found) is = is
  kept_refused m (Port p) is = is
  kept_refused m (Data bytes) is = is
  kept_refused m (Count count) is = is
  kept_refused m (Names names) is = is
  kept_refused m (Words words) is = is
  kept_refused m (Stat stat) is = is
  kept_refused m (Modes flags) is = is
  kept_refused m (Same same) is = is
  kept_refused m (Back e n) is = is

  wants : (m : Meaning) (r : Reply) {L : Type 0} → (is_refused r ≡ false) ⊎ L → (is_refused (handing_back m r) ≡ false) ⊎ L
  wants m r (inl is) = inl (kept_refused m r is)
  wants m r (inr finds) = inr finds

  module _ (p : ℕ) (setting : Setting) (words : List (List ℕ)) where
    abbrev asked : Option S → code.Call S
    asked server = FileSetTranslator p setting words server

    abbrev tells : Unit {0} → Reply
    tells u = Done

    abbrev planned : Option S → Plan
    planned server = plan_set_translator w t p setting words (option_map f server)

    set_done : (server : Option S) (u : Unit {0}) (x : World) → Follows w (planned server) Done x → Called w t (call_by f (asked server)) Done x
    set_done None u x h = stepped w x t _ Done h.0 h.1
    set_done (Some s) u x h = stepped w x t _ Done (ap (handing_back (f s)) h.0) h.1

    abbrev Met : Option S → Result (Unit {0}) Errno → World → Type 0
    Met server r x = PlannedOr (SetLacks w t p setting (option_map f server)) w (planned server) tells r x

    set_refused : (server : Option S) (e : Errno) (x : World) → Met server (Err e) x → (IsNone server → Follows w (planned server) (Refused e) x)
        → Called w t (call_by f (asked server)) (reply_by f (refusal server e)) x
    set_refused None e x h free = let l = free refl in stepped w x t _ (Refused e) l.0 l.1
    set_refused (Some s) e x (back, inl bars) free =
        stepped w x t _ (Back e (f s)) (ap (λ (P : Plan). handing_back (f s) P.reply) (sym bars)) (back ∙ ap (λ (P : Plan). after_plan w P) (sym bars))
    set_refused (Some s) e x (back, inr lacks) free =
        inr (record { told = ap (λ (n : Errno). Back n (f s)) lacks.0; takes = refl; needs = λ n. n; wanted = wants (f s) (planned (Some s)).reply lacks.1; same = back })

    comes_back : (server : Option S) (e : Errno) → ComesBack (asked server) (refusal server e)
    comes_back None e = tt
    comes_back (Some s) e = refl

    pub set_row : (server : Option S) (r : Result (Unit {0}) (Errno × Option S)) (got : code_reply.Reply S) (x : World) → call ≡ asked server → reply ≡ got → y ≡ x → got ≡ set_told r
        → Met server (without_box r) x → (IsNone server → Follows w (planned server) (told tells (without_box r)) x) → IfErr r (λ e. e.1 ≡ server) → Owes
    set_row server (Ok u) got x is same left so planned free back = owed (asked server) Done x is (same ∙ so) left (set_done server u x planned) tt
    set_row server (Err e) got x is same left so planned free back =
        owed (asked server) (refusal server e.0) x is (same ∙ so ∙ ap (λ (o : Option S). refusal o e.0) back) left (set_refused server e.0 x planned free) (comes_back server e.0)

  -- a call that brings a box

  abbrev StartMet : S → Result (Unit {0}) Errno → World → Type 0
  StartMet server r x = TriedOr (StartLacks w t (f server)) w (plan_startup w t (f server)) (λ u. Done) r x

  start_done : (server : S) (u : Unit {0}) (x : World) → StartMet server (Ok u) x → Called w t (FsysStartup (f server)) Done x
  start_done server u x (inl h) = stepped w x t _ Done (ap (handing_back (f server)) h.0) h.1
  start_done server u x (inr h) = absurd (cc (h.0))

  start_refused : (server : S) (e : Errno) (x : World) → StartMet server (Err e) x → Called w t (FsysStartup (f server)) (Back e (f server)) x
  start_refused server e x (inl h) = stepped w x t _ (Back e (f server)) (ap (handing_back (f server)) h.0) h.1
  start_refused server e x (inr (lacks, (same, wanted))) =
      inr (record { told = cc (lacks); takes = refl; needs = λ n. n; wanted = wants (f server) (plan_startup w t (f server)).reply wanted; same = same })

  pub start_row : (server : S) (r : Result (Unit {0}) (Errno × S)) (got : code_reply.Reply S) (x : World) → call ≡ FsysStartup server → reply ≡ got → y ≡ x → got ≡ start_told r
      → StartMet server (without_box r) x → IfErr r (λ e. e.1 ≡ server) → Owes
  start_row server (Ok u) got x is same left so tried back = owed (FsysStartup server) Done x is (same ∙ so) left (start_done server u x tried) tt
  start_row server (Err e) got x is same left so tried back =
      owed (FsysStartup server) (Back e.0 server) x is (same ∙ so ∙ ap (λ (s : S). Back e.0 s) back) left (start_refused server e.0 x tried) refl

-- the condition on a box, as the row wants it
pub begun_box : {S : Type 0} (f : S → Meaning) (server : Option S) → IfSome (option_map f server) Begins → IfSome server (λ s. Begins (f s))
begun_box f None h = tt
begun_box f (Some s) h = h
