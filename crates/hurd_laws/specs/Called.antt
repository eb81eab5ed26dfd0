-- What one call is told by a core that may be refused memory.
use Rattle.std.specs.Prelude.{◌≡◌, ◌⊎◌, ℕ, true, false}
use Rattle.hurd_creds.specs.declared.errno.Errno.TheVariants.{ENOMEM}
pub use Rattle.hurd_machine.specs.Calls.{lacks_memory}
use Rattle.hurd_machine.specs.Calls.{Call, Reply, box_in, refusal}
use Rattle.hurd_machine.specs.declared.call.Call.TheVariants.{Plain, FileSetTranslator, FsysStartup}
use Rattle.hurd_machine.specs.declared.call.PlainCall.TheVariants.{DirLookup}
use Rattle.hurd_machine.specs.World.{World}
use Rattle.hurd_machine.specs.Plan.{is_refused}
use Rattle.hurd_lookup.specs.Seeking.{LookupLacks}
use Rattle.hurd_fsys.specs.Setting.{SetLacks}
use Rattle.hurd_fsys.specs.Starting.{StartLacks}
use Rattle.hurd_laws.specs.Step.{NeedsNone, reply_of, takes_memory, step}

-- a call that brings a box that aims at targets, where these are to be found; or a lookup that comes to a translator that waits, whose words have targets
abbrev pub FindsTargets : World → ℕ → Call → Type 0
FindsTargets w t (Plain (DirLookup p path flags mode)) = LookupLacks w t p path flags mode
FindsTargets w t (FileSetTranslator p setting words box) = SetLacks w t p setting box
FindsTargets w t (FsysStartup box) = StartLacks w t box
FindsTargets w t _ = ⊥

-- ENOMEM: of a call that takes some, and needs some as the world stands, and that the machine doesn't refuse, or not before targets are found;
-- nothing is changed, and a box comes back
pub record Lacks (w : World) (t : ℕ) (c : Call) (reply : Reply) (x : World) : Type 0 where
  pub told : reply ≡ refusal (box_in c) ENOMEM
  pub takes : takes_memory w t c ≡ true
  pub needs : NeedsNone w t c → ⊥
  pub wanted : (is_refused (reply_of w t c) ≡ false) ⊎ FindsTargets w t c
  pub same : x ≡ w

-- what a call of task t is told, and the world that it leaves: those of the step, or ENOMEM
abbrev pub Called : World → ℕ → Call → Reply → World → Type 0
Called w t c reply x = ((reply, x) ≡ step w t c) ⊎ Lacks w t c reply x
