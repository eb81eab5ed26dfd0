-- Calls, and the servers that they bring.
use Rattle.std.proofs.Common.{◌≡◌, Option, Some, None, refl}
use Rattle.std.specs.Option.{option_map}
use Rattle.hurd_trans_iface.specs.Meaning.{Meaning}
use Rattle.hurd_machine.specs.declared.call.Call as call
use Rattle.hurd_machine.specs.declared.call.Call.TheVariants.{Plain, FsysStartup}
use Rattle.hurd_machine.specs.declared.call.PlainCall.TheVariants.{StartFailed}
use Rattle.hurd_machine.specs.Calls.{call_by, start_call}
use Rattle.hurd_lists.specs.Calls.{with_server}

-- what a start with a server means
started_by : {S : Type 0} (f : S → Meaning) (s : Option S) → call_by f (start_call s) ≡ start_call (option_map f s)
started_by f None = refl
started_by f (Some s) = refl

-- what a call with another server means
pub served_by : {S : Type 0} (f : S → Meaning) (s : Option S) (c : call.Call S) → call_by f (with_server s c) ≡ with_server (option_map f s) (call_by f c)
served_by f s (FsysStartup server) = started_by f s
served_by f s (Plain StartFailed) = started_by f s
served_by f s _ = refl
