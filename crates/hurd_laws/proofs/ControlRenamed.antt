-- What the core asks of ports that control servers, where things have other names.
use Rattle.std.proofs.Common.{◌≡◌, ℕ, List, Option, Result, Ok, Err, refl, ap, ◌∙◌}
use Rattle.std.specs.Option.{option_map}
use Rattle.hurd_machine.proofs.Common.{Control, EBADF, Errno, Io, Name, Right, ServerInfo, Start, World, or_refuse, ports_of, server_at, takes_options}
use Rattle.hurd_ports.specs.Tables.{right_of}
use Rattle.hurd_machine.specs.Renamed.{OtherNames, info_renamed, renamed, right_renamed}
use Rattle.hurd_machine.proofs.RenamedAsks.{takes_options-renamed}
use Rattle.hurd_machine.proofs.RenamedPlans.{answer_renamed, answered-renamed, or_refuse-renamed}
use Rattle.hurd_machine.proofs.RenamedServers.{server_at-renamed}
use Rattle.hurd_machine.proofs.RenamedTasks.{right_of-renamed}
use Rattle.hurd_core.specs.Control.{control_in, control_of, plan_options, server_in}

module _ (f : OtherNames) where
  pub server_in-renamed : (r : Right) → server_in (right_renamed f.to r) ≡ option_map f.to (server_in r)
  server_in-renamed (Io r) = refl
  server_in-renamed (Control s) = refl
  server_in-renamed (Start n) = refl

  pub control_in-renamed : (r : Result Right Errno) → control_in (answer_renamed (right_renamed f.to) r) ≡ answer_renamed f.to (control_in r)
  control_in-renamed (Err e) = refl
  control_in-renamed (Ok r) = ap (or_refuse EBADF) (server_in-renamed r) ∙ or_refuse-renamed f.to EBADF (server_in r)

  module _ (w : World) (t : ℕ) where
    -- the server that a port controls
    pub control_of-renamed : (c : ℕ) → control_of (ports_of (renamed f w)) t c ≡ answer_renamed f.to (control_of (ports_of w) t c)
    control_of-renamed c = ap control_in (right_of-renamed f w t c) ∙ control_in-renamed (right_of (ports_of w) t c)

  -- a server that is given options
  pub options_told : (w : World) (s : Name) (words : List (List ℕ)) → (plan_options (renamed f w) (f.to s) words).reply ≡ (plan_options w s words).reply
  options_told w s words =
      answered-renamed (λ (a : ServerInfo × Option (List ℕ)). (info_renamed f.to a.0, a.1)) _ _ _ (ap (takes_options words) (server_at-renamed f w s) ∙ takes_options-renamed f words (server_at w s)) (λ a. refl)
