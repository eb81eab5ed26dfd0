-- The lines of the calls of an opening.
use Rattle.std.proofs.Common.{◌≡◌, ◌∙◌, ℕ, Bool, true, false, List, [], Option, Some, None, nat_lt, refl, subst, sym}
use Rattle.std.specs.Option.{is_some}
use Rattle.std.proofs.lemmas.Option.{none-some, same_Some}
use Rattle.hurd_machine.specs.Calls.{start_call}
use Rattle.hurd_client.specs.declared.opening.OpenHow.{OpenHow}
use Rattle.hurd_creds.specs.declared.name.TaskId.{TaskId}
use Rattle.hurd_lists.specs.Lists.{Listed}
use Rattle.hurd_machine.specs.declared.call.Call.TheVariants.{Plain}
use Rattle.hurd_machine.specs.declared.call.PlainCall.TheVariants.{DirLookup, IoReauthenticate, PortDeallocate}
use Rattle.hurd_numbers.specs.Calls.{numbered}
use Rattle.hurd_numbers.specs.Lines.{HasLine, IsListed}
use Rattle.hurd_numbers.specs.declared.calls.Numbers.{Numbers}
use Rattle.hurd_trans_iface.specs.Meaning.{Meaning}
use Rattle.hurd_sitting.specs.Openings.{made_by, port_numbers}

-- the call that numbers and bytes make has this line
line_of : (n : Numbers) (bytes : List ℕ) (wanted listed : Listed) → numbered n bytes ≡ Some wanted → IsListed n bytes listed → HasLine wanted listed
line_of n bytes wanted listed is (c, same, line) = subst (λ (z : Listed). HasLine z listed) (same_Some _ _ (sym same ∙ is)) line

module _ (t : TaskId) (port : ℕ) (listed : Listed) where
  pub reauthenticate_line : IsListed (port_numbers t 13 port) [] listed → HasLine (made_by t (Plain (IoReauthenticate port))) listed
  reauthenticate_line said = line_of (port_numbers t 13 port) [] _ _ refl said

  pub deallocate_line : IsListed (port_numbers t 1 port) [] listed → HasLine (made_by t (Plain (PortDeallocate port))) listed
  deallocate_line said = line_of (port_numbers t 1 port) [] _ _ refl said

  -- without a server the start is given up
  pub failed_line : (server : Option Meaning) → false ≡ is_some server → IsListed (port_numbers t 25 port) [] listed → HasLine (made_by t (start_call server)) listed
  failed_line None none said = line_of (port_numbers t 25 port) [] _ _ refl said
  failed_line (Some server) none said = absurd (cc)

  pub lookup_line : (how : OpenHow) (path : List ℕ) → IsListed (record (port_numbers t 30 port) { flags = how.flags.0; mode = how.mode.0 }) path listed
      → HasLine (made_by t (Plain (DirLookup port path how.flags how.mode))) listed
  lookup_line how path said = go (nat_lt how.flags.0 512) refl
    where
      go : (known : Bool) → nat_lt how.flags.0 512 ≡ known → HasLine (made_by t (Plain (DirLookup port path how.flags how.mode))) listed
      go true is = line_of (record (port_numbers t 30 port) { flags = how.flags.0; mode = how.mode.0 }) path _ listed (rw is refl) said
      go false is =
          let none : numbered (record (port_numbers t 30 port) { flags = how.flags.0; mode = how.mode.0 }) path ≡ None = rw is refl in
          absurd (none-some _ (sym none ∙ said.1))
