-- What a stream of zero bytes owes.
use Rattle.std.proofs.Common.{refl}
use Rattle.hurd_trans_iface.specs.declared.begun.ServerKind.TheVariants.{Zero}
use Rattle.hurd_trans_iface.specs.Kinds.Zero.{zeros, zero_kind}
use Rattle.hurd_trans_iface.proofs.Guards.{guards_none}
use Rattle.hurd_trans_iface.proofs.Owes.{Owes, or_none, without_options, none-again, none-fits}
use Rattle.hurd_trans_iface.proofs.StillOwes.{still_laws}

pub zero_owes : Owes Zero
zero_owes = record {
  named = refl;
  begins = λ ws. or_none _;
  laws = still_laws zero_kind (record {
    rooted = λ text. refl;
    guards = guards_none zeros (λ old new. refl);
    gives = λ text at amount. tt;
    takes = λ bs. tt;
    cut = tt;
    said = record { fits = λ ws text within. none-fits ws text; again = none-again; aimless = λ no text. refl };
    options = without_options zeros refl;
  });
}
