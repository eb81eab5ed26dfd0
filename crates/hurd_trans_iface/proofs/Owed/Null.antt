-- What a stream without bytes owes.
use Rattle.std.proofs.Common.{refl}
use Rattle.hurd_trans_iface.specs.declared.begun.ServerKind.TheVariants.{Null}
use Rattle.hurd_trans_iface.specs.Kinds.Null.{null, null_kind}
use Rattle.hurd_trans_iface.proofs.Guards.{guards_none}
use Rattle.hurd_trans_iface.proofs.Owes.{Owes, or_none, without_options, none-again, none-fits}
use Rattle.hurd_trans_iface.proofs.StillOwes.{still_laws}

pub null_owes : Owes Null
null_owes = record {
  named = refl;
  begins = λ ws. or_none _;
  laws = still_laws null_kind (record {
    rooted = λ text. refl;
    guards = guards_none null (λ old new. refl);
    gives = λ text at amount. tt;
    takes = λ bs. tt;
    cut = tt;
    said = record { fits = λ ws text within. none-fits ws text; again = none-again; aimless = λ no text. refl };
    options = without_options null refl;
  });
}
