-- What a firm link owes.
use Rattle.std.proofs.Common.{true≢false, refl}
use Rattle.hurd_trans_iface.specs.declared.begun.ServerKind.TheVariants.{Firmlink}
use Rattle.hurd_trans_iface.specs.Kinds.Firmlink.{firmlink, is_firm, firmlink_kind}
use Rattle.hurd_trans_iface.proofs.Guards.{guards_none}
use Rattle.hurd_trans_iface.proofs.Owes.{Owes, or_none, without_options, one-again, one-fits}
use Rattle.hurd_trans_iface.proofs.StillOwes.{still_laws}

pub firmlink_owes : Owes Firmlink
firmlink_owes = record {
  named = refl;
  begins = λ ws. or_none _;
  laws = still_laws firmlink_kind (record {
    rooted = λ text. refl;
    guards = guards_none firmlink (λ old new. refl);
    gives = λ text at amount. tt;
    takes = λ bs. refl;
    cut = refl;
    said = record { fits = one-fits firmlink refl; again = one-again is_firm; aimless = λ no. absurd (true≢false no) };
    options = without_options firmlink refl;
  });
}
