-- What a link owes.
use Rattle.std.proofs.Common.{refl}
use Rattle.hurd_trans_iface.specs.declared.begun.ServerKind.TheVariants.{Symlink}
use Rattle.hurd_trans_iface.specs.Kinds.Symlink.{is_target, symlink, symlink_kind}
use Rattle.hurd_trans_iface.proofs.Guards.{guards_link}
use Rattle.hurd_trans_iface.proofs.Owes.{Owes, or_none, without_options, one-again, one-fits}
use Rattle.hurd_trans_iface.proofs.StillOwes.{still_laws}

pub symlink_owes : Owes Symlink
symlink_owes = record {
  named = refl;
  begins = λ ws. or_none _;
  laws = still_laws symlink_kind (record {
    rooted = λ text. refl;
    guards = guards_link symlink (λ text. refl) (λ old new. refl) (λ old new. refl) (λ old new. refl);
    gives = λ text at amount. tt;
    takes = λ bs. refl;
    cut = refl;
    said = record { fits = one-fits symlink refl; again = one-again is_target; aimless = λ no text. refl };
    options = without_options symlink refl;
  });
}
