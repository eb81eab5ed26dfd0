-- A stream without bytes, which drops what it takes.
use Rattle.std.specs.Prelude.{true, false, [], length, codes, Ok}
use Rattle.hurd_creds.specs.declared.attrs.Kind.TheVariants.{Char}
use Rattle.hurd_trans_iface.specs.Behaviour.{Behaviour, plain_root}
use Rattle.hurd_trans_iface.specs.Arguments.{is_empty, no_text, no_options}
use Rattle.hurd_trans_iface.specs.Still.{StillKind, still}

abbrev pub null_kind : StillKind
null_kind = record {
  program = codes "/hurd/null";
  begins = no_text;
  arguments = λ text. [];
  set_options = no_options;
  fits = is_empty;
  aims = false;
  targets = λ text. [];
  root = λ text. record (plain_root Char) { is_stream = true };
  size = λ text. 0;
  gives = λ text at amount. Ok [];
  takes = λ bs. Ok (length bs);
  cut = Ok tt;
  readable = λ text at. 0;
}

abbrev pub null : Behaviour
null = still null_kind
