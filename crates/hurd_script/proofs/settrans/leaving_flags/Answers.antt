use Rattle.std.proofs.Common.{refl}
use Rattle.std.proofs.lemmas.Result.{IfOk-weaker}
use Rattle.clap.specs.Words.{app_of}
use Rattle.hurd_script.proofs.SettingLemmas.{flag_more}
use Rattle.hurd_script.proofs.settrans.leaving_flags.Goals as goal

pub returns : goal.returns
returns c =
    let with_g = flag_more _ _ _ 103 c.in_ok-command.ensures refl in
    let with_k = flag_more _ _ _ 107 c.in_ok-command-2.ensures with_g in
    let with_f = flag_more _ _ _ 102 c.in_ok-command-3.ensures with_k in
    IfOk-weaker c.with_flag-4.result _ _ (λ command e. flag_more _ (app_of command) _ 111 e with_f) c.with_flag-4.ensures
