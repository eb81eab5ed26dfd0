use Rattle.std.proofs.Common.{refl}
use Rattle.std.proofs.lemmas.Result.{IfOk-weaker}
use Rattle.clap.specs.Words.{app_of}
use Rattle.hurd_script.proofs.SettingLemmas.{flag_more}
use Rattle.hurd_script.proofs.settrans.setting_flags.Goals as goal

pub returns : goal.returns
returns c =
    let with_a = flag_more _ _ _ 97 c.in_ok-command.ensures refl in
    let with_p = flag_more _ _ _ 112 c.in_ok-command-2.ensures with_a in
    let with_c = flag_more _ _ _ 99 c.in_ok-command-3.ensures with_p in
    IfOk-weaker c.with_flag-4.result _ _ (λ command e. flag_more _ (app_of command) _ 120 e with_c) c.with_flag-4.ensures
