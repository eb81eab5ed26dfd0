use Rattle.clap.specs.Words.{found_of}
use Rattle.hurd_script.proofs.SettingLemmas.{tells}
use Rattle.hurd_script.proofs.settrans.flags_found.Goals as goal

pub returns : goal.returns
returns c =
    record {
      active = tells (found_of c.args.matches.now) 97 c.get_flag.result c.get_flag.ensures.value c.get_flag.ensures.other;
      passive = tells (found_of c.args.matches.now) 112 c.get_flag-2.result c.get_flag-2.ensures.value c.get_flag-2.ensures.other;
      create = tells (found_of c.args.matches.now) 99 c.get_flag-3.result c.get_flag-3.ensures.value c.get_flag-3.ensures.other;
      exclusive = tells (found_of c.args.matches.now) 120 c.get_flag-4.result c.get_flag-4.ensures.value c.get_flag-4.ensures.other;
      goaway = tells (found_of c.args.matches.now) 103 c.get_flag-5.result c.get_flag-5.ensures.value c.get_flag-5.ensures.other;
      keep = tells (found_of c.args.matches.now) 107 c.get_flag-6.result c.get_flag-6.ensures.value c.get_flag-6.ensures.other;
      force = tells (found_of c.args.matches.now) 102 c.get_flag-7.result c.get_flag-7.ensures.value c.get_flag-7.ensures.other;
      orphan = tells (found_of c.args.matches.now) 111 c.get_flag-8.result c.get_flag-8.ensures.value c.get_flag-8.ensures.other;
    }
