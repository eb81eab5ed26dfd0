use Rattle.hurd_pairs.proofs.laws.one_report_is_printed.Goals as goal
use Rattle.hurd_pairs.proofs.OneReport.{report_is_one}

pub returns : goal.returns
returns c = report_is_one
