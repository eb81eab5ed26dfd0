use Rattle.hurd_lists.proofs.ArgumentLemmas.{is_text, no_text}
use Rattle.hurd_numbers.proofs.words.text.Goals as goal

pub returns-in-Ok : goal.returns-in-Ok
returns-in-Ok c = is_text _ _ c.in-Ok.ensures.cases.0 c.in-Ok.ensures.cases.1

pub returns-in-Err : goal.returns-in-Err
returns-in-Err c = no_text _ c.in-Err.ensures.cases.0
