use Rattle.std.proofs.Common.{[], Ok, Err, ◌∙◌}
use Rattle.hurd_terminal.specs.declared.fault.Fault.TheVariants.{Bad, Memory}
use Rattle.hurd_record.proofs.EndedLaws.{record_blames, says_same}
use Rattle.hurd_record.proofs.performing.perform_record.Goals as goal

pub returns-in_default : goal.returns-in_default
returns-in_default g c = record {
  ended = Err Memory;
  blames = record { read = λ no. absurd (cc); write = λ no. absurd (cc) };
  complaint = [];
  says = c.finish.ensures.line;
  is = c.finish.ensures.status;
}

pub returns-in-Ok-None : goal.returns-in-Ok-None
returns-in-Ok-None g c = record {
  ended = Ok tt;
  blames = record { read = λ no. absurd (cc); write = λ no. absurd (cc) };
  complaint = [];
  says = c.finish-in-Ok-None.ensures.line;
  is = c.finish-in-Ok-None.ensures.status;
}

pub returns-in-Ok-Some : goal.returns-in-Ok-Some
returns-in-Ok-Some g c = record {
  ended = Err (Bad c.in-Ok-Some.line);
  blames = record { read = λ no. absurd (cc); write = λ no. absurd (cc) };
  complaint = c.as_slice.result.now;
  says = c.finish-in-Ok-Some.ensures.line;
  is = c.finish-in-Ok-Some.ensures.status;
}

pub returns : goal.returns
returns g c = record {
  ended = Err c.in-Err.fault;
  blames = record_blames c.print_record.new.input c.print_record.new.output c.in-Err.fault c.in-Err.ensures;
  complaint = [];
  says = says_same g.E.Write.contents c.args.errors.now c.finish-in-Err.new.errors c.args.file.now c.as_slice-in-Err.result.now _ (Err c.in-Err.fault)
      (c.as_slice-in-Err.ensures.value ∙ c.in-Ok.ensures) c.finish-in-Err.ensures.line;
  is = c.finish-in-Err.ensures.status;
}
