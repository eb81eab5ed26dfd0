use Rattle.std.proofs.Common.{[], codes, refl}
use Rattle.std.proofs.KnownBytes.{Appends-nil}
use Rattle.hurd_terminal.proofs.OutputLaws.{follows_cut}
use Rattle.hurd_terminal.proofs.ending.say.Goals as goal

pub returns-in-Read-clause-ok : goal.returns-in-Read-clause-ok
returns-in-Read-clause-ok g c = rw c.in-Read.is c.say_of.ensures.ok

pub returns-in-Read-clause-err : goal.returns-in-Read-clause-err
returns-in-Read-clause-err g c = rw c.in-Read.is c.say_of.ensures.err

pub returns-in-Write-clause-ok : goal.returns-in-Write-clause-ok
returns-in-Write-clause-ok g c = rw c.in-Write.is c.print.ensures.ok

pub returns-in-Write-clause-err : goal.returns-in-Write-clause-err
returns-in-Write-clause-err g c =
    rw c.in-Write.is (follows_cut c.print.new.self _ _ _ _ [] (codes "hurd: cannot write\n") c.print.result ([], refl) (Appends-nil _) c.print.ensures.err)

pub returns-in-Bad-clause-ok : goal.returns-in-Bad-clause-ok
returns-in-Bad-clause-ok g c = rw c.in-Bad.is c.say_of-in-Bad.ensures.ok

pub returns-in-Bad-clause-err : goal.returns-in-Bad-clause-err
returns-in-Bad-clause-err g c = rw c.in-Bad.is c.say_of-in-Bad.ensures.err

pub returns-in-Unknown-clause-ok : goal.returns-in-Unknown-clause-ok
returns-in-Unknown-clause-ok g c = rw c.in-Unknown.is c.say_of-in-Unknown.ensures.ok

pub returns-in-Unknown-clause-err : goal.returns-in-Unknown-clause-err
returns-in-Unknown-clause-err g c = rw c.in-Unknown.is c.say_of-in-Unknown.ensures.err

pub returns-in-Boot-clause-ok : goal.returns-in-Boot-clause-ok
returns-in-Boot-clause-ok g c = rw c.in-Boot.is (rw (c.as_bytes.ensures.value, c.as_str.ensures.value, c.refusal_by.ensures) at c.say_of-in-Boot.ensures.ok)

pub returns-in-Boot-clause-err : goal.returns-in-Boot-clause-err
returns-in-Boot-clause-err g c = rw c.in-Boot.is (rw (c.as_bytes.ensures.value, c.as_str.ensures.value, c.refusal_by.ensures) at c.say_of-in-Boot.ensures.err)

pub returns-in-Memory-clause-ok : goal.returns-in-Memory-clause-ok
returns-in-Memory-clause-ok g c = rw c.in-Memory.is c.print-in-Memory.ensures.ok

pub returns-in-Memory-clause-err : goal.returns-in-Memory-clause-err
returns-in-Memory-clause-err g c =
    rw c.in-Memory.is (follows_cut c.print-in-Memory.new.self _ _ _ _ [] (codes "hurd: out of memory\n") c.print-in-Memory.result ([], refl) (Appends-nil _) c.print-in-Memory.ensures.err)
