-- Where a command stops for a server, and how it goes on.
use Rattle.std.specs.Prelude.{ℕ, ◌&&◌, List, Option, Some, Result, Ok}
use Rattle.hurd_creds.specs.declared.errno.Errno.{Errno}
use Rattle.hurd_trans_iface.specs.Meaning.{Meaning}
use Rattle.hurd_trans_iface.specs.Nodes.{has_words}
use Rattle.hurd_machine.specs.declared.call.Call as call
use Rattle.hurd_machine.specs.declared.call.Call.TheVariants.{Plain, FileSetTranslator, FsysStartup}
use Rattle.hurd_machine.specs.declared.call.PlainCall.TheVariants.{DirLink, DirRename}
use Rattle.hurd_shell.specs.declared.commands.Printed.{Printed}
use Rattle.hurd_shell.specs.declared.commands.NodeWork.{NodeWork}
use Rattle.hurd_shell.specs.declared.commands.NodeWork.TheVariants as node
use Rattle.hurd_shell.specs.declared.entries.EntryWork.{EntryWork}
use Rattle.hurd_shell.specs.declared.entries.EntryWork.TheVariants as entry
use Rattle.hurd_client.specs.declared.opening.Opening.{Opening}
use Rattle.hurd_shell.specs.declared.looking.Reached.{Reached}
use Rattle.hurd_shell.specs.declared.looking.Reached.TheVariants as reached
use Rattle.hurd_shell.specs.declared.stages.Progress.{Progress}
use Rattle.hurd_shell.specs.declared.stages.Progress.TheVariants as progress
use Rattle.hurd_shell.specs.declared.stages.Stage.{Stage}
use Rattle.hurd_shell.specs.declared.stages.Stage.TheVariants as stage
use Rattle.hurd_shell.specs.declared.stages.Waiting.{Waiting}
use Rattle.hurd_shell.specs.declared.stages.Work.{Work}
use Rattle.hurd_shell.specs.declared.stages.Work.TheVariants as work
use Rattle.hurd_client.specs.Programs.{Prog, gives, asks, bind, made, closing, done_of, started}
use Rattle.hurd_client.specs.Looking.{start_with}
use Rattle.hurd_client.specs.Openings.{opening_after}
use Rattle.hurd_shell.specs.Commands.{cat, ls, stat, put, chmod, chown, showtrans, fsysopts, mkdir, rm, rmdir, in_place, setting_with, set_with, silent}

-- the program of what a command does with its open node, where it stops for nothing
abbrev pub node_work_of : NodeWork → ℕ → Prog Printed
node_work_of node.Cat = cat
node_work_of node.Ls = ls
node_work_of node.Stat = stat
node_work_of (node.Put text) = put text
node_work_of (node.Chmod mode) = chmod mode
node_work_of (node.Chown owner group) = chown owner group
node_work_of node.Showtrans = showtrans
node_work_of (node.Fsysopts words) = fsysopts words
node_work_of (node.Mkdir name) = λ p. mkdir p name
node_work_of (node.Rm name) = λ p. rm p name
node_work_of (node.Rmdir name) = λ p. rmdir p name

-- the call of what a command does at a name of a second directory, while it holds an open node
abbrev pub entry_change_of : EntryWork → ℕ → ℕ → List ℕ → Prog (Unit {0})
entry_change_of entry.Ln file q name = made (Plain (DirLink q name file)) done_of
entry_change_of (entry.Mv old) p q name = made (Plain (DirRename p old q name)) done_of

-- the program of that
abbrev pub entry_work_of : EntryWork → ℕ → ℕ → List ℕ → Prog Printed
entry_work_of deed held q name = silent (entry_change_of deed held q name)

-- the program of what a command does with its open node
abbrev pub work_of : Work → ℕ → Prog Printed
work_of (work.Node deed) p = node_work_of deed p
work_of (work.Entry deed place) p = in_place place (entry_work_of deed p)
work_of (work.Set setting words active) p = silent (setting_with (active && has_words words) p setting words)

-- what is left of an opening that came to its node, or waits for a server
abbrev pub reached_on : Reached → Prog ℕ
reached_on (reached.Opened p) = gives (Ok p)
reached_on (reached.Waits words o) = asks words (λ server. opening_after o (start_with server))

-- a command that goes on from a stage once this program gives no refusal
abbrev pub stage_behind : Stage → Prog (Unit {0}) → Prog Printed
stage_behind (stage.Opens o at_node) p = bind (opening_after o p) (λ q. closing q (work_of at_node q))
stage_behind (stage.Enters port o name at_entry) p = closing port (bind (opening_after o p) (λ q. closing q (entry_work_of at_entry port q name)))
stage_behind (stage.Sets port setting) p = closing port (silent p)

-- what is done at a stage with the server that was asked for
abbrev pub answer_with : Stage → List (List ℕ) → Option Meaning → Prog (Unit {0})
answer_with (stage.Opens o at_node) words server = start_with server
answer_with (stage.Enters port o name at_entry) words server = start_with server
answer_with (stage.Sets port setting) words server = set_with port setting words server

-- a command that waits for a server
abbrev pub waiting_on : Waiting → Prog Printed
waiting_on w = asks w.words (λ server. stage_behind w.stage (answer_with w.stage w.words server))

-- what is left of a command that came to its end, or waits for a server
abbrev pub progress_on : Progress → Prog Printed
progress_on (progress.Ended printed) = gives (Ok printed)
progress_on (progress.Waits w) = waiting_on w

-- what is left of a command that was answered
abbrev pub answered_on : Stage → Result (Unit {0}) Errno → Prog Printed
answered_on s answer = stage_behind s (gives answer)

-- the call that takes the server at a stage
abbrev pub offer_of : {S : Type 0} → Stage → List (List ℕ) → S → call.Call S
offer_of (stage.Opens o at_node) words server = FsysStartup server
offer_of (stage.Enters port o name at_entry) words server = FsysStartup server
offer_of (stage.Sets port setting) words server = FileSetTranslator port setting words (Some server)

-- what is read of the answer at a stage
abbrev pub read_at : Stage → Result (Unit {0}) Errno → Result (Unit {0}) Errno
read_at (stage.Opens o at_node) answer = started answer
read_at (stage.Enters port o name at_entry) answer = started answer
read_at (stage.Sets port setting) answer = answer
