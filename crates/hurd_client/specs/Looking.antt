-- The client's loop: a lookup that follows retries, and starts translators.
use Rattle.std.specs.Prelude.{ℕ, zero, suc, ◌==◌, if◌then◌else◌, List, [], ◌∷◌, length, take, drop, nat_le, codes, Option, Some, None, option_and_then, Result, Ok, Err}
use Rattle.std.specs.List.{position_or_len}
use Rattle.std.specs.Option.{option_map}
use Rattle.hurd_creds.specs.declared.errno.Errno.{Errno}
use Rattle.hurd_creds.specs.declared.errno.Errno.TheVariants.{EIO, ENOENT, ELOOP}
use Rattle.hurd_trans_iface.specs.Meaning.{Meaning}
use Rattle.hurd_trans_iface.specs.Kinds.Hello.{behind}
use Rattle.hurd_trans_iface.specs.Kinds.Symlink.{is_absolute}
use Rattle.hurd_lookup.specs.Path.{is_slash_byte}
use Rattle.hurd_creds.specs.Numbers.{long_number_of}
use Rattle.hurd_machine.specs.declared.call.Call.TheVariants.{Plain, FsysStartup}
use Rattle.hurd_machine.specs.declared.call.PlainCall.TheVariants.{DirLookup, IoReauthenticate, StartFailed}
use Rattle.hurd_machine.specs.declared.call.Lookup.TheVariants as found
use Rattle.hurd_machine.specs.Calls.{Reply}
use Rattle.hurd_machine.specs.declared.call.Reply.TheVariants as reply
use Rattle.hurd_machine.specs.declared.call.RetryKind.TheVariants as kind
use Rattle.hurd_client.specs.declared.answers.LookupAnswer.{LookupAnswer}
use Rattle.hurd_client.specs.declared.answers.LookupAnswer.TheVariants.{Opened, Retried, Started}
use Rattle.hurd_client.specs.declared.answers.NextLookup.{NextLookup}
use Rattle.hurd_client.specs.declared.answers.NextLookup.TheVariants.{Normal, Reauth, Magical}
use Rattle.hurd_client.specs.declared.opening.OpenHow.{OpenHow}
use Rattle.hurd_client.specs.Programs.{Prog, gives, asks, bind, made, closing, port_of, started_of, unread}

-- the port of a task's root
abbrev pub root_port : ℕ
root_port = 1

-- how many retries and starts one opening follows
abbrev pub most_retries : ℕ
most_retries = 32

-- a path that begins with a slash starts at the root, any other at a directory
abbrev pub start_at : ℕ → List ℕ → ℕ
start_at directory [] = directory
start_at directory (b ∷ bs) = if b == 47 then root_port else directory

-- what a lookup is answered: the opened node, a retry, which has a port unless it is magical, or a translator that is to be started
abbrev pub looked_of : Reply → Result LookupAnswer Errno
looked_of (reply.Found (found.Done p)) = Ok (Opened p)
looked_of (reply.Found (found.Retry kind.Normal name (Some p))) = Ok (Retried (Normal name p))
looked_of (reply.Found (found.Retry kind.Reauth name (Some p))) = Ok (Retried (Reauth name p))
looked_of (reply.Found (found.Retry kind.Magical name None)) = Ok (Retried (Magical name))
looked_of (reply.Found (found.Start words)) = Ok (Started words)
looked_of (reply.Refused e) = Err e
looked_of _ = Err EIO

-- one lookup
abbrev pub looking : OpenHow → ℕ → List ℕ → Prog LookupAnswer
looking how port name = made (Plain (DirLookup port name how.flags how.mode)) looked_of

-- a way to open a name at a port
abbrev pub Opener : Type 0
Opener = ℕ → List ℕ → Prog ℕ

-- a port of the task's own: 1 to 20 decimal digits of a number below 2 to the 64th
abbrev pub own_port : List ℕ → Option ℕ
own_port digits = if nat_le (length digits) 20 then long_number_of digits else None

-- what is after `fd/`: a port of the task's own, and from the first slash on what is opened at it
abbrev pub own_place : List ℕ → Option (ℕ × List ℕ)
own_place bytes =
    let slash = position_or_len is_slash_byte bytes in option_map (λ port. (port, drop slash bytes)) (own_port (take slash bytes))

-- where a magical name is opened: a path at the root, and any other where it says `fd/` and a port of the task's own
abbrev pub magical_place : List ℕ → Option (ℕ × List ℕ)
magical_place name = if is_absolute name then Some (root_port, name) else option_and_then own_place (behind (codes "fd/") name)

-- opening what there is at a place, or there is nothing
abbrev pub placed : Opener → Option (ℕ × List ℕ) → Prog ℕ
placed opener None = gives (Err ENOENT)
placed opener (Some place) = opener place.0 place.1

-- following a retry: its name is opened at its port, at the port that the task's own ids give, or where the magical name says, and then its ports are given up
abbrev pub followed : Opener → NextLookup → Prog ℕ
followed opener (Normal name p) = closing p (opener p name)
followed opener (Reauth name p) = closing p (bind (made (Plain (IoReauthenticate p)) port_of) (λ own. closing own (opener own name)))
followed opener (Magical name) = placed opener (magical_place name)

-- a retry too many: it is ELOOP, and its port is given up
abbrev pub too_many : NextLookup → Prog ℕ
too_many (Normal name p) = closing p (gives (Err ELOOP))
too_many (Reauth name p) = closing p (gives (Err ELOOP))
too_many (Magical name) = gives (Err ELOOP)

-- a start too many: it is ELOOP, and what is to be started stays
abbrev pub not_started : List (List ℕ) → Prog ℕ
not_started words = gives (Err ELOOP)

-- with a server, the translator is started; without one the start is given up, and there is no node
abbrev pub start_with : Option Meaning → Prog (Unit {0})
start_with (Some server) = made (FsysStartup server) started_of
start_with None = bind (made (Plain StartFailed) unread) (λ u. gives (Err ENOENT))

-- a start: its server is asked for, and then the node is looked up again
abbrev pub starting : Prog ℕ → List (List ℕ) → Prog ℕ
starting again words = asks words (λ server. bind (start_with server) (λ u. again))

-- what an answer leads to: the opened node is the end, and a retry and a start go on
abbrev pub arrived : (NextLookup → Prog ℕ) → (List (List ℕ) → Prog ℕ) → LookupAnswer → Prog ℕ
arrived goes_on starts (Opened p) = gives (Ok p)
arrived goes_on starts (Retried retry) = goes_on retry
arrived goes_on starts (Started words) = starts words

-- opening a name at a port, where so many retries and starts are followed
unfoldable pub look : ℕ → OpenHow → Opener
look zero how port name = bind (looking how port name) (arrived too_many not_started)
look (suc left) how port name = bind (looking how port name) (arrived (followed (look left how)) (starting (look left how port name)))

-- a retry that comes when so many more are followed
abbrev pub retried : ℕ → OpenHow → NextLookup → Prog ℕ
retried zero how = too_many
retried (suc left) how = followed (look left how)

-- a start that comes when so many more are followed
abbrev pub begun : ℕ → OpenHow → ℕ → List ℕ → List (List ℕ) → Prog ℕ
begun zero how port name = not_started
begun (suc left) how port name = starting (look left how port name)

-- opening what a path leads to from a directory
abbrev pub open_node : ℕ → List ℕ → OpenHow → Prog ℕ
open_node directory path how = look most_retries how (start_at directory path) path
