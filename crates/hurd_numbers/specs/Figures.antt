-- Replies as numbers and bytes.
use Rattle.std.specs.Prelude.{ℕ, ◌+◌, Bool, true, false, List, [], Option, Some, None, if◌then◌else◌, length}
use Rattle.hurd_creds.specs.Errors.{number_of}
use Rattle.hurd_creds.specs.declared.attrs.Kind.{Kind}
use Rattle.hurd_creds.specs.declared.attrs.Kind.TheVariants.{File, Dir, Link, Fifo, Char}
use Rattle.hurd_creds.specs.declared.attrs.Stat.{Stat}
use Rattle.hurd_machine.specs.Calls.{Reply}
use Rattle.hurd_machine.specs.declared.call.Lookup.{Lookup}
use Rattle.hurd_machine.specs.declared.call.Lookup.TheVariants as lookup
use Rattle.hurd_machine.specs.declared.call.Reply.TheVariants as reply
use Rattle.hurd_machine.specs.declared.call.RetryKind.{RetryKind}
use Rattle.hurd_machine.specs.declared.call.RetryKind.TheVariants.{Normal, Reauth, Magical}
use Rattle.hurd_numbers.specs.Words.{zero_ended}
use Rattle.hurd_numbers.specs.declared.figures.Figures.{Figures}

-- a reply with a number
abbrev pub plain : ℕ → ℕ → Figures
plain which n = record { which = which; error = 0; retry = 0; kind = 0; mode = 0; owner = 0; group = 0; links = 0; translators = 0; number = n; size = 0 }

-- how a lookup goes on
abbrev pub retry_number : RetryKind → ℕ
retry_number Normal = 0
retry_number Reauth = 1
retry_number Magical = 2

-- the kind of a node
abbrev pub kind_number : Kind → ℕ
kind_number File = 0
kind_number Dir = 1
kind_number Link = 2
kind_number Fifo = 3
kind_number Char = 4

-- a number, if something holds; else 0
abbrev pub number_if : Bool → ℕ → ℕ
number_if holds n = if holds then n else 0

-- which translators a node has
abbrev pub translators_of : Stat → ℕ
translators_of s = number_if s.passive 1 + number_if s.active 2

-- attributes
abbrev pub stat_figures : Stat → Figures
stat_figures s = record {
  which = 10;
  error = 0;
  retry = 0;
  kind = kind_number s.kind;
  mode = s.mode.0;
  owner = s.owner;
  group = s.group;
  links = s.links;
  translators = translators_of s;
  number = 0;
  size = s.size;
}

-- the port of a retry, or 0 if it has none
abbrev pub or_zero : Option ℕ → ℕ
or_zero None = 0
or_zero (Some n) = n

-- what a lookup found
abbrev pub found_figures : Lookup → Figures
found_figures (lookup.Done port) = plain 2 port
found_figures (lookup.Retry kind name port) = record (plain 3 (or_zero port)) { retry = retry_number kind }
found_figures (lookup.Start words) = plain 4 (length words)

-- the numbers of a reply
abbrev pub figures_of : Reply → Figures
figures_of reply.Done = plain 1 0
figures_of (reply.Found found) = found_figures found
figures_of (reply.Port port) = plain 5 port
figures_of (reply.Data bytes) = plain 6 (length bytes)
figures_of (reply.Count count) = plain 7 count
figures_of (reply.Names names) = plain 8 (length names)
figures_of (reply.Words words) = plain 9 (length words)
figures_of (reply.Stat stat) = stat_figures stat
figures_of (reply.Modes flags) = plain 11 flags.0
figures_of (reply.Same same) = plain 12 (number_if same 1)
figures_of (reply.Refused e) = record (plain 13 0) { error = number_of e }
figures_of (reply.Back e s) = record (plain 14 0) { error = number_of e }

-- what a lookup found, in bytes: the name that it goes on with, or the words of what is to be started
abbrev pub found_bytes : Lookup → List ℕ
found_bytes (lookup.Done port) = []
found_bytes (lookup.Retry kind name port) = name
found_bytes (lookup.Start words) = zero_ended words

-- the bytes of a reply
abbrev pub reply_bytes : Reply → List ℕ
reply_bytes (reply.Found found) = found_bytes found
reply_bytes (reply.Data bytes) = bytes
reply_bytes (reply.Names names) = zero_ended names
reply_bytes (reply.Words words) = zero_ended words
reply_bytes _ = []
