-- A second name for a file.
use Rattle.std.specs.Prelude.{◌≡◌, ◌⊎◌, ℕ, List, Result, Ok}
use Rattle.hurd_creds.specs.declared.errno.Errno.{Errno}
use Rattle.hurd_trans_iface.specs.Answers.{link_edits}
use Rattle.hurd_machine.specs.declared.call.Reply.TheVariants.{Done}
use Rattle.hurd_machine.specs.World.{World, links_at}
use Rattle.hurd_machine.specs.Change.{changes_of}
use Rattle.hurd_machine.specs.Plan.{Plan, first, answered}
use Rattle.hurd_machine.specs.Handle.{both_asks}
use Rattle.hurd_machine.specs.Sight.{Part, AttrOf, EmptyOf, BodyOf}
use Rattle.hurd_machine.specs.Touched.{OnLinks, asked_parts}
use Rattle.hurd_dirs.specs.declared.link.FileToName.{FileToName}
use Rattle.hurd_dirs.specs.Entry.{name_asks, dir_asks}

-- which file gets a name in which directory
abbrev pub link_asks : World → ℕ → ℕ → List ℕ → ℕ → Result FileToName Errno
link_asks w t p name q =
    first (both_asks w t p q) (λ a.
    first (name_asks name) (λ u.
    first (dir_asks w a.0) (λ v. Ok (record { dir = a.0.right.node; file = a.1.right.node }))))

-- it has an entry more, and a link more
abbrev pub link : World → List ℕ → FileToName → Plan
link w name n =
    answered (links_at w n.dir name n.file) (λ u. record { reply = Done; changes = changes_of (link_edits n.dir name n.file) })

-- dir_link: another name for a file, in a directory of its server
abbrev pub plan_link : World → ℕ → ℕ → List ℕ → ℕ → Plan
plan_link w t p name q = answered (link_asks w t p name q) (λ n. link w name n)

-- a name for a file touches the entries of the directory, that it isn't empty, how many links the file has, and where it is the first, the total
abbrev pub OnName : World → FileToName → Part → Type 0
OnName w n a = (a ≡ BodyOf n.dir) ⊎ ((a ≡ EmptyOf n.dir) ⊎ ((a ≡ AttrOf n.file) ⊎ OnLinks w n.file 0 a))

abbrev pub touches_link : World → ℕ → ℕ → List ℕ → ℕ → Part → Type 0
touches_link w t p name q = asked_parts (link_asks w t p name q) (λ n. asked_parts (links_at w n.dir name n.file) (λ u. OnName w n))
