-- Who is told the text of a server, by what its root is.
use Rattle.std.specs.Prelude.{ℕ, ◌&&◌, ◌||◌, Bool, true, false, not, if◌then◌else◌, List, []}
use Rattle.hurd_creds.specs.declared.attrs.Kind.{Kind}
use Rattle.hurd_creds.specs.declared.attrs.Kind.TheVariants.{File}
use Rattle.hurd_trans_iface.specs.declared.root.Crossing.{Crossing}
use Rattle.hurd_trans_iface.specs.declared.root.Crossing.TheVariants.{Plain, Link}
use Rattle.hurd_trans_iface.specs.declared.root.Root.{Root}
use Rattle.hurd_trans_iface.specs.Answers.{is_tree}

-- whether a lookup is told the text: at a link, which leads on by it
abbrev pub is_link : Crossing → Bool
is_link (Link absolute) = true
is_link _ = false

-- the text that whoever knows a server with this root is told: a link's, and a tree's, which is its limit
abbrev pub told_text : Root → List ℕ → List ℕ
told_text r text = if is_link r.crossing || is_tree r then text else []

-- whether reading the root gives the text: it is a file that is no stream, and at which a lookup goes on

abbrev pub is_file : Kind → Bool
is_file File = true
is_file _ = false

abbrev pub goes_on : Crossing → Bool
goes_on Plain = true
goes_on _ = false

abbrev pub reads_text : Root → Bool
reads_text r = is_file r.kind && (not r.is_stream && goes_on r.crossing)
