-- What comes before a server's text where it is told after its program.
use Rattle.std.specs.Prelude.{ℕ, List, [], if◌then◌else◌, bytes_eq, codes}

-- by the program's name: before a tree's, which is its limit, `--size=`; before a link's nothing
abbrev pub text_mark : List ℕ → List ℕ
text_mark program = if bytes_eq program (codes "/hurd/tmpfs") then codes "--size=" else []
