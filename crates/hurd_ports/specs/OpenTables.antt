-- The opens as they stand in the code, with the counts of those of each node.
use Rattle.std.specs.Prelude.{◌≡◌, ℕ, List, if◌then◌else◌, nat_le, refl}
use Rattle.std.specs.Coded.{Coded, code_by, coded×, coded_ℕ}
use Rattle.std.specs.FinMap as fin
use Rattle.hurd_creds.specs.declared.name.Name.{Name}
use Rattle.hurd_creds.specs.Bits.{READ, WRITE}
use Rattle.hurd_creds.specs.Counts.{counted}
use Rattle.hurd_creds.specs.NameMaps.{keyed}
use Rattle.hurd_creds.specs.Names.{coded_name}
use Rattle.hurd_ports.specs.declared.table.Opened.{Opened}
use Rattle.hurd_ports.specs.contracts.table.Opened as opened
use Rattle.hurd_ports.specs.Tables.{OpenMap, ends}

-- what is open, and for how many more opens there is room in memory
pub record OpenTable : Type 0 where
  pub all : OpenMap
  pub room : ℕ

abbrev pub coded_open_table : Coded OpenTable
coded_open_table =
    code_by (OpenMap × ℕ) (coded× (fin.code coded_name opened.the_row.coded) coded_ℕ) (λ t. (t.all, t.room)) (λ p. record { all = p.0; room = p.1 }) (λ _. refl)

-- an open under its name
abbrev pub OpenEntry : Type 0
OpenEntry = Name × Opened

-- its name
abbrev pub open_key : OpenEntry → Name
open_key e = e.0

-- what it is
abbrev pub open_value : OpenEntry → Opened
open_value e = e.1

-- the opens by their names
abbrev pub opens_of : List OpenEntry → OpenMap
opens_of os = keyed open_key open_value os

-- the lesser of two numbers
abbrev pub least : ℕ → ℕ → ℕ
least a b = if nat_le a b then a else b

-- the counts are those of the opens of each node that are to read it, and to write it
pub record AreEnds (opens : OpenMap) (readers writers : List (Name × ℕ)) : Type 0 where
  pub read : (n : Name) → counted readers n ≡ ends opens n READ
  pub write : (n : Name) → counted writers n ≡ ends opens n WRITE
