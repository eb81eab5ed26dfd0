use Rattle.std.proofs.Common.{◌∙◌, ◌∷◌, [], codes, List, ℕ}
use Rattle.std.proofs.lemmas.Result.{IfOk-weaker}
use Rattle.hurd_creds.specs.Bits as bit
use Rattle.hurd_lists.proofs.replies.push_each_flag.Goals as goal

-- the rows from a flag on
abbrev from_directory : List (ℕ × List ℕ)
from_directory = (bit.DIRECTORY, codes "DIRECTORY") ∷ []

abbrev from_nolink : List (ℕ × List ℕ)
from_nolink = (bit.NOLINK, codes "NOLINK") ∷ from_directory

abbrev from_notrans : List (ℕ × List ℕ)
from_notrans = (bit.NOTRANS, codes "NOTRANS") ∷ from_nolink

abbrev from_excl : List (ℕ × List ℕ)
from_excl = (bit.EXCL, codes "EXCL") ∷ from_notrans

abbrev from_create : List (ℕ × List ℕ)
from_create = (bit.CREATE, codes "CREATE") ∷ from_excl

abbrev from_append : List (ℕ × List ℕ)
from_append = (bit.APPEND, codes "APPEND") ∷ from_create

abbrev from_exec : List (ℕ × List ℕ)
from_exec = (bit.EXEC, codes "EXEC") ∷ from_append

abbrev from_write : List (ℕ × List ℕ)
from_write = (bit.WRITE, codes "WRITE") ∷ from_exec

pub returns : goal.returns
returns c =
    let before = c.in_ok-first-8.ensures from_directory ∙ (c.in_ok-first-7.ensures from_nolink ∙ (c.in_ok-first-6.ensures from_notrans ∙ (c.in_ok-first-5.ensures from_excl ∙ (c.in_ok-first-4.ensures from_create ∙ (c.in_ok-first-3.ensures from_append ∙ (c.in_ok-first-2.ensures from_exec ∙ (c.in_ok-first.ensures from_write))))))) in
    IfOk-weaker c.push_flag-9.result _ _ (λ none last. last [] ∙ before) c.push_flag-9.ensures
