-- The words of a line, gone over one after another, up to a name.
use Rattle.std.proofs.Common.{◌≡◌, ℕ, List, ◌∷◌, true, false, refl}
use Rattle.hurd_witnesses.specs.Trials.{child_from, is_name, next_seek, part_at}
use Rattle.hurd_witnesses.specs.declared.children.Seek.{Seek}
use Rattle.hurd_witnesses.specs.declared.children.Seek.TheVariants.{Entries, Sign, Name}

-- a name is there
pub name_here : (seek : Seek) (word : List ℕ) (words : List (List ℕ)) → is_name seek ≡ true → child_from seek (word ∷ words) ≡ part_at 44 0 word
name_here Entries word words is = absurd (cc is)
name_here Sign word words is = absurd (cc is)
name_here Name word words is = refl

-- or it is after this word
pub name_behind : (seek : Seek) (word : List ℕ) (words : List (List ℕ)) → is_name seek ≡ false → child_from seek (word ∷ words) ≡ child_from (next_seek seek word) words
name_behind Entries word words is = refl
name_behind Sign word words is = refl
name_behind Name word words is = absurd (cc is)
