-- What servers of one node owe that nothing changes.
use Rattle.std.proofs.Common.{◌≡◌, ℕ, Bool, true, false, true≢false, List, [], ◌∷◌, nat_lt, refl, sym}
use Rattle.std.specs.Prelude.{Result, Ok, Err}
use Rattle.hurd_creds.specs.declared.errno.Errno.{Errno}
use Rattle.hurd_creds.specs.declared.name.Name.{Name}
use Rattle.hurd_creds.specs.Memory.{is_no_memory}
use Rattle.hurd_creds.specs.Limits.{most_size}
use Rattle.hurd_trans_iface.specs.Nodes.{Body, Content, Listing, Node, is_dir, without_entry}
use Rattle.hurd_trans_iface.specs.Answers.{is_tree}
use Rattle.hurd_trans_iface.specs.Behaviour.{Effect}
use Rattle.hurd_trans_iface.specs.Renamed.{body_renamed}
use Rattle.hurd_trans_iface.specs.Good.{GuardsText}
use Rattle.hurd_trans_iface.specs.Meaning.{root_body}
use Rattle.hurd_trans_iface.specs.Still.{StillKind, holds_nothing, still, unchanged}
use Rattle.hurd_trans_iface.proofs.Goodness.{IsFine, fine_done, fine_if}
use Rattle.hurd_trans_iface.proofs.Owes.{Laws, OptionLaws, Said}
use Rattle.hurd_trans_iface.proofs.Shown.{IsKept, Leaves, laws_by, left_kept, treeless}

-- an answer, or a refusal that isn't ENOMEM
abbrev pub IsPlainly : {T : Type 0} → Result T Errno → Type 0
IsPlainly (Ok told) = Unit {0}
IsPlainly (Err e) = is_no_memory e ≡ false

-- what differs between such kinds
pub record StillLaws (s : StillKind) : Type 0 where
  pub rooted : (text : List ℕ) → is_tree (s.root text) ≡ false
  pub guards : GuardsText (still s)
  pub gives : (text : List ℕ) (at amount : ℕ) → IsPlainly (s.gives text at amount)
  pub takes : (bs : List ℕ) → IsPlainly (s.takes bs)
  pub cut : IsPlainly s.cut
  pub said : Said (still s)
  pub options : OptionLaws (still s)

unchanged_fine : {T : Type 0} (r : Result T Errno) → IsPlainly r → IsFine Leaves (unchanged r)
unchanged_fine (Ok told) plain = (refl, refl)
unchanged_fine (Err e) plain = plain

empty_holds : (dir : Bool) → holds_nothing (root_body dir []) ≡ true
empty_holds true = refl
empty_holds false = refl

less_nothing : (name : List ℕ) (c : Body) → holds_nothing c ≡ true → holds_nothing (without_entry name c) ≡ true
less_nothing name (Content bs) h = h
less_nothing name (Listing []) h = refl
less_nothing name (Listing (e ∷ es)) h = absurd (true≢false (sym h))

nothing_renamed : (to : Name → Name) (c : Body) → holds_nothing (body_renamed to c) ≡ holds_nothing c
nothing_renamed to (Content bs) = refl
nothing_renamed to (Listing []) = refl
nothing_renamed to (Listing (e ∷ es)) = refl

-- all that such a kind owes
pub still_laws : (s : StillKind) → StillLaws s → Laws (still s)
still_laws s l = laws_by (still s) (record {
  named = λ text. refl;
  rooted = l.rooted;
  tree = treeless (still s) refl (λ text. refl);
  begun = λ text. empty_holds (is_dir (s.root text).kind);
  read = λ at amount writers text x. kept text x _ (read_fine text at amount);
  write = λ at bs readers text x. kept text x _ (unchanged_fine (s.takes bs) (l.takes bs));
  set_size = λ size text x. kept text x _ (fine_if Leaves (nat_lt most_size size) _ _ (λ long. refl) (λ short. unchanged_fine s.cut l.cut));
  entered = λ text name n c. refl;
  removed = λ text name c. refl;
  less = less_nothing;
  read_keeps = λ text file x at amount writers d is. fine_done Leaves (unchanged (s.gives text at amount)) d (read_fine text at amount) is;
  guards = l.guards;
  write_blind = λ other text at bs readers h c e. refl;
  set_size_blind = λ text size h c e. refl;
  nameless = record {
    size = λ to text c. refl;
    holds = nothing_renamed;
    read = λ at amount writers to text x. refl;
    write = λ at bs readers to text x. refl;
    set_size = λ size to text x. refl;
    readable = λ to text x at. refl;
  };
  said = l.said;
  options = l.options;
})
  where
    read_fine : (text : List ℕ) (at amount : ℕ) → IsFine Leaves (unchanged (s.gives text at amount))
    read_fine text at amount = unchanged_fine (s.gives text at amount) (l.gives text at amount)

    kept : {T : Type 0} (text : List ℕ) (x : Node) (e : Effect T) → IsFine Leaves e → IsFine (IsKept (still s) text x) e
    kept text x e fine = left_kept (still s) text x e fine
