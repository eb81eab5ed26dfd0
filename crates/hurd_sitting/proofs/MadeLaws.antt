-- What was told of calls so far.
use Rattle.std.proofs.Common.{◌≡◌, ◌∙◌, ◌⊎◌, ℕ, List, [], ◌∷◌, ◌++◌, Option, ap, append-nil, append_assoc, inl, inr, refl, subst, sym}
use Rattle.hurd_kinds.specs.declared.server_box.ServerBox.{ServerBox}
use Rattle.hurd_lists.specs.Lists.{Listed}
use Rattle.hurd_lists.specs.declared.reader.ListedCall.{ListedCall}
use Rattle.hurd_machine.specs.World.{World}
use Rattle.hurd_calls.specs.Making.{after_call}
use Rattle.hurd_teaching.specs.declared.learners.Learners.{Learners}
use Rattle.hurd_sitting.specs.Sittings.{Adds, SomeMade, Tells, behind, listed}
use Rattle.hurd_sitting.proofs.PartLaws.{as_one, none_behind, one_behind}
use Rattle.hurd_sitting.proofs.TellLaws.{none_tells, tells_one}

-- nothing is told of no calls
pub adds_none : (who : Option Learners) (w : World) (before : List ℕ) → Adds who [] w before before
adds_none who w before = ([], none_tells who w, sym (append-nil before))

-- one call more is told, and made

module _ (who : Option Learners) (first : List Listed) (w x : World) (c : Listed) (leaves : x ≡ behind first w) where
  pub adds_more : (before now then : List ℕ) → Adds who first w before now → Adds who (c ∷ []) x now then → Adds who (first ++ c ∷ []) w before then
  adds_more before now then (told, tells, is) (text, here, adds) = (
    told ++ text,
    tells_one who first (c ∷ []) w told text tells (subst (λ (v : World). Tells who (c ∷ []) v text) leaves here),
    adds ∙ (ap (λ (bs : List ℕ). bs ++ text) is ∙ append_assoc before told text),
  )

  pub leaves_more : (y : World) → y ≡ after_call c x → y ≡ behind (first ++ c ∷ []) w
  leaves_more y next = next ∙ (ap (after_call c) leaves ∙ sym ((as_one first (c ∷ []) w).leaves ∙ one_behind c (behind first w)))

-- some first calls of a list were made in world w and told, and world x is after them
pub record Made (who : Option Learners) (calls : List Listed) (w : World) (before now : List ℕ) (left : List Listed) (x : World) : Type 0 where
  pub first : List Listed
  pub split : calls ≡ first ++ left
  pub tells : Adds who first w before now
  pub leaves : x ≡ behind first w

-- at the beginning no call was made
pub none_made : (who : Option Learners) (calls left : List (ListedCall ServerBox)) (w : World) (before : List ℕ) → left ≡ calls
    → Made who (listed calls) w before before (listed left) w
none_made who calls left w before same = rw same (record { first = []; split = refl; tells = adds_none who w before; leaves = sym (none_behind w) })

module _ (who : Option Learners) (calls : List Listed) (w : World) (before now : List ℕ) (left : List Listed) (x : World) (so : Made who calls w before now left x) where
  -- some were made, and nothing since; or the next was
  pub none_since : SomeMade who calls w before now x
  none_since = record { first = so.first; rest = left; split = so.split; tells = so.tells; leaves = inl so.leaves }

  pub one_since : (c : Listed) (less : List Listed) (y : World) → left ≡ c ∷ less → (y ≡ x) ⊎ (y ≡ after_call c x) → SomeMade who calls w before now y
  one_since c less y is (inl same) = rw same none_since
  one_since c less y is (inr next) = record {
    first = so.first;
    rest = c ∷ less;
    split = so.split ∙ ap (λ (cs : List Listed). so.first ++ cs) is;
    tells = so.tells;
    leaves = inr (leaves_more who so.first w x c so.leaves y next);
  }

  -- one call more was made, and what it tells is told
  pub next_made : (then : List ℕ) (c : Listed) (less : List Listed) (y : World) → left ≡ c ∷ less → Adds who (c ∷ []) x now then → y ≡ after_call c x → Made who calls w before then less y
  next_made then c less y is here next = record {
    first = so.first ++ c ∷ [];
    split = so.split ∙ (ap (λ (cs : List Listed). so.first ++ cs) is ∙ sym (append_assoc so.first (c ∷ []) less));
    tells = adds_more who so.first w x c so.leaves before now then so.tells here;
    leaves = leaves_more who so.first w x c so.leaves y next;
  }

  -- no call is left
  module _ (none : left ≡ []) where
    whole : calls ≡ so.first
    whole = so.split ∙ (ap (λ (cs : List Listed). so.first ++ cs) none ∙ append-nil so.first)

    pub all_told : Adds who calls w before now
    all_told = subst (λ (cs : List Listed). Adds who cs w before now) (sym whole) so.tells

    pub all_made : x ≡ behind calls w
    all_made = so.leaves ∙ ap (λ (cs : List Listed). behind cs w) (sym whole)

-- where nothing was told before, all that is told is what the calls tell
pub tells_all : (who : Option Learners) (calls : List Listed) (w : World) (before told : List ℕ) → before ≡ [] → Adds who calls w before told → Tells who calls w told
tells_all who calls w before told none (text, tells, is) = subst (Tells who calls w) (sym (is ∙ ap (λ (bs : List ℕ). bs ++ text) none)) tells
