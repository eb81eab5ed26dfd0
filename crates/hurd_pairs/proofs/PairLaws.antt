-- Commands of some tasks in two scripts, gone through together.
use Rattle.std.proofs.Common.{◌≡◌, ◌≢◌, ◌∙◌, ◌<◌, ◌≤◌, ◌+◌, inl, inr, ◌⊎◌, refl, sym, ap, arith, ℕ, zero, suc, Bool, true, false, List, [], ◌∷◌, Option, Some, None, drop, get_or, length, map}
use Rattle.std.specs.Prelude.{slice_get, slice_index_or}
use Rattle.std.proofs.lemmas.List.{drop_all, drop_more}
use Rattle.std.proofs.lemmas.Option.{get_or_from_slice_get, slice_get_past, slice_get_read, slice_get_within}
use Rattle.hurd_script.specs.Commands.{CommandLine}
use Rattle.hurd_shell.specs.Isolation.{commands_by}
use Rattle.hurd_pairs.specs.Moments.{FirstOther}
use Rattle.hurd_pairs.specs.Pairs.{CommandsDiffer, IsNextOwn, Own, own_from}
use Rattle.hurd_pairs.specs.declared.difference.Mismatch.TheVariants.{Commands}
use Rattle.hurd_pairs.proofs.FirstLaws.{none_left, opened, other_here, same_more}

-- the same command, or another
abbrev pub GiveSame : Own → Own → Type 0
GiveSame x y = x.command ≡ y.command

abbrev pub GiveOther : Own → Own → Type 0
GiveOther x y = x.command ≢ y.command

module _ (S : ℕ → Bool) where
  pub own_end : (k : ℕ) → own_from S k [] ≡ record { made = k; command = None } ∷ []
  unfolding own_from
  own_end k = refl

  pub own_here : (k : ℕ) (c : CommandLine) (cs : List CommandLine) → S c.task ≡ true → own_from S k (c ∷ cs) ≡ record { made = k; command = Some c } ∷ own_from S (k + 1) cs
  unfolding own_from
  own_here k c cs own = rw own refl

  pub own_behind : (k : ℕ) (c : CommandLine) (cs : List CommandLine) → S c.task ≡ false → own_from S k (c ∷ cs) ≡ own_from S (k + 1) cs
  unfolding own_from
  own_behind k c cs other = rw other refl

  -- their commands are read off
  abbrev listed : List CommandLine → List (Option CommandLine)
  listed [] = None ∷ []
  listed (c ∷ cs) = Some c ∷ listed cs

  read_off : (k : ℕ) (cs : List CommandLine) → map (λ (x : Own). x.command) (own_from S k cs) ≡ listed (commands_by S cs)
  read_off k [] = ap (map (λ (x : Own). x.command)) (own_end k)
  read_off k (c ∷ cs) = go (S c.task) refl (read_off (k + 1) cs)
    where
      go : (b : Bool) → S c.task ≡ b → map (λ (x : Own). x.command) (own_from S (k + 1) cs) ≡ listed (commands_by S cs) → map (λ (x : Own). x.command) (own_from S k (c ∷ cs)) ≡ listed (commands_by S (c ∷ cs))
      go true own rest = rw (own_here k c cs own, own) (ap (λ (os : List (Option CommandLine)). Some c ∷ os) rest)
      go false other rest = rw (own_behind k c cs other, other) rest

  -- where no two are other, all are the same: so both lists are as long
  same_all : (xs ys : List Own) (cs ds : List CommandLine) → map (λ (x : Own). x.command) xs ≡ listed cs → map (λ (x : Own). x.command) ys ≡ listed ds
      → FirstOther GiveSame GiveOther xs ys None → cs ≡ ds
  same_all [] ys [] ds one two is = absurd (cc)
  same_all [] ys (c ∷ cs) ds one two is = absurd (cc)
  same_all (x ∷ xs) [] cs [] one two is = absurd (cc)
  same_all (x ∷ xs) [] cs (d ∷ ds) one two is = absurd (cc)
  same_all (x ∷ xs) (y ∷ ys) cs ds one two is = elim (opened GiveSame GiveOther x y xs ys None is) [
    | inl both ↦ more cs ds one two both.0 (λ cs2 ds2 one2 two2. same_all xs ys cs2 ds2 one2 two2 both.1)
    | inr both ↦ absurd (let no = both.1 in cc)
  ]
    where
      more : (cs ds : List CommandLine) → x.command ∷ map (λ (x : Own). x.command) xs ≡ listed cs → y.command ∷ map (λ (x : Own). x.command) ys ≡ listed ds → x.command ≡ y.command
          → ((cs2 ds2 : List CommandLine) → map (λ (x : Own). x.command) xs ≡ listed cs2 → map (λ (x : Own). x.command) ys ≡ listed ds2 → cs2 ≡ ds2) → cs ≡ ds
      more [] [] one two same rest = refl
      more [] (d ∷ ds) one two same rest = absurd (cc)
      more (c ∷ cs) [] one two same rest = absurd (cc)
      more (c ∷ cs) (d ∷ ds) one two same rest =
          let head : c ≡ d = cc in
          let first : map (λ (x : Own). x.command) xs ≡ listed cs = cc in
          let second : map (λ (x : Own). x.command) ys ≡ listed ds = cc in
          ap (λ (e : CommandLine). e ∷ cs) head ∙ ap (λ (es : List CommandLine). d ∷ es) (rest cs ds first second)

  pub same_commands : (cs ds : List CommandLine) → FirstOther GiveSame GiveOther (own_from S 0 cs) (own_from S 0 ds) None → commands_by S cs ≡ commands_by S ds
  same_commands cs ds is = same_all (own_from S 0 cs) (own_from S 0 ds) (commands_by S cs) (commands_by S ds) (read_off 0 cs) (read_off 0 ds) is

some_is : (c d : CommandLine) → Some c ≡ Some d → c ≡ d
some_is c d e = cc

got_none : (cs : List CommandLine) (i : ℕ) → slice_get cs i ≡ None → length cs ≤ i
got_none [] i none = omega arith
got_none (c ∷ cs) zero none = absurd (cc)
got_none (c ∷ cs) (suc i) none = let rest = got_none cs i none in omega (arith, rest)

got_within : (cs : List CommandLine) (i : ℕ) (c : CommandLine) → slice_get cs i ≡ Some c → i < length cs
got_within cs i c got = slice_get_within cs i c got

got_is : (cs : List CommandLine) (i : ℕ) (c : CommandLine) → slice_get cs i ≡ Some c → get_or cs i c ≡ c
got_is cs i c got = get_or_from_slice_get cs i c c got

module _ (S : ℕ → Bool) (cs : List CommandLine) where
  -- a command of another is passed
  pub own_passed : (from at : ℕ) (c : CommandLine) → at < length cs → c ≡ slice_index_or cs at c → S c.task ≡ false → own_from S from (drop from cs) ≡ own_from S at (drop at cs)
      → own_from S from (drop from cs) ≡ own_from S (at + 1) (drop (at + 1) cs)
  own_passed from at c within is other same =
      let here : drop at cs ≡ c ∷ drop (at + 1) cs = drop_more cs at c within ∙ ap (λ (d : CommandLine). d ∷ drop (at + 1) cs) (sym is) in
      same ∙ (ap (own_from S at) here ∙ own_behind S at c (drop (at + 1) cs) other)

  -- one of theirs is reached, or the end is

  pub own_reached : (from at : ℕ) (c : CommandLine) → from ≤ at → at < length cs → c ≡ slice_index_or cs at c → S c.task ≡ true → own_from S from (drop from cs) ≡ own_from S at (drop at cs)
      → IsNextOwn S cs from at
  own_reached from at c behind within is own same = record {
    behind = behind;
    within = omega (arith, within);
    same = same;
    own = λ d got. ap (λ (e : CommandLine). S e.task) (some_is d c (sym got ∙ slice_get_read cs (length cs) at c refl within is)) ∙ own;
  }

  pub end_reached : (from : ℕ) → from ≤ length cs → own_from S from (drop from cs) ≡ own_from S (length cs) (drop (length cs) cs) → IsNextOwn S cs from (length cs)
  end_reached from within same = record {
    behind = within;
    within = omega arith;
    same = same;
    own = λ d got. absurd (let no = sym got ∙ slice_get_past cs (length cs) (omega arith) in cc);
  }

  pub end_at : (from at : ℕ) → at ≤ length cs → length cs ≤ at → from ≤ at → own_from S from (drop from cs) ≡ own_from S at (drop at cs) → IsNextOwn S cs from (length cs)
  end_at from at within past behind same =
      let is : at ≡ length cs = omega (arith, within, past) in
      end_reached from (omega (arith, behind, within)) (same ∙ ap (λ (k : ℕ). own_from S k (drop k cs)) is)

  -- what is at such a place: a command of theirs, and those after it, or the end
  pub record Head (at : ℕ) : Type 0 where
    pub rest : List Own
    pub is : own_from S at (drop at cs) ≡ record { made = at; command = slice_get cs at } ∷ rest
    pub more : at < length cs → rest ≡ own_from S (at + 1) (drop (at + 1) cs)
    pub none : length cs ≤ at → rest ≡ []

  head_by : (at : ℕ) (o : Option CommandLine) → slice_get cs at ≡ o → ((c : CommandLine) → slice_get cs at ≡ Some c → S c.task ≡ true) → Head at
  head_by at None got own =
      let past : length cs ≤ at = got_none cs at got in
      record {
        rest = [];
        is = ap (own_from S at) (drop_all at cs past) ∙ (own_end S at ∙ ap (λ (o : Option CommandLine). record { made = at; command = o } ∷ []) (sym got));
        more = λ within. absurd (omega (arith, within, past));
        none = λ _. refl;
      }
  head_by at (Some c) got own =
      let within : at < length cs = got_within cs at c got in
      let here : drop at cs ≡ c ∷ drop (at + 1) cs = drop_more cs at c within ∙ ap (λ (d : CommandLine). d ∷ drop (at + 1) cs) (got_is cs at c got) in
      record {
        rest = own_from S (at + 1) (drop (at + 1) cs);
        is = ap (own_from S at) here ∙ (own_here S at c (drop (at + 1) cs) (own c got) ∙ ap (λ (o : Option CommandLine). record { made = at; command = o } ∷ own_from S (at + 1) (drop (at + 1) cs)) (sym got));
        more = λ _. refl;
        none = λ past. absurd (omega (arith, within, past));
      }

  pub head : (at : ℕ) → ((c : CommandLine) → slice_get cs at ≡ Some c → S c.task ≡ true) → Head at
  head at own = head_by at (slice_get cs at) refl own

module _ (S : ℕ → Bool) (cs ds : List CommandLine) where
  abbrev Firsts : ℕ → ℕ → Option (Own × Own) → Type 0
  Firsts i j found = FirstOther GiveSame GiveOther (own_from S i (drop i cs)) (own_from S j (drop j ds)) found

  -- what is found from here on is what is found from the beginning; and here commands of theirs stand, or the ends
  pub record Matching (i j : ℕ) : Type 0 where
    pub found : (o : Option (Own × Own)) → Firsts i j o → Firsts 0 0 o
    pub first : (c : CommandLine) → slice_get cs i ≡ Some c → S c.task ≡ true
    pub second : (c : CommandLine) → slice_get ds j ≡ Some c → S c.task ≡ true
    pub within : i ≤ length cs

  pub matching_begun : (i j : ℕ) → IsNextOwn S cs 0 i → IsNextOwn S ds 0 j → Matching i j
  matching_begun i j one two = record {
    found = λ o is. rw (one.same, two.same) is;
    first = one.own;
    second = two.own;
    within = one.within;
  }

  module _ (i j : ℕ) (so : Matching i j) where
    -- another command is here
    pub other_found : slice_get cs i ≢ slice_get ds j → CommandsDiffer S cs ds (Some (Commands i j))
    other_found other =
        let x = head S cs i so.first in
        let y = head S ds j so.second in (
          record { made = i; command = slice_get cs i },
          record { made = j; command = slice_get ds j },
          so.found (Some (record { made = i; command = slice_get cs i }, record { made = j; command = slice_get ds j })) (rw (x.is, y.is) (other_here GiveSame GiveOther _ _ x.rest y.rest other)),
          refl,
          refl,
        )

    -- the same is here, and one script has no more
    pub none_differ : slice_get cs i ≡ slice_get ds j → (length cs ≤ i) ⊎ (length ds ≤ j) → CommandsDiffer S cs ds None
    none_differ same end =
        let x = head S cs i so.first in
        let y = head S ds j so.second in
        let none : (x.rest ≡ []) ⊎ (y.rest ≡ []) = elim end [ inl one ↦ inl (x.none one) | inr two ↦ inr (y.none two) ] in
        same_commands S cs ds (so.found None (rw (x.is, y.is) (same_more GiveSame GiveOther _ _ x.rest y.rest None same (none_left GiveSame GiveOther x.rest y.rest none))))

    -- the same is here, and both go on
    pub matching_more : slice_get cs i ≡ slice_get ds j → i < length cs → j < length ds → (k l : ℕ) → IsNextOwn S cs (i + 1) k → IsNextOwn S ds (j + 1) l → Matching k l
    matching_more same one two k l first second =
        let x = head S cs i so.first in
        let y = head S ds j so.second in
        let rest_one = x.more one ∙ first.same in
        let rest_two = y.more two ∙ second.same in
        record {
          found = λ o is. so.found o (rw (x.is, y.is) (same_more GiveSame GiveOther _ _ x.rest y.rest o same (rw (rest_one, rest_two) is)));
          first = first.own;
          second = second.own;
          within = first.within;
        }
