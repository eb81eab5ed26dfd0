-- What plans change where things have other names.
use Rattle.std.proofs.Common.{◌≡◌, Result, Ok, Err, sym, subst}
use Rattle.hurd_machine.proofs.Common.{Errno, Reply}
use Rattle.hurd_machine.specs.Plan.{Plan, looks}
unfoldable use Rattle.hurd_machine.specs.Plan.{answered}
use Rattle.hurd_machine.specs.Renamed.{OtherNames}
use Rattle.hurd_machine.proofs.RenamedPlans.{answer_renamed}
use Rattle.hurd_laws.proofs.Changes.{Alike, none}

module _ (f : OtherNames) where
  -- two plans change the same except for names
  abbrev pub Changing : Plan → Plan → Type 0
  Changing P Q = Alike f P.changes Q.changes

  -- plans that follow from answers with other names
  pub answered-left : {A B : Type 0} (g : A → B) {s : Result B Errno} (r : Result A Errno) (k : A → Plan) (l : B → Plan) → s ≡ answer_renamed g r → ((x : A) → Changing (k x) (l (g x)))
      → Changing (answered r k) (answered s l)
  unfolding answered
  answered-left {A} {B} g r k l is each = subst (λ (q : Result B Errno). Changing (answered r k) (answered q l)) (sym is) (go r)
    where
      go : (r : Result A Errno) → Changing (answered r k) (answered (answer_renamed g r) l)
      go (Ok x) = each x
      go (Err e) = none f

  -- from an answer that has no names
  pub given-left : {A : Type 0} {s : Result A Errno} (r : Result A Errno) (k l : A → Plan) → s ≡ r → ((x : A) → Changing (k x) (l x)) → Changing (answered r k) (answered s l)
  unfolding answered
  given-left {A} r k l is each = subst (λ (q : Result A Errno). Changing (answered r k) (answered q l)) (sym is) (go r)
    where
      go : (r : Result A Errno) → Changing (answered r k) (answered r l)
      go (Ok x) = each x
      go (Err e) = none f

  -- of calls that only look
  pub looks-left : {A B : Type 0} (asks : Result A Errno) (reply : A → Reply) (others : Result B Errno) (told : B → Reply) → Changing (looks asks reply) (looks others told)
  unfolding answered
  looks-left (Ok x) reply (Ok y) told = none f
  looks-left (Ok x) reply (Err e) told = none f
  looks-left (Err e) reply (Ok y) told = none f
  looks-left (Err e) reply (Err g) told = none f
