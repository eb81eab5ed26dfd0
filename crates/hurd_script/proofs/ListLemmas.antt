-- What clap makes of the words of `ls`, which takes a flag.
use Rattle.std.proofs.Common.{Bool, ◌||◌, option_map, ◌≡◌, ◌∷◌, [], List, Option, Some, None, true, false, refl, sym, ◌∙◌, ap, codes, not, subst}
use Rattle.std.specs.List.{list_any}
use Rattle.std.specs.Str.{bytes_eq}
use Rattle.std.proofs.lemmas.Bool.{or_parts}
use Rattle.std.proofs.lemmas.Slice.Eq.{bytes_eq-Decides}
use Rattle.clap.specs.Words.{Row, Text, first_of, one_of}
use Rattle.clap.proofs.OnLiterals.{clap_on_literals}
use Rattle.clap.specs.declared.error.kind.ErrorKind.TheVariants.{ArgumentConflict, MissingRequiredArgument, UnknownArgument}
use Rattle.hurd_script.specs.Flags.{flags_of, is_flag_word, operands_of}
use Rattle.hurd_script.specs.Usage.{Answer, HasListed, flag_text, is_other_flag, list_app, listed}
use Rattle.hurd_script.proofs.UsageLemmas.{IsNoFlag, faulty, no_flag}

-- words of which none is a flag but `-d`
data AreListed : List Text → Type 0 where
  end : AreListed []
  plain : (w : Text) (ws : List Text) → is_flag_word w ≡ false → IsNoFlag w → AreListed ws → AreListed (w ∷ ws)
  itself : (ws : List Text) → AreListed ws → AreListed ((45 ∷ 100 ∷ []) ∷ ws)

one_listed : (w : Text) (ws : List Text) → is_other_flag w ≡ false → AreListed ws → AreListed (w ∷ ws)
one_listed w ws h rest = elim (is_flag_word w) as (λ is. is_flag_word w ≡ is → AreListed (w ∷ ws)) [
  | false ↦ λ e. plain w ws e (no_flag w e) rest
  | true ↦ λ e. elim (bytes_eq w (codes "-d")) as (λ is. bytes_eq w (codes "-d") ≡ is → AreListed (w ∷ ws)) [
    | true ↦ λ d. subst (λ (x : Text). AreListed (x ∷ ws)) (sym ((bytes_eq-Decides w (codes "-d")).0 d)) (itself ws rest)
    | false ↦ λ d. let clash : true ≡ false = rw (e, d) at h in absurd (cc)
  ] refl
] refl

are_listed : (ws : List Text) → list_any is_other_flag ws ≡ false → AreListed ws
are_listed [] h = end
are_listed (w ∷ ws) h = let p = or_parts (is_other_flag w) (list_any is_other_flag ws) h in one_listed w ws p.0 (are_listed ws p.1)

-- words are read as a node, and perhaps the flag
abbrev ListAnswer : Text → List Text → Type 0
ListAnswer name ws = Answer (list_app name) ws HasListed (listed (flags_of ws) (operands_of ws))

-- no node, and two nodes or more
many_nodes : (flags : List Text) (w v : Text) (operands : List Text) → listed flags (w ∷ v ∷ operands) ≡ None
many_nodes (f ∷ []) w v operands = refl
many_nodes _ w v operands = refl

list_read : (name : Text) (ws : List Text) → AreListed ws → ListAnswer name ws
unfolding clap_on_literals
list_read name _ end = faulty {k = MissingRequiredArgument} refl
list_read name _ (itself _ end) = faulty {k = MissingRequiredArgument} refl
list_read name _ (plain w _ z (a, b, c) end) = rw (z, a, b, c) (refl, (refl, refl))
list_read name _ (itself _ (itself _ rest)) = faulty {k = ArgumentConflict} refl
list_read name _ (itself _ (plain v _ z (a, b, c) end)) = rw (z, a, b, c) (refl, (refl, refl))
list_read name _ (itself _ (plain v _ z (a, b, c) (itself _ rest))) = rw (z, a, b, c) (faulty {k = ArgumentConflict} refl)
list_read name _ (itself _ (plain v _ z (a, b, c) (plain u us y (d, e, f) rest))) =
    rw (z, y, many_nodes (codes "-d" ∷ flags_of us) v u (operands_of us), a, b, c, d, e, f) (faulty {k = UnknownArgument} refl)
list_read name _ (plain w _ z (a, b, c) (itself _ end)) = rw (z, a, b, c) (refl, (refl, refl))
list_read name _ (plain w _ z (a, b, c) (itself _ (itself _ rest))) = rw (z, a, b, c) (faulty {k = ArgumentConflict} refl)
list_read name _ (plain w _ z (a, b, c) (itself _ (plain u us y (d, e, f) rest))) =
    rw (z, y, many_nodes (codes "-d" ∷ flags_of us) w u (operands_of us), a, b, c, d, e, f) (faulty {k = UnknownArgument} refl)
list_read name _ (plain w _ z (a, b, c) (plain v vs y (d, e, f) rest)) =
    rw (z, y, many_nodes (flags_of vs) w v (operands_of vs), a, b, c, d, e, f) (faulty {k = UnknownArgument} refl)

pub list_answer : (name : Text) (ws : List Text) → list_any is_other_flag ws ≡ false → ListAnswer name ws
list_answer name ws h = list_read name ws (are_listed ws h)

-- another flag than `-d` is among the flags, and then nothing is read
abbrev is_other : Text → Bool
is_other flag = not (bytes_eq flag (codes "-d"))

other_among : (ws : List Text) → list_any is_other_flag ws ≡ true → list_any is_other (flags_of ws) ≡ true
other_among [] h = h
other_among (w ∷ ws) h = elim (is_flag_word w) as (λ is. is_flag_word w ≡ is → list_any is_other (flags_of (w ∷ ws)) ≡ true) [
  | false ↦ λ e. rw e (other_among ws (rw e at h))
  | true ↦ λ e. rw e (elim (bytes_eq w (codes "-d")) as (λ same. (not same || list_any is_other_flag ws) ≡ true → (not same || list_any is_other (flags_of ws)) ≡ true) [
    | true ↦ λ t. other_among ws t
    | false ↦ λ t. refl
  ] (rw e at h))
] refl

unlisted : (flags operands : List Text) → list_any is_other flags ≡ true → None ≡ listed flags operands
unlisted [] operands h = absurd (cc)
unlisted (f ∷ []) [] h = refl
unlisted (f ∷ []) (x ∷ []) h = elim (bytes_eq f (codes "-d")) as (λ is. bytes_eq f (codes "-d") ≡ is → None ≡ listed (f ∷ []) (x ∷ [])) [
  | true ↦ λ e. let clash : false ≡ true = rw e at h in absurd (cc)
  | false ↦ λ e. rw e refl
] refl
unlisted (f ∷ []) (x ∷ y ∷ operands) h = refl
unlisted (f ∷ g ∷ flags) operands h = refl

pub other_listed : (ws : List Text) → list_any is_other_flag ws ≡ true → None ≡ listed (flags_of ws) (operands_of ws)
other_listed ws h = unlisted (flags_of ws) (operands_of ws) (other_among ws h)

-- a flag's value
flag_value : (d b : Bool) (text : Option Text) → text ≡ Some (flag_text d) → (text ≡ Some (codes "true") → b ≡ true) → (text ≡ Some (codes "false") → b ≡ false) → b ≡ d
flag_value true b text e set unset = set e
flag_value false b text e set unset = unset e

pub listed_value : (node : Text) (b : Bool) (rows : List Row) (x : Text × Bool) (o : Option (Text × Bool)) → Some node ≡ first_of (codes "node") rows
    → (one_of (codes "itself") rows ≡ Some (codes "true") → b ≡ true) → (one_of (codes "itself") rows ≡ Some (codes "false") → b ≡ false)
    → (o ≡ Some x) × HasListed rows x → Some (node, b) ≡ o
listed_value node b rows x o e set unset h =
    let n : Some node ≡ Some x.0 = e ∙ h.1.0 in
    ap (option_map (λ w. (w, b))) n ∙ (ap (λ (d : Bool). Some (x.0, d)) (flag_value x.1 b _ h.1.1 set unset) ∙ sym h.0)

pub not_listed : (rows : List Row) (x : Text × Bool) (o : Option (Text × Bool)) → None ≡ first_of (codes "node") rows → (o ≡ Some x) × HasListed rows x → None ≡ o
not_listed rows x o e h = let clash : None ≡ Some x.0 = e ∙ h.1.0 in absurd (cc)
