-- What is owed of each kind of server.
use Rattle.std.proofs.Common.{◌≡◌, ◌≤◌, ◌+◌, Bool, true, false, List, ℕ, [], ◌∷◌, length, drop, nat_le, if◌then◌else◌, cond, refl, ap, sym, subst, ◌∙◌, arith}
use Rattle.std.proofs.lemmas.Bool.Decides.{nat_tests}
use Rattle.std.specs.Prelude.{Option, Some, None, Ok, Err}
use Rattle.std.specs.Option.{option_map, option_or}
use Rattle.std.specs.Str.{bytes_eq}
use Rattle.hurd_creds.specs.declared.errno.Errno.{Errno}
use Rattle.hurd_creds.specs.declared.name.Name.{Name}
use Rattle.hurd_creds.specs.Memory.{is_no_memory}
use Rattle.hurd_trans_iface.specs.Arguments.{is_empty, one_word, no_text, no_options}
use Rattle.hurd_trans_iface.specs.Nodes.{Body, Node, without_entry}
use Rattle.hurd_trans_iface.specs.Renamed.{body_renamed, node_renamed}
use Rattle.hurd_trans_iface.specs.Behaviour.{Behaviour, Did, Question, reading, writing, resizing, bytes_left}
use Rattle.hurd_trans_iface.specs.Bodies.{Holds}
use Rattle.hurd_trans_iface.specs.Good.{GoodBehaviour, KeepsRoot}
use Rattle.hurd_trans_iface.specs.Meaning.{Meaning, ServerKind, all_kinds, begin, behaviour_of, first_body, new_server}
use Rattle.hurd_trans_iface.specs.Words.{IsWithinLimits}
use Rattle.hurd_trans_iface.proofs.Goodness.{no-options-text, no-options-plain}

-- a question after which only what may be is in the node
abbrev pub Keeps : {T : Type 0} → Behaviour → Question T → Type 0
Keeps {T} b q = (text : List ℕ) (x : Node) (d : Did T) → Holds b x.body → q b text x ≡ Ok d → Holds b (bytes_left d.bytes x.body)

-- a question whose answer goes by no name that is in a node
abbrev pub IsNameless : {T : Type 0} → Behaviour → Question T → Type 0
IsNameless b q = (to : Name → Name) (text : List ℕ) (x : Node) → q b text (node_renamed to x) ≡ q b text x

-- nothing that a behaviour says of a node goes by names that are in it
pub record Nameless (b : Behaviour) : Type 0 where
  pub size : (to : Name → Name) (text : List ℕ) (c : Body) → b.size text (body_renamed to c) ≡ b.size text c
  pub holds : (to : Name → Name) (c : Body) → b.holds (body_renamed to c) ≡ b.holds c
  pub read : (at amount writers : ℕ) → IsNameless b (reading at amount writers)
  pub write : (at : ℕ) (bs : List ℕ) (readers : ℕ) → IsNameless b (writing at bs readers)
  pub set_size : (size : ℕ) → IsNameless b (resizing size)
  pub readable : (to : Name → Name) (text : List ℕ) (x : Node) (at : ℕ) → b.readable text (node_renamed to x) at ≡ b.readable text x at

-- the words after the program's name that a text gives say it again
abbrev pub SaysAgain : Behaviour → List ℕ → Type 0
SaysAgain b text = b.begins (drop 1 (b.options text)) ≡ Some text

-- what words say to it, and where it aims
pub record Said (b : Behaviour) : Type 0 where
  -- they say such a text as is to be said
  pub fits : (ws : List (List ℕ)) (text : List ℕ) → IsWithinLimits (b.program ∷ ws) → b.begins ws ≡ Some text → b.fits text ≡ true
  -- and the text says it again
  pub again : (ws : List (List ℕ)) (text : List ℕ) → b.begins ws ≡ Some text → SaysAgain b text
  -- where it doesn't aim, there are no paths
  pub aimless : b.aims ≡ false → (text : List ℕ) → b.targets text ≡ []

-- what a behaviour owes
pub record Laws (b : Behaviour) : Type 0 where
  pub good : GoodBehaviour b
  pub nameless : Nameless b
  pub said : Said b
  -- a server begins with what may be in its root
  pub begun_holds : (text : List ℕ) → Holds b (first_body b text)
  pub read_holds : (at amount writers : ℕ) → Keeps b (reading at amount writers)
  pub write_holds : (at : ℕ) (bs : List ℕ) (readers : ℕ) → Keeps b (writing at bs readers)
  pub cut_holds : (size : ℕ) → Keeps b (resizing size)
  -- with an entry less no more is there than was
  pub less_holds : (name : List ℕ) (c : Body) → Holds b c → Holds b (without_entry name c)
  -- where a tree is kept anything may be
  pub tree_holds : b.tree ≡ true → (c : Body) → Holds b c
  -- a text that options gave
  pub set_again : (ws : List (List ℕ)) (text : List ℕ) → b.set_options ws ≡ Ok (Some text) → SaysAgain b text
  pub set_within : (ws : List (List ℕ)) (text : List ℕ) → b.set_options ws ≡ Ok (Some text) → IsWithinLimits (b.options text)

-- the first of these kinds whose program has this name
abbrev pub kind_among : List ServerKind → List ℕ → Option ServerKind
kind_among [] w = None
kind_among (k ∷ ks) w = cond (bytes_eq w (behaviour_of k).program) (Some k) (kind_among ks w)

-- what a kind owes
pub record Owes (k : ServerKind) : Type 0 where
  -- it is known by the name of its program, and of all kinds words that begin with it make a server of this one
  pub named : kind_among all_kinds (behaviour_of k).program ≡ Some k
  pub begins : (ws : List (List ℕ)) → begin ((behaviour_of k).program ∷ ws) ≡ option_map (new_server k) ((behaviour_of k).begins ws)
  pub laws : Laws (behaviour_of k)

pub or_none : (o : Option Meaning) → option_or o None ≡ o
or_none None = refl
or_none (Some m) = refl

-- of options

pub record OptionLaws (b : Behaviour) : Type 0 where
  pub no_words : b.set_options [] ≡ Ok None
  pub root : (ws : List (List ℕ)) (new : List ℕ) → b.set_options ws ≡ Ok (Some new) → KeepsRoot b new
  pub plain : (ws : List (List ℕ)) (e : Errno) → b.set_options ws ≡ Err e → is_no_memory e ≡ false
  pub again : (ws : List (List ℕ)) (text : List ℕ) → b.set_options ws ≡ Ok (Some text) → SaysAgain b text
  pub within : (ws : List (List ℕ)) (text : List ℕ) → b.set_options ws ≡ Ok (Some text) → IsWithinLimits (b.options text)

-- a kind that takes none
pub without_options : (b : Behaviour) → b.set_options ≡ no_options → OptionLaws b
without_options b is = record {
  no_words = ap (λ f. f []) is;
  root = λ ws new h. absurd (none ws new h);
  plain = λ ws e h. no-options-plain ws e (sym (ap (λ f. f ws) is) ∙ h);
  again = λ ws text h. absurd (none ws text h);
  within = λ ws text h. absurd (none ws text h);
}
  where
    none : (ws : List (List ℕ)) (text : List ℕ) → b.set_options ws ≡ Ok (Some text) → ⊥
    none ws text h = no-options-text ws text (sym (ap (λ f. f ws) is) ∙ h)

-- of words

-- a text that is told under a test
pub told_if : (b : Bool) (w text : List ℕ) → (let o : Option (List ℕ) = if b then Some w else None in o) ≡ Some text → (b ≡ true) × (w ≡ text)
told_if true w text h = (refl, cc)
told_if false w text h = absurd (cc)

-- one word that is the text is such a one
pub one-said : (is_one : List ℕ → Bool) (ws : List (List ℕ)) (text : List ℕ) → one_word is_one ws ≡ Some text → is_one text ≡ true
one-said is_one [] text h = absurd (cc)
one-said is_one (w ∷ []) text h = let told = told_if (is_one w) w text h in subst (λ (t : List ℕ). is_one t ≡ true) told.1 told.0
one-said is_one (w ∷ v ∷ ws) text h = absurd (cc)

-- and says it again
pub one-again : (is_one : List ℕ → Bool) (ws : List (List ℕ)) (text : List ℕ) → one_word is_one ws ≡ Some text → one_word is_one (text ∷ []) ≡ Some text
one-again is_one ws text h = rw (one-said is_one ws text h) refl

-- so it is such a text as is to be said
pub one-fits : (b : Behaviour) → b.begins ≡ one_word b.fits → (ws : List (List ℕ)) (text : List ℕ) → IsWithinLimits (b.program ∷ ws) → b.begins ws ≡ Some text → b.fits text ≡ true
one-fits b is ws text within h = one-said b.fits ws text (sym (ap (λ f. f ws) is) ∙ h)

pub none-fits : (ws : List (List ℕ)) (text : List ℕ) → no_text ws ≡ Some text → is_empty text ≡ true
none-fits [] [] h = refl
none-fits [] (b ∷ bs) h = absurd (cc)
none-fits (w ∷ ws) text h = absurd (cc)

pub none-again : (ws : List (List ℕ)) (text : List ℕ) → no_text ws ≡ Some text → no_text [] ≡ Some text
none-again [] text h = h
none-again (w ∷ ws) text h = absurd (cc)

pub within-two : (v w : List ℕ) → IsWithinLimits (v ∷ w ∷ []) → length v + length w ≤ 4096
within-two v w within = let few : nat_le (0 + length v + length w) 4096 ≡ true = within in grind (arith, nat_tests)

pub two-within : (v w : List ℕ) → length v + length w ≤ 4096 → IsWithinLimits (v ∷ w ∷ [])
two-within v w fits = let few : nat_le (0 + length v + length w) 4096 ≡ true = grind (arith, nat_tests) in few
