-- What a drip owes.
use Rattle.std.proofs.Common.{◌≡◌, ℕ, ◌-◌, ◌==◌, ◌&&◌, zero, suc, true, List, [], ◌∷◌, ◌++◌, length, nat_lt, refl, sym, ◌∙◌, ap, true≢false, arith}
use Rattle.std.proofs.lemmas.List.{length-append}
use Rattle.std.proofs.lemmas.List.Folds.{list_all-append}
use Rattle.hurd_creds.specs.declared.name.Name.{Name}
use Rattle.hurd_creds.specs.Limits.{most_size}
use Rattle.hurd_trans_iface.specs.Nodes.{Body, Content, Listing, Node, on_bytes, with_entry, without_entry}
use Rattle.hurd_trans_iface.specs.Kinds.Drip.{drip, dripped, holds_drops, says_drops, drops_of, drops_left, drop_byte}
use Rattle.hurd_trans_iface.specs.Bodies.{Holds}
use Rattle.hurd_trans_iface.specs.Renamed.{body_renamed}
use Rattle.hurd_trans_iface.specs.declared.begun.ServerKind.TheVariants.{Drip}
use Rattle.hurd_trans_iface.proofs.Goodness.{IsFine, fine_if}
use Rattle.hurd_trans_iface.proofs.Guards.{guards_none}
use Rattle.hurd_trans_iface.proofs.Owes.{Owes, one-again, one-fits, or_none, without_options}
use Rattle.hurd_trans_iface.proofs.Shown.{IsKept, laws_by, treeless}

-- one byte more is given, and one fewer is left
one_less : (all left : ℕ) (given : List ℕ) → suc left ≡ all - length given → left ≡ all - length (given ++ drop_byte ∷ [])
one_less all left given is = let more = length-append given (drop_byte ∷ []) in grind (arith, more)

entry_sized : (text name : List ℕ) (n : Name) (c : Body) → drops_left text (with_entry name n c) ≡ drops_left text c
entry_sized text name n (Content given) = refl
entry_sized text name n (Listing es) = refl

less_sized : (text name : List ℕ) (c : Body) → drops_left text (without_entry name c) ≡ drops_left text c
less_sized text name (Content given) = refl
less_sized text name (Listing es) = refl

-- all that it has given are drops

drop_more : (c : Body) → Holds drip c → Holds drip (on_bytes (λ given. given ++ drop_byte ∷ []) c)
drop_more (Content given) h = list_all-append (λ b. b == drop_byte) given (drop_byte ∷ []) ∙ ap (λ b. b && true) h
drop_more (Listing es) h = refl

drip_gives : (text : List ℕ) (x : Node) (left amount : ℕ) → x.header.size ≡ left → IsFine (IsKept drip text x) (dripped left amount)
drip_gives text x zero amount is = refl
drip_gives text x (suc left) zero is = (λ shaped sized. sized, λ drops. drops)
drip_gives text x (suc left) (suc amount) is = (λ shaped sized. go x.body (sym is ∙ sized), λ drops. drop_more x.body drops)
  where
    go : (c : Body) → suc left ≡ drops_left text c → left ≡ drops_left text (on_bytes (λ given. given ++ drop_byte ∷ []) c)
    go (Content given) was = one_less (drops_of text) left given was
    go (Listing es) was = absurd (cc)

drops_less : (name : List ℕ) (c : Body) → Holds drip c → Holds drip (without_entry name c)
drops_less name (Content given) h = h
drops_less name (Listing es) h = refl

-- names are in a directory alone

sized_renamed : (to : Name → Name) (text : List ℕ) (c : Body) → drops_left text (body_renamed to c) ≡ drops_left text c
sized_renamed to text (Content given) = refl
sized_renamed to text (Listing es) = refl

drops_renamed : (to : Name → Name) (c : Body) → holds_drops (body_renamed to c) ≡ holds_drops c
drops_renamed to (Content given) = refl
drops_renamed to (Listing es) = refl

pub drip_owes : Owes Drip
drip_owes = record {
  named = refl;
  begins = λ ws. or_none _;
  laws = laws_by drip (record {
    named = λ text. refl;
    rooted = λ text. refl;
    tree = treeless drip refl (λ text. refl);
    begun = λ text. refl;
    read = λ at amount writers text x. drip_gives text x x.header.size amount refl;
    write = λ at bs readers text x. refl;
    set_size = λ size text x. fine_if (IsKept drip text x) (nat_lt most_size size) _ _ (λ long. refl) (λ short. refl);
    entered = entry_sized;
    removed = less_sized;
    less = drops_less;
    read_keeps = λ text file. absurd (true≢false file);
    guards = guards_none drip (λ old new. refl);
    write_blind = λ other text at bs readers h c e. refl;
    set_size_blind = λ text size h c e. refl;
    nameless = record {
      size = sized_renamed;
      holds = drops_renamed;
      read = λ at amount writers to text x. refl;
      write = λ at bs readers to text x. refl;
      set_size = λ size to text x. refl;
      readable = λ to text x at. refl;
    };
    said = record { fits = one-fits drip refl; again = one-again says_drops; aimless = λ no text. refl };
    options = without_options drip refl;
  });
}
