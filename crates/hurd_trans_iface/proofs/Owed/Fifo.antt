-- What a fifo owes.
use Rattle.std.proofs.Common.{◌≡◌, ◌==◌, ◌-◌, ℕ, zero, suc, true, if◌then◌else◌, List, [], ◌∷◌, ◌++◌, length, take, drop, nat_lt, nat_le, refl, ap, true≢false, arith}
use Rattle.std.specs.Prelude.{Err}
use Rattle.std.proofs.lemmas.Bool.Decides.{nat_tests}
use Rattle.std.proofs.lemmas.List.{length-append, length-drop, length-take}
use Rattle.hurd_creds.specs.declared.errno.Errno.TheVariants.{EPIPE}
use Rattle.hurd_creds.specs.declared.name.Name.{Name}
use Rattle.hurd_creds.specs.Limits.{most_size}
use Rattle.hurd_trans_iface.specs.Nodes.{Body, Content, Listing, Header, without_entry}
use Rattle.hurd_trans_iface.specs.Behaviour.{Did, Effect}
use Rattle.hurd_trans_iface.specs.Renamed.{body_renamed}
use Rattle.hurd_trans_iface.specs.Kinds.Fifo.{fifo, fifo_read, fifo_write, most_held, room_in, taken_in}
use Rattle.hurd_trans_iface.specs.Bodies.{Holds}
use Rattle.hurd_trans_iface.specs.declared.begun.ServerKind.TheVariants.{Fifo}
use Rattle.hurd_trans_iface.specs.Kinds.Tmpfs.{bytes_in}
use Rattle.hurd_trans_iface.proofs.Guards.{guards_none}
use Rattle.hurd_trans_iface.proofs.Owes.{Owes, none-again, none-fits, or_none, without_options}
use Rattle.hurd_trans_iface.proofs.Shown.{IsKept, laws_by, treeless}
use Rattle.hurd_trans_iface.proofs.Goodness.{IsFine, fine_if}

put_fits : (held bs : List ℕ) (k : ℕ) → suc k ≡ most_held - length held → nat_le (length (held ++ take (suc k) bs)) most_held ≡ true
put_fits held bs k room =
    let both = length-append held (take (suc k) bs) in
    let some = length-take (suc k) bs in
    grind (arith, nat_tests, both, some, room)

less_fits : (held : List ℕ) (b k : ℕ) → nat_le (length (b ∷ held)) most_held ≡ true → nat_le (length (drop k held)) most_held ≡ true
less_fits held b k fits = let less = length-drop k held in grind (arith, nat_tests, less, fits)

module _ (text : List ℕ) (h : Header) where
  abbrev Kept : {T : Type 0} → Body → Did T → Type 0
  Kept c d = IsKept fifo text (record { header = h; body = c }) d

  fifo_gives : (writers : ℕ) (c : Body) (amount : ℕ) → IsFine (Kept c) (fifo_read writers c amount)
  fifo_gives writers (Listing es) amount = refl
  fifo_gives writers (Content bs) zero = (λ shaped sized. sized, λ held. held)
  fifo_gives writers (Content []) (suc k) = fine_if (Kept (Content [])) (nat_lt 0 writers) _ _ (λ some. refl) (λ none. (λ shaped sized. sized, λ held. held))
  fifo_gives writers (Content (b ∷ bs)) (suc k) = (λ shaped sized. sized, λ held. less_fits bs b k held)

  fifo_takes : (c : Body) (room : ℕ) (bs : List ℕ) → room ≡ room_in c → IsFine (Kept c) (taken_in room bs)
  fifo_takes c room [] is = (λ shaped sized. sized, λ held. held)
  fifo_takes c zero (b ∷ bs) is = refl
  fifo_takes (Content old) (suc k) (b ∷ bs) is = (λ shaped sized. sized, λ held. put_fits old (b ∷ bs) k is)
  fifo_takes (Listing es) (suc k) (b ∷ bs) is = (λ shaped sized. sized, λ held. held)

  fifo_puts : (readers : ℕ) (c : Body) (bs : List ℕ) → IsFine (Kept c) (fifo_write readers c bs)
  fifo_puts readers c bs = fine_if (Kept c) (readers == 0) _ _ (λ none. refl) (λ some. fifo_takes c (room_in c) bs refl)

  -- a size too great is refused, and any other changes nothing
  fifo_cuts : (c : Body) (size : ℕ) → IsFine (Kept c) (fifo.set_size text (record { header = h; body = c }) size)
  fifo_cuts c size = fine_if (Kept c) (nat_lt most_size size) _ _ (λ long. refl) (λ short. (λ shaped sized. sized, λ held. held))

held_less : (name : List ℕ) (c : Body) → Holds fifo c → Holds fifo (without_entry name c)
held_less name (Content bs) h = h
held_less name (Listing es) h = h

-- names are in a directory alone

bytes_renamed : (to : Name → Name) (c : Body) → bytes_in (body_renamed to c) ≡ bytes_in c
bytes_renamed to (Content bs) = refl
bytes_renamed to (Listing es) = refl

read_renamed : (to : Name → Name) (writers amount : ℕ) (c : Body) → fifo_read writers (body_renamed to c) amount ≡ fifo_read writers c amount
read_renamed to writers amount (Content bs) = refl
read_renamed to writers amount (Listing es) = refl

pub fifo_owes : Owes Fifo
fifo_owes = record {
  named = refl;
  begins = λ ws. or_none _;
  laws = laws_by fifo (record {
    named = λ text. refl;
    rooted = λ text. refl;
    tree = treeless fifo refl (λ text. refl);
    begun = λ text. refl;
    read = λ at amount writers text x. fifo_gives text x.header writers x.body amount;
    write = λ at bs readers text x. fifo_puts text x.header readers x.body bs;
    set_size = λ size text x. fifo_cuts text x.header x.body size;
    entered = λ text name n c. refl;
    removed = λ text name c. refl;
    less = held_less;
    read_keeps = λ text file. absurd (true≢false file);
    guards = guards_none fifo (λ old new. refl);
    write_blind = λ other. absurd (true≢false other);
    set_size_blind = λ text size h c e. refl;
    nameless = record {
      size = λ to text c. refl;
      holds = λ to c. ap (λ k. nat_le k most_held) (bytes_renamed to c);
      read = λ at amount writers to text x. read_renamed to writers amount x.body;
      write = λ at bs readers to text x. ap (λ k. let e : Effect ℕ = if readers == 0 then Err EPIPE else taken_in (most_held - k) bs in e) (bytes_renamed to x.body);
      set_size = λ size to text x. refl;
      readable = λ to text x at. bytes_renamed to x.body;
    };
    said = record { fits = λ ws text within. none-fits ws text; again = none-again; aimless = λ no text. refl };
    options = without_options fifo refl;
  });
}
