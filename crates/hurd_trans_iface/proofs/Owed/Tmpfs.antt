-- What a tree in memory owes.
use Rattle.std.proofs.Common.{◌≡◌, ℕ, ◌+◌, Bool, true, false, List, [], ◌∷◌, length, take, drop, nat_lt, nat_le, if◌then◌else◌, refl, sym, ap, ◌∙◌, subst, true≢false, arith}
use Rattle.std.proofs.lemmas.Bool.Decides.{nat_tests}
use Rattle.std.specs.Prelude.{Option, Some, None, Ok}
use Rattle.std.specs.Option.{option_map}
use Rattle.hurd_creds.specs.declared.name.Name.{Name}
use Rattle.hurd_creds.specs.declared.attrs.Kind.{Kind}
use Rattle.hurd_creds.specs.declared.attrs.Kind.TheVariants.{File, Dir, Link, Fifo, Char}
use Rattle.hurd_creds.specs.Limits.{most_size}
use Rattle.hurd_trans_iface.specs.declared.new_node.NewNode.{NewNode}
use Rattle.hurd_trans_iface.specs.Nodes.{Header, Body, Content, Listing, Node, is_dir, bytes_put, bytes_resized, with_entry, without_entry, new_file, new_dir}
use Rattle.hurd_trans_iface.specs.Answers.{named_by, node_of_kind}
use Rattle.hurd_trans_iface.specs.Behaviour.{Did}
use Rattle.hurd_trans_iface.specs.Good.{IsSized}
use Rattle.hurd_trans_iface.specs.Kinds.Tmpfs.{bytes_in, most_digits, tmpfs, tmpfs_text, read_bytes, put_into, write_file, cut_file}
use Rattle.hurd_trans_iface.specs.Renamed.{body_renamed}
use Rattle.hurd_trans_iface.specs.declared.begun.ServerKind.TheVariants.{Tmpfs}
use Rattle.hurd_trans_iface.proofs.Guards.{guards_none}
use Rattle.hurd_trans_iface.proofs.Owes.{Owes, or_none}
use Rattle.hurd_trans_iface.proofs.SizeWords.{digits-few, size_options_laws, text-again}
use Rattle.hurd_trans_iface.proofs.Shown.{IsKept, laws_by}
use Rattle.hurd_trans_iface.proofs.Lengths.{put_grows, put_stays, length-resized}
use Rattle.hurd_trans_iface.proofs.Goodness.{IsFine, fine_if}

module _ (text : List ℕ) where
  abbrev Keeps : {T : Type 0} → Header → Body → Did T → Type 0
  Keeps h b d = IsKept tmpfs text (record { header = h; body = b }) d

  reads_well : (at amount : ℕ) (h : Header) (b : Body) → IsFine (Keeps h b) (read_bytes at amount b)
  reads_well at amount h (Content bs) = (λ shaped sized. sized, λ any. refl)
  reads_well at amount h (Listing es) = refl

  put_well : (h : Header) (b : Body) (at : ℕ) (bs : List ℕ) → is_dir h.kind ≡ false → Keeps h b (put_into h.size at bs)
  put_well h b at [] file = (λ shaped sized. sized, λ any. refl)
  put_well h (Listing es) at (c ∷ cs) file = (λ shaped sized. absurd (true≢false (sym (ap is_dir shaped) ∙ file)), λ any. refl)
  put_well h (Content old) at (c ∷ cs) file = go (nat_lt h.size (at + length (c ∷ cs))) refl
    where
      go : (grows : Bool) → nat_lt h.size (at + length (c ∷ cs)) ≡ grows
          → Keeps h (Content old) (record { told = length (c ∷ cs); bytes = Some (bytes_put at (c ∷ cs)); size = if grows then Some (at + length (c ∷ cs)) else None })
      go true e = (λ shaped sized. sym (put_grows at c cs old (rw sized at e)), λ any. refl)
      go false e = (λ shaped sized. sized ∙ sym (put_stays at c cs old (rw sized at e)), λ any. refl)

  writes_well : (h : Header) (b : Body) (at : ℕ) (bs : List ℕ) → IsFine (Keeps h b) (write_file h at bs)
  writes_well h b at bs =
      fine_if (Keeps h b) (is_dir h.kind) _ _ (λ dir. refl) (λ file.
      fine_if (Keeps h b) (nat_lt most_size (at + length bs)) _ _ (λ long. refl) (λ short. put_well h b at bs file))

  cut_well : (h : Header) (b : Body) (size : ℕ) → is_dir h.kind ≡ false → Keeps {T = Unit {0}} h b (record { told = tt; bytes = Some (bytes_resized size); size = Some size })
  cut_well h (Content old) size file = (λ shaped sized. sym (length-resized size old), λ any. refl)
  cut_well h (Listing es) size file = (λ shaped sized. absurd (true≢false (sym (ap is_dir shaped) ∙ file)), λ any. refl)

  resizes_well : (h : Header) (b : Body) (size : ℕ) → IsFine (Keeps h b) (cut_file h size)
  resizes_well h b size =
      fine_if (Keeps h b) (nat_lt most_size size) _ _ (λ long. refl) (λ short.
      fine_if (Keeps h b) (is_dir h.kind) _ _ (λ dir. refl) (λ file. cut_well h b size file))

read_leaves : (at amount : ℕ) (b : Body) (d : Did (List ℕ)) → read_bytes at amount b ≡ Ok d → (d.bytes ≡ None) × (d.size ≡ None)
read_leaves at amount (Content bs) d is = let same : ◌≡◌ {A = Did (List ℕ)} (record { told = take amount (drop at bs); bytes = None; size = None }) d = cc in subst (λ (c : Did (List ℕ)). (c.bytes ≡ None) × (c.size ≡ None)) same (refl, refl)
read_leaves at amount (Listing es) d is = absurd (cc)

entry_sizes : (text name : List ℕ) (n : Name) (c : Body) → tmpfs.size text (with_entry name n c) ≡ tmpfs.size text c
entry_sizes text name n (Content bs) = refl
entry_sizes text name n (Listing es) = refl

removed_sizes : (text name : List ℕ) (c : Body) → tmpfs.size text (without_entry name c) ≡ tmpfs.size text c
removed_sizes text name (Content bs) = refl
removed_sizes text name (Listing es) = refl

-- an entry that isn't there changes no size
named_sizes : (text : List ℕ) (entry : Option (List ℕ)) (y x : Node) → IsSized tmpfs text y → named_by entry y ≡ x → IsSized tmpfs text x
named_sizes text (Some name) y x sized is = subst (IsSized tmpfs text) is sized
named_sizes text None y x sized is = subst (IsSized tmpfs text) is sized

-- a file begins without bytes, and a directory has no size
made_sizes : (text : List ℕ) (dir : Name) (entry : Option (List ℕ)) (new : NewNode) (x : Node) (kind : Kind) → option_map (named_by entry) (node_of_kind dir new kind) ≡ Some x → IsSized tmpfs text x
made_sizes text dir entry new x File is = named_sizes text entry (new_file new.owner new.group new.mode) x refl (cc)
made_sizes text dir entry new x Dir is = named_sizes text entry (new_dir new.owner new.group new.mode (Some dir)) x refl (cc)
made_sizes text dir entry new x Link is = absurd (cc)
made_sizes text dir entry new x Fifo is = absurd (cc)
made_sizes text dir entry new x Char is = absurd (cc)

-- names are in a directory alone

bytes_renamed : (to : Name → Name) (c : Body) → bytes_in (body_renamed to c) ≡ bytes_in c
bytes_renamed to (Content bs) = refl
bytes_renamed to (Listing es) = refl

read_renamed : (to : Name → Name) (at amount : ℕ) (c : Body) → read_bytes at amount (body_renamed to c) ≡ read_bytes at amount c
read_renamed to at amount (Content bs) = refl
read_renamed to at amount (Listing es) = refl

digits-fit : (ws : List (List ℕ)) (text : List ℕ) → tmpfs_text ws ≡ Some text → nat_le (length text) most_digits ≡ true
digits-fit ws text h = let few = digits-few ws text h in grind (arith, nat_tests)

pub tmpfs_owes : Owes Tmpfs
tmpfs_owes = record {
  named = refl;
  begins = λ ws. or_none _;
  laws = laws_by tmpfs (record {
    named = λ text. refl;
    rooted = λ text. refl;
    tree = record { unlimited = λ lone. absurd (true≢false lone); uncounted = λ is. refl; newborn = λ is text dir entry new x. made_sizes text dir entry new x new.kind; holds = λ is c. refl };
    begun = λ text. refl;
    read = λ at amount writers text x. reads_well text at amount x.header x.body;
    write = λ at bs readers text x. writes_well text x.header x.body at bs;
    set_size = λ size text x. resizes_well text x.header x.body size;
    entered = entry_sizes;
    removed = removed_sizes;
    less = λ name c any. refl;
    read_keeps = λ text file x at amount writers d is. read_leaves at amount x.body d is;
    guards = guards_none tmpfs (λ old new. refl);
    write_blind = λ other text at bs readers h c e. refl;
    set_size_blind = λ text size h c e. refl;
    nameless = record {
      size = λ to text c. bytes_renamed to c;
      holds = λ to c. refl;
      read = λ at amount writers to text x. read_renamed to at amount x.body;
      write = λ at bs readers to text x. refl;
      set_size = λ size to text x. refl;
      readable = λ to text x at. refl;
    };
    said = record { fits = λ ws text within. digits-fit ws text; again = text-again; aimless = λ no text. refl };
    options = size_options_laws;
  });
}
