-- What a server does to a node, as a piece of any call: it adds no entry, and makes no directory empty or full.
use Rattle.std.proofs.Common.{◌≡◌, ℕ, List, Option, Some, None, refl, ◌∙◌, ap, inl, inr, ◌≢◌, ◌⊎◌, ◌==◌, Bool, true, subst, arith}
use Rattle.std.specs.Prelude.{Ok}
use Rattle.hurd_machine.proofs.Common.{AttrOf, Body, BodyOf, Change, Coherent, Content, Did, EditBody, Listing, Name, OnDid, Part, Question, Sound, World, asked_at, changes_of, edit_bytes, edit_size, edits_of, lists_at, on_bytes, times_in, Header, Seen, TotalOf, counts_for, header_at, home_at, info_at, tree_by, with_size}
use Rattle.hurd_machine.specs.Touched.{Changes}
use Rattle.hurd_machine.proofs.Nodes.{KeepsEmptiness}
use Rattle.hurd_machine.proofs.Coherence.{Proper, AllProper, entry_stands}
use Rattle.hurd_machine.proofs.Settle.{AreQuiet}
use Rattle.hurd_machine.proofs.Frame.{AllWithin, Recounts, recounts_body}
use Rattle.hurd_machine.proofs.Links.{AreSteady, linked_steady}
use Rattle.hurd_machine.proofs.Filled.{KeepsNodes, did_filled}
use Rattle.hurd_machine.proofs.Held.{AllKeepHeld, held_all}
use Rattle.hurd_machine.proofs.Permits.{did_may}
use Rattle.hurd_machine.proofs.Piece.{Whole, quiet}
use Rattle.std.proofs.lemmas.Bool.Decides.{nat_tests}
use Rattle.std.proofs.lemmas.Bool.{cases_Bool}
use Rattle.hurd_trans_iface.specs.Behaviour.{size_left}

module _ (f : List ℕ → List ℕ) where
  bytes_emptiness : KeepsEmptiness (on_bytes f)
  bytes_emptiness (Content bs) = refl
  bytes_emptiness (Listing es) = refl

  bytes_times : (b : Body) (n : Name) → times_in n (on_bytes f b) ≡ times_in n b
  bytes_times (Content bs) n = refl
  bytes_times (Listing es) n = refl

  bytes_proper : (w : World) → Coherent w → (n : Name) → Proper w (EditBody n (on_bytes f))
  bytes_proper w c n (Content bs) is = record { shape = λ h s. s; distinct = λ names. names; entries = λ m e. entry_stands c n m (ap (lists_at m) is ∙ e) }
  bytes_proper w c n (Listing es) is = record { shape = λ h s. s; distinct = λ names. names; entries = λ m e. entry_stands c n m (ap (lists_at m) is ∙ e) }

-- the changes of bytes and size, as they may come
abbrev left_changes : Name → Option (List ℕ → List ℕ) → Option ℕ → List Change
left_changes n bytes size = changes_of (edit_bytes n bytes (edit_size n size))

-- they write what changes alone, may be made, take nothing away, leave how nodes hang, and what is open
left_piece : (T : Part → Type 0) (w : World) → Coherent w → (n : Name) (bytes : Option (List ℕ → List ℕ)) (size : Option ℕ) → (Changes bytes → T (BodyOf n)) → (Changes size → T (AttrOf n)) → Recounts T w n (size_left size)
    → AllWithin T w (left_changes n bytes size) × AllProper w (left_changes n bytes size) × AreQuiet w (left_changes n bytes size) × AreSteady (left_changes n bytes size) × AllKeepHeld (left_changes n bytes size)
left_piece T w c n None None body attr counts = (tt, tt, tt, tt, tt)
left_piece T w c n None (Some k) body attr counts = (((attr tt, counts), tt), (λ h is. (refl, inl refl), λ d. tt), (λ h e. e, tt), (λ h. (refl, refl, refl), tt), (tt, tt))
left_piece T w c n (Some f) None body attr counts = (((body tt, inr (bytes_emptiness f)), tt), (bytes_proper f w c n, λ d. tt), (tt, tt), (bytes_times f, tt), (tt, tt))
left_piece T w c n (Some f) (Some k) body attr counts =
    (((body tt, inr (bytes_emptiness f)), ((attr tt, recounts_body T w n (on_bytes f) n (with_size k) counts), tt)), (bytes_proper f w c n, λ d. (λ h is. (refl, inl refl), λ e. tt)), (tt, (λ h e. e, tt)), (bytes_times f, (λ h. (refl, refl, refl), tt)), (tt, (tt, tt)))

-- two counts are the same, or they aren't
pub same_count : (a b : ℕ) → (a ≡ b) ⊎ (a ≢ b)
same_count a b = elim (cases_Bool (a == b)) [ inl e ↦ inl (grind (arith, nat_tests)) | inr e ↦ inr (λ same. absurd (grind (arith, nat_tests))) ]

-- it counts for as much as before, or the total is touched
did_counts : {R : Type 0} (T : Part → Type 0) (w : World) (n : Name) (d : Did R) → ((p : Part) → OnDid w n d p → T p) → Recounts T w n (size_left d.size)
did_counts {R} T w n d parts = elim (cases_Bool (tree_by (info_at w n))) [ inr other ↦ inl other | inl tree ↦ inr (go tree (header_at w n) refl) ]
  where
    go : tree_by (info_at w n) ≡ true → (o : Option Header) → header_at w n ≡ o
        → ((h : Header) → header_at w n ≡ Some h → counts_for (size_left d.size h) ≡ counts_for h) ⊎ ((s : Name) → home_at w n ≡ Some s → T (TotalOf s))
    go tree None none = inl (λ h is. absurd (cc (none, is)))
    go tree (Some k) here = elim (same_count (counts_for (size_left d.size k)) (counts_for k)) [
      | inl same ↦ inl (λ h is. let one : k ≡ h = cc (here, is) in subst (λ (z : Header). counts_for (size_left d.size z) ≡ counts_for z) one same)
      | inr apart ↦ inr (λ s home. parts (TotalOf s) (inr (inr ((k, here, apart), (s, home, tree, refl)))))
    ]

-- what is answered to a question that keeps sizes, and what may be in a node
pub did_whole : {R : Type 0} {t : ℕ} {T : Part → Type 0} {w : World} → Sound w → (q : Question R) → KeepsNodes q → (n : Name) (d : Did R) → asked_at q n w ≡ Ok d → ((p : Part) → OnDid w n d p → T p) → ((S : ℕ → Bool) → S t ≡ true → Seen S w n)
    → Whole t T w w (changes_of (edits_of n (Ok d)))
did_whole {T} {w} s q keeps n d told parts seen =
    let l = left_piece T w s.coherent n d.bytes d.size (λ b. parts (BodyOf n) (inl (b, refl))) (λ z. parts (AttrOf n) (inr (inl (z, refl)))) (did_counts T w n d parts) in
    quiet (left_changes n d.bytes d.size) l.2 s (record {
      within = l.0;
      proper = l.1;
      linked = linked_steady (left_changes n d.bytes d.size) w l.3 s.linked;
      filled = did_filled q keeps w s.coherent n d told s.filled;
      held = held_all (left_changes n d.bytes d.size) w l.4 s.settled.opens;
      may = λ S ours. did_may S w w n (inl (seen S ours)) d;
    })
