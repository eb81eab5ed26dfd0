-- The place of a node, of an open and of a server are told apart.
use Rattle.std.proofs.Common.{◌≡◌, ◌∙◌, refl, sym, ap, ℕ, ◌==◌, not, Bool, true, false, true≢false, List, [], ◌∷◌, ◌++◌, codes}
use Rattle.std.proofs.lemmas.List.{append_cancel_left}
use Rattle.hurd_creds.specs.declared.name.Name.{Name}
use Rattle.hurd_words.specs.Printing.{spaced}
use Rattle.hurd_views.specs.declared.view.View.{View}
use Rattle.hurd_places.specs.Places.{beside, covered_path, holder_word, is_covered, label_text, level_along, node_path, node_place, or_root, path_along, way_of}
use Rattle.hurd_places.specs.declared.labels.Holder.{Holder}
use Rattle.hurd_places.specs.declared.labels.Holder.TheVariants as holder
use Rattle.hurd_places.specs.declared.labels.Label.{Label}
use Rattle.hurd_places.proofs.BesideLaws.{covered_path_clean, heads, path_alone}
use Rattle.hurd_places.proofs.CutLaws.{is_cut}
use Rattle.hurd_places.proofs.EachBeside.{each_beside}

-- a path begins with a slash or a bracket, and a label does not

abbrev cuts : List ℕ → Bool
cuts [] = false
cuts (b ∷ bs) = is_cut b

root_cuts : (p more : List ℕ) → heads p ≡ true → cuts (or_root p ++ more) ≡ true
root_cuts [] more h = refl
root_cuts (b ∷ p) more h = h

label_cuts : (many : Bool) (l : Label) → cuts (label_text many l) ≡ false
label_cuts true l = refl
label_cuts false l = go l.holder
  where
    go : (h : Holder) → cuts (holder_word h ++ spaced l.number) ≡ false
    go holder.Port = refl
    go holder.Inbox = refl

-- so no label is the beginning of a place of a node or of a server
pub no_label : (v : View) (n : Name) (many : Bool) (l : Label) (more : List ℕ) → label_text many l ≡ node_path v n ++ more → ⊥
no_label v n many l more is =
    true≢false (sym (root_cuts (covered_path (is_covered v n) (path_along v (way_of v n)) (level_along v (way_of v n))) more (covered_path_clean v n).heads) ∙ (ap cuts (sym is) ∙ label_cuts many l))

-- what is told beside a node is no server

abbrev other : List ℕ → Bool
other [] = true
other (b ∷ c ∷ d ∷ bs) = not (d == 115)
other _ = false

other_both : (s t : List ℕ) → other s ≡ true → other t ≡ true → other (s ++ t) ≡ true
other_both [] t a b = b
other_both (x ∷ []) t a b = absurd (true≢false (sym a))
other_both (x ∷ y ∷ []) t a b = absurd (true≢false (sym a))
other_both (x ∷ y ∷ z ∷ s) t a b = a

label_other : (many : Bool) (l : Label) → other (codes " (" ++ (label_text many l ++ codes ")")) ≡ true
label_other true l = refl
label_other false l = go l.holder
  where
    go : (h : Holder) → other (codes " (" ++ ((holder_word h ++ spaced l.number) ++ codes ")")) ≡ true
    go holder.Port = refl
    go holder.Inbox = refl

-- no place of a node is a server's
pub node_no_server : (v : View) (n m : Name) → node_place v n ≡ node_path v m ++ codes " (server)" → ⊥
node_no_server v n m is =
    let paths = path_alone v n m (codes " (server)") refl is in
    let same = append_cancel_left (node_path v n) (beside v n) (codes " (server)") (is ∙ ap (λ (p : List ℕ). p ++ codes " (server)") (sym paths)) in
    true≢false (sym (each_beside (λ (b : List ℕ). other b ≡ true) (record { none = refl; both = other_both; label = label_other }) v n) ∙ ap other same)
