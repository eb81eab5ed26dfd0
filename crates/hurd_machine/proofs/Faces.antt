-- A server as whoever knows it sees it, and its text.
use Rattle.std.proofs.Common.{if◌then◌else◌, ◌||◌, ◌≡◌, ℕ, Bool, true, false, List, [], Option, Some, None, sym, refl, ◌∙◌, ap, ap₂}
use Rattle.std.specs.Option.{option_map}
use Rattle.hurd_trans_iface.specs.declared.begun.ServerKind.{ServerKind}
use Rattle.hurd_trans_iface.specs.Meaning.{root_of}
use Rattle.hurd_trans_iface.specs.Texts.{is_link}
use Rattle.hurd_trans_iface.proofs.Goods.{good}
use Rattle.hurd_machine.proofs.Common.{ServerInfo, faced, is_tree, keeps_tree, known_text, limit_of, reads_text, with_text}
use Rattle.hurd_machine.proofs.Nodes.{by_option}

abbrev pub face_in : Option ServerInfo → Option ServerInfo
face_in o = option_map faced o

abbrev pub text_in : Option ServerInfo → Option (List ℕ)
text_in o = option_map (λ (i : ServerInfo). i.text) o

-- what its root is is seen
pub root_told : (k : ServerKind) (text : List ℕ) → root_of k (known_text k text) ≡ root_of k text
root_told k text = (good k).guards.rooted text

pub reads_same : (k : ServerKind) (old new : List ℕ) → reads_text (root_of k new) ≡ reads_text (root_of k old)
reads_same k old new = (good k).guards.reads_alike old new

-- the text of a tree is seen, and that of no other server but a link

told_or : (link keeps : Bool) (text : List ℕ) → keeps ≡ true → (if link || keeps then text else []) ≡ text
told_or true keeps text is = refl
told_or false keeps text is = rw is refl

tree_told : (k : ServerKind) (text : List ℕ) → keeps_tree k ≡ true → known_text k text ≡ text
tree_told k text tree = told_or (is_link (root_of k text).crossing) (is_tree (root_of k text)) text ((good k).rooted text ∙ tree)

untold_or : (link keeps : Bool) (text : List ℕ) → link ≡ false → keeps ≡ false → (if link || keeps then text else []) ≡ []
untold_or false false text no_link lone = refl
untold_or link keeps text no_link lone = absurd (cc)

pub lone_untold : (k : ServerKind) (text : List ℕ) → is_link (root_of k text).crossing ≡ false → keeps_tree k ≡ false → known_text k text ≡ []
lone_untold k text no_link lone = untold_or (is_link (root_of k text).crossing) (is_tree (root_of k text)) text no_link ((good k).rooted text ∙ lone)

-- so its limit is seen
pub limit_told : (k : ServerKind) (text : List ℕ) → limit_of k (known_text k text) ≡ limit_of k text
limit_told k text = go (keeps_tree k) refl
  where
    go : (b : Bool) → keeps_tree k ≡ b → limit_of k (known_text k text) ≡ limit_of k text
    go true tree = ap (limit_of k) (tree_told k text tree)
    go false lone = (good k).unlimited lone (known_text k text) ∙ sym ((good k).unlimited lone text)

-- what is read of a server as it is seen is the same of servers that are seen alike
pub face_reads : {P : Type 0} (read : Option ServerInfo → P) → ((i : ServerInfo) → read (Some (faced i)) ≡ read (Some i)) → (o p : Option ServerInfo) → face_in p ≡ face_in o → read p ≡ read o
face_reads read blind o p e = sym (by_face p) ∙ ap read e ∙ by_face o
  where
    by_face : (q : Option ServerInfo) → read (face_in q) ≡ read q
    by_face = by_option (λ q. read (face_in q)) read refl blind

-- what is seen as a server is it, except for its text
pub of_face : (i : ServerInfo) (o : Option ServerInfo) → face_in o ≡ Some (faced i) → (text : List ℕ) × (o ≡ Some (with_text text i))
of_face i None e = absurd (cc)
of_face i (Some j) e = let face : faced j ≡ faced i = cc in (j.text, ap (λ (z : ServerInfo). Some (with_text j.text z)) face)

pub none_faced : (o : Option ServerInfo) → face_in o ≡ None → o ≡ None
none_faced None e = refl
none_faced (Some i) e = absurd (cc)

-- with its text it is it
pub whole : (o p : Option ServerInfo) → face_in p ≡ face_in o → text_in p ≡ text_in o → p ≡ o
whole None None f t = refl
whole (Some i) (Some j) f t =
    let face : faced j ≡ faced i = cc in
    let text : j.text ≡ i.text = cc in
    ap₂ (λ (x : List ℕ) (z : ServerInfo). Some (with_text x z)) text face
whole o p f t = absurd (cc)

-- with another text

pub face-with_text : (text : List ℕ) (o : Option ServerInfo) → face_in (option_map (with_text text) o) ≡ option_map (λ (i : ServerInfo). faced (with_text text i)) (face_in o)
face-with_text text = by_option _ _ refl (λ x. refl)

pub text-with_text : (text : List ℕ) (o : Option ServerInfo) → text_in (option_map (with_text text) o) ≡ option_map (λ (old : List ℕ). text) (text_in o)
text-with_text text = by_option _ _ refl (λ x. refl)
