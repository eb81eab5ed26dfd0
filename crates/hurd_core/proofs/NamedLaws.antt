-- What a port names, from the attributes and the words of its node.
use Rattle.std.proofs.Common.{◌≡◌, ◌∙◌, ℕ, false, true≢false, List, [], ◌∷◌, Option, Some, None, refl, ap, option_map}
use Rattle.std.specs.Prelude.{Ok}
use Rattle.hurd_machine.proofs.Common.{Attrs, IoRight, Node, World, both_asks, first, io_right_of, node_at, on, passive_of, port_asks, ports_of, some_words, words_in}
use Rattle.hurd_trans_iface.specs.Nodes.{attrs_of, has_words}
use Rattle.hurd_core.specs.PortNode.{header_with, or_no_words}

-- words that are there, or none, are the list that is stored
words_back : (ws : List (List ℕ)) → or_no_words (some_words ws) ≡ ws
words_back [] = refl
words_back (w ∷ ws) = refl

-- a node whose attributes tell that no words are stored has none
pub wordless : (o : Option Node) (a : Attrs) → option_map attrs_of o ≡ Some a → a.passive ≡ false → passive_of o ≡ None
wordless None a is off = refl
wordless (Some x) a is off =
    let same : attrs_of x ≡ a = cc in
    by x.header.passive (ap (λ (b : Attrs). b.passive) same ∙ off)
  where
    by : (ws : List (List ℕ)) → has_words ws ≡ false → some_words ws ≡ None
    by [] none = refl
    by (w ∷ ws) none = absurd (true≢false none)

-- attributes and stored words are the header
pub header_told : (o : Option Node) → option_map (header_with (words_in o)) (option_map attrs_of o) ≡ option_map (λ (x : Node). x.header) o
header_told None = refl
header_told (Some x) = refl

header_made : (o : Option Node) (a : Attrs) (ws : Option (List (List ℕ))) → Some a ≡ option_map attrs_of o → ws ≡ passive_of o
    → option_map (λ (x : Node). x.header) o ≡ Some (header_with (or_no_words ws) a)
header_made None a ws e is = absurd (cc)
header_made (Some x) a ws e is =
    let same : a ≡ attrs_of x = cc in
    rw (same, is, words_back x.header.passive) refl

-- a port on a node that is there
pub port_told : (w : World) (t p : ℕ) (r : IoRight) (a : Attrs) (ws : Option (List (List ℕ))) → io_right_of (ports_of w) t p ≡ Ok r
    → Some a ≡ option_map attrs_of (node_at w r.node) → ws ≡ passive_of (node_at w r.node)
    → port_asks w t p ≡ Ok (record { right = r; header = header_with (or_no_words ws) a })
unfolding on first
port_told w t p r a ws right e is = rw (right, header_made (node_at w r.node) a ws e is) refl

-- two ports on nodes that are there
pub both_told : (w : World) (t p q : ℕ) (r s : IoRight) (a b : Attrs) (ws vs : Option (List (List ℕ))) → io_right_of (ports_of w) t p ≡ Ok r → io_right_of (ports_of w) t q ≡ Ok s
    → Some a ≡ option_map attrs_of (node_at w r.node) → ws ≡ passive_of (node_at w r.node)
    → Some b ≡ option_map attrs_of (node_at w s.node) → vs ≡ passive_of (node_at w s.node)
    → both_asks w t p q ≡ Ok (record { right = r; header = header_with (or_no_words ws) a }, record { right = s; header = header_with (or_no_words vs) b })
unfolding on first
both_told w t p q r s a b ws vs one two e is f js =
    rw (one, two, header_made (node_at w r.node) a ws e is, header_made (node_at w s.node) b vs f js) refl
