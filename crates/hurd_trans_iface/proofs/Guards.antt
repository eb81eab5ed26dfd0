-- Nobody is told the text of a server but who may be.
use Rattle.std.proofs.Common.{◌≡◌, ℕ, List, ap, sym, ◌∙◌}
use Rattle.hurd_trans_iface.specs.declared.root.Root.{Root}
use Rattle.hurd_trans_iface.specs.Nodes.{Node}
use Rattle.hurd_trans_iface.specs.Texts.{reads_text, told_text}
use Rattle.hurd_trans_iface.specs.Behaviour.{Behaviour, Effect}
use Rattle.hurd_trans_iface.specs.Good.{GuardsText}

-- what is answered of a node
record Answered : Type 0 where
  root : Root
  read : Node → ℕ → ℕ → ℕ → Effect (List ℕ)
  readable : Node → ℕ → ℕ
  write : Node → ℕ → List ℕ → ℕ → Effect ℕ
  set_size : Node → ℕ → Effect (Unit {0})

abbrev answered : Behaviour → List ℕ → Answered
answered b text = record { root = b.root text; read = b.read text; readable = b.readable text; write = b.write text; set_size = b.set_size text }

-- nothing goes by the text
pub guards_none : (b : Behaviour) → ((old new : List ℕ) → answered b new ≡ answered b old) → GuardsText b
guards_none b same = record {
  rooted = λ text. ap (λ a. a.root) (same text (told_text (b.root text) text));
  reads_alike = λ old new. ap (λ a. reads_text a.root) (same old new);
  read_untold = λ text out at amount writers old new x told. ap (λ a. a.read x at amount writers) (same old new);
  readable_untold = λ text out old new x at told. ap (λ a. a.readable x at) (same old new);
  write_untold = λ old new x at bs readers. ap (λ a. a.write x at bs readers) (same old new);
  set_size_untold = λ old new x size. ap (λ a. a.set_size x size) (same old new);
}

-- whoever knows a link is told its text, and nothing that it takes goes by it
pub guards_link : (b : Behaviour) → ((text : List ℕ) → told_text (b.root text) text ≡ text) → ((old new : List ℕ) → reads_text (b.root new) ≡ reads_text (b.root old))
    → ((old new : List ℕ) → b.write new ≡ b.write old) → ((old new : List ℕ) → b.set_size new ≡ b.set_size old) → GuardsText b
guards_link b all alike write size = record {
  rooted = λ text. ap b.root (all text);
  reads_alike = alike;
  read_untold = λ text out at amount writers old new x told. ap (λ (t : List ℕ). b.read t x at amount writers) (sym (all new) ∙ told ∙ all old);
  readable_untold = λ text out old new x at told. ap (λ (t : List ℕ). b.readable t x at) (sym (all new) ∙ told ∙ all old);
  write_untold = λ old new x at bs readers. ap (λ f. f x at bs readers) (write old new);
  set_size_untold = λ old new x n. ap (λ f. f x n) (size old new);
}
