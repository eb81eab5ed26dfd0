-- What a call does to the one node of a server, by what its server keeps of the node.
use Rattle.std.specs.Prelude.{◌≡◌, ℕ, List, [], Result, Ok}
use Rattle.hurd_creds.specs.Memory.{Steps}
use Rattle.hurd_creds.specs.declared.errno.Errno.{Errno}
use Rattle.hurd_trans_iface.specs.Behaviour.{Question, served, told_of}
use Rattle.hurd_trans_iface.specs.Meaning.{behaviour_of}
use Rattle.hurd_trans_iface.specs.declared.begun.ServerKind.{ServerKind}
use Rattle.hurd_small.specs.declared.presence.LoneNode.{LoneNode}
use Rattle.hurd_small.specs.Lone.{node_of}

-- it answers so, and leaves a server of this text whose node holds these bytes
unfoldable pub AnswersSo : {T : Type 0} → Question T → ServerKind → List ℕ → List ℕ → Result T Errno → List ℕ → List ℕ → Type 0
AnswersSo q kind text held got new_text new_held =
    (n : LoneNode) → let x = node_of kind text held n in (got, node_of kind new_text new_held n) ≡ served (q (behaviour_of kind) text x) x

-- it does that, or finds no memory and changes nothing
unfoldable pub Tries : {T : Type 0} → Question T → ServerKind → List ℕ → List ℕ → Result T Errno → List ℕ → List ℕ → Type 0
Tries q kind text held got new_text new_held =
    (n : LoneNode) → let x = node_of kind text held n in Steps x (served (q (behaviour_of kind) text x) x) got (node_of kind new_text new_held n)

-- it takes no memory to give no bytes
unfoldable pub TakesNone : Question (List ℕ) → ServerKind → List ℕ → List ℕ → Result (List ℕ) Errno → Type 0
TakesNone q kind text held got = (n : LoneNode) → told_of (q (behaviour_of kind) text (node_of kind text held n)) ≡ Ok [] → got ≡ Ok []

-- so many bytes there are to read at a place
unfoldable pub Readable : ServerKind → List ℕ → List ℕ → ℕ → ℕ → Type 0
Readable kind text held at count = (n : LoneNode) → count ≡ (behaviour_of kind).readable text (node_of kind text held n) at
