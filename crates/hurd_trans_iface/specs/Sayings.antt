-- What words say that make a server.
use Rattle.std.specs.Prelude.{◌≡◌, ℕ, true, List}
use Rattle.hurd_trans_iface.specs.declared.begun.Begun.{Begun}
use Rattle.hurd_trans_iface.specs.declared.begun.ServerKind.TheVariants.{Union}
use Rattle.hurd_trans_iface.specs.Kinds.Union.{text_of}
use Rattle.hurd_trans_iface.specs.Meaning.{Meaning, ServerKind, behaviour_of, new_server}

-- the text that they say to a kind: bytes, or the paths of a union
abbrev pub text_said : ServerKind → List ℕ → List (List ℕ) → List ℕ
text_said Union text paths = text_of paths
text_said _ text paths = text

-- the server that they make
abbrev pub server_said : Begun → Meaning
server_said b = new_server b.kind (text_said b.kind b.text.now b.paths.now)

-- a text is such a one as words say to a kind
abbrev pub Fits : ServerKind → List ℕ → Type 0
Fits k text = (behaviour_of k).fits text ≡ true

-- what they say is such a text
abbrev pub IsFit : Begun → Type 0
IsFit b = Fits b.kind (text_said b.kind b.text.now b.paths.now)
