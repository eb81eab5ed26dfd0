-- What a lookup asks of a server goes by what is seen of it: a link alone leads on by its text.
use Rattle.std.proofs.Common.{◌≡◌, ◌∙◌, ◌||◌, Bool, if◌then◌else◌, List, [], Option, Some, None, refl, ap, ℕ}
use Rattle.std.specs.Prelude.{Result, Ok}
use Rattle.hurd_trans_iface.specs.declared.begun.ServerKind.{ServerKind}
use Rattle.hurd_trans_iface.specs.Answers.{is_tree}
use Rattle.hurd_trans_iface.specs.Texts.{is_link}
use Rattle.hurd_trans_iface.specs.declared.root.Crossing.{Crossing}
use Rattle.hurd_trans_iface.specs.declared.root.Crossing.TheVariants.{Plain, Link, Firm, Union}
use Rattle.hurd_trans_iface.specs.Meaning.{root_of}
use Rattle.hurd_trans_iface.specs.declared.root.Root.{Root}
use Rattle.hurd_machine.proofs.Common.{EDIED, Errno, Header, Name, ServerInfo, World, faced, only_reads, known_text, with_text}
use Rattle.hurd_machine.specs.World.{is_text}
use Rattle.hurd_machine.specs.Plan.{first, on}
use Rattle.hurd_machine.proofs.Faces.{face_in, face_reads, root_told}
use Rattle.hurd_core.specs.Branches.{branches, branches_by}
use Rattle.hurd_lookup.specs.declared.request.Request.{Request}
use Rattle.hurd_lookup.specs.Lookup.{Authority, Outcome, crossing}

pub branches_face : (o p : Option ServerInfo) → face_in p ≡ face_in o → branches_by p ≡ branches_by o
branches_face = face_reads branches_by (λ i. ap (λ (x : Root). branches x.crossing i.targets) (root_told i.kind i.text))

crossing_face : (w : World) (q : Authority) (r : Request) (d root : Name) (names : List (List ℕ)) (k : ServerKind) (i : ServerInfo)
    → let j : ServerInfo = with_text (known_text k i.text) i in crossing w (root_of k (known_text k i.text)).crossing q r d root j names ≡ crossing w (root_of k i.text).crossing q r d root i names
crossing_face w q r d root names k i = ap (λ (x : Root). crossing w x.crossing q r d root (with_text (known_text k i.text) i) names) (root_told k i.text) ∙ led (root_of k i.text).crossing (is_tree (root_of k i.text))
  where
    led : (c : Crossing) (kept : Bool) → crossing w c q r d root (with_text (if is_link c || kept then i.text else []) i) names ≡ crossing w c q r d root i names
    led Plain kept = refl
    led (Link absolute) kept = refl
    led Firm kept = refl
    led Union kept = refl

abbrev pub crossed_by : World → Authority → Request → Name → Name → List (List ℕ) → Option Header → Option ServerInfo → Result Outcome Errno
crossed_by w q r d root names o s = first (on EDIED o (λ h. on EDIED s (λ i. Ok i))) (λ i. crossing w (root_of i.kind i.text).crossing q r d root i names)

pub crossed_face : (w : World) (q : Authority) (r : Request) (d root : Name) (names : List (List ℕ)) (o : Option Header) (i : ServerInfo) → crossed_by w q r d root names o (Some (faced i)) ≡ crossed_by w q r d root names o (Some i)
unfolding first on
crossed_face w q r d root names None i = refl
crossed_face w q r d root names (Some h) i = crossing_face w q r d root names i.kind i

pub only_face : (o p : Option ServerInfo) → face_in p ≡ face_in o → only_reads p ≡ only_reads o
only_face = face_reads only_reads (λ i. ap (λ (x : Root). is_text x.kind) (root_told i.kind i.text))
