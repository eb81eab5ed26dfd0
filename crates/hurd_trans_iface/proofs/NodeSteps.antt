-- What a call does to one node is what it does to its server.
use Rattle.std.proofs.Common.{◌≡◌, ℕ, Bool, true, false, List, refl, ap, sym, ◌∙◌, subst}
use Rattle.std.specs.Prelude.{Option, Some, None, Result, Ok, Err}
use Rattle.std.specs.Option.{option_map}
use Rattle.std.specs.FinMap as fin
use Rattle.hurd_creds.specs.Memory.{Steps}
use Rattle.hurd_creds.specs.NameMaps.{NameMap, edit}
use Rattle.hurd_creds.specs.declared.name.Name.{Name}
use Rattle.hurd_creds.specs.declared.errno.Errno.{Errno}
use Rattle.hurd_creds.specs.declared.errno.Errno.TheVariants.{EDIED, EOPNOTSUPP}
use Rattle.hurd_creds.proofs.NameLaws.{get_here, edit_found, insert_same, insert-insert}
use Rattle.hurd_creds.proofs.StepLaws.{steps-refused, steps-inside}
use Rattle.hurd_trans_iface.specs.declared.header_edit.HeaderEdit.{HeaderEdit}
use Rattle.hurd_trans_iface.specs.declared.header_edit.HeaderEdit.TheVariants.{SetAttrs, SetPassive}
use Rattle.hurd_trans_iface.specs.Nodes.{Node, NodeMap, Reaches, body_of, is_entered, edit_all, with_header, with_body, with_size, on_bytes}
use Rattle.hurd_trans_iface.specs.Behaviour.{Effect, Question, effect_on, fitting, told_of, edit_bytes, edit_size, edits_of, size_left, bytes_left, left_by, served}
use Rattle.hurd_trans_iface.specs.Answers.{header_after, header_edits, header_edited, set_header_of, edits_if}
use Rattle.hurd_trans_iface.specs.Meaning.{Meaning, behaviour_of, edited, keeps_tree, edit_header_step, space_of, step_of}

-- a value put in where another one is edited
pub edit-inserted : {X : Type 0} (m : NameMap X) (n : Name) (x : X) (f : X → X) → edit n f (fin.insert m n x) ≡ fin.insert m n (f x)
edit-inserted m n x f = edit_found (fin.insert m n x) n f x (get_here m n x) ∙ insert-insert m n x (f x)

-- the server with other nodes
abbrev pub with_nodes : Meaning → NodeMap → Meaning
with_nodes m ns = record m { nodes = ns }

-- the server with another node in place of a name
abbrev with_node : Meaning → Name → Node → Meaning
with_node m n x = with_nodes m (fin.insert m.nodes n x)

module _ (m : Meaning) (n : Name) (x : Node) (at_n : fin.get m.nodes n ≡ Some x) where
  with_same : with_node m n x ≡ m
  with_same = ap (with_nodes m) (insert_same m.nodes n x at_n)

  -- what is done to the node, as edits of the server
  edits-here : {T : Type 0} (e : Effect T) → edited (edits_of n e) m ≡ with_node m n (left_by e x)
  edits-here (Err f) = sym with_same
  edits-here (Ok d) = ap (with_nodes m) (go d.bytes d.size)
    where
      go : (b : Option (List ℕ → List ℕ)) (s : Option ℕ)
          → edit_all (edit_bytes n b (edit_size n s)) m.nodes ≡ fin.insert m.nodes n (record { header = size_left s x.header; body = bytes_left b x.body })
      go None None = sym (insert_same m.nodes n x at_n)
      go (Some f) None = edit_found m.nodes n (with_body (on_bytes f)) x at_n
      go None (Some s) = edit_found m.nodes n (with_header (with_size s)) x at_n
      go (Some f) (Some s) =
          ap (edit n (with_header (with_size s))) (edit_found m.nodes n (with_body (on_bytes f)) x at_n)
          ∙ edit-inserted m.nodes n (with_body (on_bytes f) x) (with_header (with_size s))

  module _ {T : Type 0} (q : Question T) (got : Result T Errno) where
    abbrev effect : Effect T
    effect = fitting (space_of m) x.header (q (behaviour_of m.kind) m.text x)

    step-here : step_of q n m ≡ (told_of effect, with_node m n (left_by effect x))
    step-here =
        ap (λ (o : Option Node). let e = effect_on q (behaviour_of m.kind) m.text (space_of m) o in (told_of e, edited (edits_of n e) m)) at_n
        ∙ ap (λ (s : Meaning). (told_of effect, s)) (edits-here effect)

    -- a step of the node is one of the server
    pub step-node : (y : Node) (ns : NodeMap) → Steps x (served effect x) got y → ns ≡ fin.insert m.nodes n y → Steps m (step_of q n m) got (with_nodes m ns)
    step-node y ns s new =
        let inside = steps-inside (with_node m n) x y (served effect x) (step_of q n m) got step-here s in
        rw new (subst (λ (t : Meaning). Steps t (step_of q n m) got (with_node m n y)) with_same inside)

    -- and its answer is that of the server
    pub told-here : got ≡ told_of effect → got ≡ (step_of q n m).0
    told-here is = is ∙ sym (ap (λ (o : Option Node). told_of (effect_on q (behaviour_of m.kind) m.text (space_of m) o)) at_n)

  -- what is known of the bytes under a name is known of the node's
  pub reaches-here : (count : ℕ) → Reaches (body_of m.nodes n) count → Reaches (Some x.body) count
  reaches-here count there = subst (λ (o : Option Node). Reaches (option_map (λ (y : Node). y.body) o) count) at_n there

  -- an edit of the node's header is one of the server

  abbrev answered_by : HeaderEdit → Result (Unit {0}) Errno → Result (Unit {0}) Errno × Meaning
  answered_by e answer = (answer, edited (edits_if answer (header_edits n e)) m)

  header-at : (b : Bool) (e : HeaderEdit) (got : Result (Unit {0}) Errno) (y : Node) (ns : NodeMap) → (got, y) ≡ header_edited b e x → ns ≡ fin.insert m.nodes n y
      → (got, with_nodes m ns) ≡ answered_by e (set_header_of b (Some x))
  header-at true e got y ns is new =
      rw (new, ap (λ s. s.0) is, ap (λ s. s.1) is)
      (ap (λ (z : NodeMap). let s : Result (Unit {0}) Errno × Meaning = (Ok tt, with_nodes m z) in s) (sym (edit_found m.nodes n (with_header (header_after e)) x at_n)))
  header-at false e got y ns is new =
      rw (new, ap (λ s. s.0) is, ap (λ s. s.1) is) (ap (λ (z : Meaning). let s : Result (Unit {0}) Errno × Meaning = (Err EOPNOTSUPP, z) in s) with_same)

  pub header-here : (e : HeaderEdit) (got : Result (Unit {0}) Errno) (y : Node) (ns : NodeMap) → (got, y) ≡ header_edited (keeps_tree m.kind) e x → ns ≡ fin.insert m.nodes n y
      → (got, with_nodes m ns) ≡ edit_header_step n e m
  header-here e got y ns is new =
      header-at (keeps_tree m.kind) e got y ns is new ∙ sym (ap (answered_by e) (ap (set_header_of (keeps_tree m.kind)) at_n))

-- a node that an entry names stays one when its header is edited
pub edited-entered : (b : Bool) (e : HeaderEdit) (x y : Node) (got : Result (Unit {0}) Errno) → (got, y) ≡ header_edited b e x → is_entered x.header ≡ true → is_entered y.header ≡ true
edited-entered false e x y got is h = ap (λ s. is_entered s.1.header) is ∙ h
edited-entered true (SetAttrs owner group mode) x y got is h = ap (λ s. is_entered s.1.header) is ∙ h
edited-entered true (SetPassive words) x y got is h = ap (λ s. is_entered s.1.header) is ∙ h

-- no such node
pub header-nowhere : (e : HeaderEdit) (m : Meaning) (n : Name) → fin.get m.nodes n ≡ None → (Err EDIED, m) ≡ edit_header_step n e m
header-nowhere e m n none =
    sym (ap (λ (answer : Result (Unit {0}) Errno). let s : Result (Unit {0}) Errno × Meaning = (answer, edited (edits_if answer (header_edits n e)) m) in s) (ap (set_header_of (keeps_tree m.kind)) none))

pub told-nowhere : {T : Type 0} (q : Question T) (m : Meaning) (n : Name) → fin.get m.nodes n ≡ None → Err EDIED ≡ (step_of q n m).0
told-nowhere q m n none = sym (ap (λ (o : Option Node). told_of (effect_on q (behaviour_of m.kind) m.text (space_of m) o)) none)

pub step-nowhere : {T : Type 0} (q : Question T) (m : Meaning) (n : Name) → fin.get m.nodes n ≡ None → Steps m (step_of q n m) (Err EDIED) m
step-nowhere q m n none = steps-refused (step_of q n m) m EDIED (rw none refl)
