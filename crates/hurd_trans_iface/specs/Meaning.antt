-- What a server means.
use Rattle.std.specs.Prelude.{◌≡◌, ℕ, Bool, true, false, cond, List, [], ◌∷◌, Option, Some, None, Result, Ok, Err}
use Rattle.std.specs.Str.{bytes_eq}
use Rattle.std.specs.Option.{option_map, option_or}
use Rattle.std.specs.FinMap as fin
use Rattle.hurd_creds.specs.declared.name.Name.{Name}
use Rattle.hurd_creds.specs.NameMaps.{map_values}
use Rattle.hurd_creds.specs.declared.mode.Mode.{Mode}
use Rattle.hurd_creds.specs.declared.errno.Errno.{Errno}
use Rattle.hurd_trans_iface.specs.declared.header_edit.HeaderEdit.{HeaderEdit}
use Rattle.hurd_trans_iface.specs.declared.new_node.NewNode.{NewNode}
use Rattle.hurd_trans_iface.specs.declared.root.Root.{Root}
use Rattle.hurd_trans_iface.specs.Nodes.{Body, Content, Listing, Node, NodeMap, Edit, body_of, edit_all, is_dir, with_header, with_size}
use Rattle.hurd_trans_iface.specs.Answers.{entry_of, make_of, make_edits, link_of, link_edits, unlink_of, unlink_edits, rename_of, rename_edits, set_header_of, header_edits, edits_if}
use Rattle.hurd_trans_iface.specs.Behaviour.{Behaviour, Question, effect_on, told_of, edits_of}
use Rattle.hurd_trans_iface.specs.Totals.{space_with, total_in}
pub use Rattle.hurd_trans_iface.specs.Kinds.{ServerKind, all_kinds, behaviour_of}

-- a server: its kind, its text, the name of its root once that has one, and its own nodes
pub record Meaning : Type 0 where
  pub kind : ServerKind
  pub text : List ℕ
  pub root : Option Name
  pub nodes : NodeMap

-- a server of this kind and text that has no root yet
abbrev pub new_server : ServerKind → List ℕ → Meaning
new_server kind text = record { kind = kind; text = text; root = None; nodes = fin.empty }

-- the server of this kind that these words make, if any: the first is the name of the kind's program
abbrev pub begin_as : ServerKind → List (List ℕ) → Option Meaning
begin_as kind [] = None
begin_as kind (w ∷ ws) = cond (bytes_eq w (behaviour_of kind).program) (option_map (new_server kind) ((behaviour_of kind).begins ws)) None

-- the server of the first of these kinds that these words make
abbrev pub begin_among : List ServerKind → List (List ℕ) → Option Meaning
begin_among [] ws = None
begin_among (k ∷ ks) ws = option_or (begin_as k ws) (begin_among ks ws)

-- the server that these words make, if any
abbrev pub begin : List (List ℕ) → Option Meaning
begin ws = begin_among all_kinds ws

-- a server that some words made
abbrev pub Begins : Meaning → Type 0
Begins m = (ws : List (List ℕ)) × (begin ws ≡ Some m)

-- what the root of a server of this kind and text is
abbrev pub root_of : ServerKind → List ℕ → Root
root_of k text = (behaviour_of k).root text

-- the program and its words, as they would be given to make a server of this kind and text
abbrev pub options_of : ServerKind → List ℕ → List (List ℕ)
options_of k text = (behaviour_of k).options text

-- the paths of the nodes that a server of this kind and text aims at
abbrev pub targets_of : ServerKind → List ℕ → List (List ℕ)
targets_of k text = (behaviour_of k).targets text

-- whether servers of a kind are told how many opens read and write
abbrev pub counts_opens : ServerKind → Bool
counts_opens k = (behaviour_of k).counts

-- whether servers of a kind keep trees
abbrev pub keeps_tree : ServerKind → Bool
keeps_tree k = (behaviour_of k).tree

-- what is in a root that has these bytes: no entries, where it is a directory
abbrev pub root_body : Bool → List ℕ → Body
root_body true bs = Listing []
root_body false bs = Content bs

-- what is in the root of a server of this text at first
abbrev pub first_body : Behaviour → List ℕ → Body
first_body b text = root_body (is_dir (b.root text).kind) (b.first text)

-- a root at first
abbrev pub new_root : Behaviour → List ℕ → ℕ → ℕ → Mode → Node
new_root b text owner group mode =
    let body = first_body b text in
    record {
      header = record { kind = (b.root text).kind; owner = owner; group = group; mode = mode; links = 1; size = b.size text body; parent = None; passive = [] };
      body = body;
    }

-- the server with its root named
abbrev pub begin_root_after : Meaning → Name → ℕ → ℕ → Mode → Meaning
begin_root_after m root owner group mode =
    record m { root = Some root; nodes = fin.insert m.nodes root (new_root (behaviour_of m.kind) m.text owner group mode) }

abbrev pub edited : List Edit → Meaning → Meaning
edited es m = record m { nodes = edit_all es m.nodes }

-- the most that the files of a server of this kind and text that entries name may have in all, if that is limited
abbrev pub limit_of : ServerKind → List ℕ → Option ℕ
limit_of k text = (behaviour_of k).limit text

-- how much more they may have, if that is limited
abbrev pub space_of : Meaning → Option ℕ
space_of m = space_with (limit_of m.kind m.text) (total_in m.nodes)

-- the answer of a call, with the server that it leaves

-- of a question about a node
abbrev pub step_of : {T : Type 0} → Question T → Name → Meaning → Result T Errno × Meaning
step_of q n m = let e = effect_on q (behaviour_of m.kind) m.text (space_of m) (fin.get m.nodes n) in (told_of e, edited (edits_of n e) m)

-- the size of a node without entries, where its server has this kind and text
abbrev pub size_of : ServerKind → List ℕ → ℕ
size_of k text = (behaviour_of k).size text (Content [])

-- nodes of a server that gets another text: where it keeps no tree, each gets the size that this says
abbrev pub resized : Bool → ℕ → NodeMap → NodeMap
resized true k m = m
resized false k m = map_values (with_header (with_size k)) m

-- the server with another text, if one is given
abbrev pub with_text : Option (List ℕ) → Meaning → Meaning
with_text None m = m
with_text (Some text) m = record m { text = text; nodes = resized (keeps_tree m.kind) (size_of m.kind text) m.nodes }

-- options that are taken, or refused, with the server that they leave
abbrev pub options_taken : Result (Option (List ℕ)) Errno → Meaning → Result (Unit {0}) Errno × Meaning
options_taken (Ok text) m = (Ok tt, with_text text m)
options_taken (Err e) m = (Err e, m)

abbrev pub set_options_step : List (List ℕ) → Meaning → Result (Unit {0}) Errno × Meaning
set_options_step ws m = options_taken ((behaviour_of m.kind).set_options ws) m

-- a node made in a directory, under a name or without an entry
abbrev pub make_step : Name → Option (List ℕ) → NewNode → Meaning → Result (Unit {0}) Errno × Meaning
make_step dir entry new m =
    let answer = make_of (keeps_tree m.kind) entry new.kind (fin.get m.nodes dir) in (answer, edited (edits_if answer (make_edits dir entry new)) m)

-- another name for a file, which is one of the server's own
abbrev pub link_step : Name → List ℕ → Name → Meaning → Result (Unit {0}) Errno × Meaning
link_step dir name n m =
    let answer = link_of (keeps_tree m.kind) (space_of m) name true (fin.get m.nodes dir) (fin.get m.nodes n) in (answer, edited (edits_if answer (link_edits dir name n)) m)

-- the entry of a name goes, and what it names has one entry less that names it
abbrev pub unlink_step : Name → List ℕ → Meaning → Result (Unit {0}) Errno × Meaning
unlink_step dir name m =
    let answer = unlink_of (keeps_tree m.kind) name (fin.get m.nodes dir) in (answer, edited (edits_if answer (unlink_edits dir name (entry_of name (body_of m.nodes dir)))) m)

-- an entry goes from a directory to another, or gets another name
abbrev pub rename_step : Name → List ℕ → Name → List ℕ → Meaning → Result (Unit {0}) Errno × Meaning
rename_step dir name to new m =
    let answer = rename_of (keeps_tree m.kind) name true (fin.get m.nodes dir) (fin.get m.nodes to) in
    (answer, edited (edits_if answer (rename_edits dir name to new (entry_of name (body_of m.nodes dir)) (entry_of new (body_of m.nodes to)))) m)

-- an edit of what a node's header says
abbrev pub edit_header_step : Name → HeaderEdit → Meaning → Result (Unit {0}) Errno × Meaning
edit_header_step n e m =
    let answer = set_header_of (keeps_tree m.kind) (fin.get m.nodes n) in (answer, edited (edits_if answer (header_edits n e)) m)

-- the server without a node; entries that name it stay
abbrev pub forget_after : Meaning → Name → Meaning
forget_after m n = record m { nodes = fin.remove m.nodes n }

-- how many bytes there are to read in a node at a place
abbrev pub readable_of : Meaning → Name → ℕ → Option ℕ
readable_of m n at = option_map (λ x. (behaviour_of m.kind).readable m.text x at) (fin.get m.nodes n)
