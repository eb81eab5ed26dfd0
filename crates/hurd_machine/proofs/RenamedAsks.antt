-- What servers answer of nodes with other names.
use Rattle.std.proofs.Common.{◌≡◌, ℕ, Bool, not, if◌then◌else◌, List, Option, Some, None, Result, Ok, Err, refl, ap, ◌∙◌}
use Rattle.std.specs.Prelude.{nat_lt}
use Rattle.std.specs.Option.{option_map}
use Rattle.hurd_trans_iface.specs.Answers.{link_in, link_of, make_of, rename_of, rename_to, set_header_of, unlink_of}
use Rattle.hurd_trans_iface.specs.Behaviour.{Effect, effect_on, reading, resizing, size_left}
use Rattle.hurd_trans_iface.specs.Meaning.{behaviour_of}
use Rattle.hurd_trans_iface.specs.declared.begun.ServerKind.{ServerKind}
use Rattle.hurd_trans_iface.specs.Nodes.{linked}
use Rattle.hurd_trans_iface.proofs.Goods.{nameless}
use Rattle.hurd_nodes.specs.Shown.{info_taken, made_by, readable_by, rename_by, unlink_by}
use Rattle.hurd_machine.proofs.Common.{Body, Content, EEXIST, EISDIR, ENOENT, ENOSPC, ENOTDIR, EOVERFLOW, EROFS, EXDEV, EOPNOTSUPP, Errno, Header, Kind, Listing, Name, Node, Question, ServerInfo, World, are_kin, asked_at, asked_of, counts_for, edit_by, fitting, get, home_at, info_at, is_dir, is_made, keeps_tree, link_by, links_at, makes_at, most_links, overfills, renames_at, sets_attrs_at, space_at, takes_options, writing}
use Rattle.hurd_machine.specs.World.{count_in, readable_at, unlinks_at}
use Rattle.hurd_machine.specs.Renamed.{OtherNames, body_renamed, header_renamed, info_renamed, node_renamed, renamed}
use Rattle.hurd_machine.proofs.RenamedNodes.{has_entry-renamed, is_taken-renamed, kin_at-renamed, node_at-renamed}
use Rattle.hurd_machine.proofs.RenamedPlans.{answer_renamed}
use Rattle.hurd_machine.proofs.RenamedServers.{info_at-renamed, space_at-renamed}

module _ (f : OtherNames) where
  -- questions

  -- the answer doesn't go by names that a node has
  abbrev pub IsNameless : {T : Type 0} → Question T → Type 0
  IsNameless q = (k : ServerKind) (text : List ℕ) (x : Node) → q (behaviour_of k) text (node_renamed f.to x) ≡ q (behaviour_of k) text x

  pub reading-renamed : (at amount writers : ℕ) → IsNameless (reading at amount writers)
  reading-renamed at amount writers k text x = (nameless k).read at amount writers f.to text x

  pub writing-renamed : (at : ℕ) (bs : List ℕ) (readers : ℕ) → IsNameless (writing at bs readers)
  writing-renamed at bs readers k text x = (nameless k).write at bs readers f.to text x

  pub resizing-renamed : (size : ℕ) → IsNameless (resizing size)
  resizing-renamed size k text x = (nameless k).set_size size f.to text x

  readable-renamed : (k : ServerKind) (text : List ℕ) (x : Node) (at : ℕ) → (behaviour_of k).readable text (node_renamed f.to x) at ≡ (behaviour_of k).readable text x at
  readable-renamed k text x at = (nameless k).readable f.to text x at

  -- what a node counts for has no names in it

  counts_left : (o : Option ℕ) (h : Header) → counts_for (size_left o (header_renamed f.to h)) ≡ counts_for (size_left o h)
  counts_left None h = refl
  counts_left (Some k) h = refl

  fitting-renamed : {T : Type 0} (space : Option ℕ) (h : Header) (e : Effect T) → fitting space (header_renamed f.to h) e ≡ fitting space h e
  fitting-renamed None h e = refl
  fitting-renamed (Some space) h (Err e) = refl
  fitting-renamed (Some space) h (Ok d) = ap (λ k. if overfills (Some space) (counts_for h) k then Err ENOSPC else Ok d) (counts_left d.size h)

  effect_on-renamed : {T : Type 0} (q : Question T) → IsNameless q → (k : ServerKind) (text : List ℕ) (space : Option ℕ) (o : Option Node)
      → effect_on q (behaviour_of k) text space (option_map (node_renamed f.to) o) ≡ effect_on q (behaviour_of k) text space o
  effect_on-renamed q nameless k text space None = refl
  effect_on-renamed q nameless k text space (Some x) = fitting-renamed space x.header (q (behaviour_of k) text (node_renamed f.to x)) ∙ ap (fitting space x.header) (nameless k text x)

  asked_of-renamed : {T : Type 0} (q : Question T) → IsNameless q → (i : Option ServerInfo) (space : Option ℕ) (o : Option Node)
      → asked_of q (option_map (info_renamed f.to) i) space (option_map (node_renamed f.to) o) ≡ asked_of q i space o
  asked_of-renamed q nameless None space o = refl
  asked_of-renamed q nameless (Some i) space o = effect_on-renamed q nameless i.kind i.text space o

  readable_by-renamed : (at : ℕ) (i : Option ServerInfo) (o : Option Node) → readable_by at (option_map (info_renamed f.to) i) (option_map (node_renamed f.to) o) ≡ readable_by at i o
  readable_by-renamed at None o = refl
  readable_by-renamed at (Some i) None = refl
  readable_by-renamed at (Some i) (Some x) = ap Some (readable-renamed i.kind i.text x at)

  -- what may be done in directories

  make_of-renamed : (keeps : Bool) (entry : Option (List ℕ)) (kind : Kind) (o : Option Node) → make_of keeps entry kind (option_map (node_renamed f.to) o) ≡ make_of keeps entry kind o
  make_of-renamed keeps entry kind None = refl
  make_of-renamed keeps entry kind (Some d) =
      ap (λ (taken : Bool). if not (is_dir d.header.kind) then Err ENOTDIR else if not keeps then Err EROFS else if taken then Err EEXIST else if is_made kind then Ok tt else Err EOPNOTSUPP) (is_taken-renamed f entry d.body)

  link_in-renamed : (space : Option ℕ) (name : List ℕ) (kin : Bool) (d : Node) (o : Option Node) → link_in space name kin (node_renamed f.to d) (option_map (node_renamed f.to) o) ≡ link_in space name kin d o
  link_in-renamed space name kin d None = refl
  link_in-renamed space name kin d (Some x) =
      ap (λ (taken : Bool). if not kin then Err EXDEV else if is_dir x.header.kind then Err EISDIR else if taken then Err EEXIST
      else if overfills space (counts_for x.header) (counts_for (linked x.header)) then Err ENOSPC else if nat_lt x.header.links most_links then Ok tt else Err EOVERFLOW) (has_entry-renamed f name d.body)

  link_of-renamed : (keeps : Bool) (space : Option ℕ) (name : List ℕ) (kin : Bool) (o p : Option Node)
      → link_of keeps space name kin (option_map (node_renamed f.to) o) (option_map (node_renamed f.to) p) ≡ link_of keeps space name kin o p
  link_of-renamed keeps space name kin None p = refl
  link_of-renamed keeps space name kin (Some d) p = ap (λ r. if not (is_dir d.header.kind) then Err ENOTDIR else if not keeps then Err EROFS else r) (link_in-renamed space name kin d p)

  set_header_of-renamed : (keeps : Bool) (o : Option Node) → set_header_of keeps (option_map (node_renamed f.to) o) ≡ set_header_of keeps o
  set_header_of-renamed keeps None = refl
  set_header_of-renamed keeps (Some x) = refl

  -- by what is known of the server

  made_by-renamed : (entry : Option (List ℕ)) (kind : Kind) (i : Option ServerInfo) (o : Option Node) → made_by entry kind (option_map (info_renamed f.to) i) (option_map (node_renamed f.to) o) ≡ made_by entry kind i o
  made_by-renamed entry kind None o = refl
  made_by-renamed entry kind (Some i) o = make_of-renamed (keeps_tree i.kind) entry kind o

  link_by-renamed : (name : List ℕ) (kin : Bool) (i : Option ServerInfo) (space : Option ℕ) (o p : Option Node)
      → link_by name kin (option_map (info_renamed f.to) i) space (option_map (node_renamed f.to) o) (option_map (node_renamed f.to) p) ≡ link_by name kin i space o p
  link_by-renamed name kin None space o p = refl
  link_by-renamed name kin (Some i) space o p = link_of-renamed (keeps_tree i.kind) space name kin o p

  edit_by-renamed : (i : Option ServerInfo) (o : Option Node) → edit_by (option_map (info_renamed f.to) i) (option_map (node_renamed f.to) o) ≡ edit_by i o
  edit_by-renamed None o = refl
  edit_by-renamed (Some i) o = set_header_of-renamed (keeps_tree i.kind) o

  info_taken-renamed : (i : ServerInfo) (r : Result (Option (List ℕ)) Errno)
      → info_taken (info_renamed f.to i) r ≡ answer_renamed (λ (a : ServerInfo × Option (List ℕ)). (info_renamed f.to a.0, a.1)) (info_taken i r)
  info_taken-renamed i (Ok text) = refl
  info_taken-renamed i (Err e) = refl

  -- the server that options were given, with the text that it takes
  pub takes_options-renamed : (ws : List (List ℕ)) (o : Option ServerInfo)
      → takes_options ws (option_map (info_renamed f.to) o) ≡ answer_renamed (λ (a : ServerInfo × Option (List ℕ)). (info_renamed f.to a.0, a.1)) (takes_options ws o)
  takes_options-renamed ws None = refl
  takes_options-renamed ws (Some i) = info_taken-renamed i ((behaviour_of i.kind).set_options ws)

  -- in the world

  module _ (w : World) where
    pub asked_at-renamed : {T : Type 0} (q : Question T) → IsNameless q → (n : Name) → asked_at q (f.to n) (renamed f w) ≡ asked_at q n w
    asked_at-renamed q nameless n = rw (info_at-renamed f w n, space_at-renamed f w n, node_at-renamed f w n) (asked_of-renamed q nameless (info_at w n) (space_at w n) (get w.nodes n))

    pub readable_at-renamed : (n : Name) (at : ℕ) → readable_at (renamed f w) (f.to n) at ≡ readable_at w n at
    readable_at-renamed n at = rw (info_at-renamed f w n, node_at-renamed f w n) (ap count_in (readable_by-renamed at (info_at w n) (get w.nodes n)))

    pub makes_at-renamed : (d : Name) (entry : Option (List ℕ)) (kind : Kind) → makes_at (renamed f w) (f.to d) entry kind ≡ makes_at w d entry kind
    makes_at-renamed d entry kind = rw (info_at-renamed f w d, node_at-renamed f w d) (made_by-renamed entry kind (info_at w d) (get w.nodes d))

    pub links_at-renamed : (d : Name) (name : List ℕ) (n : Name) → links_at (renamed f w) (f.to d) name (f.to n) ≡ links_at w d name n
    links_at-renamed d name n =
        rw (info_at-renamed f w d, space_at-renamed f w d, node_at-renamed f w d, node_at-renamed f w n, kin_at-renamed f w d n)
        (link_by-renamed name (are_kin (home_at w d) (home_at w n)) (info_at w d) (space_at w d) (get w.nodes d) (get w.nodes n))

    pub sets_attrs_at-renamed : (n : Name) → sets_attrs_at (renamed f w) (f.to n) ≡ sets_attrs_at w n
    sets_attrs_at-renamed n = rw (info_at-renamed f w n, node_at-renamed f w n) (edit_by-renamed (info_at w n) (get w.nodes n))
