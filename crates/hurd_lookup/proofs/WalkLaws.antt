-- What a walk is to know on the way, and that a set of tasks sees it.
use Rattle.std.proofs.Common.{◌≡◌, ℕ, Bool, true, false, if◌then◌else◌, List, Option, Some, None, refl, sym, ◌∙◌, ap, ap₂, subst, true≢false, inl, inr}
use Rattle.std.specs.Prelude.{◌⊎◌, is_some, option_and_then}
use Rattle.std.proofs.lemmas.Option.{option_and_then_some}
use Rattle.hurd_machine.proofs.Common.{Active, Allowed, BodyOf, Child, Could, Dir, Exec, File, Header, IdSets, IsAmong, Kind, Name, Node, OfSeat, Seen, Sees, ServerInfo, Taken, ToSearch, Want, World, active_at, bare, body_at, boot_root, entry_of, header_at, home_at, info_at, is_dir, is_server_root, makes_at, may, nat_cmp, node_at, passive_of, server_at, some_words, targets_at, ways_of}
use Rattle.std.specs.Option.{option_map}
use Rattle.std.specs.FinSet.{contains-empty}
use Rattle.hurd_trans_iface.specs.Answers.{leads_away}
use Rattle.hurd_trans_iface.specs.Meaning.{root_of}
use Rattle.hurd_nodes.proofs.PartLaws.{mapped-some}
use Rattle.hurd_ports.specs.declared.parents.Parent.{Parent as Pair}
use Rattle.hurd_machine.specs.Sight.{Root, Parent}
use Rattle.hurd_machine.proofs.Views.{Agree, header_same, home_same, active_same, body_same, face_known}
use Rattle.hurd_machine.proofs.Faces.{face_in, face_reads}
use Rattle.hurd_machine.proofs.Asks.{info_seen, is_root_same, makes_same}
use Rattle.hurd_machine.proofs.Listed.{dir_kind}
use Rattle.hurd_core.proofs.AimedLaws.{aimed_seen}
use Rattle.hurd_lookup.specs.Lookup as lookup
use Rattle.hurd_lookup.specs.Lookup.{NewPort, no_ids, root_on, crossed_at}

-- a walk can be at the nodes of ways
abbrev pub WaysOn : (Name → Type 0) → List Pair → Type 0
WaysOn At ways = (m : Name) → IsAmong m (ways_of ways) → At m

-- no ids, or such
abbrev pub NoneOr : (IdSets → Type 0) → IdSets → Type 0
NoneOr T ids = (ids ≡ no_ids) ⊎ T ids

-- it can be where a port is to be made, whose ids are such if it has any, and at the nodes of its ways
pub record PortOn (At : Name → Type 0) (T : IdSets → Type 0) (e : NewPort) : Type 0 where
  pub node : At e.node
  pub ids : NoneOr T e.ids
  pub ways : WaysOn At e.parents

-- what is known of a directory that is searched
pub record Searched (v w : World) (At : Name → Type 0) (E : Type 0) (d : Name) : Type 0 where
  pub entries : E
  pub same : body_at w d ≡ body_at v d
  pub down : (name : List ℕ) (n : Name) → entry_of name (body_at v d) ≡ Some n → At n

-- where a walk goes, in two worlds: at which nodes it can be, near which nodes what it asks is the same, of which directories it knows the entries, and with which ids
pub record Ground (v w : World) (At Near Entries : Name → Type 0) (T : IdSets → Type 0) : Type 0 where
  pub top : At boot_root
  pub near : (n : Name) → At n → Near n
  pub header : (n : Name) → Near n → header_at w n ≡ header_at v n
  pub face : (n : Name) → Near n → face_in (info_at w n) ≡ face_in (info_at v n)
  pub home : (n : Name) → Near n → home_at w n ≡ home_at v n
  pub is_root : (n : Name) → Near n → is_server_root w n ≡ is_server_root v n
  pub crossed : (n : Name) → Near n → crossed_at w n ≡ crossed_at v n
  -- from near a node it comes to its parent, to what its server aims at, across a root, and into a server that leads nobody away
  pub up : (d p : Name) (h : Header) → Near d → header_at v d ≡ Some h → h.parent ≡ Some p → At p
  pub aims : (m n : Name) → Near m → IsAmong n (targets_at v m) → At n
  pub over_to : (n root : Name) → Near n → root_on v n ≡ Some root → Near root
  pub inside : (root : Name) (i : ServerInfo) → Near root → info_at v root ≡ Some i → leads_away (root_of i.kind i.text).crossing ≡ false → At root
  -- and on to the entries of a directory that the ids may search; what may be made there is the same
  pub searches : (ids : IdSets) → T ids → (d : Name) (h : Header) → Near d → header_at v d ≡ Some h → is_dir h.kind ≡ true → may ids (bare h) Exec ≡ true → Searched v w At (Entries d) d
  pub beside : (d : Name) → Entries d → Near d
  pub makes : (d : Name) (name : List ℕ) → Entries d → makes_at w d (Some name) File ≡ makes_at v d (Some name) File

-- what S sees of a port, by ids that S has
abbrev pub PortSeen : (ℕ → Bool) → World → NewPort → Type 0
PortSeen S v e = PortOn (Seen S v) (Taken S v) e

-- whatever these ids may, S could do
abbrev pub Powers : (ℕ → Bool) → World → IdSets → Type 0
Powers S v ids = (h : Header) (want : Want) → may ids (bare h) want ≡ true → Could S v h want

-- the root of a server, if there is one
abbrev root_in : World → Option Name → Option Name
root_in w o = option_and_then (λ s. option_map (λ (i : ServerInfo). i.root) (server_at w s)) o

-- what S sees

pub dir_is : (k : Kind) → is_dir k ≡ true → k ≡ Dir
dir_is = dir_kind

module _ (S : ℕ → Bool) (v : World) where
  -- the root of the server that is active on a seen node is seen
  root_seen : (n root : Name) → Seen S v n → root_on v n ≡ Some root → Seen S v root
  root_seen n root seen is =
      option_and_then_some (λ s. option_map (λ (i : ServerInfo). i.root) (server_at v s)) (active_at v n) root is (λ s e k.
      let m = mapped-some (λ (i : ServerInfo). i.root) (server_at v s) root k in
      Active n s m.0 seen e m.1 (sym m.2))

  -- S has each of no ids
  pub no_ids_taken : Taken S v no_ids
  no_ids_taken = record { uids = λ u has. absurd (true≢false (sym has ∙ contains-empty nat_cmp u)); gids = λ g has. absurd (true≢false (sym has ∙ contains-empty nat_cmp g)) }

  -- and each of those of a port that it sees
  pub port_taken : (e : NewPort) → PortSeen S v e → Taken S v e.ids
  port_taken e seen = elim seen.ids [ inl none ↦ subst (Taken S v) (sym none) no_ids_taken | inr taken ↦ taken ]

module _ {S : ℕ → Bool} {v w : World} (a : Agree S v w) where
  -- the root of the server that is active on a seen node
  root_on_same : (n : Name) → Seen S v n → root_on w n ≡ root_on v n
  root_on_same n seen = go (active_at v n) refl (active_same a n seen)
    where
      go : (o : Option Name) → active_at v n ≡ o → active_at w n ≡ active_at v n → root_on w n ≡ root_on v n
      go None e h = ap (root_in w) (h ∙ e) ∙ ap (root_in v) (sym e)
      go (Some s) e h = ap (root_in w) (h ∙ e) ∙ face_reads (option_map (λ (i : ServerInfo). i.root)) (λ i. refl) (server_at v s) (server_at w s) (face_known a s (OfSeat n seen e)) ∙ ap (root_in v) (sym e)

  -- the words of a node are its header's
  words_by : (o : Option Node) → passive_of o ≡ option_and_then (λ (h : Header). some_words h.passive) (option_map (λ (x : Node). x.header) o)
  words_by None = refl
  words_by (Some x) = refl

  -- what there is to cross at a seen node
  crossed_same : (n : Name) → Seen S v n → crossed_at w n ≡ crossed_at v n
  crossed_same n seen =
      let words : passive_of (node_at w n) ≡ passive_of (node_at v n) =
      words_by (node_at w n) ∙ ap (option_and_then (λ (h : Header). some_words h.passive)) (header_same a n seen) ∙ sym (words_by (node_at v n)) in
      ap (λ (o : Option Name). if is_some o then option_map lookup.Active (root_on w n) else option_map lookup.Waiting (passive_of (node_at w n))) (active_same a n seen)
      ∙ ap₂ (λ (o : Option Name) (p : Option (List (List ℕ))). if is_some (active_at v n) then option_map lookup.Active o else option_map lookup.Waiting p) (root_on_same n seen) words

  -- the ground of what S sees, by ids by which it could do what they may
  pub seen_ground : (T : IdSets → Type 0) → ((ids : IdSets) → T ids → Powers S v ids) → Ground v w (Seen S v) (Seen S v) (λ d. Sees S v (BodyOf d)) T
  seen_ground T powers = record {
    top = Root refl;
    near = λ n seen. seen;
    header = header_same a;
    face = info_seen a;
    home = home_same a;
    is_root = is_root_same a;
    crossed = crossed_same;
    up = λ d p h seen is e. Parent d h seen is e;
    aims = aimed_seen S v;
    over_to = root_seen S v;
    inside = λ root i seen is stays. seen;
    searches = λ ids taken d h seen is dir m.
        let could : Could S v h Exec = powers ids taken h Exec m in
        let body : Sees S v (BodyOf d) = (seen, h, is, ToSearch (dir_is h.kind dir) could) in
        record { entries = body; same = body_same a d body; down = λ name n e. Child d h name seen is (dir_is h.kind dir) could e };
    beside = λ d body. body.0;
    makes = λ d name body. makes_same a d (Some name) File body;
  }

pub taken_powers : (S : ℕ → Bool) (v : World) (ids : IdSets) → Taken S v ids → Powers S v ids
taken_powers S v ids taken h want m = Allowed ids taken m
