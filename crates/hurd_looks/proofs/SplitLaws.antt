-- Things with names in them are the same with other names where their parts are.
use Rattle.std.proofs.Common.{◌≡◌, ◌∙◌, ◌+◌, ℕ, List, map, Option, sym, ap, ap₂, arith}
use Rattle.std.specs.Prelude.{◌↔◌}
use Rattle.std.specs.Option.{option_map}
use Rattle.hurd_creds.specs.declared.attrs.Attrs.{Attrs}
use Rattle.hurd_machine.proofs.Common.{Control, IdSets, Io, IoRight, Name, OpenFlags, Opened, PendingStart, Right, Start, Task}
use Rattle.hurd_ports.specs.declared.parents.Parent.{Parent}
use Rattle.hurd_ports.specs.declared.table.Port.{Port}
use Rattle.hurd_machine.specs.Renamed.{io_renamed, open_renamed, port_renamed, right_renamed, start_renamed, task_renamed, way_renamed}
use Rattle.hurd_views.specs.declared.rows.BodyRow.{BodyRow}
use Rattle.hurd_views.specs.declared.rows.BodyRow.TheVariants as body
use Rattle.hurd_views.specs.declared.rows.EntryRow.{EntryRow}
use Rattle.hurd_views.specs.declared.rows.NodeRow.{NodeRow}
use Rattle.hurd_views.specs.declared.rows.OpenRow.{OpenRow}
use Rattle.hurd_views.specs.declared.rows.Row.{Row}
use Rattle.hurd_views.specs.declared.rows.ServerRow.{ServerRow}
use Rattle.hurd_views.proofs.ViewLaws.{row_from}
use Rattle.hurd_looks.specs.Renamed.{HaveSameBeside, HaveSameNumbers, HaveSameProgram, attrs_renamed, body_row_renamed, entry_row_renamed, node_row_renamed, open_row_renamed, row_renamed, server_row_renamed, with_parent}

module _ (g : Name → Name) where
  pub way_split : (a b : Parent) → ((g a.at ≡ b.at) × (g a.parent ≡ b.parent)) ↔ (way_renamed g a ≡ b)
  way_split a b = (λ h. ap₂ (λ (n m : Name). record { at = n; parent = m }) h.0 h.1, λ e. (ap (λ (w : Parent). w.at) e, ap (λ (w : Parent). w.parent) e))

  abbrev pub IoParts : IoRight → IoRight → Type 0
  IoParts a b = (g a.node ≡ b.node) × ((g a.open_name ≡ b.open_name) × (map (way_renamed g) a.parents ≡ b.parents))

  pub io_split : (a b : IoRight) → a.ids ≡ b.ids → IoParts a b ↔ (io_renamed g a ≡ b)
  io_split a b ids = (
    λ h. ap₂ (λ (n : Name) (i : IdSets). record (io_renamed g a) { node = n; ids = i }) h.0 ids
        ∙ ap₂ (λ (o : Name) (ways : List Parent). record { node = b.node; ids = b.ids; open_name = o; parents = ways }) h.1.0 h.1.1,
    λ e. (ap (λ (r : IoRight). r.node) e, (ap (λ (r : IoRight). r.open_name) e, ap (λ (r : IoRight). r.parents) e)),
  )

  pub port_split : (a b : Port) → a.number ≡ b.number → (right_renamed g a.right ≡ b.right) ↔ (port_renamed g a ≡ b)
  port_split a b number = (λ h. ap₂ (λ (k : ℕ) (r : Right). record { number = k; right = r }) number h, λ e. ap (λ (p : Port). p.right) e)

  pub start_split : (a b : PendingStart) → a.words ≡ b.words → (g a.node ≡ b.node) ↔ (start_renamed g a ≡ b)
  start_split a b words = (λ h. ap₂ (λ (n : Name) (ws : List (List ℕ)). record { node = n; words = ws }) h words, λ e. ap (λ (s : PendingStart). s.node) e)

  abbrev pub TaskParts : Task → Task → Type 0
  TaskParts x y = (map (port_renamed g) x.ports ≡ y.ports) × ((map (right_renamed g) x.inbox ≡ y.inbox) × (option_map (start_renamed g) x.pending ≡ y.pending))

  none_more : (k : ℕ) → k + 0 ≡ k
  none_more k = omega arith

  pub task_split : (x y : Task) → HaveSameNumbers x y → TaskParts x y ↔ (task_renamed g 0 x ≡ y)
  task_split x y same = (
    λ h. ap₂ (λ (i : IdSets) (ps : List Port). record (task_renamed g 0 x) { ids = i; ports = ps }) same.2 h.0
        ∙ ap₂ (λ (n : ℕ) (rs : List Right). record (task_renamed g 0 x) { ids = y.ids; ports = y.ports; next = n; inbox = rs }) same.0 h.1.0
        ∙ ap₂ (λ (m : ℕ) (p : Option PendingStart). record { ids = y.ids; ports = y.ports; next = y.next; inbox = y.inbox; made = m; pending = p }) (none_more x.made ∙ same.1) h.1.1,
    λ e. (ap (λ (z : Task). z.ports) e, (ap (λ (z : Task). z.inbox) e, ap (λ (z : Task). z.pending) e)),
  )

  pub task_numbers : (x y : Task) → task_renamed g 0 x ≡ y → HaveSameNumbers x y
  task_numbers x y e = (ap (λ (z : Task). z.next) e, sym (none_more x.made) ∙ ap (λ (z : Task). z.made) e, ap (λ (z : Task). z.ids) e)

  -- rows

  pub attrs_split : (a b : Attrs) → with_parent b.parent a ≡ b → (option_map g a.parent ≡ b.parent) ↔ (attrs_renamed g a ≡ b)
  attrs_split a b beside = (λ h. ap (λ (p : Option Name). with_parent p a) h ∙ beside, λ e. ap (λ (c : Attrs). c.parent) e)

  pub attrs_beside : (a b : Attrs) → attrs_renamed g a ≡ b → with_parent b.parent a ≡ b
  attrs_beside a b e = ap (λ (p : Option Name). with_parent p a) (sym (ap (λ (c : Attrs). c.parent) e)) ∙ e

  abbrev pub NodeParts : NodeRow → NodeRow → Type 0
  NodeParts a b = (option_map (attrs_renamed g) a.attrs ≡ b.attrs) × ((option_map g a.home ≡ b.home) × (option_map g a.active ≡ b.active))

  pub node_split : (a b : NodeRow) → a.words ≡ b.words → NodeParts a b ↔ (node_row_renamed g a ≡ b)
  node_split a b words = (
    λ h. ap₂ (λ (x : Option Attrs) (ws : List (List ℕ)). record (node_row_renamed g a) { attrs = x; words = ws }) h.0 words
        ∙ ap₂ (λ (p q : Option Name). record { attrs = b.attrs; words = b.words; home = p; active = q }) h.1.0 h.1.1,
    λ e. (ap (λ (r : NodeRow). r.attrs) e, (ap (λ (r : NodeRow). r.home) e, ap (λ (r : NodeRow). r.active) e)),
  )

  pub entry_split : (a b : EntryRow) → a.name ≡ b.name → (g a.node ≡ b.node) ↔ (entry_row_renamed g a ≡ b)
  entry_split a b name = (λ h. ap₂ (λ (s : List ℕ) (n : Name). record { name = s; node = n }) name h, λ e. ap (λ (r : EntryRow). r.node) e)

  pub opened_split : (a b : Opened) → a.cursor ≡ b.cursor → a.modes ≡ b.modes → (g a.node ≡ b.node) ↔ (open_renamed g a ≡ b)
  opened_split a b cursor modes = (
    λ h. ap (λ (n : Name). record a { node = n }) h ∙ ap₂ (λ (k : ℕ) (ms : OpenFlags). record { node = b.node; cursor = k; modes = ms }) cursor modes,
    λ e. ap (λ (o : Opened). o.node) e,
  )

  pub open_split : (a b : OpenRow) → a.holders ≡ b.holders → (option_map (open_renamed g) a.opened ≡ b.opened) ↔ (open_row_renamed g a ≡ b)
  open_split a b holders = (λ h. ap₂ (λ (o : Option Opened) (k : ℕ). record { opened = o; holders = k }) h holders, λ e. ap (λ (r : OpenRow). r.opened) e)

  pub server_split : (a b : ServerRow) → HaveSameProgram a b → ((g a.root ≡ b.root) × (map g a.targets ≡ b.targets)) ↔ (server_row_renamed g a ≡ b)
  server_split a b same = (
    λ h. ap₂ (λ (n : Name) (ns : List Name). record a { root = n; targets = ns }) h.0 h.1
        ∙ ap₂ (λ (i : IdSets) (t : List ℕ). record a { root = b.root; targets = b.targets; ids = i; text = t }) same.0 same.1
        ∙ ap (λ (p : List ℕ). record b { program = p }) same.2,
    λ e. (ap (λ (r : ServerRow). r.root) e, ap (λ (r : ServerRow). r.targets) e),
  )

  pub server_program : (a b : ServerRow) → server_row_renamed g a ≡ b → HaveSameProgram a b
  server_program a b e = (ap (λ (r : ServerRow). r.ids) e, ap (λ (r : ServerRow). r.text) e, ap (λ (r : ServerRow). r.program) e)

  abbrev pub RowParts : Row → Row → Type 0
  RowParts a b =
      (option_map (node_row_renamed g) a.attributes ≡ b.attributes) × ((option_map (option_map (body_row_renamed g)) a.body ≡ b.body)
      × ((option_map (open_row_renamed g) a.opened ≡ b.opened) × (option_map (option_map (server_row_renamed g)) a.server ≡ b.server)))

  pub row_split : (a b : Row) → HaveSameBeside a b → RowParts a b ↔ (row_renamed g a ≡ b)
  row_split a b same = (
    λ h. row_from h.0 same.0 h.1.0 same.2 h.1.1.0 h.1.1.1 same.1 same.3 same.4,
    λ e. (ap (λ (r : Row). r.attributes) e, (ap (λ (r : Row). r.body) e, (ap (λ (r : Row). r.opened) e, ap (λ (r : Row). r.server) e))),
  )

  pub row_beside : (a b : Row) → row_renamed g a ≡ b → HaveSameBeside a b
  row_beside a b e = (ap (λ (r : Row). r.empty) e, ap (λ (r : Row). r.text) e, ap (λ (r : Row). r.ends) e, ap (λ (r : Row). r.users) e, ap (λ (r : Row). r.total) e)

  -- rights of each sort

  pub io_alike : (x y : Right) (a b : IoRight) → x ≡ Io a → y ≡ Io b → (io_renamed g a ≡ b) ↔ (right_renamed g x ≡ y)
  io_alike x y a b is at = (
    λ h. ap (right_renamed g) is ∙ ap (λ (r : IoRight). Io r) h ∙ sym at,
    λ e. let one : Io (io_renamed g a) ≡ Io b = sym (ap (right_renamed g) is) ∙ e ∙ at in cc,
  )

  pub control_alike : (x y : Right) (a b : Name) → x ≡ Control a → y ≡ Control b → (g a ≡ b) ↔ (right_renamed g x ≡ y)
  control_alike x y a b is at = (
    λ h. ap (right_renamed g) is ∙ ap (λ (r : Name). Control r) h ∙ sym at,
    λ e. let one : Control (g a) ≡ Control b = sym (ap (right_renamed g) is) ∙ e ∙ at in cc,
  )

  pub start_alike : (x y : Right) (a b : Name) → x ≡ Start a → y ≡ Start b → (g a ≡ b) ↔ (right_renamed g x ≡ y)
  start_alike x y a b is at = (
    λ h. ap (right_renamed g) is ∙ ap (λ (r : Name). Start r) h ∙ sym at,
    λ e. let one : Start (g a) ≡ Start b = sym (ap (right_renamed g) is) ∙ e ∙ at in cc,
  )

  -- what is in nodes

  pub bytes_alike : (x y : BodyRow) (s t : List ℕ) → x ≡ body.Bytes s → y ≡ body.Bytes t → (s ≡ t) ↔ (body_row_renamed g x ≡ y)
  bytes_alike x y s t is at = (
    λ h. ap (body_row_renamed g) is ∙ ap (λ (bs : List ℕ). body.Bytes bs) h ∙ sym at,
    λ e. let one : body.Bytes s ≡ body.Bytes t = sym (ap (body_row_renamed g) is) ∙ e ∙ at in cc,
  )

  pub entries_alike : (x y : BodyRow) (es fs : List EntryRow) → x ≡ body.Entries es → y ≡ body.Entries fs → (map (entry_row_renamed g) es ≡ fs) ↔ (body_row_renamed g x ≡ y)
  entries_alike x y es fs is at = (
    λ h. ap (body_row_renamed g) is ∙ ap (λ (rs : List EntryRow). body.Entries rs) h ∙ sym at,
    λ e. let one : body.Entries (map (entry_row_renamed g) es) ≡ body.Entries fs = sym (ap (body_row_renamed g) is) ∙ e ∙ at in cc,
  )

  pub bytes_no_entries : (x y : BodyRow) (s : List ℕ) (es : List EntryRow) → x ≡ body.Bytes s → y ≡ body.Entries es → body_row_renamed g x ≡ y → ⊥
  bytes_no_entries x y s es is at e = let bad : body.Bytes s ≡ body.Entries es = sym (ap (body_row_renamed g) is) ∙ e ∙ at in absurd (cc)

  pub entries_no_bytes : (x y : BodyRow) (es : List EntryRow) (s : List ℕ) → x ≡ body.Entries es → y ≡ body.Bytes s → body_row_renamed g x ≡ y → ⊥
  entries_no_bytes x y es s is at e = let bad : body.Entries (map (entry_row_renamed g) es) ≡ body.Bytes s = sym (ap (body_row_renamed g) is) ∙ e ∙ at in absurd (cc)

  -- a thing that becomes no other sort
  pub no_other : {A B C : Type 0} (r : A → B) (x : A) (y : B) (made : C → B) (c : C) → r x ≡ made c → ((d : C) → y ≡ made d → ⊥) → r x ≡ y → ⊥
  no_other r x y made c is other e = other c (sym e ∙ is)
