-- Views in which things have other names.
use Rattle.std.specs.Prelude.{◌≡◌, ℕ, Bool, true, List, map, Option}
use Rattle.std.specs.Option.{option_map}
use Rattle.hurd_creds.specs.declared.name.Name.{Name}
use Rattle.hurd_creds.specs.declared.attrs.Attrs.{Attrs}
use Rattle.hurd_machine.specs.Renamed.{OtherNames, open_renamed, task_renamed}
use Rattle.hurd_ports.specs.Tables.{Task}
use Rattle.hurd_laws.specs.Untold.{RaisesCounts}
use Rattle.hurd_laws.specs.After.{KeepsOwn}
use Rattle.hurd_views.specs.Views.{row_at}
use Rattle.hurd_views.specs.declared.rows.BodyRow.{BodyRow}
use Rattle.hurd_views.specs.declared.rows.BodyRow.TheVariants as body
use Rattle.hurd_views.specs.declared.rows.EntryRow.{EntryRow}
use Rattle.hurd_views.specs.declared.rows.NodeRow.{NodeRow}
use Rattle.hurd_views.specs.declared.rows.OpenRow.{OpenRow}
use Rattle.hurd_views.specs.declared.rows.Row.{Row}
use Rattle.hurd_views.specs.declared.rows.ServerRow.{ServerRow}
use Rattle.hurd_views.specs.declared.view.View.{View}

module _ (f : Name → Name) where
  -- attributes name a parent
  abbrev pub attrs_renamed : Attrs → Attrs
  attrs_renamed a = record a { parent = option_map f a.parent }

  -- a node names its parent, its server, and the one that is active on it
  abbrev pub node_row_renamed : NodeRow → NodeRow
  node_row_renamed r = record r { attrs = option_map attrs_renamed r.attrs; home = option_map f r.home; active = option_map f r.active }

  -- an entry names a node
  abbrev pub entry_row_renamed : EntryRow → EntryRow
  entry_row_renamed e = record e { node = f e.node }

  -- bytes name nothing
  abbrev pub body_row_renamed : BodyRow → BodyRow
  body_row_renamed (body.Bytes bs) = body.Bytes bs
  body_row_renamed (body.Entries es) = body.Entries (map entry_row_renamed es)

  -- an open names its node
  abbrev pub open_row_renamed : OpenRow → OpenRow
  open_row_renamed r = record r { opened = option_map (open_renamed f) r.opened }

  -- a server names its root and its targets
  abbrev pub server_row_renamed : ServerRow → ServerRow
  server_row_renamed r = record r { root = f r.root; targets = map f r.targets }

  -- all that is seen under a name
  abbrev pub row_renamed : Row → Row
  row_renamed r = record r {
    attributes = option_map node_row_renamed r.attributes;
    body = option_map (option_map body_row_renamed) r.body;
    opened = option_map open_row_renamed r.opened;
    server = option_map (option_map server_row_renamed) r.server;
  }

  -- a name, with what is seen under it
  abbrev pub named_row_renamed : Name × Row → Name × Row
  named_row_renamed e = (f e.0, row_renamed e.1)

-- attributes with another parent
abbrev pub with_parent : Option Name → Attrs → Attrs
with_parent p a = record a { parent = p }

-- tasks that are the same beside what their rights name
abbrev pub HaveSameNumbers : Task → Task → Type 0
HaveSameNumbers x y = (x.next ≡ y.next) × (x.made ≡ y.made) × (x.ids ≡ y.ids)

-- servers that are the same beside the nodes that they name
abbrev pub HaveSameProgram : ServerRow → ServerRow → Type 0
HaveSameProgram a b = (a.ids ≡ b.ids) × (a.text ≡ b.text) × (a.program ≡ b.program)

-- rows of which all is the same that has no names in it
abbrev pub HaveSameBeside : Row → Row → Type 0
HaveSameBeside a b = (a.empty ≡ b.empty) × (a.text ≡ b.text) × (a.ends ≡ b.ends) × (a.users ≡ b.users) × (a.total ≡ b.total)

-- what is seen, name by name in the order in which these were found
abbrev pub listed : List (Name × Row) → List (Name × Row)
listed rows = map (λ (e : Name × Row). (e.0, row_at rows e.0)) rows

-- by these names the first view is the second: row by row, and by the tasks themselves, which have made no more
pub record IsRenamed (f : OtherNames) (a b : View) : Type 0 where
  pub rows : map (named_row_renamed f.to) (listed a.rows) ≡ listed b.rows
  pub seats : map (option_map (task_renamed f.to 0)) a.seats.items ≡ b.seats.items
  pub count : a.count ≡ b.count

-- names stay with who made the things, counts rise no more than those have made more, and of these tasks each keeps its own
pub record IsAside (S : ℕ → Bool) (f : OtherNames) : Type 0 where
  pub raises : RaisesCounts f
  pub ours : (t : ℕ) → S t ≡ true → KeepsOwn f t

-- two views are the same except for names of what others made
abbrev pub AreAlike : (ℕ → Bool) → View → View → Type 0
AreAlike S a b = (f : OtherNames) × IsAside S f × IsRenamed f a b
