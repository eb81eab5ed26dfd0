-- What rows say of a world in which things have other names.
use Rattle.std.proofs.Common.{◌≡◌, ◌∙◌, ℕ, List, [], ◌∷◌, Option, Some, None, map, refl, ap, ap₂}
use Rattle.std.specs.Option.{option_map}
use Rattle.hurd_machine.proofs.Common.{Body, Content, Header, Listing, Name, ServerInfo, World, bare, body_at, entry_of, header_at, holders, open_at, server_at, words_at}
use Rattle.hurd_machine.specs.Renamed.{OtherNames, body_renamed, entry_renamed, header_renamed, info_renamed, renamed}
use Rattle.hurd_machine.proofs.RenamedNodes.{active_at-renamed, body_at-renamed, entry_of-renamed, header_at-renamed, home_at-renamed, words_at-renamed}
use Rattle.hurd_machine.proofs.RenamedServers.{open_at-renamed, server_at-renamed}
use Rattle.hurd_machine.proofs.RenamedTasks.{holders-renamed}
use Rattle.hurd_trans_iface.specs.Nodes.{Entry}
use Rattle.hurd_views.specs.Views.{body_row, entry_before, node_row, rows_in, server_row, text_row}
use Rattle.hurd_views.specs.declared.rows.BodyRow.TheVariants as body
use Rattle.hurd_views.specs.declared.rows.EntryRow.{EntryRow}
use Rattle.hurd_views.specs.declared.rows.OpenRow.{OpenRow}
use Rattle.hurd_looks.specs.Renamed.{attrs_renamed, body_row_renamed, entry_row_renamed, node_row_renamed, open_row_renamed, server_row_renamed}

mapped_twice : {A B C D : Type 0} (f : A → B) (g : B → D) (h : A → C) (k : C → D) → ((x : A) → g (f x) ≡ k (h x)) → (o : Option A) → option_map g (option_map f o) ≡ option_map k (option_map h o)
mapped_twice f g h k same None = refl
mapped_twice f g h k same (Some x) = ap (λ (y : _). Some y) (same x)

module _ (f : OtherNames) where
  -- bodies

  before-renamed : (name : List ℕ) (o : Option Name) (rows : List EntryRow) → entry_before name (option_map f.to o) (map (entry_row_renamed f.to) rows) ≡ map (entry_row_renamed f.to) (entry_before name o rows)
  before-renamed name None rows = refl
  before-renamed name (Some n) rows = refl

  rows_in-renamed : (b : Option Body) (names : List (List ℕ)) → rows_in (option_map (body_renamed f.to) b) names ≡ map (entry_row_renamed f.to) (rows_in b names)
  rows_in-renamed b [] = refl
  rows_in-renamed b (name ∷ names) =
      ap₂ (entry_before name) (entry_of-renamed f name b) (rows_in-renamed b names) ∙ before-renamed name (entry_of name b) (rows_in b names)

  names_kept : (es : List Entry) → map (λ (e : Entry). e.name) (map (entry_renamed f.to) es) ≡ map (λ (e : Entry). e.name) es
  names_kept [] = refl
  names_kept (e ∷ es) = ap (λ (ns : List (List ℕ)). e.name ∷ ns) (names_kept es)

  body_row-renamed : (b : Body) → body_row (body_renamed f.to b) ≡ body_row_renamed f.to (body_row b)
  body_row-renamed (Content bs) = refl
  body_row-renamed (Listing es) = ap (λ (rs : List EntryRow). body.Entries rs)
      (ap (rows_in (Some (Listing (map (entry_renamed f.to) es)))) (names_kept es) ∙ rows_in-renamed (Some (Listing es)) (map (λ (e : Entry). e.name) es))

  module _ (w : World) (n : Name) where
    pub node_row-renamed : node_row (renamed f w) (f.to n) ≡ node_row_renamed f.to (node_row w n)
    node_row-renamed =
        ap₂ (λ (h : Option Header) (ws : List (List ℕ)). record { attrs = option_map bare h; words = ws; home = home_of; active = active_of }) (header_at-renamed f w n) (words_at-renamed f w n)
        ∙ ap₂ (λ (p q : Option Name). record { attrs = option_map bare (option_map (header_renamed f.to) (header_at w n)); words = words_at w n; home = p; active = q }) (home_at-renamed f w n) (active_at-renamed f w n)
        ∙ ap (λ a. record (node_row_renamed f.to (node_row w n)) { attrs = a }) (mapped_twice (header_renamed f.to) bare bare (attrs_renamed f.to) (λ h. refl) (header_at w n))
      where
        home_of : Option Name
        home_of = (node_row (renamed f w) (f.to n)).home

        active_of : Option Name
        active_of = (node_row (renamed f w) (f.to n)).active

    pub bodies-renamed : option_map body_row (body_at (renamed f w) (f.to n)) ≡ option_map (body_row_renamed f.to) (option_map body_row (body_at w n))
    bodies-renamed = ap (option_map body_row) (body_at-renamed f w n) ∙ mapped_twice (body_renamed f.to) body_row body_row (body_row_renamed f.to) body_row-renamed (body_at w n)

    pub open_row-renamed : ◌≡◌ {A = OpenRow} (record { opened = open_at (renamed f w) (f.to n); holders = holders (renamed f w) (f.to n) }) (open_row_renamed f.to (record { opened = open_at w n; holders = holders w n }))
    open_row-renamed = ap₂ (λ o (k : ℕ). record { opened = o; holders = k }) (open_at-renamed f w n) (holders-renamed f w n)

    pub servers-renamed : option_map server_row (server_at (renamed f w) (f.to n)) ≡ option_map (server_row_renamed f.to) (option_map server_row (server_at w n))
    servers-renamed = ap (option_map server_row) (server_at-renamed f w n) ∙ mapped_twice (info_renamed f.to) server_row server_row (server_row_renamed f.to) (λ i. refl) (server_at w n)

    pub texts-renamed : option_map text_row (server_at (renamed f w) (f.to n)) ≡ option_map text_row (server_at w n)
    texts-renamed = ap (option_map text_row) (server_at-renamed f w n) ∙ kept (server_at w n)
      where
        kept : (o : Option ServerInfo) → option_map text_row (option_map (info_renamed f.to) o) ≡ option_map text_row o
        kept None = refl
        kept (Some i) = refl
