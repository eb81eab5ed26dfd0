-- A world whose things keep their names is the same world.
use Rattle.std.proofs.Common.{◌≡◌, ◌∙◌, ◌+◌, ℕ, List, [], ◌∷◌, Option, Some, None, map, refl, sym, ap, ap₂, arith}
use Rattle.std.specs.Option.{option_map}
use Rattle.hurd_creds.specs.NameMaps.{NameMap}
use Rattle.hurd_ports.specs.declared.table.Port.{Port}
use Rattle.hurd_machine.proofs.Common.{Body, Content, Control, Io, Listing, Name, Node, PendingStart, Right, ServerInfo, Site, Start, Task, World, get}
use Rattle.hurd_machine.specs.Renamed.{OtherNames, body_renamed, entry_renamed, info_renamed, map_renamed, node_renamed, open_renamed, port_renamed, renamed, right_renamed, site_renamed, start_renamed, task_renamed, tasks_renamed, way_renamed}
use Rattle.hurd_machine.proofs.RenamedMaps.{is_renamed}

-- all things keep their names, and nobody makes more
abbrev pub same_names : OtherNames
same_names = record { to = λ n. n; apart = λ n m e. e; boot = refl; more = λ t. 0 }

abbrev own : Name → Name
own n = n

module _ {A : Type 0} (g : A → A) (same : (x : A) → g x ≡ x) where
  all_same : (xs : List A) → map g xs ≡ xs
  all_same [] = refl
  all_same (x ∷ xs) = ap₂ ◌∷◌ (same x) (all_same xs)

  option_same : (o : Option A) → option_map g o ≡ o
  option_same None = refl
  option_same (Some x) = ap (λ (y : A). Some y) (same x)

  map_same : (m : NameMap A) → map_renamed own g m ≡ m
  map_same m = is_renamed same_names g m m (λ n. sym (option_same (get m n))) (λ q y is. (q, refl))

body_same : (b : Body) → body_renamed own b ≡ b
body_same (Content bs) = refl
body_same (Listing es) = ap (λ es. Listing es) (all_same (entry_renamed own) (λ e. refl) es)

node_same : (x : Node) → node_renamed own x ≡ x
node_same x = ap₂ (λ (p : Option Name) (b : Body). let h = x.header in let y : Node = record { header = record h { parent = p }; body = b } in y) (option_same own (λ n. refl) x.header.parent) (body_same x.body)

site_same : (r : Site) → site_renamed own r ≡ r
site_same r = ap (λ (a : Option Name). record r { active = a }) (option_same own (λ n. refl) r.active)

info_same : (i : ServerInfo) → info_renamed own i ≡ i
info_same i = ap (λ (ns : List Name). record i { targets = ns }) (all_same own (λ n. refl) i.targets)

right_same : (r : Right) → right_renamed own r ≡ r
right_same (Io r) = ap (λ ps. Io (record r { parents = ps })) (all_same (way_renamed own) (λ p. refl) r.parents)
right_same (Control s) = refl
right_same (Start n) = refl

port_same : (p : Port) → port_renamed own p ≡ p
port_same p = ap (λ (r : Right). record p { right = r }) (right_same p.right)

no_more : (k : ℕ) → k + 0 ≡ k
no_more k = omega arith

task_same : (x : Task) → task_renamed own 0 x ≡ x
task_same x = ap (λ (k : ℕ). record x { ports = map (port_renamed own) x.ports; inbox = map (right_renamed own) x.inbox; made = k; pending = option_map (start_renamed own) x.pending }) (no_more x.made)
    ∙ ap (λ (ps : List Port). record x { ports = ps; inbox = map (right_renamed own) x.inbox; pending = option_map (start_renamed own) x.pending }) (all_same (port_renamed own) port_same x.ports)
    ∙ ap (λ (rs : List Right). record x { inbox = rs; pending = option_map (start_renamed own) x.pending }) (all_same (right_renamed own) right_same x.inbox)
    ∙ ap (λ (s : Option PendingStart). record x { pending = s }) (option_same (start_renamed own) (λ s. refl) x.pending)

tasks_same : (xs : List Task) → tasks_renamed own (λ t. 0) xs ≡ xs
tasks_same [] = refl
tasks_same (x ∷ xs) = ap₂ ◌∷◌ (task_same x) (tasks_same xs)

pub left_alone : (w : World) → renamed same_names w ≡ w
left_alone w =
    rw (map_same (node_renamed own) node_same w.nodes, map_same (site_renamed own) site_same w.sites, map_same (info_renamed own) info_same w.servers, map_same (open_renamed own) (λ o. refl) w.opens, tasks_same w.tasks) refl
