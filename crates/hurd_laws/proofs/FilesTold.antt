-- Replies of the calls on files, and of reading directories, tell no names.
use Rattle.std.proofs.Common.{◌≡◌, ℕ, Bool, List, [], ◌∷◌, Option, Some, None, Ok, map, refl, ap, ◌∙◌, if◌then◌else◌}
use Rattle.std.specs.Option.{option_map}
use Rattle.hurd_creds.specs.Access.{IdSets, may}
use Rattle.hurd_creds.specs.declared.attrs.Want.TheVariants.{Read}
use Rattle.hurd_creds.specs.declared.mode.Mode.{Mode}
use Rattle.hurd_machine.proofs.Common.{Attrs, ENOTDIR, Header, Name, READ, WRITE, World, bare, body_at, header_at, is_dir, names_of, owns, resizing}
use Rattle.hurd_machine.specs.Plan.{given}
use Rattle.hurd_machine.specs.Renamed.{OtherNames, header_renamed, io_renamed, renamed}
use Rattle.hurd_machine.proofs.Asks.{first_same}
use Rattle.hurd_machine.proofs.RenamedAsks.{asked_at-renamed, resizing-renamed, sets_attrs_at-renamed}
use Rattle.hurd_machine.proofs.RenamedHandles.{handle_asks-renamed, handle_renamed, named_renamed, port_asks-renamed}
use Rattle.hurd_machine.proofs.RenamedNodes.{body_at-renamed, header_at-renamed, names_of-renamed}
use Rattle.hurd_machine.proofs.RenamedPlans.{answer_renamed, answered-given, answered-renamed, first-given, first-renamed, first-told, given-renamed, looks-renamed}
use Rattle.hurd_machine.proofs.RenamedTasks.{io_right_of-renamed}
use Rattle.hurd_core.specs.Branches.{branches_at}
use Rattle.hurd_files.specs.Access.{gives, plan_check_access, plan_chmod, plan_chown, setting_asks}
use Rattle.hurd_files.specs.Files.{plan_readdir, plan_set_size, readdir_asks, set_size_asks}
use Rattle.hurd_files.specs.Listing.{all_names, names_by, names_or}
use Rattle.hurd_laws.proofs.CoreRenamed.{branches_at-renamed}

-- the names in a directory, and in those that it shows as one

module _ (f : OtherNames) (w : World) where
  entry_names_at : (n : Name) → names_of (body_at (renamed f w) (f.to n)) ≡ names_of (body_at w n)
  entry_names_at n = ap names_of (body_at-renamed f w n) ∙ names_of-renamed f (body_at w n)

  pub names_by-renamed : (ids : IdSets) (b : Name) (o : Option Header) → names_by (renamed f w) ids (f.to b) (option_map (header_renamed f.to) o) ≡ names_by w ids b o
  names_by-renamed ids b None = refl
  names_by-renamed ids b (Some h) = ap (λ names. if may ids (bare h) Read then names_or names else []) (entry_names_at b)

  pub names_at-renamed : (ids : IdSets) (b : Name) → names_by (renamed f w) ids (f.to b) (header_at (renamed f w) (f.to b)) ≡ names_by w ids b (header_at w b)
  names_at-renamed ids b = ap (names_by (renamed f w) ids (f.to b)) (header_at-renamed f w b) ∙ names_by-renamed ids b (header_at w b)

  pub all_names-renamed : (ids : IdSets) (bs : List Name) (seen : List (List ℕ)) → all_names (renamed f w) ids (map f.to bs) seen ≡ all_names w ids bs seen
  all_names-renamed ids [] seen = refl
  all_names-renamed ids (b ∷ bs) seen = rw (names_at-renamed ids b, all_names) (all_names-renamed ids bs _)

  names_shown : (ids : IdSets) (n : Name) (own : List (List ℕ)) → all_names (renamed f w) ids (branches_at (renamed f w) (f.to n)) own ≡ all_names w ids (branches_at w n) own
  names_shown ids n own = ap (λ bs. all_names (renamed f w) ids bs own) (branches_at-renamed f w n) ∙ all_names-renamed ids (branches_at w n) own

  pub readdir_asks-renamed : (t p : ℕ) → readdir_asks (renamed f w) t p ≡ readdir_asks w t p
  readdir_asks-renamed t p = first-told (handle_renamed f) _ _ _ (handle_asks-renamed f w t p READ) (λ a.
      ap (given ENOTDIR (is_dir a.kind)) (first-told (io_renamed f.to) _ _ _ (io_right_of-renamed f w t p) (λ q.
      first_same _ _ _ _ (entry_names_at a.node) (λ own is. ap (λ names. Ok names) (names_shown q.ids a.node own)))))

  pub set_size_asks-renamed : (t p : ℕ) → set_size_asks (renamed f w) t p ≡ answer_renamed f.to (set_size_asks w t p)
  set_size_asks-renamed t p = first-renamed (handle_renamed f) f.to _ _ _ (handle_asks-renamed f w t p WRITE) (λ a. refl)

  -- a test that doesn't go by a parent holds of other names alike
  pub setting_asks-renamed : (t p : ℕ) (can : IdSets → Attrs → Bool) → ((ids : IdSets) (h : Header) → can ids (bare (header_renamed f.to h)) ≡ can ids (bare h))
      → setting_asks (renamed f w) t p can ≡ answer_renamed (named_renamed f) (setting_asks w t p can)
  setting_asks-renamed t p can alike = first-renamed (named_renamed f) (named_renamed f) _ _ _ (port_asks-renamed f w t p) (λ n.
      first-given (named_renamed f) _ _ (sets_attrs_at-renamed f w n.right.node) (λ u. given-renamed (named_renamed f) _ _ (alike n.right.ids n.header) refl))

module _ (f : OtherNames) (w : World) (t : ℕ) where
  pub readdir_told : (p : ℕ) → (plan_readdir (renamed f w) t p).reply ≡ (plan_readdir w t p).reply
  readdir_told p = answered-given _ _ (readdir_asks-renamed f w t p) (λ names. refl)

  pub set_size_told : (p size : ℕ) → (plan_set_size (renamed f w) t p size).reply ≡ (plan_set_size w t p size).reply
  set_size_told p size = answered-renamed f.to _ _ _ (set_size_asks-renamed f w t p) (λ n.
      answered-given _ _ (asked_at-renamed f w (resizing size) (resizing-renamed f size) n) (λ d. refl))

  pub check_access_told : (p : ℕ) → (plan_check_access (renamed f w) t p).reply ≡ (plan_check_access w t p).reply
  check_access_told p = looks-renamed (named_renamed f) _ _ _ (port_asks-renamed f w t p) (λ n. refl)

  pub chmod_told : (p : ℕ) (mode : Mode) → (plan_chmod (renamed f w) t p mode).reply ≡ (plan_chmod w t p mode).reply
  chmod_told p mode = answered-renamed (named_renamed f) _ _ _ (setting_asks-renamed f w t p owns (λ ids h. refl)) (λ n. refl)

  pub chown_told : (p owner group : ℕ) → (plan_chown (renamed f w) t p owner group).reply ≡ (plan_chown w t p owner group).reply
  chown_told p owner group = answered-renamed (named_renamed f) _ _ _ (setting_asks-renamed f w t p (gives owner group) (λ ids h. refl)) (λ n. refl)
