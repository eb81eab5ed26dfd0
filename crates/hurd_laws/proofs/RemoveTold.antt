-- Replies of taking entries out of directories, and of giving files further names, tell no names.
use Rattle.std.proofs.Common.{◌≡◌, ℕ, List, Option, Some, None, is_some, not, refl, ap, ◌∙◌}
use Rattle.std.specs.Option.{option_map}
use Rattle.hurd_machine.proofs.Common.{Body, EDIED, Name, World, active_at, body_at}
use Rattle.hurd_machine.specs.Renamed.{OtherNames, body_renamed, header_renamed, renamed}
use Rattle.hurd_machine.proofs.RenamedAsks.{links_at-renamed}
use Rattle.hurd_machine.proofs.RenamedHandles.{both_asks-renamed, both_renamed, named_renamed, on_header-renamed}
use Rattle.hurd_machine.proofs.RenamedNodes.{active_at-renamed, body_at-renamed, entry_at-renamed, is_empty_dir-renamed, is_some-mapped, kin_at-renamed}
use Rattle.hurd_machine.proofs.RenamedPlans.{answer_renamed, answered-given, answered-renamed, first-given, first-renamed, given-renamed, on-renamed}
use Rattle.hurd_dirs.specs.Link.{link, link_asks, plan_link}
use Rattle.hurd_dirs.specs.Remove.{Entered, found_asks, is_empty_at, plan_rmdir, plan_unlink, rmdir_asks, taking_asks, unlink_asks}
use Rattle.hurd_laws.proofs.KeptTypes.{Third}
use Rattle.hurd_laws.proofs.EntryTold.{dir_asks-renamed, entry_asks-renamed}

-- which file gets a name in which directory
abbrev FileToName : Type 0
FileToName = Third link

module _ (f : OtherNames) where
  -- an entry: its directory and what it names have other names
  abbrev pub entered_renamed : Entered → Entered
  entered_renamed x = record { dir = f.to x.dir; node = f.to x.node; header = header_renamed f.to x.header }

  -- a file that gets a name, and the directory
  abbrev pub to_name_renamed : FileToName → FileToName
  to_name_renamed n = record n { dir = f.to n.dir; file = f.to n.file }

  pub is_empty_at-renamed : (o : Option Body) → is_empty_at (option_map (body_renamed f.to) o) ≡ is_empty_at o
  is_empty_at-renamed None = refl
  is_empty_at-renamed (Some b) = is_empty_dir-renamed f b

  module _ (w : World) (n : Name) where
    -- whether it is a directory without entries
    pub empty_at-renamed : is_empty_at (body_at (renamed f w) (f.to n)) ≡ is_empty_at (body_at w n)
    empty_at-renamed = ap is_empty_at (body_at-renamed f w n) ∙ is_empty_at-renamed (body_at w n)

    -- whether a server is active on it
    pub is_active-renamed : is_some (active_at (renamed f w) (f.to n)) ≡ is_some (active_at w n)
    is_active-renamed = ap is_some (active_at-renamed f w n) ∙ is_some-mapped f.to (active_at w n)

  module _ (w : World) where
    pub found_asks-renamed : (d : Name) (name : List ℕ) → found_asks (renamed f w) (f.to d) name ≡ answer_renamed entered_renamed (found_asks w d name)
    found_asks-renamed d name = on-renamed f.to entered_renamed _ _ _ _ (entry_at-renamed f w d name) (λ n.
        on_header-renamed f w entered_renamed EDIED n _ _ (λ h. given-renamed entered_renamed _ _ (kin_at-renamed f w d n) refl))

    module _ (t p : ℕ) (name : List ℕ) where
      pub taking_asks-renamed : taking_asks (renamed f w) t p name ≡ answer_renamed entered_renamed (taking_asks w t p name)
      taking_asks-renamed = first-renamed (named_renamed f) entered_renamed _ _ _ (entry_asks-renamed f w t p name) (λ a.
          first-renamed entered_renamed entered_renamed _ _ _ (found_asks-renamed a.right.node name) (λ x. given-renamed entered_renamed _ _ refl refl))

      pub unlink_asks-renamed : unlink_asks (renamed f w) t p name ≡ answer_renamed entered_renamed (unlink_asks w t p name)
      unlink_asks-renamed = first-renamed entered_renamed entered_renamed _ _ _ taking_asks-renamed (λ x. given-renamed entered_renamed _ _ refl refl)

      pub rmdir_asks-renamed : rmdir_asks (renamed f w) t p name ≡ answer_renamed entered_renamed (rmdir_asks w t p name)
      rmdir_asks-renamed = first-renamed entered_renamed entered_renamed _ _ _ taking_asks-renamed (λ x.
          given-renamed entered_renamed _ _ refl (
          given-renamed entered_renamed _ _ (ap not (is_active-renamed w x.node)) (
          given-renamed entered_renamed _ _ (empty_at-renamed w x.node) refl)))

      pub link_asks-renamed : (q : ℕ) → link_asks (renamed f w) t p name q ≡ answer_renamed to_name_renamed (link_asks w t p name q)
      link_asks-renamed q = first-renamed (both_renamed f) to_name_renamed _ _ _ (both_asks-renamed f w t p q) (λ a.
          first-given to_name_renamed _ _ refl (λ u. first-given to_name_renamed _ _ (dir_asks-renamed f w a.0) (λ v. refl)))

module _ (f : OtherNames) (w : World) (t p : ℕ) (name : List ℕ) where
  pub unlink_told : (plan_unlink (renamed f w) t p name).reply ≡ (plan_unlink w t p name).reply
  unlink_told = answered-renamed (entered_renamed f) _ _ _ (unlink_asks-renamed f w t p name) (λ x. refl)

  pub rmdir_told : (plan_rmdir (renamed f w) t p name).reply ≡ (plan_rmdir w t p name).reply
  rmdir_told = answered-renamed (entered_renamed f) _ _ _ (rmdir_asks-renamed f w t p name) (λ x. refl)

  pub link_told : (q : ℕ) → (plan_link (renamed f w) t p name q).reply ≡ (plan_link w t p name q).reply
  link_told q = answered-renamed (to_name_renamed f) _ _ _ (link_asks-renamed f w t p name q) (λ n.
      answered-given _ _ (links_at-renamed f w n.dir name n.file) (λ u. refl))
