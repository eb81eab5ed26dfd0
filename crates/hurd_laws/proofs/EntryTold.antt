-- What is asked of directories whose entries change, where things have other names. Making directories and files tells no names.
use Rattle.std.proofs.Common.{◌≡◌, ℕ, Bool, List, Option, Some, None, Ok, not, refl, ap, ap₂, ◌∙◌}
use Rattle.std.specs.Prelude.{is_none}
use Rattle.std.specs.Option.{option_map}
use Rattle.hurd_machine.proofs.Common.{EACCES, ENOENT, ENOTDIR, EROFS, Mode, Named, OpenFlags, World, body_at, entry_of, is_dir}
use Rattle.hurd_machine.specs.Plan.{first, given}
use Rattle.hurd_machine.specs.Renamed.{OtherNames, renamed}
use Rattle.hurd_machine.proofs.RenamedHandles.{named_renamed, port_asks-renamed}
use Rattle.hurd_machine.proofs.RenamedNodes.{entry_at-renamed}
use Rattle.hurd_machine.proofs.RenamedPlans.{answer_renamed, answered-renamed, first-given, first-renamed, given-renamed, on-given}
use Rattle.hurd_machine.proofs.RenamedServers.{is_removed-renamed, tree_at-renamed}
use Rattle.hurd_core.specs.Core.{NewNodeAt}
use Rattle.hurd_dirs.specs.Entry.{change_asks, dir_asks, entry_asks, may_change, tree_asks}
use Rattle.hurd_dirs.specs.File.{mkfile_asks, plan_mkfile}
use Rattle.hurd_dirs.specs.Make.{mkdir_asks, plan_mkdir}
use Rattle.hurd_laws.proofs.CoreRenamed.{making_asks-renamed, making_dir_asks-renamed, maker_renamed}
use Rattle.hurd_laws.proofs.LookupRenamed.{new_node_renamed}

is_none-mapped : {A B : Type 0} (g : A → B) (o : Option A) → is_none (option_map g o) ≡ is_none o
is_none-mapped g None = refl
is_none-mapped g (Some x) = refl

module _ (f : OtherNames) (w : World) where
  pub tree_asks-renamed : (a : Named) → tree_asks (renamed f w) (named_renamed f a) ≡ tree_asks w a
  tree_asks-renamed a = ap (λ (tree : Bool). given ENOTDIR (is_dir a.header.kind) (given EROFS tree (Ok tt))) (tree_at-renamed f w a.right.node)

  pub change_asks-renamed : (a : Named) → change_asks (renamed f w) (named_renamed f a) ≡ change_asks w a
  change_asks-renamed a = ap (λ (gone : Bool). given EACCES (may_change a) (given ENOENT (not gone) (Ok tt))) (is_removed-renamed f w a.right.node a.header)

  pub dir_asks-renamed : (a : Named) → dir_asks (renamed f w) (named_renamed f a) ≡ dir_asks w a
  dir_asks-renamed a = ap₂ (λ tree change. first tree (λ u. change)) (tree_asks-renamed a) (change_asks-renamed a)

  pub entry_asks-renamed : (t p : ℕ) (name : List ℕ) → entry_asks (renamed f w) t p name ≡ answer_renamed (named_renamed f) (entry_asks w t p name)
  entry_asks-renamed t p name = first-renamed (named_renamed f) (named_renamed f) _ _ _ (port_asks-renamed f w t p) (λ a.
      first-given (named_renamed f) _ _ refl (λ u. first-given (named_renamed f) _ _ (dir_asks-renamed a) (λ v. refl)))

  pub mkdir_asks-renamed : (t p : ℕ) (name : List ℕ) (mode : Mode) → mkdir_asks (renamed f w) t p name mode ≡ answer_renamed (new_node_renamed f.to) (mkdir_asks w t p name mode)
  mkdir_asks-renamed t p name mode = first-renamed (named_renamed f) (new_node_renamed f.to) _ _ _ (entry_asks-renamed t p name) (λ a.
      on-given (new_node_renamed f.to) _ _ _ refl (λ owner.
      given-renamed (new_node_renamed f.to) _ _ (ap is_none (entry_at-renamed f w a.right.node name) ∙ is_none-mapped f.to (entry_of name (body_at w a.right.node))) refl))

  -- a file that is to be made, and the port that makes it
  abbrev pub file_renamed : Named × NewNodeAt → Named × NewNodeAt
  file_renamed a = (named_renamed f a.0, new_node_renamed f.to a.1)

  pub mkfile_asks-renamed : (t p : ℕ) (mode : Mode) → mkfile_asks (renamed f w) t p mode ≡ answer_renamed file_renamed (mkfile_asks w t p mode)
  mkfile_asks-renamed t p mode = first-renamed (named_renamed f) file_renamed _ _ _ (port_asks-renamed f w t p) (λ a.
      first-given file_renamed _ _ (dir_asks-renamed a) (λ u. on-given file_renamed _ _ _ refl (λ owner. refl)))

  module _ (t : ℕ) (none : f.more t ≡ 0) where
    pub mkdir_told : (p : ℕ) (name : List ℕ) (mode : Mode) → (plan_mkdir (renamed f w) t p name mode).reply ≡ (plan_mkdir w t p name mode).reply
    mkdir_told p name mode = answered-renamed (new_node_renamed f.to) _ _ _ (mkdir_asks-renamed t p name mode) (λ n.
        answered-renamed (maker_renamed f) _ _ _ (making_dir_asks-renamed f w t none n) (λ m. refl))

    pub mkfile_told : (p : ℕ) (flags : OpenFlags) (mode : Mode) → (plan_mkfile (renamed f w) t p flags mode).reply ≡ (plan_mkfile w t p flags mode).reply
    mkfile_told p flags mode = answered-renamed file_renamed _ _ _ (mkfile_asks-renamed t p mode) (λ a.
        answered-renamed (maker_renamed f) _ _ _ (making_asks-renamed f w t none a.1) (λ m. refl))
