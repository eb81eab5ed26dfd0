use Rattle.std.proofs.Common.{ap, refl, sym, ◌∙◌, ◌≡◌}
use Rattle.hurd_creds.specs.Access.{has_no_uids}
use Rattle.hurd_creds.proofs.IdLaws.{no_ids}
use Rattle.hurd_creds.proofs.ids.Ids.is_unknown_to.Goals as goal

pub returns-then-is_empty : goal.returns-then-is_empty
returns-then-is_empty c =
    let none : has_no_uids c.args.self.now ≡ c.is_empty.result =
    ap has_no_uids (sym c.self.view_is) ∙ sym (no_ids c.self.inside.uids.items) ∙ sym c.is_empty.ensures in
    rw (none, c.if-is_empty.true) (c.contains.ensures tt)

pub returns-else-is_empty : goal.returns-else-is_empty
returns-else-is_empty c =
    let none : has_no_uids c.args.self.now ≡ c.is_empty.result =
    ap has_no_uids (sym c.self.view_is) ∙ sym (no_ids c.self.inside.uids.items) ∙ sym c.is_empty.ensures in
    rw (none, c.if-is_empty.false) refl
