use Rattle.std.proofs.Common.{◌≡◌, drop}
use Rattle.hurd_pictures.specs.Labels.{called_by}
use Rattle.hurd_pictures.proofs.names.Titles.push_owner.Given as goal

abbrev pub invariant-loop-owner : goal.invariant-loop-owner
invariant-loop-owner l = record {
  so_far : called_by (drop l.owner-index l.self.owners.items) l.fn.uid ≡ called_by l.self.owners.items l.fn.uid;
  kept : l.text.items ≡ l.fn.text.items;
}
