use Rattle.std.proofs.Common.{◌∙◌, sym}
use Rattle.hurd_touches.proofs.AddsLaws.{all_notes}
use Rattle.hurd_touches.proofs.noted.Noted.note.Goals as goal

pub returns-then-is_all : goal.returns-then-is_all
returns-then-is_all g c = all_notes _ _ _ c.args.self.now (sym c.is_all.ensures ∙ c.if-is_all.true)
