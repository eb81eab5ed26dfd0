use Rattle.std.proofs.Common.{◌∙◌, ap, length, ℕ, List}
use Rattle.std.specs.Prelude.{◌++◌}
use Rattle.hurd_can.specs.Could.{count_text, help_text}
use Rattle.hurd_can.proofs.ListLaws.{join}
use Rattle.hurd_can.proofs.saying.lines.Goals as goal

pub returns : goal.returns
returns g c =
    let scene = c.args.scene.now in
    let parts = c.in_ok-push_parts.ensures in
    let first = parts.2 ∙ ap (λ (l : List ℕ). l ++ parts.0) c.new-text.ensures.items in
    let counted = c.in_ok-add_count.ensures ∙ ap (λ (l : List ℕ). l ++ count_text scene.who.now (length c.args.all.now)) first in
    (parts.0, parts.1, c.new.ensures ∙ join parts.0 _ c.add_help.new.text.items (count_text scene.who.now (length c.args.all.now)) (help_text scene.sees.now) counted c.in_ok-add_help.ensures)
