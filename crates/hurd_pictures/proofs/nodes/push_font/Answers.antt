use Rattle.std.specs.Prelude.{◌++◌, codes}
use Rattle.hurd_pictures.specs.Labels.{short_label}
use Rattle.hurd_pictures.proofs.Pushes.{pushed}
use Rattle.hurd_pictures.proofs.nodes.push_font.Goals as goal

pub returns : goal.returns
returns c =
    pushed c.push_text-2.result c.args.text.now.items c.push_text.new.text.items c.push_text-2.new.text.items (codes "<br/><font face=\"monospace\">") (short_label c.args.bytes.now ++ codes "</font>")
    c.in_ok-push_text.ensures
    (pushed c.push_text-2.result c.push_text.new.text.items c.push_short.new.text.items c.push_text-2.new.text.items (short_label c.args.bytes.now) (codes "</font>") c.in_ok-push_short.ensures c.push_text-2.ensures)
