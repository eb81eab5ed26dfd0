use Rattle.std.proofs.Common.{◌∙◌}
use Rattle.std.specs.Prelude.{codes, option_copied}
use Rattle.hurd_pictures.specs.Pictures.{head, legend, names_of, rows_text}
use Rattle.hurd_pictures.specs.Tasks.{seats_text}
use Rattle.hurd_pictures.proofs.PictureLaws.{whole}
use Rattle.hurd_pictures.proofs.drawing.picture.Goals as goal

pub returns : goal.returns
returns c =
    c.new.ensures ∙ whole _ _ _ _ _ head (legend c.args.who.now (option_copied c.args.theirs) (option_copied c.args.wide)) (rows_text c.args.titles.now c.args.view.now (option_copied c.args.theirs) (option_copied c.args.wide) (names_of c.args.view.now))
    (seats_text c.args.titles.now c.args.view.now c.args.tasks.now c.args.view.now.seats.items) (codes "}\n") c.in_ok-text.ensures.items c.in_ok-push_legend.ensures c.in_ok-push_rows.ensures
    (rw c.as_slice.ensures.value at c.in_ok-push_seats.ensures) c.in_ok-push_text.ensures
