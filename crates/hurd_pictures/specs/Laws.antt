-- What it means that a node is marked, and what may stand in a label.
use Rattle.std.specs.Prelude.{◌≡◌, ◌↔◌, ℕ, ◌==◌, ◌&&◌, Bool, true, not, List, Some, None, nat_le, nat_lt}
use Rattle.std.specs.List.{list_all}
use Rattle.hurd_creds.specs.declared.name.Name.{Name}
use Rattle.hurd_views.specs.Views.{row_at}
use Rattle.hurd_views.specs.declared.view.View.{View}
use Rattle.hurd_pictures.specs.Labels.{shown}
use Rattle.hurd_pictures.specs.Nodes.{mark_of, shows_more}
use Rattle.hurd_pictures.specs.declared.nodes.Mark.TheVariants.{Helped, Unseen}

-- without a wider view a node is drawn as unseen exactly where those who are marked see neither its attributes nor what is in it
abbrev pub DrawnUnseenWhereUnseen : Type 0
DrawnUnseenWhereUnseen =
    (theirs : View) (n : Name) → (mark_of (Some theirs) None n ≡ Unseen) ↔ (((row_at theirs.rows n).attributes ≡ None) × ((row_at theirs.rows n).body ≡ None))

-- with one, it is drawn as what others could show more of exactly where the wider view shows more of it
abbrev pub DrawnHelpedWhereMore : Type 0
DrawnHelpedWhereMore =
    (theirs wide : View) (n : Name) → (mark_of (Some theirs) (Some wide) n ≡ Helped) ↔ (shows_more (row_at wide.rows n) (row_at theirs.rows n) ≡ true)

-- whether a byte is plain in a label: it can be printed, and it is no `<`, no `>` and no `"`
abbrev pub is_plain : ℕ → Bool
is_plain b = (nat_le 32 b && nat_le b 126) && (not (b == 60) && (not (b == 62) && not (b == 34)))

-- whatever bytes are shown in a label, all that is there is plain: neither markup nor a text begins or ends with it
abbrev pub LabelsArePlain : Type 0
LabelsArePlain = (bs : List ℕ) → list_all (λ b. nat_lt b 256) bs ≡ true → list_all is_plain (shown bs) ≡ true
