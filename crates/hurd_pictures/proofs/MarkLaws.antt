-- What it means that a node is marked.
use Rattle.std.proofs.Common.{◌≡◌, Bool, true, false, refl, if◌then◌else◌, Some, None}
use Rattle.std.specs.Prelude.{◌↔◌, Option}
use Rattle.hurd_views.specs.Views.{row_at}
use Rattle.hurd_views.specs.declared.rows.Row.{Row}
use Rattle.hurd_views.specs.declared.rows.BodyRow.{BodyRow}
use Rattle.hurd_views.specs.declared.rows.NodeRow.{NodeRow}
use Rattle.hurd_pictures.specs.Laws.{DrawnHelpedWhereMore, DrawnUnseenWhereUnseen}
use Rattle.hurd_pictures.specs.Nodes.{mark_in, shows_more}
use Rattle.hurd_pictures.specs.declared.nodes.Mark.TheVariants.{Helped, Unseen}

pub drawn_unseen_where_unseen : DrawnUnseenWhereUnseen
drawn_unseen_where_unseen theirs n = go (row_at theirs.rows n) (row_at theirs.rows n).attributes (row_at theirs.rows n).body refl refl
  where
    go : (r : Row) (a : Option NodeRow) (b : Option (Option BodyRow)) → r.attributes ≡ a → r.body ≡ b → (mark_in r ≡ Unseen) ↔ ((r.attributes ≡ None) × (r.body ≡ None))
    go r None None a b = (λ _. (a, b), λ _. rw (a, b) refl)
    go r (Some x) None a b = (λ e. absurd (let it = rw (a, b) at e in cc), λ p. absurd (let it = p.0 in cc))
    go r a (Some y) _ b = (λ e. absurd (let it = rw b at e in cc), λ p. absurd (let it = p.1 in cc))

-- what a row alone shows is never drawn as what others could show more of
not_helped : (r : Row) → mark_in r ≡ Helped → ⊥
not_helped r = go r.attributes r.body refl refl
  where
    go : (a : Option NodeRow) (b : Option (Option BodyRow)) → r.attributes ≡ a → r.body ≡ b → mark_in r ≡ Helped → ⊥
    go None None a b e = let it = rw (a, b) at e in cc
    go (Some x) None a b e = let it = rw (a, b) at e in cc
    go a (Some y) _ b e = let it = rw b at e in cc

pub drawn_helped_where_more : DrawnHelpedWhereMore
drawn_helped_where_more theirs wide n = go (row_at theirs.rows n) (shows_more (row_at wide.rows n) (row_at theirs.rows n))
  where
    go : (r : Row) (more : Bool) → ((if more then Helped else mark_in r) ≡ Helped) ↔ (more ≡ true)
    go r true = (λ _. refl, λ _. refl)
    go r false = (λ e. absurd (not_helped r e), λ p. absurd (cc))
