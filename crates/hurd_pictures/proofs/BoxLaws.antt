-- The label of a server's box, by its pieces.
use Rattle.std.proofs.Common.{◌≡◌, ◌++◌, ℕ, List}
use Rattle.std.specs.Prelude.{Option, Result, OnOk, codes}
use Rattle.hurd_creds.specs.Access.{least_uid}
use Rattle.hurd_views.specs.declared.rows.ServerRow.{ServerRow}
use Rattle.hurd_views.specs.declared.rows.TextRow.{TextRow}
use Rattle.hurd_pictures.specs.Labels.{runner_text}
use Rattle.hurd_pictures.specs.Servers.{box_label, called_text}
use Rattle.hurd_pictures.specs.declared.names.Titles.{Titles}
use Rattle.hurd_pictures.proofs.Pushes.{pushed}

pub five : {E : Type 0} (r : Result (Unit {0}) E) (t0 t1 t2 t3 t4 t5 a b c d e : List ℕ) → t1 ≡ t0 ++ a → t2 ≡ t1 ++ b → t3 ≡ t2 ++ c → t4 ≡ t3 ++ d → OnOk r (t5 ≡ t4 ++ e)
    → OnOk r (t5 ≡ t0 ++ (a ++ (b ++ (c ++ (d ++ e)))))
five r t0 t1 t2 t3 t4 t5 a b c d e p q s u v =
    pushed r t0 t1 t5 a (b ++ (c ++ (d ++ e))) p (pushed r t1 t2 t5 b (c ++ (d ++ e)) q (pushed r t2 t3 t5 c (d ++ e) s (pushed r t3 t4 t5 d e u v)))

pub box_labelled : {E : Type 0} (r : Result (Unit {0}) E) (t0 t1 t2 t3 t4 t5 : List ℕ) (t : Titles) (s : ServerRow) (w : Option (Option TextRow)) → t1 ≡ t0 ++ codes "label=<<b>"
    → t2 ≡ t1 ++ called_text s w → t3 ≡ t2 ++ codes "</b><br/>runs as " → t4 ≡ t3 ++ runner_text t (least_uid s.ids) → OnOk r (t5 ≡ t4 ++ codes ">;") → OnOk r (t5 ≡ t0 ++ box_label t s w)
unfolding box_label
box_labelled r t0 t1 t2 t3 t4 t5 t s w p q x u v =
    five r t0 t1 t2 t3 t4 t5 (codes "label=<<b>") (called_text s w) (codes "</b><br/>runs as ") (runner_text t (least_uid s.ids)) (codes ">;") p q x u v
