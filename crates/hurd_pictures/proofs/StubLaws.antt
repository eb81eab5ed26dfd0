-- A node that is not seen, by its pieces.
use Rattle.std.proofs.Common.{◌≡◌, ◌++◌, ℕ, List}
use Rattle.std.specs.Prelude.{Result, OnOk, codes}
use Rattle.hurd_creds.specs.declared.name.Name.{Name}
use Rattle.hurd_views.specs.declared.view.View.{View}
use Rattle.hurd_pictures.specs.Found.{plain_title}
use Rattle.hurd_pictures.specs.Labels.{node_name}
use Rattle.hurd_pictures.specs.Nodes.{stub_text}
use Rattle.hurd_pictures.proofs.BoxLaws.{five}

pub stubbed : {E : Type 0} (r : Result (Unit {0}) E) (t0 t1 t2 t3 t4 t5 : List ℕ) (v : View) (n : Name) → t1 ≡ t0 ++ codes "  " → t2 ≡ t1 ++ node_name n
    → t3 ≡ t2 ++ codes " [shape=box, style=\"filled,dashed\", label=<<b>" → t4 ≡ t3 ++ plain_title v n → OnOk r (t5 ≡ t4 ++ codes "</b><br/>not seen>];\n") → OnOk r (t5 ≡ t0 ++ stub_text v n)
unfolding stub_text
stubbed r t0 t1 t2 t3 t4 t5 v n p q x u w =
    five r t0 t1 t2 t3 t4 t5 (codes "  ") (node_name n) (codes " [shape=box, style=\"filled,dashed\", label=<<b>") (plain_title v n) (codes "</b><br/>not seen>];\n") p q x u w
