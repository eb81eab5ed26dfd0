-- A world, and the tasks that are watched in it.
use Rattle.std.specs.Prelude.{Option, refl}
use Rattle.std.specs.Coded.{Coded, code_by, coded×, coded_option}
use Rattle.hurd_kinds.specs.declared.server_box.ServerBox.{ServerBox}
use Rattle.hurd_kinds.specs.contracts.server_box.ServerBox as server_box
use Rattle.hurd_teaching.specs.declared.learners.Learners.{Learners}
use Rattle.hurd_teaching.specs.contracts.learners.Learners as learners
use Rattle.hurd_world.specs.Held.{Whole, coded_whole}

pub record Staged : Type 0 where
  pub world : Whole ServerBox
  pub learners : Option Learners

abbrev pub coded_staged : Coded Staged
coded_staged =
    code_by (Whole ServerBox × Option Learners) (coded× (coded_whole server_box.the_row.coded) (coded_option learners.the_row.coded)) (λ s. (s.world, s.learners))
    (λ p. record { world = p.0; learners = p.1 }) (λ _. refl)
