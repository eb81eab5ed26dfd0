-- A file is made by the server of its directory.
use Rattle.std.proofs.Common.{◌≡◌, ℕ, List, Option, Some, None, refl}
use Rattle.std.specs.Prelude.{Ok}
use Rattle.hurd_machine.proofs.Common.{Kind, Name, World, home_at, makes_at}
use Rattle.std.specs.FinMap.{get}
use Rattle.hurd_nodes.specs.Shown.{info_in, made_by}
use Rattle.hurd_lookup.specs.Ends.{maker, maker_by}

-- where one may be made, the directory has a server
pub maker_is : (w : World) (d : Name) (entry : Option (List ℕ)) (kind : Kind) → makes_at w d entry kind ≡ Ok tt → home_at w d ≡ Some (maker w d)
maker_is w d entry kind made = by (home_at w d) made
  where
    by : (o : Option Name) → made_by entry kind (info_in w.servers o) (get w.nodes d) ≡ Ok tt → o ≡ Some (maker_by o)
    by None is = absurd (cc)
    by (Some s) is = refl
