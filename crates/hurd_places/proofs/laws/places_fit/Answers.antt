use Rattle.hurd_places.proofs.FitLaws.{node_path_fits, place_fits, server_path_fits}
use Rattle.hurd_places.proofs.laws.places_fit.Goals as goal

pub returns : goal.returns
returns c = λ v n r. (place_fits v n r, node_path_fits v n, server_path_fits v n)
