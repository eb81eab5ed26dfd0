use Rattle.hurd_places.proofs.AllDiffer.{places_differ}
use Rattle.hurd_places.proofs.PathsDiffer.{node_places_differ, open_places_differ, paths_differ}
use Rattle.hurd_places.proofs.ServersDiffer.{server_paths_differ}
use Rattle.hurd_places.proofs.laws.places_differ.Goals as goal

pub returns : goal.returns
returns c = record { paths = paths_differ; nodes = node_places_differ; opens = open_places_differ; servers = server_paths_differ; all = places_differ }
