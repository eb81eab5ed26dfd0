use Rattle.hurd_vectors.proofs.VectorLaws.{each_is_line}
use Rattle.hurd_vectors.proofs.laws.each_vector_is_a_line.Goals as goal

pub returns : goal.returns
returns c = each_is_line
