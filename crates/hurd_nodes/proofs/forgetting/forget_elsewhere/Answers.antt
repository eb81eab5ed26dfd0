use Rattle.hurd_nodes.proofs.forgetting.forget_elsewhere.Goals as goal

pub returns-then-not-are_kin-clause-kept : goal.returns-then-not-are_kin-clause-kept
returns-then-not-are_kin-clause-kept g c = c.forget_at.ensures.kept _
