-- A name after a slash, and at the end nothing is left.
use Rattle.std.proofs.Common.{◌∙◌, ◌++◌, ℕ, List, ap, sym}
use Rattle.hurd_lookup.specs.Path.{behind_slashes, names_in}
use Rattle.hurd_lookup.proofs.RestLaws.{pushed, pushed-all}
use Rattle.hurd_lookup.proofs.rest.push_behind.Goals as goal

pub loop-name-preserved : goal.loop-name-preserved
loop-name-preserved c =
    ap (λ (bs : List ℕ). bs ++ behind_slashes (names_in c.in-Some.after.now)) (c.in_ok-extend_from_slice.ensures.items ∙ ap (λ (bs : List ℕ). bs ++ c.in-Some.name.now) c.in_ok-push.ensures.items)
    ∙ pushed c.loop-name.text.items c.loop-name.rest.now c.in-Some.name.now c.in-Some.after.now c.in-Some.ensures.0
    ∙ c.loop-name.invariant

pub returns : goal.returns
returns c = sym (pushed-all c.loop-name.text.items c.loop-name.rest.now c.in_default.ensures) ∙ c.loop-name.invariant
