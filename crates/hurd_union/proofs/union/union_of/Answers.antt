use Rattle.std.proofs.Common.{ap, sym, ◌∙◌, subst, List, ℕ, codes, ◌∷◌}
use Rattle.hurd_trans_iface.specs.Meaning.{new_server}
use Rattle.hurd_trans_iface.specs.declared.begun.ServerKind.TheVariants.{Union as UnionKind}
use Rattle.hurd_trans_iface.specs.Kinds.Union.{words_of}
use Rattle.hurd_trans_iface.specs.Words.{IsWithinLimits}
use Rattle.hurd_trans_iface.proofs.Options.{words_back}
use Rattle.hurd_union.proofs.union.union_of.Goals as goal

pub invariant_of-unnamed : goal.invariant_of-unnamed
invariant_of-unnamed c = record {
  same = c.in_ok-copies.ensures.is ∙ sym (words_back c.args.paths.now) ∙ ap words_of (sym c.in_ok-text.ensures);
  short = subst (λ (ps : List (List ℕ)). IsWithinLimits (codes "/hurd/union" ∷ ps)) (words_back c.args.paths.now ∙ sym c.in_ok-copies.ensures.is) c.requires;
}

pub returns : goal.returns
returns c = c.unnamed.ensures (λ _. UnionKind) (λ b. b.text) ∙ ap (new_server UnionKind) c.in_ok-text.ensures
