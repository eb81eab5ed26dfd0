use Rattle.std.proofs.Common.{◌++◌, ◌∷◌, ◌∙◌, [], List, ℕ, ap, append-nil, filter, sym}
use Rattle.std.proofs.lemmas.List.Elements.{filter-append}
use Rattle.hurd_shell.specs.Commands.{is_shown}
use Rattle.hurd_shell.proofs.commands.shown_names.Goals as goal

pub loop-name-preserved : goal.loop-name-preserved
loop-name-preserved c =
    sym (append-nil c.add_shown.new.shown)
    ∙ (c.in_ok-add_shown.ensures [] ∙ (ap (λ (names : List (List ℕ)). names ++ filter is_shown (c.in-Some.name ∷ [])) c.loop-name.invariant ∙ sym (filter-append is_shown c.loop-name.yielded (c.in-Some.name ∷ []))))
