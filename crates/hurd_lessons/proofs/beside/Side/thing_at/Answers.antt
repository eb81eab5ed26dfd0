use Rattle.std.proofs.Common.{◌∙◌, ap, ℕ, List}
use Rattle.std.specs.Prelude.{bytes_eq}
use Rattle.std.specs.Map.{lookup}
use Rattle.hurd_creds.specs.declared.name.Name.{Name}
use Rattle.hurd_lessons.proofs.Keys.{lookup-keyed}
use Rattle.hurd_lessons.proofs.beside.Side.thing_at.Goals as goal

pub returns : goal.returns
returns c =
    c.copied.ensures ∙ c.get.ensures.value
    ∙ (lookup-keyed c.args.key.now c.args.self.now.things.now.entries ∙ ap (λ (es : List (List ℕ × Name)). lookup (bytes_eq c.args.key.now) es) c.requires.0)
