use Rattle.std.proofs.Common.{◌∙◌, ap, refl, sym}
use Rattle.std.proofs.lemmas.Result.{IfOk-equal}
use Rattle.hurd_vectors.specs.Fields.{words_behind}
use Rattle.hurd_vectors.specs.declared.field.Field.TheVariants.{Task}
use Rattle.hurd_vectors.specs.declared.field.Sort.{Sort}
use Rattle.hurd_vectors.proofs.FieldLemmas.{field_next, fields_ended}
use Rattle.hurd_vectors.proofs.telling.push_fields.Goals as goal

pub loop-field-preserved : goal.loop-field-preserved
loop-field-preserved c =
    field_next _ _ c.args.fields.now c.loop-field.field-index _ Task c.loop-field.left.now _ c.loop-field-test.true refl c.in_ok-push_field.ensures
    (c.words_behind-left.ensures ∙ ap (λ (s : Sort). words_behind s c.loop-field.left.now) c.sort_of.ensures)
    ∙ c.loop-field.invariant

pub returns : goal.returns
returns c = IfOk-equal c.push_server.result _ _ _ c.push_server.ensures (sym (fields_ended _ c.args.fields.now c.loop-field.field-index _ c.loop-field-test.false) ∙ c.loop-field.invariant)
