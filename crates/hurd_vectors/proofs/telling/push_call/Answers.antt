use Rattle.std.proofs.Common.{◌∙◌, ap}
use Rattle.hurd_lists.specs.Lists.{verb_named}
use Rattle.hurd_vectors.specs.Fields.{fields_of}
use Rattle.hurd_vectors.proofs.FieldLemmas.{call_told}
use Rattle.hurd_vectors.proofs.telling.push_call.Goals as goal

pub returns : goal.returns
returns c =
    let named = c.fields_of-fields.ensures ∙ ap fields_of (c.verb_named.ensures ∙ ap verb_named c.word_at.ensures) in
    call_told c.push_fields.result c.args.text.now.items c.push_field.new.text.items c.push_field-2.new.text.items c.push_fields.new.text.items c.fields_of-fields.result.now c.args.words.now
    c.words_behind-words.result.now c.words_behind.result.now named c.in_ok-push_field.ensures c.words_behind-words.ensures c.in_ok-push_field-2.ensures c.words_behind.ensures c.push_fields.ensures
