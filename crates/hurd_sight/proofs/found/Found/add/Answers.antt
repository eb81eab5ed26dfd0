use Rattle.std.proofs.Common.{◌∙◌, ap, sym, refl}
use Rattle.hurd_creds.specs.Names.{same_name}
use Rattle.indexmap.specs.IndexMap.{insert_entry}
use Rattle.hurd_creds.proofs.StepLaws.{on_success}
use Rattle.hurd_sight.proofs.FoundLaws.{Entries, one_more}
use Rattle.hurd_sight.proofs.found.Found.add.Goals as goal

pub unwrap-requires : goal.unwrap-requires
unwrap-requires c = c.insert.ensures.succeeds c.in_ok-reserve.ensures.ok

pub returns-then-has : goal.returns-then-has
returns-then-has c = rw (sym c.has.ensures ∙ c.if-has.true) refl

pub returns : goal.returns
returns c =
    one_more c.args.node c.args.why c.args.self.now c.insert.new.self.entries (sym c.has.ensures ∙ c.if-has.false)
    (on_success c.insert.result (c.insert.ensures.succeeds c.in_ok-reserve.ensures.ok) c.insert.ensures.entries
    ∙ ap (λ (es : Entries). insert_entry same_name es c.args.node c.args.why) (c.in_ok-reserve.ensures.entries ∙ c.self.view_is))
