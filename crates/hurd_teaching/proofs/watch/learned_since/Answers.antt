use Rattle.std.proofs.Common.{◌∙◌, Some, ap, sym}
use Rattle.std.specs.Option.{option_map}
use Rattle.hurd_teaching.proofs.WatchLaws.{learned_none, learned_some}
use Rattle.hurd_teaching.proofs.watch.learned_since.Goals as goal

pub returns-in-Some : goal.returns-in-Some
returns-in-Some c =
    learned_some c.args.who.now (option_map (λ v. v.value) c.args.before.now) c.deref.result.now c.args.after.now c.lessons.result (ap (option_map (λ v. v.value)) c.in-Some.is ∙ ap Some (sym c.deref.ensures)) c.lessons.ensures

pub returns-in-None : goal.returns-in-None
returns-in-None c =
    learned_none c.args.who.now (option_map (λ v. v.value) c.args.before.now) c.args.after.now _ (ap (option_map (λ v. v.value)) c.in-None.is) (c.new-in-None.ensures ∙ c.new.ensures.items)
