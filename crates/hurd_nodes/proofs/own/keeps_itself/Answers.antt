use Rattle.std.proofs.Common.{◌≡◌, Bool, ◌||◌, ◌&&◌, ◌∷◌, sym, ap, ◌∙◌}
use Rattle.std.proofs.lemmas.Bool.{or_left, or_right}
use Rattle.std.specs.List.{list_any}
use Rattle.hurd_creds.specs.declared.name.Name.{Name}
use Rattle.hurd_creds.specs.Names.{is_one}
use Rattle.hurd_nodes.specs.Held.{home_in, sites_of}
use Rattle.hurd_nodes.proofs.OwnLaws.{active-placed, held-listed, or_second}
use Rattle.hurd_nodes.proofs.own.keeps_itself.Goals as goal

pub returns-then-is_active_on : goal.returns-then-is_active_on
returns-then-is_active_on g c =
    sym (or_left _ _ (sym (active-placed (sites_of c.args.sites.now.entries) c.args.server c.args.seat.now c.requires) ∙ sym c.is_active_on.ensures ∙ c.if-is_active_on.true))

pub returns-then-is_held : goal.returns-then-is_held
returns-then-is_held g c =
    let named = (g.N.Namings.outside c.args.namings.now).held in
    sym (or_right _ _ (sym (held-listed (sites_of c.args.sites.now.entries) c.args.server c.args.seat.now c.requires named) ∙ or_left _ _ (sym c.is_held.ensures ∙ c.if-is_held.true)))

pub returns : goal.returns
returns g c =
    let e = c.args.seat.now in
    let m = sites_of c.args.sites.now.entries in
    let s = c.args.server in
    let named = (g.N.Namings.outside c.args.namings.now).held in
    let mine = λ (n : Name). is_one s (home_in m n) && named n in
    let idle = sym (active-placed m s e c.requires) ∙ sym c.is_active_on.ensures ∙ c.if-is_active_on.false in
    let listed : c.are_held.result ≡ list_any mine (e.root ∷ e.own.items) =
    c.are_held.ensures ∙ ap (list_any mine) c.deref.ensures.value ∙ sym (ap (λ (b : Bool). b || list_any mine e.own.items) (sym c.is_held.ensures ∙ c.if-is_held.false)) in
    or_second _ _ c.are_held.result idle (listed ∙ held-listed m s e c.requires named)
