-- Changes one after another, settling among them: they show the same in worlds that agree.
use Rattle.std.proofs.Common.{Some, ◌≡◌, ℕ, Bool, false, List, [], ◌∷◌, Option, sym, refl, ◌∙◌, ap, ap₂, subst, inl, inr}
use Rattle.hurd_machine.proofs.Faces.{face_in, text_in}
use Rattle.hurd_machine.proofs.Common.{ABody, AUsers, AnEmpty, AnOpen, AnOptions, AttrOf, Below, BodyOf, Change, Coherent, Control, EmptyOf, Io, IsAmong, Linked, Name, Node, OpenOf, OptionsOf, Part, Right, Settle, Start, Task, TaskOf, TextOf, AText, UsersOf, World, apply, apply_all, holders, names_open, part, rights_of, task_at, users, EndsOf, AnEnds, ATotal, TotalOf, total_if, tree_by}
use Rattle.hurd_creds.proofs.NameLaws.{same_name-apart}
use Rattle.hurd_machine.specs.World.{nodes_of}
use Rattle.hurd_machine.specs.Change.{settle}
use Rattle.hurd_machine.proofs.Views.{Agree, Agree-sym, Agree-trans, same_tasks}
use Rattle.hurd_machine.proofs.Nodes.{attr_same, header_in, body_in, empty_in}
use Rattle.hurd_machine.proofs.Tasks.{count_alike}
use Rattle.hurd_machine.proofs.ServerParts.{none_counted, unused}
use Rattle.hurd_machine.proofs.Comes.{none_served}
use Rattle.hurd_machine.proofs.Coherence.{right_old, no_home, no_node, no_open, no_server, Proper, AllProper, no_site}
use Rattle.hurd_machine.proofs.Ends.{ends_gone}
use Rattle.hurd_machine.proofs.Keeping.{coherent_one}
use Rattle.hurd_machine.proofs.Frame.{IsExact, length_one}
use Rattle.hurd_machine.proofs.Settle.{settle_agrees}
use Rattle.hurd_machine.proofs.Confine.{NewTo, NewPart, Inside, Inside-refl, sees_inside}
use Rattle.hurd_machine.proofs.Allowed.{May, inside_one}
use Rattle.hurd_machine.proofs.Mirror.{Mirror, part_same}
use Rattle.hurd_machine.proofs.Totals.{own_total}

-- each change may be made in the world that the ones before it leave; once a world settled, what S saw is of that world
abbrev pub AllMay : (ℕ → Bool) → World → World → List Change → Type 0
AllMay S v x [] = Unit {0}
AllMay S v x (Settle ∷ cs) = AllMay S (settle x) (settle x) cs
AllMay S v x (c ∷ cs) = May S v x c × AllMay S v (apply c x) cs

-- what is new to S in one of two worlds that agree is new in the other, and there in neither

new_there : {S : ℕ → Bool} {v w : World} → Agree S v w → (n : Name) → NewTo S v n → Below w n → ⊥
new_there a n new b = new.1 (λ x e. b x (same_tasks a n.task.0 new.0 ∙ e))

no_holders : (w : World) → Coherent w → (o : Name) → (Below w o → ⊥) → holders w o ≡ 0
no_holders w c o new =
    count_alike (names_open o) (λ r. false) w.tasks unnamed ∙ none_counted w.tasks
  where
    unnamed : (t : ℕ) (x : Task) (r : Right) → task_at w t ≡ Some x → IsAmong r (rights_of x) → names_open o r ≡ false
    unnamed t x (Io r) at h = same_name-apart r.open_name o (λ e. new (subst (Below w) e (right_old c t x r at h).1))
    unnamed t x r at h = refl

no_users : (w : World) → Coherent w → (s : Name) → (Below w s → ⊥) → users w s ≡ 0
no_users w c s new = unused w s (λ n e. none_served w c s new n s e refl)

new_same : {S : ℕ → Bool} {v w : World} → Coherent v → Coherent w → Agree S v w → (p : Part) → NewPart S v p → part w p ≡ part v p
new_same {S} {v} {w} cv cw a (AttrOf n) new =
    let out = new_there a n new in
    attr_same (ap header_in (no_node cw n out ∙ sym (no_node cv n new.1))) (no_site cw n out ∙ sym (no_site cv n new.1))
new_same cv cw a (EmptyOf n) new = ap (λ (o : Option Node). AnEmpty (empty_in o)) (no_node cw n (new_there a n new) ∙ sym (no_node cv n new.1))
new_same cv cw a (BodyOf n) new = ap (λ (o : Option Node). ABody (body_in o)) (no_node cw n (new_there a n new) ∙ sym (no_node cv n new.1))
new_same {S} {v} {w} cv cw a (EndsOf n) new = ap AnEnds (ends_gone w n (no_home cw n (new_there a n new)) ∙ sym (ends_gone v n (no_home cv n new.1)))
new_same {S} {v} {w} cv cw a (OpenOf o) new =
    let out = new_there a o new in
    ap₂ AnOpen (no_open cw o out ∙ sym (no_open cv o new.1)) (no_holders w cw o out ∙ sym (no_holders v cv o new.1))
new_same {S} {v} {w} cv cw a (OptionsOf s) new = ap (λ o. AnOptions (face_in o)) (no_server cw s (new_there a s new) ∙ sym (no_server cv s new.1))
new_same {S} {v} {w} cv cw a (TextOf s) new = ap (λ o. AText (text_in o)) (no_server cw s (new_there a s new) ∙ sym (no_server cv s new.1))
new_same {S} {v} {w} cv cw a (UsersOf s) new = ap AUsers (no_users w cw s (new_there a s new) ∙ sym (no_users v cv s new.1))
new_same {S} {v} {w} cv cw a (TotalOf s) new =
    ap ATotal (ap (λ o. total_if (tree_by o) (own_total w.nodes w.sites s)) (no_server cw s (new_there a s new)) ∙ sym (ap (λ o. total_if (tree_by o) (own_total v.nodes v.sites s)) (no_server cv s new.1)))
new_same cv cw a (TaskOf t) new = absurd new

mirror_start : (S : ℕ → Bool) (v w : World) → Coherent v → Coherent w → Agree S v w → Mirror S v v w
mirror_start S v w cv cw a = record { tasks = a.tasks; parts = λ p known. elim known [ inl sees ↦ a.parts p sees | inr new ↦ new_same cv cw a p new ] }

-- worlds that are alike, and inside what S saw, agree
alike_agree : (S : ℕ → Bool) (v x y : World) → Coherent v → Inside S v x → Mirror S v x y → Agree S x y
alike_agree S v x y cv i m = record { tasks = m.tasks; parts = λ p sees. m.parts p (sees_inside cv i p sees) }

module _ (S : ℕ → Bool) where
  -- what is carried on through the changes
  record Both (v x y : World) : Type 0 where
    start : Coherent v
    one : Coherent x
    two : Coherent y
    inside : Inside S v x
    alike : Mirror S v x y

  both_one : (v x y : World) → Both v x y → (c : Change) → IsExact c → Proper x c → Proper y c → May S v x c → Both v (apply c x) (apply c y)
  both_one v x y b c ex px py m =
      let after : Inside S v (apply c x) = inside_one S v x b.one b.inside c ex px m in
      record {
        start = b.start;
        one = coherent_one c x b.one px;
        two = coherent_one c y b.two py;
        inside = after;
        alike = record {
          tasks = length_one c y ∙ b.alike.tasks ∙ sym (length_one c x);
          parts = part_same S v x y b.inside b.one b.two b.alike c ex px py m after;
        };
      }

  both_settled : (v x y : World) → Both v x y → Linked (nodes_of x) → Linked (nodes_of y) → Both (settle x) (settle x) (settle y)
  both_settled v x y b lx ly =
      let nx : Coherent (settle x) = coherent_one Settle x b.one lx in
      let ny : Coherent (settle y) = coherent_one Settle y b.two ly in
      let a : Agree S x y = alike_agree S v x y b.start b.inside b.alike in
      let s : Agree S (settle x) (settle y) = Agree-trans (Agree-sym (settle_agrees S x b.one lx)) (Agree-trans a (settle_agrees S y b.two ly)) in
      record { start = nx; one = nx; two = ny; inside = Inside-refl S (settle x); alike = mirror_start S (settle x) (settle y) nx ny s }

  both_all : (cs : List Change) (v x y : World) → Both v x y → AllProper x cs → AllProper y cs → AllMay S v x cs → Agree S (apply_all cs x) (apply_all cs y)
  both_all [] v x y b px py m = alike_agree S v x y b.start b.inside b.alike
  both_all (Settle ∷ cs) v x y b px py m =
      let next : Both (settle x) (settle x) (settle y) = both_settled v x y b px.0 py.0 in
      both_all cs (settle x) (settle x) (settle y) next (px.1 next.one) (py.1 next.two) m
  both_all (c ∷ cs) v x y b px py m =
      let next : Both v (apply c x) (apply c y) = both_one v x y b c tt px.0 py.0 m.0 in
      both_all cs v (apply c x) (apply c y) next (px.1 next.one) (py.1 next.two) m.1

  -- the same changes, each of which S may make, in two worlds that agree
  pub agree_after : (v w : World) (cs : List Change) → Coherent v → Coherent w → Agree S v w → AllProper v cs → AllProper w cs → AllMay S v v cs → Agree S (apply_all cs v) (apply_all cs w)
  agree_after v w cs cv cw a pv pw m =
      both_all cs v v w (record { start = cv; one = cv; two = cw; inside = Inside-refl S v; alike = mirror_start S v w cv cw a }) pv pw m
