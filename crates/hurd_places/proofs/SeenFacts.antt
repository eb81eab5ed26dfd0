-- What a view of a world says of nodes that were found.
use Rattle.std.proofs.Common.{◌≡◌, ◌⊎◌, inl, inr, ◌∙◌, refl, sym, ap, subst, ℕ, Bool, true, false, true≢false, List, [], ◌∷◌, map, take, Option, Some, None, cond, if◌then◌else◌}
use Rattle.std.specs.Option.{option_map}
use Rattle.std.specs.Str.{bytes_eq}
use Rattle.hurd_creds.specs.declared.name.Name.{Name}
use Rattle.hurd_creds.specs.declared.name.TaskId.{TaskId}
use Rattle.hurd_creds.specs.Names.{same_name}
use Rattle.hurd_creds.proofs.NameLaws.{equal_if_same, same_name-itself}
use Rattle.hurd_trans_iface.specs.Nodes.{Body, Content, Entry, Listing}
use Rattle.hurd_trans_iface.specs.Answers.{entry_in, entry_of}
use Rattle.hurd_machine.specs.World.{World, IsAmong, active_at, body_at, nodes_of}
use Rattle.hurd_machine.specs.Sight.{ToSearch}
use Rattle.hurd_machine.proofs.Removals.{same_exact}
use Rattle.hurd_sight.specs.Found.{IsWhy, found_from, is_found, why_of}
use Rattle.hurd_sight.specs.Looks.{sees_with}
use Rattle.hurd_sight.specs.Reach.{among}
use Rattle.hurd_sight.specs.declared.found.Why.{Why}
use Rattle.hurd_sight.specs.declared.found.Why.TheVariants as why
use Rattle.hurd_sight.specs.declared.parts.SeenPart.TheVariants as seen
use Rattle.hurd_sight.proofs.PartLaws.{parts_are_seen}
use Rattle.hurd_views.specs.Views.{Views, body_row, entry_before, node_row, row_at, row_of, rows_in, told_if}
use Rattle.hurd_views.specs.declared.view.View.{View}
use Rattle.hurd_views.proofs.RowLaws.{row_told}
use Rattle.hurd_places.specs.Places.{bound_by, bound_to, entry_name, name_in}
use Rattle.hurd_places.specs.declared.servers.Bond.TheVariants as bond
use Rattle.hurd_places.proofs.FoundWays.{at_all, before, taken_found, why_found}

pub some_once : {A : Type 0} (a b : A) → Some a ≡ Some b → a ≡ b
some_once a b is = cc

-- why a node was found is a reason that holds, and the node from which it was found is found too

pub record Reason (S : ℕ → Bool) (w : World) (v : View) (n : Name) (y : Why) : Type 0 where
  pub holds : IsWhy S w n y
  pub from : (d : Name) → found_from y ≡ Some d → is_found d v.sight.found ≡ true

pub reason : (tasks : List TaskId) (w : World) (v : View) (n : Name) (y : Why) → Views tasks w v → why_of n v.sight.found ≡ Some y → Reason (among tasks) w v n y
reason tasks w v n y views is =
    let a = at_all n v.sight.found (why_found n y v.sight.found is) in
    let same : a.0.why ≡ y = some_once a.0.why y (sym a.0.is_why ∙ is) in
    let both = views.looks.found.why a.0.place n a.0.why a.0.there in
    subst (λ (z : Why). Reason (among tasks) w v n z) same
    (record { holds = both.0; from = λ d from. taken_found d a.0.place v.sight.found (before (found_from a.0.why) (take a.0.place v.sight.found) d both.1 from) })

-- the row of a name is what is seen of it

pub row_is : (tasks : List TaskId) (w : World) (v : View) (n : Name) → Views tasks w v → row_at v.rows n ≡ row_of w v.sight n
row_is tasks w v n views = ap (λ (rows : _). row_at rows n) views.rows ∙ row_told views.looks n

-- of a found node the servers are seen to which it is bound

pub active_seen : (tasks : List TaskId) (w : World) (v : View) (n : Name) → Views tasks w v → is_found n v.sight.found ≡ true → bound_to v bond.Active n ≡ active_at w n
active_seen tasks w v n views is = ap (λ (r : _). bound_by bond.Active r.attributes) (row_is tasks w v n views) ∙ ap (λ (t : Bool). bound_by bond.Active (told_if t (node_row w n))) is

-- entries that are told, each by its name

names_entry : (name : List ℕ) (n : Name) (es : List Entry) → entry_in name es ≡ Some n → IsAmong name (map (λ (e : Entry). e.name) es)
names_entry name n [] is = absurd (cc)
names_entry name n (e ∷ es) is = go (names_entry name n es) (bytes_eq e.name name) refl is
  where
    go : (entry_in name es ≡ Some n → IsAmong name (map (λ (x : Entry). x.name) es)) → (b : Bool) → bytes_eq e.name name ≡ b → cond b (Some e.node) (entry_in name es) ≡ Some n
        → IsAmong name (map (λ (x : Entry). x.name) (e ∷ es))
    go further true same found = inl (same_exact e.name name same)
    go further false other found = inr (further found)

rows_named : (b : Option Body) (n : Name) (name : List ℕ) (names : List (List ℕ)) → IsAmong name names → entry_of name b ≡ Some n → entry_of (entry_name (rows_in b names) n) b ≡ Some n
rows_named b n name [] there is = absurd there
rows_named b n name (x ∷ names) there is = go (rows_named b n name names) (entry_of x b) refl there
  where
    named : (m : Name) → entry_of x b ≡ Some m → (t : Bool) → same_name m n ≡ t → (t ≡ false → entry_of (entry_name (rows_in b names) n) b ≡ Some n)
        → entry_of (if t then x else entry_name (rows_in b names) n) b ≡ Some n
    named m x_is true same further = x_is ∙ ap (λ (q : Name). Some q) (equal_if_same m n same)
    named m x_is false other further = further refl

    go : (IsAmong name names → entry_of name b ≡ Some n → entry_of (entry_name (rows_in b names) n) b ≡ Some n) → (o : Option Name) → entry_of x b ≡ o → (x ≡ name) ⊎ IsAmong name names
        → entry_of (entry_name (entry_before x o (rows_in b names)) n) b ≡ Some n
    go further None x_is (inl same) = let both = sym x_is ∙ (ap (λ (q : List ℕ). entry_of q b) same ∙ is) in absurd (cc)
    go further None x_is (inr later) = further later is
    go further (Some m) x_is (inr later) = named m x_is (same_name m n) refl (λ other. further later is)
    go further (Some m) x_is (inl same) =
        let m_is : m ≡ n = some_once m n (sym x_is ∙ (ap (λ (q : List ℕ). entry_of q b) same ∙ is)) in
        named m x_is (same_name m n) refl (λ other. absurd (true≢false (sym (ap (λ (q : Name). same_name q n) m_is ∙ same_name-itself n) ∙ other)))

body_named : (b : Option Body) (n : Name) (name : List ℕ) → entry_of name b ≡ Some n → entry_of (name_in (Some (option_map body_row b)) n) b ≡ Some n
body_named None n name is = absurd (cc)
body_named (Some (Content bs)) n name is = absurd (cc)
body_named (Some (Listing es)) n name is = rows_named (Some (Listing es)) n name (map (λ (e : Entry). e.name) es) (names_entry name n es is) is

-- the name by which a directory is told to have a node is one of the node's names there
pub child_named : (tasks : List TaskId) (w : World) (v : View) (d n : Name) → Views tasks w v → why_of n v.sight.found ≡ Some (why.Child d)
    → entry_of (name_in (row_at v.rows d).body n) (body_at w d) ≡ Some n
child_named tasks w v d n views is =
    let r = reason tasks w v n (why.Child d) views is in
    let h = r.holds.0 in
    let found = r.from d refl in
    let sees : sees_with (nodes_of w) v.sight (seen.Body d) ≡ true =
    (parts_are_seen (among tasks) w v.sight (seen.Body d) views.looks).1 ((views.looks.found.exact d).0 found, h, r.holds.2, ToSearch r.holds.3 r.holds.4) in
    ap (λ (x : _). entry_of (name_in x.body n) (body_at w d)) (row_is tasks w v d views)
    ∙ (ap (λ (t : Bool). entry_of (name_in (told_if t (option_map body_row (body_at w d))) n) (body_at w d)) sees ∙ body_named (body_at w d) n r.holds.1 r.holds.5)
