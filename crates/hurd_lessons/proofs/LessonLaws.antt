-- What is said is nothing exactly where nothing differs.
use Rattle.std.proofs.Common.{◌≡◌, ◌∙◌, inl, inr, refl, sym, ap, subst, ℕ, Bool, true, false, true≢false, List, [], ◌∷◌, ◌++◌, map, Some, None, if◌then◌else◌}
use Rattle.std.specs.Prelude.{◌||◌, ◌&&◌, Option}
use Rattle.hurd_creds.specs.declared.name.Name.{Name}
use Rattle.hurd_creds.specs.Names.{same_name}
use Rattle.hurd_creds.proofs.NameLaws.{equal_if_same}
use Rattle.hurd_views.specs.Views.{has_row, no_row, row_at}
use Rattle.hurd_views.specs.declared.rows.Row.{Row}
use Rattle.hurd_views.specs.declared.view.View.{View}
use Rattle.hurd_lessons.specs.Changes.{IsChange, Turned, is_kept, is_same}
use Rattle.hurd_lessons.specs.Lessons.{GoneLineOf, LineOf, Lines, OneText, SilentWhereSame, Unless, count_line, line, tasks_line}
use Rattle.hurd_lessons.specs.Values.{names_of}
use Rattle.hurd_lessons.specs.declared.changes.Became.{Became}
use Rattle.hurd_lessons.specs.declared.changes.Change.{Change}

both : (a b : Bool) → (a && b) ≡ true → (a ≡ true) × (b ≡ true)
both true b is = (refl, is)
both false b is = absurd (true≢false (sym is))

-- a part

turned_same : {X : Type 0} (x y : Option X) (b : Became) → Turned x y b → is_same b ≡ true → x ≡ y
turned_same None None b turned is = refl
turned_same None (Some y) b turned is = absurd (true≢false (sym is ∙ ap is_same turned))
turned_same (Some x) None b turned is = absurd (true≢false (sym is ∙ ap is_same turned))
turned_same (Some x) (Some y) b (inl same) is = ap Some same.0
turned_same (Some x) (Some y) b (inr other) is = absurd (true≢false (sym is ∙ ap is_same other.1))

same_turned : {X : Type 0} (x : Option X) (b : Became) → Turned x x b → is_same b ≡ true
same_turned None b turned = ap is_same turned
same_turned (Some x) b (inl same) = ap is_same same.1
same_turned (Some x) b (inr other) = absurd (other.0 refl)

turned_once : {X : Type 0} (x y : Option X) (b d : Became) → Turned x y b → Turned x y d → b ≡ d
turned_once None None b d s t = s ∙ sym t
turned_once None (Some y) b d s t = s ∙ sym t
turned_once (Some x) None b d s t = s ∙ sym t
turned_once (Some x) (Some y) b d (inl s) (inl t) = s.1 ∙ sym t.1
turned_once (Some x) (Some y) b d (inl s) (inr t) = absurd (t.0 s.0)
turned_once (Some x) (Some y) b d (inr s) (inl t) = absurd (s.0 t.0)
turned_once (Some x) (Some y) b d (inr s) (inr t) = s.1 ∙ sym t.1

-- a row

rows_equal : (x y : Row) → x.attributes ≡ y.attributes → x.body ≡ y.body → x.ends ≡ y.ends → x.empty ≡ y.empty → x.opened ≡ y.opened → x.server ≡ y.server → x.text ≡ y.text → x.users ≡ y.users → x.total ≡ y.total → x ≡ y
rows_equal x y a b h c d e f g j = λ i. record { attributes = a i; empty = c i; body = b i; ends = h i; opened = d i; server = e i; text = f i; users = g i; total = j i }

changes_equal : (x y : Change) → x.attributes ≡ y.attributes → x.body ≡ y.body → x.ends ≡ y.ends → x.empty ≡ y.empty → x.opened ≡ y.opened → x.server ≡ y.server → x.text ≡ y.text → x.users ≡ y.users → x.total ≡ y.total → x.by_name ≡ y.by_name → x ≡ y
changes_equal x y a b h c d e f g j k = λ i. record { attributes = a i; empty = c i; body = b i; ends = h i; opened = d i; server = e i; text = f i; users = g i; total = j i; by_name = k i }

kept_rows : (x y : Row) (c : Change) → IsChange x y c → is_kept c ≡ true → x ≡ y
kept_rows x y c is kept =
    let a = both _ _ kept in
    let b = both _ _ a.1 in
    let h = both _ _ b.1 in
    let d = both _ _ h.1 in
    let e = both _ _ d.1 in
    let f = both _ _ e.1 in
    let g = both _ _ f.1 in
    let j = both _ _ g.1 in
    rows_equal x y (turned_same _ _ _ is.attributes a.0) (turned_same _ _ _ is.body b.0) (turned_same _ _ _ is.ends h.0) (turned_same _ _ _ is.empty d.0)
    (turned_same _ _ _ is.opened e.0) (turned_same _ _ _ is.server f.0) (turned_same _ _ _ is.text g.0) (turned_same _ _ _ is.users j.0) (turned_same _ _ _ is.total j.1)

all_true : (a b c d e f g h j : Bool) → a ≡ true → b ≡ true → c ≡ true → d ≡ true → e ≡ true → f ≡ true → g ≡ true → h ≡ true → j ≡ true → (a && (b && (c && (d && (e && (f && (g && (h && j)))))))) ≡ true
all_true a b c d e f g h j p q r s t u v w x = rw (p, q, r, s, t, u, v, w, x) refl

rows_kept : (x : Row) (c : Change) → IsChange x x c → is_kept c ≡ true
rows_kept x c is =
    all_true _ _ _ _ _ _ _ _ _ (same_turned x.attributes _ is.attributes) (same_turned x.body _ is.body) (same_turned x.ends _ is.ends) (same_turned x.empty _ is.empty)
    (same_turned x.opened _ is.opened) (same_turned x.server _ is.server) (same_turned x.text _ is.text) (same_turned x.users _ is.users) (same_turned x.total _ is.total)

pub change_once : (x y : Row) (c d : Change) → IsChange x y c → IsChange x y d → c ≡ d
change_once x y c d s t =
    changes_equal c d (turned_once _ _ _ _ s.attributes t.attributes) (turned_once _ _ _ _ s.body t.body) (turned_once _ _ _ _ s.ends t.ends) (turned_once _ _ _ _ s.empty t.empty)
    (turned_once _ _ _ _ s.opened t.opened) (turned_once _ _ _ _ s.server t.server) (turned_once _ _ _ _ s.text t.text) (turned_once _ _ _ _ s.users t.users) (turned_once _ _ _ _ s.total t.total) (s.by_name ∙ sym t.by_name)

-- a line

no_line : (who : List ℕ) (a b : View) (n : Name) (c : Change) (k : Bool) → [] ≡ (if k then [] else line who a b n c) → k ≡ true
no_line who a b n c true is = refl
no_line who a b n c false is = absurd (cc)

silent_row : (who : List ℕ) (a b : View) (n : Name) → LineOf who a b n [] → row_at a.rows n ≡ row_at b.rows n
silent_row who a b n (c, is, said) = kept_rows _ _ c is (no_line who a b n c (is_kept c) said)

row_silent : (who : List ℕ) (a b : View) (n : Name) (text : List ℕ) → row_at a.rows n ≡ row_at b.rows n → LineOf who a b n text → text ≡ []
row_silent who a b n text same (c, is, said) =
    said ∙ ap (λ (k : Bool). if k then [] else line who a b n c) (rows_kept (row_at b.rows n) c (subst (λ (r : Row). IsChange r (row_at b.rows n) c) same is))

line_once : (who : List ℕ) (a b : View) (n : Name) (s t : List ℕ) → LineOf who a b n s → LineOf who a b n t → s ≡ t
line_once who a b n s t (c, is, said) (d, js, told) =
    said ∙ (ap (λ (e : Change). if is_kept e then [] else line who a b n e) (change_once _ _ c d is js) ∙ sym told)

-- a line of what is gone

gone_silent : (who : List ℕ) (a b : View) (n : Name) (text : List ℕ) → row_at a.rows n ≡ row_at b.rows n → GoneLineOf who a b n text → text ≡ []
gone_silent who a b n text same (inl here) = here.1
gone_silent who a b n text same (inr gone) = row_silent who a b n text same gone.1

gone_once : (who : List ℕ) (a b : View) (n : Name) (s t : List ℕ) → GoneLineOf who a b n s → GoneLineOf who a b n t → s ≡ t
gone_once who a b n s t (inl x) (inl y) = x.1 ∙ sym y.1
gone_once who a b n s t (inl x) (inr y) = absurd (true≢false (sym x.0 ∙ y.0))
gone_once who a b n s t (inr x) (inl y) = absurd (true≢false (sym y.0 ∙ x.0))
gone_once who a b n s t (inr x) (inr y) = line_once who a b n s t x.1 y.1

silent_gone : (who : List ℕ) (a b : View) (n : Name) → has_row b.rows n ≡ false → GoneLineOf who a b n [] → row_at a.rows n ≡ row_at b.rows n
silent_gone who a b n none (inl here) = absurd (true≢false (sym here.0 ∙ none))
silent_gone who a b n none (inr gone) = silent_row who a b n gone.1

-- lines

front_empty : (s t : List ℕ) → [] ≡ s ++ t → s ≡ []
front_empty [] t is = refl
front_empty (b ∷ s) t is = absurd (cc)

back_empty : (s t : List ℕ) → [] ≡ s ++ t → t ≡ []
back_empty [] t is = sym is
back_empty (b ∷ s) t is = absurd (cc)

silent_at : (P : Name → List ℕ → Type 0) (es : List (Name × Row)) (n : Name) → has_row es n ≡ true → Lines P (map (λ (e : Name × Row). e.0) es) [] → P n []
silent_at P [] n has lines = absurd (true≢false (sym has))
silent_at P (e ∷ es) n has (here, rest, is, p, lines) =
    go (same_name n e.0) refl (λ at. silent_at P es n at (subst (Lines P (map (λ (e : Name × Row). e.0) es)) (back_empty here rest is) lines))
  where
    go : (t : Bool) → same_name n e.0 ≡ t → (has_row es n ≡ true → P n []) → P n []
    go true same later = subst (λ (m : Name). P m []) (sym (equal_if_same n e.0 same)) (subst (P e.0) (front_empty here rest is) p)
    go false other later = later (sym (ap (λ (t : Bool). t || has_row es n) other) ∙ has)

all_silent : (P : Name → List ℕ → Type 0) (ns : List Name) (text : List ℕ) → ((n : Name) (t : List ℕ) → P n t → t ≡ []) → Lines P ns text → text ≡ []
all_silent P [] text each lines = lines
all_silent P (n ∷ ns) text each (here, rest, is, p, lines) =
    is ∙ (ap (λ (s : List ℕ). s ++ rest) (each n here p) ∙ all_silent P ns rest each lines)

pub lines_once : (P : Name → List ℕ → Type 0) (ns : List Name) (s t : List ℕ) → ((n : Name) (u v : List ℕ) → P n u → P n v → u ≡ v) → Lines P ns s → Lines P ns t → s ≡ t
lines_once P [] s t each x y = x ∙ sym y
lines_once P (n ∷ ns) s t each (here, rest, is, p, lines) (there, more, js, q, others) =
    is ∙ (ap (λ (u : List ℕ). u ++ rest) (each n here there p q) ∙ (ap (λ (u : List ℕ). there ++ u) (lines_once P ns rest more each lines others) ∙ sym js))

-- a line about the tasks

unless_holds : (P : Type 0) (said : List ℕ) (b : ℕ) (bs : List ℕ) → said ≡ b ∷ bs → Unless P said [] → P
unless_holds P said b bs is (inl it) = it.0
unless_holds P said b bs is (inr it) = absurd (cc)

unless_silent : (P : Type 0) (said text : List ℕ) → P → Unless P said text → text ≡ []
unless_silent P said text holds (inl it) = it.1
unless_silent P said text holds (inr it) = absurd (it.0 holds)

unless_once : (P : Type 0) (said s t : List ℕ) → Unless P said s → Unless P said t → s ≡ t
unless_once P said s t (inl x) (inl y) = x.1 ∙ sym y.1
unless_once P said s t (inl x) (inr y) = absurd (y.0 x.0)
unless_once P said s t (inr x) (inl y) = absurd (x.0 y.0)
unless_once P said s t (inr x) (inr y) = x.1 ∙ sym y.1

-- all of it

no_row_there : (es : List (Name × Row)) (n : Name) → has_row es n ≡ false → row_at es n ≡ no_row
no_row_there [] n none = refl
no_row_there (e ∷ es) n none = go (same_name n e.0) refl none (no_row_there es n)
  where
    go : (t : Bool) → same_name n e.0 ≡ t → has_row (e ∷ es) n ≡ false → (has_row es n ≡ false → row_at es n ≡ no_row) → row_at (e ∷ es) n ≡ no_row
    go true is has later = absurd (true≢false (sym (ap (λ (u : Bool). u || has_row es n) is) ∙ has))
    go false is has later = ap (λ (u : Bool). if u then e.1 else row_at es n) is ∙ later (sym (ap (λ (u : Bool). u || has_row es n) is) ∙ has)

silent_same : (who : List ℕ) (a b : View) → Lines (LineOf who a b) (names_of b) [] → Lines (GoneLineOf who a b) (names_of a) [] → (n : Name) → row_at a.rows n ≡ row_at b.rows n
silent_same who a b seen gone n = go (has_row b.rows n) (has_row a.rows n) refl refl
  where
    go : (t u : Bool) → has_row b.rows n ≡ t → has_row a.rows n ≡ u → row_at a.rows n ≡ row_at b.rows n
    go true u is at = silent_row who a b n (silent_at (LineOf who a b) b.rows n is seen)
    go false true is at = silent_gone who a b n is (silent_at (GoneLineOf who a b) a.rows n at gone)
    go false false is at = no_row_there a.rows n at ∙ sym (no_row_there b.rows n is)

pub silent_where_same : SilentWhereSame
silent_where_same who a b text l = (
  λ none.
      let parts : [] ≡ l.seen ++ (l.gone ++ (l.tasks ++ l.count)) = sym none ∙ l.joined in
      let more : [] ≡ l.gone ++ (l.tasks ++ l.count) = sym (back_empty l.seen _ parts) in
      let last : [] ≡ l.tasks ++ l.count = sym (back_empty l.gone _ more) in
      record {
        rows = silent_same who a b (subst (Lines (LineOf who a b) (names_of b)) (front_empty l.seen _ parts) l.are_seen)
            (subst (Lines (GoneLineOf who a b) (names_of a)) (front_empty l.gone _ more) l.are_gone);
        seats = unless_holds _ (tasks_line who) 32 _ refl (subst (Unless _ (tasks_line who)) (front_empty l.tasks _ last) l.are_tasks);
        count = unless_holds _ (count_line who) 32 _ refl (subst (Unless _ (count_line who)) (back_empty l.tasks _ last) l.is_count);
      },
  λ same.
      l.joined
      ∙ (ap (λ (s : List ℕ). s ++ (l.gone ++ (l.tasks ++ l.count))) (all_silent _ (names_of b) l.seen (λ n t. row_silent who a b n t (same.rows n)) l.are_seen)
      ∙ (ap (λ (s : List ℕ). s ++ (l.tasks ++ l.count)) (all_silent _ (names_of a) l.gone (λ n t. gone_silent who a b n t (same.rows n)) l.are_gone)
      ∙ (ap (λ (s : List ℕ). s ++ l.count) (unless_silent _ (tasks_line who) l.tasks same.seats l.are_tasks) ∙ unless_silent _ (count_line who) l.count same.count l.is_count))),
)

pub one_text : OneText
one_text who a b s t x y =
    x.joined
    ∙ (ap (λ (u : List ℕ). u ++ (x.gone ++ (x.tasks ++ x.count))) (lines_once _ (names_of b) x.seen y.seen (line_once who a b) x.are_seen y.are_seen)
    ∙ (ap (λ (u : List ℕ). y.seen ++ (u ++ (x.tasks ++ x.count))) (lines_once _ (names_of a) x.gone y.gone (gone_once who a b) x.are_gone y.are_gone)
    ∙ (ap (λ (u : List ℕ). y.seen ++ (y.gone ++ (u ++ x.count))) (unless_once _ _ x.tasks y.tasks x.are_tasks y.are_tasks)
    ∙ (ap (λ (u : List ℕ). y.seen ++ (y.gone ++ (y.tasks ++ u))) (unless_once _ _ x.count y.count x.is_count y.is_count) ∙ sym y.joined))))
