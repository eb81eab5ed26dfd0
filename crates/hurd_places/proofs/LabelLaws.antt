-- A label is that of one right.
use Rattle.std.proofs.Common.{◌≡◌, ◌⊎◌, inl, inr, ◌∙◌, refl, sym, ap, subst, ℕ, ◌+◌, ◌<◌, ◌≤◌, ◌^◌, ◌==◌, Bool, true, false, true≢false, List, [], ◌∷◌, ◌++◌, append_assoc, get_or, length, map, Option, Some, None, arith, if◌then◌else◌, codes, decimal, nat_lt, not}
use Rattle.std.specs.Option.{option_map, option_or}
use Rattle.std.specs.List.{list_all}
use Rattle.std.proofs.lemmas.Bool.{cases_Bool, eqb-true, ltb-false}
use Rattle.std.proofs.lemmas.Fmt.{decimal_injective}
use Rattle.std.proofs.lemmas.List.{append_cancel_left}
use Rattle.hurd_creds.specs.declared.name.TaskId.{TaskId}
use Rattle.hurd_words.specs.Printing.{spaced}
use Rattle.hurd_ports.specs.Sound.{NumbersRise}
use Rattle.hurd_ports.specs.Tables.{Task, rights_of, start_of}
use Rattle.hurd_ports.specs.declared.table.PendingStart.{PendingStart}
use Rattle.hurd_ports.specs.declared.table.Port.{Port}
use Rattle.hurd_ports.specs.declared.table.Right.{Right}
use Rattle.hurd_machine.specs.World.{World, IsAmong, task_at}
use Rattle.hurd_words.specs.Sentences.{is_letter}
use Rattle.hurd_words.proofs.Bytes.{all_weaker, cut, first_same, is_other}
use Rattle.hurd_words.proofs.WordLaws.{decimal_is_word}
use Rattle.hurd_places.specs.Places.{holder_word, is_wanted, label_in, label_of_task, label_of_tasks, label_text, port_wanted, sent_wanted}
use Rattle.hurd_places.specs.declared.labels.Holder.{Holder}
use Rattle.hurd_places.specs.declared.labels.Holder.TheVariants as holder
use Rattle.hurd_places.specs.declared.labels.Label.{Label}
use Rattle.hurd_places.specs.declared.labels.Wanted.{Wanted}
use Rattle.hurd_places.proofs.SeenFacts.{some_once}

-- one right is wanted in two ways
abbrev pub BothWanted : Wanted → Wanted → Type 0
BothWanted q r = (x : Right) × (is_wanted q x ≡ true) × (is_wanted r x ≡ true)

-- ports

port_from : (q : Wanted) (low next k : ℕ) (ps : List Port) → NumbersRise low next ps → port_wanted q ps ≡ Some k → low ≤ k
port_from q low next k [] rise is = absurd (cc)
port_from q low next k (p ∷ ps) rise is = go (port_from q (p.number + 1) next k ps rise.1) (is_wanted q p.right) is
  where
    go : (port_wanted q ps ≡ Some k → p.number + 1 ≤ k) → (b : Bool) → (if b then Some p.number else port_wanted q ps) ≡ Some k → low ≤ k
    go rest true is = let same = some_once p.number k is in let least = rise.0 in omega (arith, same, least)
    go rest false is = let more = rest is in let least = rise.0 in omega (arith, more, least)

port_once : (q r : Wanted) (low next k : ℕ) (ps : List Port) → NumbersRise low next ps → port_wanted q ps ≡ Some k → port_wanted r ps ≡ Some k → BothWanted q r
port_once q r low next k [] rise a b = absurd (cc)
port_once q r low next k (p ∷ ps) rise a b = go (port_once q r (p.number + 1) next k ps rise.1) (is_wanted q p.right) (is_wanted r p.right) refl refl a b
  where
    go : (port_wanted q ps ≡ Some k → port_wanted r ps ≡ Some k → BothWanted q r) → (s t : Bool) → is_wanted q p.right ≡ s → is_wanted r p.right ≡ t
        → (if s then Some p.number else port_wanted q ps) ≡ Some k → (if t then Some p.number else port_wanted r ps) ≡ Some k → BothWanted q r
    go rest true true x y a b = (p.right, x, y)
    go rest true false x y a b = let same = some_once p.number k a in let far = port_from r (p.number + 1) next k ps rise.1 b in absurd (omega (arith, same, far))
    go rest false true x y a b = let same = some_once p.number k b in let far = port_from q (p.number + 1) next k ps rise.1 a in absurd (omega (arith, same, far))
    go rest false false x y a b = rest a b

port_there : (q : Wanted) (r : Right) (ps : List Port) → IsAmong r (map (λ (p : Port). p.right) ps) → is_wanted q r ≡ true → (k : ℕ) × (port_wanted q ps ≡ Some k)
port_there q r [] there wanted = absurd there
port_there q r (p ∷ ps) there wanted = go (port_there q r ps) (is_wanted q p.right) refl there
  where
    go : (IsAmong r (map (λ (x : Port). x.right) ps) → is_wanted q r ≡ true → (k : ℕ) × (port_wanted q ps ≡ Some k)) → (b : Bool) → is_wanted q p.right ≡ b
        → (p.right ≡ r) ⊎ IsAmong r (map (λ (x : Port). x.right) ps) → (k : ℕ) × ((if b then Some p.number else port_wanted q ps) ≡ Some k)
    go rest true is there = (p.number, refl)
    go rest false is (inl same) = absurd (true≢false (sym (ap (is_wanted q) same ∙ wanted) ∙ is))
    go rest false is (inr later) = rest later wanted

-- inboxes

sent_from : (q : Wanted) (j k : ℕ) (rs : List Right) → sent_wanted q j rs ≡ Some k → j ≤ k
sent_from q j k [] is = absurd (cc)
sent_from q j k (x ∷ rs) is = go (sent_from q (j + 1) k rs) (is_wanted q x) is
  where
    go : (sent_wanted q (j + 1) rs ≡ Some k → j + 1 ≤ k) → (b : Bool) → (if b then Some j else sent_wanted q (j + 1) rs) ≡ Some k → j ≤ k
    go rest true is = let same = some_once j k is in omega (arith, same)
    go rest false is = let more = rest is in omega (arith, more)

sent_once : (q r : Wanted) (j k : ℕ) (rs : List Right) → sent_wanted q j rs ≡ Some k → sent_wanted r j rs ≡ Some k → BothWanted q r
sent_once q r j k [] a b = absurd (cc)
sent_once q r j k (z ∷ rs) a b = go (sent_once q r (j + 1) k rs) (is_wanted q z) (is_wanted r z) refl refl a b
  where
    go : (sent_wanted q (j + 1) rs ≡ Some k → sent_wanted r (j + 1) rs ≡ Some k → BothWanted q r) → (s t : Bool) → is_wanted q z ≡ s → is_wanted r z ≡ t
        → (if s then Some j else sent_wanted q (j + 1) rs) ≡ Some k → (if t then Some j else sent_wanted r (j + 1) rs) ≡ Some k → BothWanted q r
    go rest true true x y a b = (z, x, y)
    go rest true false x y a b = let same = some_once j k a in let far = sent_from r (j + 1) k rs b in absurd (omega (arith, same, far))
    go rest false true x y a b = let same = some_once j k b in let far = sent_from q (j + 1) k rs a in absurd (omega (arith, same, far))
    go rest false false x y a b = rest a b

sent_there : (q : Wanted) (r : Right) (j : ℕ) (rs : List Right) → IsAmong r rs → is_wanted q r ≡ true → (k : ℕ) × (sent_wanted q j rs ≡ Some k)
sent_there q r j [] there wanted = absurd there
sent_there q r j (z ∷ rs) there wanted = go (sent_there q r (j + 1) rs) (is_wanted q z) refl there
  where
    go : (IsAmong r rs → is_wanted q r ≡ true → (k : ℕ) × (sent_wanted q (j + 1) rs ≡ Some k)) → (b : Bool) → is_wanted q z ≡ b → (z ≡ r) ⊎ IsAmong r rs
        → (k : ℕ) × ((if b then Some j else sent_wanted q (j + 1) rs) ≡ Some k)
    go rest true is there = (j, refl)
    go rest false is (inl same) = absurd (true≢false (sym (ap (is_wanted q) same ∙ wanted) ∙ is))
    go rest false is (inr later) = rest later wanted

-- where the right of a label is

abbrev Holding : Wanted → Task → Holder → ℕ → Type 0
Holding q x holder.Port k = port_wanted q x.ports ≡ Some k
Holding q x holder.Inbox k = sent_wanted q 1 x.inbox ≡ Some k

abbrev pub Stands : World → Wanted → Label → Type 0
Stands w q l = (x : Task) × (task_at w l.task.0 ≡ Some x) × Holding q x l.holder l.number

stands_by : (w : World) (q : Wanted) (t : TaskId) (x : Task) (l : Label) (a b : Option ℕ) → task_at w t.0 ≡ Some x → port_wanted q x.ports ≡ a → sent_wanted q 1 x.inbox ≡ b
    → option_or (option_map (label_in t holder.Port) a) (option_map (label_in t holder.Inbox) b) ≡ Some l → Stands w q l × (l.task ≡ t)
stands_by w q t x l (Some k) b there port sent is =
    let same = some_once (label_in t holder.Port k) l is in
    subst (λ (m : Label). Stands w q m × (m.task ≡ t)) same ((x, there, port), refl)
stands_by w q t x l None (Some k) there port sent is =
    let same = some_once (label_in t holder.Inbox k) l is in
    subst (λ (m : Label). Stands w q m × (m.task ≡ t)) same ((x, there, sent), refl)
stands_by w q t x l None None there port sent is = absurd (cc)

stands_in : (w : World) (q : Wanted) (t : TaskId) (l : Label) (o : Option Task) → task_at w t.0 ≡ o → label_of_task q t o ≡ Some l → Stands w q l × (l.task ≡ t)
stands_in w q t l None there is = absurd (cc)
stands_in w q t l (Some x) there is = stands_by w q t x l (port_wanted q x.ports) (sent_wanted q 1 x.inbox) there refl refl is

abbrev pub seats : World → List TaskId → List (Option Task)
seats w ts = map (λ (t : TaskId). task_at w t.0) ts

pub label_stands : (w : World) (q : Wanted) (ts : List TaskId) (l : Label) → label_of_tasks q ts (seats w ts) ≡ Some l → Stands w q l × IsAmong l.task ts
label_stands w q [] l is = absurd (cc)
label_stands w q (t ∷ ts) l is = go (label_stands w q ts l) (label_of_task q t (task_at w t.0)) refl is
  where
    go : (label_of_tasks q ts (seats w ts) ≡ Some l → Stands w q l × IsAmong l.task ts) → (o : Option Label) → label_of_task q t (task_at w t.0) ≡ o
        → option_or o (label_of_tasks q ts (seats w ts)) ≡ Some l → Stands w q l × IsAmong l.task (t ∷ ts)
    go rest None here is = let more = rest is in (more.0, inr more.1)
    go rest (Some m) here is = let both = stands_in w q t l (task_at w t.0) refl (here ∙ is) in (both.0, inl (sym both.1))

-- each wanted right has one

in_task : (q : Wanted) (t : TaskId) (x : Task) (r : Right) → IsAmong r (rights_of x) → is_wanted q r ≡ true → (l : Label) × (label_of_task q t (Some x) ≡ Some l)
in_task q t x r there wanted = go (port_wanted q x.ports) (sent_wanted q 1 x.inbox) refl refl
  where
    no_start : (s : Option PendingStart) (rs : List Right) → IsAmong r (start_of s ++ rs) → IsAmong r rs
    no_start None rs there = there
    no_start (Some s) rs (inl same) = absurd (true≢false (sym (ap (is_wanted q) same ∙ wanted)))
    no_start (Some s) rs (inr later) = later

    either : (ps qs : List Right) → IsAmong r (ps ++ qs) → IsAmong r ps ⊎ IsAmong r qs
    either [] qs there = inr there
    either (p ∷ ps) qs (inl same) = inl (inl same)
    either (p ∷ ps) qs (inr later) = elim (either ps qs later) [ inl x ↦ inl (inr x) | inr y ↦ inr y ]

    go : (a b : Option ℕ) → port_wanted q x.ports ≡ a → sent_wanted q 1 x.inbox ≡ b
        → (l : Label) × (option_or (option_map (label_in t holder.Port) a) (option_map (label_in t holder.Inbox) b) ≡ Some l)
    go (Some k) b port sent = (label_in t holder.Port k, refl)
    go None (Some k) port sent = (label_in t holder.Inbox k, refl)
    go None None port sent = elim (either (map (λ (p : Port). p.right) x.ports) x.inbox (no_start x.pending (map (λ (p : Port). p.right) x.ports ++ x.inbox) there)) [
      | inl held ↦ let it = port_there q r x.ports held wanted in let both = sym port ∙ it.1 in absurd (cc)
      | inr held ↦ let it = sent_there q r 1 x.inbox held wanted in let both = sym sent ∙ it.1 in absurd (cc)
    ]

pub label_there : (w : World) (q : Wanted) (ts : List TaskId) (t : ℕ) (x : Task) (r : Right) → (u : TaskId) → u.0 ≡ t → IsAmong u ts → task_at w t ≡ Some x → IsAmong r (rights_of x)
    → is_wanted q r ≡ true → (l : Label) × (label_of_tasks q ts (seats w ts) ≡ Some l)
label_there w q [] t x r u is_t in_ts there held wanted = absurd in_ts
label_there w q (s ∷ ts) t x r u is_t in_ts there held wanted = go (λ later. label_there w q ts t x r u is_t later there held wanted) (label_of_task q s (task_at w s.0)) refl in_ts
  where
    go : (IsAmong u ts → (l : Label) × (label_of_tasks q ts (seats w ts) ≡ Some l)) → (o : Option Label) → label_of_task q s (task_at w s.0) ≡ o → (s ≡ u) ⊎ IsAmong u ts
        → (l : Label) × (option_or o (label_of_tasks q ts (seats w ts)) ≡ Some l)
    go rest (Some l) here in_ts = (l, refl)
    go rest None here (inr later) = rest later
    go rest None here (inl same) =
        let it = in_task q s x r held wanted in
        let seat : task_at w s.0 ≡ Some x = ap (λ (y : TaskId). task_at w y.0) same ∙ (ap (task_at w) is_t ∙ there) in
        let both = sym here ∙ (ap (label_of_task q s) seat ∙ it.1) in absurd (cc)

-- labels are told apart

abbrev pub AreRisen : World → Type 0
AreRisen w = (t : ℕ) (x : Task) → task_at w t ≡ Some x → NumbersRise 0 x.next x.ports

same_right : (w : World) (q r : Wanted) (a b : Label) → AreRisen w → Stands w q a → Stands w r b → a.task.0 ≡ b.task.0 → a.holder ≡ b.holder → a.number ≡ b.number → BothWanted q r
same_right w q r a b risen (x, in_x, holds_x) (y, in_y, holds_y) tasks holders numbers =
    let one : y ≡ x = some_once y x (sym in_y ∙ (ap (task_at w) (sym tasks) ∙ in_x)) in
    go a.holder holds_x
    (subst (λ (z : Task). Holding r z a.holder a.number) one (subst (λ (h : Holder). Holding r y h a.number) (sym holders) (subst (λ (k : ℕ). Holding r y b.holder k) (sym numbers) holds_y)))
  where
    go : (h : Holder) → Holding q x h a.number → Holding r x h a.number → BothWanted q r
    go holder.Port p s = port_once q r 0 x.next a.number x.ports (risen a.task.0 x in_x) p s
    go holder.Inbox p s = sent_once q r 1 a.number x.inbox p s

-- their texts

pub record IsShort (l : Label) : Type 0 where
  pub task : l.task.0 < 2 ^ 64
  pub number : l.number < 2 ^ 64

end_once : (g h : Holder) (j k : ℕ) → j < 2 ^ 64 → k < 2 ^ 64 → holder_word g ++ spaced j ≡ holder_word h ++ spaced k → (g ≡ h) × (j ≡ k)
end_once holder.Port holder.Port j k short few is =
    (refl, decimal_injective j k short few (first_same 32 32 (decimal j) (decimal k) (append_cancel_left (codes "port") (spaced j) (spaced k) is)).1)
end_once holder.Inbox holder.Inbox j k short few is =
    (refl, decimal_injective j k short few (first_same 32 32 (decimal j) (decimal k) (append_cancel_left (codes "inbox") (spaced j) (spaced k) is)).1)
end_once holder.Port holder.Inbox j k short few is = let first = ap (λ (t : List ℕ). get_or t 0 0) is in absurd (omega (arith, first))
end_once holder.Inbox holder.Port j k short few is = let first = ap (λ (t : List ℕ). get_or t 0 0) is in absurd (omega (arith, first))

letter_other : (b : ℕ) → is_letter b ≡ true → is_other 32 b ≡ true
letter_other b is = go (cases_Bool (b == 32))
  where
    go : ((b == 32) ≡ true) ⊎ ((b == 32) ≡ false) → not (b == 32) ≡ true
    go (inl same) = absurd (true≢false (sym is ∙ ap is_letter (eqb-true b 32 same)))
    go (inr other) = ap not other

digits_other : (n : ℕ) → list_all (is_other 32) (decimal n) ≡ true
digits_other n = all_weaker is_letter (is_other 32) letter_other (decimal n) (decimal_is_word n)

task_text : (l : Label) → label_text true l ≡ codes "task " ++ (decimal l.task.0 ++ (32 ∷ (holder_word l.holder ++ spaced l.number)))
task_text l =
    ap (λ (t : List ℕ). codes "task " ++ t) (append_assoc (decimal l.task.0) (codes " ") (holder_word l.holder ++ spaced l.number))

pub text_once : (many : Bool) (a b : Label) → IsShort a → IsShort b → label_text many a ≡ label_text many b
    → (many ≡ true → a.task.0 ≡ b.task.0) × (a.holder ≡ b.holder) × (a.number ≡ b.number)
text_once false a b short few is = let both = end_once a.holder b.holder a.number b.number short.number few.number is in (λ t. absurd (true≢false (sym t)), both.0, both.1)
text_once true a b short few is =
    let texts = append_cancel_left (codes "task ") (decimal a.task.0 ++ (32 ∷ (holder_word a.holder ++ spaced a.number))) (decimal b.task.0 ++ (32 ∷ (holder_word b.holder ++ spaced b.number)))
    (sym (task_text a) ∙ (is ∙ task_text b)) in
    let parts = cut 32 (decimal a.task.0) (decimal b.task.0) (32 ∷ (holder_word a.holder ++ spaced a.number)) (32 ∷ (holder_word b.holder ++ spaced b.number)) (digits_other a.task.0)
    (digits_other b.task.0) (inr (holder_word a.holder ++ spaced a.number, refl)) (inr (holder_word b.holder ++ spaced b.number, refl)) texts in
    let both = end_once a.holder b.holder a.number b.number short.number few.number
    (first_same 32 32 (holder_word a.holder ++ spaced a.number) (holder_word b.holder ++ spaced b.number) parts.1).1 in
    (λ t. decimal_injective a.task.0 b.task.0 short.task few.task parts.0, both.0, both.1)

alone : (ts : List TaskId) (t u : TaskId) → nat_lt 1 (length ts) ≡ false → IsAmong t ts → IsAmong u ts → t ≡ u
alone [] t u one a b = absurd a
alone (s ∷ []) t u one (inl a) (inl b) = sym a ∙ b
alone (s ∷ []) t u one (inr a) b = absurd a
alone (s ∷ []) t u one (inl a) (inr b) = absurd b
alone (s ∷ r ∷ ts) t u one a b = let size = ltb-false 1 (length (s ∷ r ∷ ts)) one in absurd (omega (arith, size))

-- rights that are called in one way are one right
pub labels_once : (w : World) (q r : Wanted) (ts : List TaskId) (a b : Label) → AreRisen w → label_of_tasks q ts (seats w ts) ≡ Some a → label_of_tasks r ts (seats w ts) ≡ Some b → IsShort a
    → IsShort b → label_text (nat_lt 1 (length ts)) a ≡ label_text (nat_lt 1 (length ts)) b → BothWanted q r
labels_once w q r ts a b risen is_a is_b short few texts =
    let x = label_stands w q ts a is_a in
    let y = label_stands w r ts b is_b in
    let parts = text_once (nat_lt 1 (length ts)) a b short few texts in
    same_right w q r a b risen x.0 y.0 (go (cases_Bool (nat_lt 1 (length ts))) parts.0 x.1 y.1) parts.1 parts.2
  where
    go : (nat_lt 1 (length ts) ≡ true) ⊎ (nat_lt 1 (length ts) ≡ false) → (nat_lt 1 (length ts) ≡ true → a.task.0 ≡ b.task.0) → IsAmong a.task ts → IsAmong b.task ts → a.task.0 ≡ b.task.0
    go (inl many) tasks in_a in_b = tasks many
    go (inr one) tasks in_a in_b = ap (λ (t : TaskId). t.0) (alone ts a.task b.task one in_a in_b)
