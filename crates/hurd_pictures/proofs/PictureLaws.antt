-- The parts of a picture, one after the other.
use Rattle.std.proofs.Common.{◌≡◌, ◌∙◌, ◌++◌, ℕ, List, ap, append_assoc}
use Rattle.std.specs.Prelude.{Result, OnOk}
use Rattle.hurd_pictures.specs.Labels.{shown}
use Rattle.hurd_pictures.specs.Pictures.{colours, legend_begin, legend_colours, legend_end}
use Rattle.hurd_pictures.proofs.BoxLaws.{five}

pub coloured : {E : Type 0} (r : Result (Unit {0}) E) (t0 t1 t2 t3 t4 t5 who more : List ℕ) → t1 ≡ t0 ++ legend_begin → t2 ≡ t1 ++ shown who → t3 ≡ t2 ++ legend_colours
    → t4 ≡ t3 ++ more → OnOk r (t5 ≡ t4 ++ legend_end) → OnOk r (t5 ≡ t0 ++ colours who more)
unfolding colours
coloured r t0 t1 t2 t3 t4 t5 who more p q s u v = five r t0 t1 t2 t3 t4 t5 legend_begin (shown who) legend_colours more legend_end p q s u v

-- the head, the legend, the rows, the seats and the end
pub whole : (t0 t1 t2 t3 t4 h l r s e : List ℕ) → t0 ≡ h → t1 ≡ t0 ++ l → t2 ≡ t1 ++ r → t3 ≡ t2 ++ s → t4 ≡ t3 ++ e → t4 ≡ h ++ (l ++ (r ++ (s ++ e)))
whole t0 t1 t2 t3 t4 h l r s e p0 p1 p2 p3 p4 =
    p4 ∙ (ap (λ (x : List ℕ). x ++ e) (p3 ∙ ap (λ (x : List ℕ). x ++ s) (p2 ∙ ap (λ (x : List ℕ). x ++ r) (p1 ∙ ap (λ (x : List ℕ). x ++ l) p0)))
    ∙ (append_assoc ((h ++ l) ++ r) s e ∙ (append_assoc (h ++ l) r (s ++ e) ∙ append_assoc h l (r ++ (s ++ e)))))
