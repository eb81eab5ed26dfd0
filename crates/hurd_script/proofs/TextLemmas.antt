-- Lists of texts.
use Rattle.std.proofs.Common.{◌≡◌, ◌∙◌, ◌<◌, ℕ, List, Some, ap, length, map, refl, slice_get, sym}
use Rattle.std.specs.Option.{option_map}
use Rattle.std.specs.Prelude.{slice_index_or}
use Rattle.std.proofs.lemmas.Option.{slice_get-map, slice_get_read}

some_is : {Y : Type 0} (x y : Y) → Some x ≡ Some y → x ≡ y
some_is x y e = cc

-- where lists of what things show are the same, the things at a place show the same
pub shown_at : {X Y : Type 0} (f : X → Y) (xs ys : List X) (i : ℕ) (x y : X) → length xs ≡ length ys → i < length xs → x ≡ slice_index_or xs i x → y ≡ slice_index_or ys i y
    → map f xs ≡ map f ys → f x ≡ f y
shown_at {X} {Y} f xs ys i x y lengths within at_x at_y same =
    let got_x = slice_get_read xs (length xs) i x refl within at_x in
    let got_y = slice_get_read ys (length xs) i y lengths within at_y in
    some_is (f x) (f y) (
    sym (slice_get-map f xs i ∙ ap (option_map f) got_x)
    ∙ (ap (λ (zs : List Y). slice_get zs i) same
    ∙ (slice_get-map f ys i ∙ ap (option_map f) got_y))
    )
