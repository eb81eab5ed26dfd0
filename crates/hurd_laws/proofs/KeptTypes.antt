-- Types that crates keep to themselves, by functions that they tell.

-- the type of a function's third argument
abbrev pub Third : {A B C D : Type 0} → (A → B → C → D) → Type 0
Third {C} g = C

-- what a function gives
abbrev pub Comes : {A B : Type 0} → (A → B) → Type 0
Comes {A} {B} f = B

-- what a function takes
abbrev pub Takes : {A B : Type 0} → (A → B) → Type 0
Takes {A} {B} f = A
