-- A list in order, at most one element to a place.
use Rattle.std.specs.Prelude.{◌≡◌, ◌≤◌, Bool, true, not, ◌&&◌, if◌then◌else◌, List, [], ◌∷◌, count_by}
use Rattle.std.specs.List.{AllByRecursion, list_any}

-- whether neither stands before the other: they have the same place
abbrev pub same : {X : Type 0} → (X → X → Bool) → X → X → Bool
same before a b = not (before a b) && not (before b a)

-- an ordered list with x, which takes the place of one that has the same place
abbrev pub placed : {X : Type 0} → (X → X → Bool) → X → List X → List X
placed before x [] = x ∷ []
placed before x (y ∷ ys) = if before x y then x ∷ y ∷ ys else (if before y x then y ∷ placed before x ys else x ∷ ys)

-- the elements in order
abbrev pub listed : {X : Type 0} → (X → X → Bool) → List X → List X
listed before [] = []
listed before (x ∷ xs) = placed before x (listed before xs)

-- whether one has the same place as x
abbrev pub has_place : {X : Type 0} → (X → X → Bool) → List X → X → Bool
has_place before xs x = list_any (λ y. same before y x) xs

-- no two have the same place
abbrev pub Once : {X : Type 0} → (X → X → Bool) → List X → Type 0
Once {X} before xs = (x : X) → count_by (λ y. same before y x) xs ≤ 1

-- each element stands before all behind it
abbrev pub Ascending : {X : Type 0} → (X → X → Bool) → List X → Type 0
Ascending before [] = Unit {0}
Ascending before (x ∷ xs) = AllByRecursion (λ y. before x y ≡ true) xs × Ascending before xs
