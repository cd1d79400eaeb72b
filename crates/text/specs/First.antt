-- Rules that are tried line by line: the first line that breaks one decides.
use Rattle.std.specs.Prelude.{ℕ, ◌+◌, Bool, true, false, List, [], ◌∷◌, Some, None, Ok, Err, Option, Result}

abbrev pub none_left : {X : Type 0} → List X → Bool
none_left [] = true
none_left (x ∷ xs) = false

abbrev pub or_else : {F : Type 0} → Option F → Option F → Option F
or_else (Some f) o = Some f
or_else None o = o

-- `after s x`: how things stand behind line x; `rules s n x last`: the fault of line x, of number n, where things stand at s
abbrev pub first : {S X F : Type 0} → (S → X → S) → (S → ℕ → X → Bool → Option F) → S → ℕ → List X → Option F
first after rules s n [] = None
first after rules s n (x ∷ xs) = or_else (rules s n x (none_left xs)) (first after rules (after s x) (n + 1) xs)

-- a call that answers nothing, or the fault that was told
abbrev pub answer : {T F : Type 0} → T → Option F → Result T F
answer t (Some f) = Err f
answer t None = Ok t

-- no fault is told
abbrev pub no_fault : {F : Type 0} → Option F → Bool
no_fault None = true
no_fault (Some f) = false
