-- The numbers in a line's fields.
use Rattle.std.specs.Prelude.{ℕ, zero, suc, ◌/◌, Bool, true, cond, ◌&&◌, List, [], ◌∷◌, length, take, drop, ℤ, pos, negsuc, is_some, Some, None, Option, Ok, Err, Result, ◌≡◌, ◌==◌}
use Rattle.std.specs.Option.{unwrap_or}
use Rattle.text.specs.declared.fields.Kind.{Kind}
use Rattle.text.specs.declared.fields.Kind.TheVariants as k
use Rattle.text.specs.declared.fields.UnknownKind.{UnknownKind}
use Rattle.text.specs.Field.{field_value}

-- each of the first k fields is a number
abbrev pub fields_stand : ℕ → List ℕ → Bool
fields_stand zero bs = true
fields_stand (suc k) bs = is_some (field_value (take 6 bs)) && fields_stand k (drop 6 bs)

-- the numbers in k fields; a field that holds none counts as 0, but then a rule of this layer is broken
abbrev pub numbers : ℕ → List ℕ → List ℤ
numbers zero bs = []
numbers (suc k) bs = unwrap_or (field_value (take 6 bs)) (pos 0) ∷ numbers k (drop 6 bs)

abbrev pub numbers_in : List ℕ → List ℤ
numbers_in bs = numbers (length bs / 6) bs

-- a number that may name something
abbrev pub whole_of : ℤ → Option ℕ
whole_of (pos n) = Some n
whole_of (negsuc n) = None

-- 1 a number, 2 a modifiable with a number, 3 a modifiable with a list
abbrev pub kind_at : ℕ → Option Kind
kind_at n = cond (n == 1) (Some k.Number) (cond (n == 2) (Some k.ModNumber) (cond (n == 3) (Some k.ModList) None))

abbrev pub kind_of : ℤ → Option Kind
kind_of (pos n) = kind_at n
kind_of (negsuc n) = None

-- r is the kind that a number names, or says that it names none
abbrev pub Names : ℤ → Result Kind UnknownKind → Type 0
Names z (Ok k) = kind_of z ≡ Some k
Names z (Err e) = (kind_of z ≡ None) × (e ≡ record { 0 = z })
