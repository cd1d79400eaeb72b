-- The order of bookings: by day, and then by input.
use Rattle.std.specs.Prelude.{◌≡◌, ℕ, ◌<◌, ◌≤◌, Bool, true, false, ◌&&◌, ◌||◌, ◌==◌, nat_le, nat_lt}
use Rattle.std.proofs.Common.{arith}
use Rattle.std.proofs.lemmas.Bool.Decides.{nat_tests}
use Rattle.queue.specs.declared.booking.Booking.{Booking}
use Rattle.queue.specs.Order.{Lawful}

-- by two numbers, the first of them first
abbrev pub first_by : ℕ → ℕ → ℕ → ℕ → Bool
first_by d i e j = nat_lt d e || (d == e && nat_lt i j)

-- whether a is for an earlier day than b, or for the same day and an input with a lower number
abbrev pub sooner : Booking → Booking → Bool
sooner a b = first_by a.day a.input b.day b.input

-- whether both are for the same day and input
abbrev pub is_same_place : Booking → Booking → Bool
is_same_place a b = a.day == b.day && a.input == b.input

-- whether a booking is for a day up to d
abbrev pub due : Booking → ℕ → Bool
due b d = nat_le b.day d

-- not sooner: of a later day, or of the same day and no lower input
not_sooner : (d i e j : ℕ) → (d ≤ e → (d ≡ e) × (j ≤ i)) → first_by d i e j ≡ false
not_sooner d i e j h = grind (arith, nat_tests, h)

-- sooner, and not of an earlier day: of the same day and a lower input
is_sooner : (d i e j : ℕ) → first_by d i e j ≡ true → e ≤ d → (d ≡ e) × (i < j)
is_sooner d i e j h l = grind (arith, nat_tests)

-- not sooner, and not of a later day: of the same day and no lower input
isnt_sooner : (d i e j : ℕ) → first_by d i e j ≡ false → d ≤ e → (d ≡ e) × (j ≤ i)
isnt_sooner d i e j h l = grind (arith, nat_tests)

-- never both ways
pub sooner_oneway : (a b : Booking) → sooner a b ≡ true → sooner b a ≡ false
sooner_oneway a b h = grind (arith, nat_tests)

-- where b is not sooner than a, nor c than b, c is not sooner than a
pub sooner_chain : (a b c : Booking) → sooner b a ≡ false → sooner c b ≡ false → sooner c a ≡ false
sooner_chain a b c g h = grind (arith, nat_tests)

pub sooner_lawful : Lawful (λ _. Unit {0}) sooner
sooner_lawful = record { oneway = λ a b _ _. sooner_oneway a b; chain = λ a b c _ _ _. sooner_chain a b c }
