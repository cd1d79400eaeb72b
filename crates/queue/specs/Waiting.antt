-- The bookings that wait.
use Rattle.std.specs.Prelude.{◌≡◌, ℕ, if◌then◌else◌, List, [], ◌∷◌, length, take, Some, None, Ok, Err, Option, Result, nat_lt}
use Rattle.queue.specs.declared.booking.Booking.{Booking}
use Rattle.queue.specs.declared.bookings.Bookings.{Bookings}
use Rattle.queue.specs.Refusals.{most_bookings}
use Rattle.queue.specs.declared.refusal.BookingRefusal.{BookingRefusal}
use Rattle.queue.specs.declared.refusal.BookingRefusal.TheVariants.{Full}
use Rattle.queue.specs.Sooner.{sooner, due}
use Rattle.queue.specs.Listing.{placed, listed, has_place}

-- the bookings that wait, in order of day and input
abbrev pub waiting : Bookings → List Booking
waiting s = listed sooner (take s.count s.places)

-- why a booking is refused, if it is: all places are taken, and none waits for its day and input
abbrev pub book_refusal : List Booking → Booking → Option BookingRefusal
book_refusal ws b = if has_place sooner ws b then None else (if nat_lt (length ws) most_bookings then None else Some Full)

-- a booking, by what it answers: b waits in its place, instead of the earlier one for its day and input; or nothing changed
abbrev pub Booked : List Booking → Booking → Result (Unit {0}) BookingRefusal → List Booking → Type 0
Booked ws b (Ok _) vs = (book_refusal ws b ≡ None) × (vs ≡ placed sooner b ws)
Booked ws b (Err e) vs = (book_refusal ws b ≡ Some e) × (vs ≡ ws)

-- the first booking, if it is for a day up to d
abbrev pub first_due : List Booking → ℕ → Option Booking
first_due [] d = None
first_due (b ∷ bs) d = if due b d then Some b else None

-- what waits without it
abbrev pub after_due : List Booking → ℕ → List Booking
after_due [] d = []
after_due (b ∷ bs) d = if due b d then bs else b ∷ bs
