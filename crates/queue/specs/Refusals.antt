-- The numbers of the refusals.
use Rattle.std.specs.Prelude.{ℕ}
use Rattle.queue.specs.declared.refusal.QueueRefusal.{QueueRefusal}
use Rattle.queue.specs.declared.refusal.QueueRefusal.TheVariants as queued
use Rattle.queue.specs.declared.refusal.BookingRefusal.{BookingRefusal}
use Rattle.queue.specs.declared.refusal.BookingRefusal.TheVariants as booked

-- the number by which a refusal of the queue is told
abbrev pub number_of : QueueRefusal → ℕ
number_of queued.Full = 35

-- the number by which a refusal of a booking is told
abbrev pub booking_number_of : BookingRefusal → ℕ
booking_number_of booked.Full = 17

-- the most bookings that wait
abbrev pub most_bookings : ℕ
most_bookings = 64
