-- A tried history: price times count, a booking for day 5, a booking in its place, and refused calls; its book, computed.
use Rattle.std.specs.Prelude.{◌≡◌, List, [], ◌∷◌, ℕ, pos}
use Rattle.std.proofs.Math.Option.{some}
use Rattle.trace.specs.Tried.{price_times_count}
use Rattle.program.specs.declared.value.InputContent.TheVariants.{Number as number, Empty as empty}
use Rattle.history.specs.Calls.{settled, unsettled, resting, opened, Make, Booking, Call, OPEN, POST, WITHDRAW, SETTLE, BOOK, TURN, RESULT, wrong_pass}
use Rattle.history.specs.Book.{rests, refusal, book_of}
use Rattle.history.specs.History.{a_pass}

-- sheet 7, with the limit L
abbrev pub made_with : ℕ → Make
made_with L = record { program = price_times_count; number = 7; limit = L }

-- input 1 to n, on day 5
abbrev day5 : ℕ → Booking
day5 n = record { day = 5; input = 1; content = number (pos n) }

-- the calls
abbrev pub tried : List Call
tried =
    OPEN (a_pass (resting unsettled) 7) ∷ POST (a_pass opened 7) 0 (number (pos 6)) ∷ POST (a_pass opened 7) 1 (number (pos 25)) ∷
    POST (a_pass opened 7) 2 (number (pos 1)) ∷ POST (a_pass opened 7) 1 empty ∷ POST (a_pass opened 8) 1 (number (pos 0)) ∷
    SETTLE (a_pass opened 7) ∷ BOOK (a_pass (resting settled) 7) (day5 29) ∷ BOOK (a_pass (resting settled) 7) (day5 30) ∷
    OPEN (a_pass (resting settled) 7) ∷ POST (a_pass opened 7) 0 (number (pos 1)) ∷ WITHDRAW (a_pass opened 7) ∷
    TURN (a_pass (resting settled) 7) 4 ∷ TURN (a_pass (resting settled) 7) 5 ∷ []

-- the book after them
pub record TriedHolds : Type 0 where
  pub roomy : book_of (made_with 3) tried ≡ record { made_of = made_with 3; state = rests settled; inputs = number (pos 6) ∷ number (pos 30) ∷ []; bookings = [] }
  -- with a limit of 2 the settle is too large: what needs a settled pass is then refused
  pub narrow : book_of (made_with 2) tried ≡ record { made_of = made_with 2; state = rests unsettled; inputs = number (pos 6) ∷ number (pos 25) ∷ []; bookings = [] }
  pub thirteen : refusal (book_of (made_with 2) tried) (RESULT (a_pass (resting settled) 7)) ≡ some wrong_pass
