-- The bookings of the book stand in the order of day and then input, no two with the same, and are at most 64.
use Rattle.std.specs.Prelude.{◌≡◌, true, List, [], ◌∷◌, ◌≤◌, length}
use Rattle.history.specs.Calls.{Make, Booking, Call}
use Rattle.history.specs.Book.{stands_before, book_of}

-- x is earlier than each
abbrev pub BeforeAll : Booking → List Booking → Type 0
BeforeAll x [] = Unit {0}
BeforeAll x (y ∷ ys) = (stands_before x y ≡ true) × BeforeAll x ys

-- each is earlier than those behind it
abbrev pub InTurn : List Booking → Type 0
InTurn [] = Unit {0}
InTurn (y ∷ ys) = BeforeAll y ys × InTurn ys

-- whatever calls a sheet has had
abbrev pub BookingsInOrder : Type 0
BookingsInOrder = (k : Make) (cs : List Call) → InTurn (book_of k cs).bookings × (length (book_of k cs).bookings ≤ 64)
