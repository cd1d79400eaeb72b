-- The plain book: kept from what make was given and from the calls' arguments alone.
use Rattle.std.specs.Prelude.{◌≡◌, Bool, true, false, cond, ◌&&◌, not, List, [], ◌∷◌, ◌++◌, ℕ, ◌+◌, eqb, leb, ltb, set, length, replicate, pos}
use Rattle.std.proofs.Math.Option.{Option, some, none}
use Rattle.trace.specs.Run.{plain_run}
use Rattle.program.specs.declared.value.InputContent.{InputContent}
use Rattle.program.specs.declared.value.InputContent.TheVariants.{Number as number, Empty as empty, Cell as cell}
use Rattle.trace.specs.Trace.{Trace}
use Rattle.trace.specs.Listing.{lines, Line}
use Rattle.history.specs.Calls.{Resting, settled, unsettled, Sort, resting, opened, Pass, Make, Booking, Call, OPEN, POST, WITHDRAW, SETTLE, BOOK, TURN, RESULT, LINE, Refusal, wrong_pass, no_such_input, other_kind, wrong_cell, bookings_full, no_such_line}

-- the state of a sheet: at rest, or open, with the sort and the inputs that open noted
pub data State : Type 0 where
  rests : Resting → State
  open_since : Resting → List InputContent → State

-- the plain book: what make was given, the state, the inputs, and the bookings that wait
pub record Book : Type 0 where
  pub made_of : Make
  pub state : State
  pub inputs : List InputContent
  pub bookings : List Booking

-- the sort of the pass that a sheet in this state takes
abbrev pub sort_of : State → Sort
sort_of (rests r) = resting r
sort_of (open_since r is) = opened

-- ── at make ──

-- the inputs at make: 0, or empty
abbrev pub blank : Make → List InputContent
blank k = replicate k.program.numbers (number (pos 0)) ++ replicate k.program.lists empty

-- the book at make: unsettled, and nothing booked
abbrev pub first_book : Make → Book
first_book k = record { made_of = k; state = rests unsettled; inputs = blank k; bookings = [] }

-- ── the plain run of the inputs ──

-- none where it makes more than L records
abbrev pub plain_run_of : Book → Option Trace
plain_run_of b = plain_run b.made_of.limit b.made_of.program b.inputs

-- its lines: its records stand at their numbers
abbrev pub plain_lines : Option Trace → List Line
plain_lines none = []
plain_lines (some t) = lines 0 0 t

-- ── refusals, in the order of their tests ──

-- refused with r unless the test holds, and then as `more` says
abbrev pub unless : Bool → Refusal → Option Refusal → Option Refusal
unless true r more = more
unless false r more = some r

-- refused as the first says, or else as the second
abbrev pub or_else : Option Refusal → Option Refusal → Option Refusal
or_else none more = more
or_else (some r) more = some r

-- whether two sorts are the same
abbrev pub same_rest : Resting → Resting → Bool
same_rest settled settled = true
same_rest settled unsettled = false
same_rest unsettled settled = false
same_rest unsettled unsettled = true

abbrev pub same_sort : Sort → Sort → Bool
same_sort (resting r) (resting q) = same_rest r q
same_sort (resting r) opened = false
same_sort opened (resting q) = false
same_sort opened opened = true

-- a resting pass
abbrev pub at_rest : Sort → Bool
at_rest (resting r) = true
at_rest opened = false

-- the pass bears this sheet's number, and the sheet is in its state
abbrev pub bears : Book → Pass → Bool
bears b q = eqb q.number b.made_of.number && same_sort q.sort (sort_of b.state)

-- how many inputs there are
abbrev pub count_of_inputs : Make → ℕ
count_of_inputs k = k.program.numbers + k.program.lists

-- a number for the first inputs, a list for the others
abbrev pub has_right_kind : Make → ℕ → InputContent → Bool
has_right_kind k i (number z) = ltb i k.program.numbers
has_right_kind k i empty = leb k.program.numbers i
has_right_kind k i (cell h t) = leb k.program.numbers i

-- a cell names an input with a number and one with a list
abbrev pub has_right_cell : Make → InputContent → Bool
has_right_cell k (number z) = true
has_right_cell k empty = true
has_right_cell k (cell h t) = ltb h k.program.numbers && (leb k.program.numbers t && ltb t (count_of_inputs k))

-- what is wrong with the content x for input i, if anything
abbrev pub unfit : Make → ℕ → InputContent → Option Refusal
unfit k i x = unless (ltb i (count_of_inputs k)) no_such_input (unless (has_right_kind k i x) other_kind (unless (has_right_cell k x) wrong_cell none))

-- the same day and input
abbrev pub same_key : Booking → Booking → Bool
same_key x y = eqb x.day y.day && eqb x.input y.input

-- a booking with x's day and input waits
abbrev pub waits : Booking → List Booking → Bool
waits x [] = false
waits x (y ∷ ys) = cond (same_key x y) true (waits x ys)

-- there is room for x: fewer than 64 bookings wait, or it takes the place of one
abbrev pub room : Booking → List Booking → Bool
room x ys = cond (ltb (length ys) 64) true (waits x ys)

-- why a call is refused, judged by the book; none where it is served
abbrev pub refusal : Book → Call → Option Refusal
refusal b (OPEN q) = unless (bears b q && at_rest q.sort) wrong_pass none
refusal b (POST q i x) = unless (bears b q && not (at_rest q.sort)) wrong_pass (unfit b.made_of i x)
refusal b (WITHDRAW q) = unless (bears b q && not (at_rest q.sort)) wrong_pass none
refusal b (SETTLE q) = unless (bears b q && not (at_rest q.sort)) wrong_pass none
refusal b (BOOK q x) = unless (bears b q && at_rest q.sort) wrong_pass
    (or_else (unfit b.made_of x.input x.content) (unless (room x b.bookings) bookings_full none))
refusal b (TURN q d) = unless (bears b q && at_rest q.sort) wrong_pass none
refusal b (RESULT q) = unless (bears b q && same_sort q.sort (resting settled)) wrong_pass none
refusal b (LINE q r) = unless (bears b q && same_sort q.sort (resting settled)) wrong_pass
    (unless (ltb r (length (plain_lines (plain_run_of b)))) no_such_line none)

-- ── bookings, in the order of day and then input ──

-- x is earlier than y
abbrev pub stands_before : Booking → Booking → Bool
stands_before x y = cond (ltb x.day y.day) true (eqb x.day y.day && ltb x.input y.input)

-- x is booked: it takes the place of one with its day and input, or stands where its day and input belong
abbrev pub booked : Booking → List Booking → List Booking
booked x [] = x ∷ []
booked x (y ∷ ys) = cond (same_key x y) (x ∷ ys) (cond (stands_before x y) (x ∷ (y ∷ ys)) (y ∷ booked x ys))

-- the bookings with a day up to d
abbrev pub due : ℕ → List Booking → List Booking
due d [] = []
due d (y ∷ ys) = cond (leb y.day d) (y ∷ due d ys) (due d ys)

-- the others
abbrev pub left : ℕ → List Booking → List Booking
left d [] = []
left d (y ∷ ys) = cond (leb y.day d) (left d ys) (y ∷ left d ys)

-- the inputs when bookings have been posted in order
abbrev pub posted : List Booking → List InputContent → List InputContent
posted [] is = is
posted (y ∷ ys) is = posted ys (set is y.input y.content)

-- ── what a call does to the book ──

-- the book with another state, other inputs, other bookings
abbrev pub with_state : Book → State → Book
with_state b s = record { made_of = b.made_of; state = s; inputs = b.inputs; bookings = b.bookings }

abbrev pub with_inputs : Book → List InputContent → Book
with_inputs b is = record { made_of = b.made_of; state = b.state; inputs = is; bookings = b.bookings }

abbrev pub with_bookings : Book → List Booking → Book
with_bookings b ys = record { made_of = b.made_of; state = b.state; inputs = b.inputs; bookings = ys }

-- open notes the sort and the inputs
abbrev pub opening : Book → State → Book
opening b (rests r) = with_state b (open_since r b.inputs)
opening b (open_since r is) = b

-- withdraw puts both back
abbrev pub withdrawing : Book → State → Book
withdrawing b (rests r) = b
withdrawing b (open_since r is) = with_inputs (with_state b (rests r)) is

-- the sort after a settle: unsettled where the plain run is too large
abbrev pub after_settle : Option Trace → Resting
after_settle none = unsettled
after_settle (some t) = settled

-- the book after a settle
abbrev pub settling : Book → Book
settling b = with_state b (rests (after_settle (plain_run_of b)))

-- the bookings up to day d are taken out and posted
abbrev pub day_turned : Book → ℕ → Book
day_turned b d = with_bookings (with_inputs b (posted (due d b.bookings) b.inputs)) (left d b.bookings)

-- the book after a call that is served
abbrev pub change : Book → Call → Book
change b (OPEN q) = opening b b.state
change b (POST q i x) = with_inputs b (set b.inputs i x)
change b (WITHDRAW q) = withdrawing b b.state
change b (SETTLE q) = settling b
change b (BOOK q x) = with_bookings b (booked x b.bookings)
change b (TURN q d) = settling (day_turned b d)
change b (RESULT q) = b
change b (LINE q r) = b

-- a refused call changes nothing
abbrev pub unless_refused : Option Refusal → Book → Book → Book
unless_refused none b b' = b'
unless_refused (some r) b b' = b

-- the book after a call
abbrev pub book_step : Book → Call → Book
book_step b c = unless_refused (refusal b c) b (change b c)

-- the book after a list of calls
abbrev pub book_from : Book → List Call → Book
book_from b [] = b
book_from b (c ∷ cs) = book_from (book_step b c) cs

-- the book of a sheet made from k that has had the calls cs
abbrev pub book_of : Make → List Call → Book
book_of k cs = book_from (first_book k) cs

-- ── settles ──

-- a settle, by settle or by turn
abbrev pub is_settle : Call → Bool
is_settle (OPEN q) = false
is_settle (POST q i x) = false
is_settle (WITHDRAW q) = false
is_settle (SETTLE q) = true
is_settle (BOOK q x) = false
is_settle (TURN q d) = true
is_settle (RESULT q) = false
is_settle (LINE q r) = false

-- a settle or a turn that is not refused
pub record Settles (b : Book) (c : Call) : Type 0 where
  pub is_one : is_settle c ≡ true
  pub goes_through : refusal b c ≡ none

-- the sort before open, or at rest; a settle has a trace where this is settled
abbrev pub sort_before : State → Resting
sort_before (rests r) = r
sort_before (open_since r is) = r

-- the inputs that open noted, or those at rest
abbrev pub noted_at : State → List InputContent → List InputContent
noted_at (rests r) is = is
noted_at (open_since r js) is = js

-- the inputs that the trace stands on, where there is one
abbrev pub noted : Book → List InputContent
noted b = noted_at b.state b.inputs
