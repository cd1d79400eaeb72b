-- The calls of a sheet, what they are given and what they answer.
use Rattle.std.proofs.Math.Option.{Option, some, none}
use Rattle.std.specs.Prelude.{ℕ, ℤ}
use Rattle.program.specs.View.{View}
use Rattle.program.specs.declared.value.Content.{Content}
use Rattle.program.specs.declared.value.Content.TheVariants.{Number, Empty, Cell}
use Rattle.program.specs.declared.value.InputContent.{InputContent}
use Rattle.trace.specs.Listing.{Line, listed_name}

-- a sheet at rest is settled, with a trace that stands, or unsettled, without one
pub data Resting : Type 0 where
  settled unsettled : Resting

-- the sort of a pass, and of the sheet that takes it: at rest, or open
pub data Sort : Type 0 where
  resting : Resting → Sort
  opened : Sort

-- a pass bears the number of its sheet
pub record Pass : Type 0 where
  pub sort : Sort
  pub number : ℕ

-- what make is given: a checked program, the sheet's number, and the limit L
pub record Make : Type 0 where
  pub program : View
  pub number : ℕ
  pub limit : ℕ

-- a booking: on this day this input is to be set to this content
pub record Booking : Type 0 where
  pub day : ℕ
  pub input : ℕ
  pub content : InputContent

-- the calls on a sheet that was made; each is given a pass
pub data Call : Type 0 where
  OPEN : Pass → Call
  POST : Pass → ℕ → InputContent → Call
  WITHDRAW : Pass → Call
  SETTLE : Pass → Call
  BOOK : Pass → Booking → Call
  TURN : Pass → ℕ → Call
  RESULT : Pass → Call
  LINE : Pass → ℕ → Call

-- why a call is refused
--   wrong_pass      the pass bears another number, or the sheet is in another state
--   no_such_input   there is no such input
--   other_kind      a content of the other kind
--   wrong_cell      a cell naming an input that is missing or of the wrong kind
--   bookings_full   64 bookings wait, and none has this day and input
--   no_such_line    no record has this number
pub data Refusal : Type 0 where
  wrong_pass no_such_input other_kind wrong_cell bookings_full no_such_line : Refusal

abbrev pub refusal_number : Refusal → ℕ
refusal_number wrong_pass = 13
refusal_number no_such_input = 14
refusal_number other_kind = 15
refusal_number wrong_cell = 16
refusal_number bookings_full = 17
refusal_number no_such_line = 24

-- a content as the listing names it: input k is k, the modifiable of record r is 1000 + r
pub data Shown : Type 0 where
  shown_number : ℤ → Shown
  shown_empty : Shown
  shown_cell : ℕ → ℕ → Shown

abbrev pub show : Content → Shown
show (Number z) = shown_number z
show Empty = shown_empty
show (Cell h t) = shown_cell (listed_name h) (listed_name t)

-- what a call answers
--   refused r          why it is refused; the pass is handed back, and nothing has changed
--   gives q            the pass that goes on: of open, post, withdraw and book
--   done mark e m s q  of a settle or a turn: mark 1 by turns, 2 run anew; E, M, S, and a settled pass
--   too_large q        of a settle or a turn: the plain run makes more than L records; an unsettled pass
--   content x          of result
--   line l             of line
pub data Answer : Type 0 where
  refused : Refusal → Answer
  gives : Pass → Answer
  done : (mark e m s : ℕ) → Pass → Answer
  too_large : Pass → Answer
  content : Shown → Answer
  line : Line → Answer

-- the number that a call is refused with, or 21 for too large; none where it is served
abbrev pub told_number : Answer → Option ℕ
told_number (refused r) = some (refusal_number r)
told_number (gives q) = none
told_number (done mark e m s q) = none
told_number (too_large q) = some 21
told_number (content x) = none
told_number (line l) = none
