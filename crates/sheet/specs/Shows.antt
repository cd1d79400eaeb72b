-- What a sheet means: its book, and the trace that stands on it.
use Rattle.std.specs.Prelude.{◌≡◌, ℕ, ◌+◌, ◌≤◌, Bool, true, false, ◌&&◌, List, [], take, ◌==◌, slice_index_or}
use Rattle.std.proofs.Math.Option.{Option, some, none}
use Rattle.program.specs.declared.program.Program.{Program}
use Rattle.program.specs.View.{viewed}
use Rattle.program.specs.declared.value.InputContent.{InputContent}
use Rattle.program.specs.declared.value.InputContent.TheVariants.{Empty}
use Rattle.trace.specs.Trace.{Trace, size}
use Rattle.trace.specs.Run.{Stands}
use Rattle.history.specs.Calls.{Make, settled, unsettled}
use Rattle.history.specs.Book as book
use Rattle.history.specs.Book.{Book, rests, open_since}
use Rattle.history.specs.Sheet as history
use Rattle.order_list.specs.declared.list.OrderList.{Ghosts}
use Rattle.table.specs.Anew.{nothing, Holding}
use Rattle.sheet.specs.declared.sheet.State.{State}
use Rattle.sheet.specs.declared.sheet.State.TheVariants.{Unsettled, Settled, Open}
use Rattle.sheet.specs.declared.sheet.Sheet.{Sheet}

-- a sheet as its calls show it
abbrev pub Model : Type 0
Model = history.Sheet

-- ── the book ──

-- how many inputs a program has
abbrev pub count_of_inputs : Program → ℕ
count_of_inputs p = p.numbers + p.lists

-- what make was given
abbrev pub made_of : {X : Type 0} → Sheet X → Make
made_of s = record { program = viewed s.program; number = s.number; limit = s.limit.value }

-- the state; js are the inputs that open noted
abbrev pub state_of : State → List InputContent → book.State
state_of Unsettled js = rests unsettled
state_of Settled js = rests settled
state_of Open js = open_since unsettled js

-- whether two states are the same
abbrev pub same_state : State → State → Bool
same_state Unsettled Unsettled = true
same_state Unsettled Settled = false
same_state Unsettled Open = false
same_state Settled Unsettled = false
same_state Settled Settled = true
same_state Settled Open = false
same_state Open Unsettled = false
same_state Open Settled = false
same_state Open Open = true

-- whether the sheet takes a pass of the number n that goes with the state k
abbrev pub takes_pass : {X : Type 0} → Sheet X → ℕ → State → Bool
takes_pass s n k = n == s.number && same_state k s.state

-- the book that a sheet keeps
abbrev pub kept_book : {X : Type 0} → Sheet X → Book
kept_book s = record {
  made_of = made_of s;
  state = state_of s.state (take (count_of_inputs s.program) s.table.noted);
  inputs = take (count_of_inputs s.program) s.table.inputs;
  bookings = [];
}

-- ── the trace ──

-- the trace in the table and the list, where there is none too
abbrev pub held : Option Trace → Trace
held none = nothing
held (some t) = t

-- a settled sheet has a trace, which stands on its inputs with at most L records; any other has none
abbrev pub Traced : State → Book → Option Trace → Type 0
Traced Unsettled b o = o ≡ none
Traced Open b o = o ≡ none
Traced Settled b none = ⊥
Traced Settled b (some t) = Stands b.made_of.program b.inputs t × (size t ≤ b.made_of.limit)

-- behind the inputs of a program the table has none
abbrev pub RestEmpty : ℕ → List InputContent → Type 0
RestEmpty n is = (k : ℕ) → n ≤ k → slice_index_or is k Empty ≡ Empty

-- `Shows g s m`: the sheet s, over an order list whose meaning is g, shows the model m. The table and the list hold the model's trace: the list
-- has the base and then the two stamps of each standing record in time order
pub record Shows {X : Type 0} (g : Ghosts X) (s : Sheet X) (m : Model) : Type 0 where
  pub keeps : m.keeps ≡ kept_book s
  pub holding : Holding g s.limit.value s.table s.list (held m.trace)
  pub traced : Traced s.state m.keeps m.trace
  pub rest : RestEmpty (count_of_inputs s.program) s.table.inputs
  pub noted_rest : RestEmpty (count_of_inputs s.program) s.table.noted
