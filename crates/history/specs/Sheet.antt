-- A sheet as its calls show it, and what each call does to it: the relation that the calls' contracts ensure.
use Rattle.std.specs.Prelude.{◌≡◌, List, [], ◌⊎◌, ℕ, ◌≤◌, get_or}
use Rattle.std.proofs.Math.Option.{Option, some, none}
use Rattle.text.specs.declared.line.Word.TheVariants as w
use Rattle.program.specs.declared.value.Content.TheVariants.{Empty}
use Rattle.trace.specs.Trace.{Trace, size, places}
use Rattle.trace.specs.Run.{initial, Stands, plain_run}
use Rattle.trace.specs.Listing.{Line, listing, result}
use Rattle.trace.specs.Turns.{Turns}
use Rattle.history.specs.Calls.{Resting, settled, unsettled, Pass, Make, Call, OPEN, POST, WITHDRAW, SETTLE, BOOK, TURN, RESULT, LINE, Refusal, Answer, refused, gives, done, too_large, content, line, Shown, show}
use Rattle.history.specs.Book.{Book, rests, first_book, refusal, change, with_state, day_turned, sort_of}

-- a sheet: its book, and the trace that stands on it, if there is one
pub record Sheet : Type 0 where
  pub keeps : Book
  pub trace : Option Trace

-- a sheet just made
abbrev pub fresh : Make → Sheet
fresh k = record { keeps = first_book k; trace = none }

-- ── readings ──

-- the result; without a trace there is none, and no pass to read it with
abbrev pub shown_result : Option Trace → Shown
shown_result none = show Empty
shown_result (some t) = show (result t)

-- the lines
abbrev pub shown_lines : Option Trace → List Line
shown_lines none = []
shown_lines (some t) = listing t

-- behind the last line there is none, and reading it is refused
abbrev pub no_line : Line
no_line = record { word = w.New; numbers = [] }

-- S: how many records stand
abbrev pub standing_count : Option Trace → ℕ
standing_count none = 0
standing_count (some t) = size t

-- ── settling ──

-- the sheet at rest with this trace
abbrev pub at_rest_as : Resting → Book → Option Trace → Sheet
at_rest_as r b t = record { keeps = with_state b (rests r); trace = t }

-- the pass that the sheet of this book takes
abbrev pub pass_of : Book → Pass
pass_of b = record { sort = sort_of b.state; number = b.made_of.number }

-- `Worked b old u mark e m`: with an old trace its records had their turns, mark 1; without one all was run anew, mark 2
abbrev pub Worked : Book → Option Trace → Trace → ℕ → ℕ → ℕ → Type 0
Worked b none u mark e m = (mark ≡ 2) × (e ≡ 0) × (m ≡ size u)
Worked b (some t) u mark e m = (mark ≡ 1) × Turns b.made_of.program (places t) (initial b.inputs) t u e m

-- a settle of the book b, from the trace `old`: the new trace stands on the book's inputs, with at most L records
pub record SettledSo (b : Book) (old : Option Trace) (a : Answer) (s : Sheet) : Type 0 where
  pub new_trace : Trace
  pub stands : Stands b.made_of.program b.inputs new_trace
  pub fits : size new_trace ≤ b.made_of.limit
  pub mark : ℕ
  pub e : ℕ
  pub m : ℕ
  pub worked : Worked b old new_trace mark e m
  pub leaves : s ≡ at_rest_as settled b (some new_trace)
  pub answers : a ≡ done mark e m (size new_trace) (pass_of s.keeps)

-- a settle of the book b that is too large: the trace is gone, and the pass is unsettled
pub record FoundTooLarge (b : Book) (a : Answer) (s : Sheet) : Type 0 where
  pub none_so_small : plain_run b.made_of.limit b.made_of.program b.inputs ≡ none
  pub leaves : s ≡ at_rest_as unsettled b none
  pub answers : a ≡ too_large (pass_of s.keeps)

-- a settle of the book b, from the trace `old`
abbrev pub Settled : Book → Option Trace → Answer → Sheet → Type 0
Settled b old a s = FoundTooLarge b a s ⊎ SettledSo b old a s

-- ── the calls ──

-- a call that changes the book alone, and gives a pass of the state that it leaves
pub record KeepsTrace (s : Sheet) (c : Call) (a : Answer) (s' : Sheet) : Type 0 where
  pub leaves : s' ≡ record { keeps = change s.keeps c; trace = s.trace }
  pub answers : a ≡ gives (pass_of s'.keeps)

-- a call that changes nothing and answers x
pub record ChangesNothing (s : Sheet) (x : Answer) (a : Answer) (s' : Sheet) : Type 0 where
  pub leaves : s' ≡ s
  pub answers : a ≡ x

-- a call that is not refused
abbrev pub Serves : Sheet → Call → Answer → Sheet → Type 0
Serves s (OPEN q) a s' = KeepsTrace s (OPEN q) a s'
Serves s (POST q i x) a s' = KeepsTrace s (POST q i x) a s'
Serves s (WITHDRAW q) a s' = KeepsTrace s (WITHDRAW q) a s'
Serves s (SETTLE q) a s' = Settled s.keeps s.trace a s'
Serves s (BOOK q x) a s' = KeepsTrace s (BOOK q x) a s'
Serves s (TURN q d) a s' = Settled (day_turned s.keeps d) s.trace a s'
Serves s (RESULT q) a s' = ChangesNothing s (content (shown_result s.trace)) a s'
Serves s (LINE q r) a s' = ChangesNothing s (line (get_or (shown_lines s.trace) r no_line)) a s'

-- a call that is refused so, or is served
abbrev pub RefusedOr : Option Refusal → Sheet → Call → Answer → Sheet → Type 0
RefusedOr (some r) s c a s' = ChangesNothing s (refused r) a s'
RefusedOr none s c a s' = Serves s c a s'

-- `Does s c a s'`: the call c on the sheet s answers a and leaves s'; what each call's contract ensures
pub record Does (s : Sheet) (c : Call) (a : Answer) (s' : Sheet) : Type 0 where
  pub does : RefusedOr (refusal s.keeps c) s c a s'
