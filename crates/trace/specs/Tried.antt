-- The tried sheets: the outcomes of their settles, in one table.
use Rattle.std.specs.Prelude.{◌≡◌, List, [], ◌∷◌, ℕ, ◌≤◌, ℤ, pos, negsuc}
use Rattle.std.proofs.Math.Option.{some, none}
use Rattle.text.specs.declared.fields.Kind.TheVariants as k
use Rattle.text.specs.declared.line.Word.TheVariants as w
use Rattle.program.specs.declared.arith.Op.{Op}
use Rattle.program.specs.declared.arith.Op.TheVariants.{Add, Mul, Div}
use Rattle.program.specs.Arith.{applied}
use Rattle.program.specs.View.{LIT, APPLY, NEW, PUT, GET, CAS, View}
use Rattle.program.specs.declared.value.Content.TheVariants.{Number}
use Rattle.trace.specs.Trace.{Trace, size, places}
use Rattle.trace.specs.Run.{initial, Stands, plain_run}
use Rattle.program.specs.declared.value.InputContent.{InputContent}
use Rattle.program.specs.declared.value.InputContent.TheVariants.{Number as number, Empty as empty, Cell as cell}
use Rattle.trace.specs.Listing.{Line, listing, result}
use Rattle.trace.specs.Turns.{Turns}
use Rattle.trace.specs.Computed.{Outcome, settled, too_large, outcomes}

-- `LaterOutcomes L P t iss outs`: from the trace t, settles by turns on the inputs iss, one after another, have the outcomes outs
pub data LaterOutcomes (L : ℕ) (P : View) : Trace → List (List InputContent) → List Outcome → Type 0 where
  no_more : {t : Trace} → LaterOutcomes L P t [] []
  by_turns : {t u : Trace} {is : List InputContent} {iss : List (List InputContent)} {outs : List Outcome} {e m : ℕ} →
      Turns P (places t) (initial is) t u e m → Stands P is u → size u ≤ L → LaterOutcomes L P u iss outs →
      LaterOutcomes L P t (is ∷ iss) (settled 1 e m (size u) (result u) ∷ outs)

-- `Outcomes L P is iss outs`: a new sheet is settled on the inputs `is`, which runs anew, and then on iss, with the outcomes outs
pub data Outcomes (L : ℕ) (P : View) : List InputContent → List (List InputContent) → List Outcome → Type 0 where
  runs_anew : {t : Trace} {is : List InputContent} {iss : List (List InputContent)} {outs : List Outcome} →
      Stands P is t → size t ≤ L → LaterOutcomes L P t iss outs → Outcomes L P is iss (settled 2 0 (size t) (size t) (result t) ∷ outs)
  is_too_large : {is : List InputContent} → plain_run L P is ≡ none → Outcomes L P is [] (too_large ∷ [])

-- `Lists L P is ls`: the run on the inputs `is` has at most L records, and its listing is ls
pub record Lists (L : ℕ) (P : View) (is : List InputContent) (ls : List Line) : Type 0 where
  pub trace : Trace
  pub stands : Stands P is trace
  pub fits : size trace ≤ L
  pub lists : listing trace ≡ ls

-- price times count: INP 2 0; RUN 0 1; FUN 2 2 2; GET 0 1 1; FUN 2 1 2; GET 1 2 0; FUN 2 1 1; MUL 0 1; PUT 2
abbrev pub price_times_count : View
price_times_count = record {
  numbers = 2;
  lists = 0;
  run = 0 ∷ 1 ∷ [];
  functions =
      record { result = k.ModNumber; params = k.ModNumber ∷ k.ModNumber ∷ []; commands = []; tail = GET 0 1 (1 ∷ []) } ∷
      record { result = k.ModNumber; params = k.Number ∷ k.ModNumber ∷ []; commands = []; tail = GET 1 2 (0 ∷ []) } ∷
      record { result = k.ModNumber; params = k.Number ∷ k.Number ∷ []; commands = APPLY Mul 0 1 ∷ []; tail = PUT 2 } ∷ [];
}

-- list sum: INP 2 3; RUN 2; FUN 2 3; CAS 0 1 2; FUN 2; LIT 0; PUT 0; FUN 2 2 3; NEW 0 1; GET 0 3 2; FUN 2 1 2; GET 1 4 0;
-- FUN 2 1 1; ADD 0 1; PUT 2
abbrev pub list_sum : View
list_sum = record {
  numbers = 2;
  lists = 3;
  run = 2 ∷ [];
  functions =
      record { result = k.ModNumber; params = k.ModList ∷ []; commands = []; tail = CAS 0 1 2 [] } ∷
      record { result = k.ModNumber; params = []; commands = LIT (pos 0) ∷ []; tail = PUT 0 } ∷
      record { result = k.ModNumber; params = k.ModNumber ∷ k.ModList ∷ []; commands = NEW 0 (1 ∷ []) ∷ []; tail = GET 0 3 (2 ∷ []) } ∷
      record { result = k.ModNumber; params = k.Number ∷ k.ModNumber ∷ []; commands = []; tail = GET 1 4 (0 ∷ []) } ∷
      record { result = k.ModNumber; params = k.Number ∷ k.Number ∷ []; commands = APPLY Add 0 1 ∷ []; tail = PUT 2 } ∷ [];
}

-- a price and a count
abbrev pub priced : ℕ → ℕ → List InputContent
priced a b = number (pos a) ∷ number (pos b) ∷ []

-- a and b, as a list of two
abbrev pub two_items : ℕ → ℕ → List InputContent
two_items a b = number (pos a) ∷ number (pos b) ∷ cell 0 3 ∷ cell 1 4 ∷ empty ∷ []

-- a alone, as a list of one
abbrev pub one_item : ℕ → ℕ → List InputContent
one_item a b = number (pos a) ∷ number (pos b) ∷ cell 0 3 ∷ empty ∷ empty ∷ []

-- a case: the outcomes of the settles of a sheet; what its first settle lists; or what an operation gives
pub data Case : Type 0 where
  sheet : (L : ℕ) → View → List InputContent → List (List InputContent) → List Outcome → Case
  lines : (L : ℕ) → View → List InputContent → List Line → Case
  operation : Op → ℤ → ℤ → ℤ → Case

-- mark, E, M, S and a number as the result
abbrev pub outcome : (mark e m s r : ℕ) → Outcome
outcome mark e m s r = settled mark e m s (Number (pos r))

abbrev pub cases : List Case
cases =
    lines 3 price_times_count (priced 6 25)
    (record { word = w.New; numbers = pos 0 ∷ pos 3 ∷ pos 0 ∷ pos 1 ∷ pos 150 ∷ pos 0 ∷ pos 1 ∷ [] } ∷
    record { word = w.Get; numbers = pos 1 ∷ pos 3 ∷ pos 0 ∷ pos 1000 ∷ pos 1 ∷ pos 6 ∷ pos 1 ∷ [] } ∷
    record { word = w.Get; numbers = pos 2 ∷ pos 3 ∷ pos 1 ∷ pos 1000 ∷ pos 2 ∷ pos 25 ∷ pos 6 ∷ [] } ∷ []) ∷
    -- input 1 to 30; then input 0 to 5; then input 1 to 31 and back to 30 before one settle
    sheet 3 price_times_count (priced 6 25) (priced 6 30 ∷ priced 5 30 ∷ priced 5 30 ∷ [])
    (outcome 2 0 3 3 150 ∷ outcome 1 1 0 3 180 ∷ outcome 1 1 1 3 150 ∷ outcome 1 0 0 3 150 ∷ []) ∷
    -- input 1 to 9
    sheet 10 list_sum (two_items 7 8) (two_items 7 9 ∷ []) (outcome 2 0 10 10 15 ∷ outcome 1 2 1 10 16 ∷ []) ∷
    -- input 3 to empty
    sheet 10 list_sum (two_items 7 8) (one_item 7 8 ∷ []) (outcome 2 0 10 10 15 ∷ outcome 1 2 0 6 7 ∷ []) ∷
    sheet 9 list_sum (two_items 7 8) [] (too_large ∷ []) ∷
    operation Add (pos 2147483647) (pos 1) (pos 2147483647) ∷
    operation Div (negsuc 6) (pos 2) (negsuc 2) ∷ []

-- a case holds: of runs and of settling by turns, and as computed
abbrev pub Holds : Case → Type 0
Holds (sheet L P is iss outs) = Outcomes L P is iss outs × (outcomes L P is iss ≡ some outs)
Holds (lines L P is ls) = Lists L P is ls
Holds (operation op a b c) = applied op a b ≡ c

abbrev pub EveryHolds : List Case → Type 0
EveryHolds [] = Unit {0}
EveryHolds (c ∷ cs) = Holds c × EveryHolds cs

abbrev pub TriedSheetsHold : Type 0
TriedSheetsHold = EveryHolds cases
