-- Settling by turns, computed: new records take the places i, i + 1, ..
use Rattle.std.specs.Prelude.{Bool, true, false, cond, ◌&&◌, not, List, [], ◌∷◌, ℕ, suc, ◌+◌, eqb, leb, ltb, ℤ, pos, negsuc}
use Rattle.std.proofs.Math.Option.{Option, some, none}
use Rattle.program.specs.View.{View}
use Rattle.program.specs.declared.value.Name.{Name}
use Rattle.program.specs.declared.value.Name.TheVariants.{Input, Made}
use Rattle.program.specs.declared.value.Content.{Content}
use Rattle.program.specs.declared.value.Content.TheVariants.{Number, Empty, Cell}
use Rattle.trace.specs.Code.{Reader, enter, entered, arguments}
use Rattle.trace.specs.Trace.{Trace, write, new, read, written, size, places, Store, put, after}
use Rattle.trace.specs.Run.{trace_of, initial, plain_run}
use Rattle.program.specs.declared.value.InputContent.{InputContent}
use Rattle.trace.specs.Listing.{result}

-- ── equal contents: the same number, both empty, or cells that name the same two modifiables ──

abbrev pub same_number : ℤ → ℤ → Bool
same_number (pos a) (pos b) = eqb a b
same_number (pos a) (negsuc b) = false
same_number (negsuc a) (pos b) = false
same_number (negsuc a) (negsuc b) = eqb a b

abbrev pub same_name : Name → Name → Bool
same_name (Input a) (Input b) = eqb a b
same_name (Input a) (Made b) = false
same_name (Made a) (Input b) = false
same_name (Made a) (Made b) = eqb a b

abbrev pub same : Content → Content → Bool
same (Number a) (Number b) = same_number a b
same (Number a) Empty = false
same (Number a) (Cell h t) = false
same Empty (Number b) = false
same Empty Empty = true
same Empty (Cell h t) = false
same (Cell a b) (Number c) = false
same (Cell a b) Empty = false
same (Cell a b) (Cell c d) = same_name a c && same_name b d

-- ── the turns ──

-- what a settle by turns leaves, with its counts
pub record Settle : Type 0 where
  pub trace : Trace
  pub E : ℕ
  pub M : ℕ

-- a settle, if there is one, taken further
abbrev pub bind_settle : Option Settle → (Settle → Option Settle) → Option Settle
bind_settle none k = none
bind_settle (some r) k = k r

-- the stale read at n takes y, and u is the trace of what it runs
abbrev pub re_execution : Option Trace → ℕ → Name → Reader → Content → Option Settle
re_execution none n s b y = none
re_execution (some u) n s b y = some (record { trace = read n s b y u; E = 1; M = size u })

-- the records of a trace have their turns from the store σ; none where a re-executed read has d records or more one inside
-- another
abbrev pub computed_turns : View → ℕ → Trace → Store → ℕ → Option Settle
computed_turns P d (write x) σ i = some (record { trace = write x; E = 0; M = 0 })
computed_turns P d (new n f vs inner rest) σ i =
    bind_settle (computed_turns P d inner σ i) λ r.
    bind_settle (computed_turns P d rest (put (after r.trace σ) n (written r.trace)) (i + r.M)) λ q.
    some (record { trace = new n f vs r.trace q.trace; E = r.E + q.E; M = r.M + q.M })
computed_turns P d (read n s b x rest) σ i = elim (same (σ s) x) [
  | true ↦ bind_settle (computed_turns P d rest σ i) (λ r. some (record { trace = read n s b x r.trace; E = r.E; M = r.M }))
  | false ↦ re_execution (trace_of P d (enter P (entered b (σ s)) (arguments b (σ s))) σ i) n s b (σ s)
]

-- ── settles of one sheet, one after another ──

-- the outcome of a settle: its mark (1 by turns, 2 run anew), E, M, S and the result; or that the plain run is too large
pub data Outcome : Type 0 where
  settled : (mark e m s : ℕ) → Content → Outcome
  too_large : Outcome

-- n is one of the places
abbrev pub occurs : ℕ → List ℕ → Bool
occurs n [] = false
occurs n (p ∷ ps) = cond (eqb n p) true (occurs n ps)

-- no place occurs twice
abbrev pub distinct : List ℕ → Bool
distinct [] = true
distinct (p ∷ ps) = not (occurs p ps) && distinct ps

-- all places are below i
abbrev pub below : ℕ → List ℕ → Bool
below i [] = true
below i (p ∷ ps) = ltb p i && below i ps

-- one outcome more
abbrev pub and_outcome : Outcome → Option (List Outcome) → Option (List Outcome)
and_outcome a none = none
and_outcome a (some outs) = some (a ∷ outs)

-- the outcome of a settle that leaves at most L records, at places of their own, and those of the settles after it
abbrev pub with_outcome : ℕ → Option Settle → (Settle → Option (List Outcome)) → Option (List Outcome)
with_outcome L none more = none
with_outcome L (some r) more = cond (leb (size r.trace) L && distinct (places r.trace))
    (and_outcome (settled 1 r.E r.M (size r.trace) (result r.trace)) (more r)) none

-- the outcomes of settles by turns, on inputs given one after another, from the trace t, whose places are below i; none where one is
-- too large
abbrev pub later_outcomes : ℕ → View → ℕ → Trace → List (List InputContent) → Option (List Outcome)
later_outcomes L P i t [] = some []
later_outcomes L P i t (is ∷ iss) = cond (below i (places t))
    (with_outcome L (computed_turns P (suc L) t (initial is) i) (λ r. later_outcomes L P (i + r.M) r.trace iss)) none

-- the first settle runs anew; where that is too large, no others are looked at
abbrev pub first_outcome : ℕ → View → Option Trace → List (List InputContent) → Option (List Outcome)
first_outcome L P none [] = some (too_large ∷ [])
first_outcome L P none (is ∷ iss) = none
first_outcome L P (some t) iss = and_outcome (settled 2 0 (size t) (size t) (result t)) (later_outcomes L P (size t) t iss)

-- the outcomes of the settles of a new sheet, on the inputs `is` and then on iss
abbrev pub outcomes : ℕ → View → List InputContent → List (List InputContent) → Option (List Outcome)
outcomes L P is iss = first_outcome L P (plain_run L P is) iss
