-- The laws of plain runs and of settling by turns.
use Rattle.std.specs.Prelude.{◌≡◌, cond, List, [], ◌∷◌, map, ◌↔◌, ℕ, suc, ◌+◌, ◌≤◌, ◌<◌, eqb, ℤ, pos, length, get_or}
use Rattle.std.proofs.Math.Option.{some, none}
use Rattle.program.specs.View.{View}
use Rattle.trace.specs.Trace.{Trace, size, count_reads, places, Stamp, start, end, stamps, Distinct, Store}
use Rattle.trace.specs.Run.{Kept, initial, Stands, plain_run}
use Rattle.program.specs.declared.value.InputContent.{InputContent}
use Rattle.trace.specs.Listing.{canonical, Line, listing, lines, result, result_of}
use Rattle.trace.specs.Turns.{Turns, ReadOut, ReExecutions}
use Rattle.trace.specs.Over.{BeginsMore}

-- ── the plain run ──

-- what a trace t of at most L records shows where t₁ is the plain run: the same records, each at its number, so the same listing,
-- result and size
pub record Shows (t t₁ : Trace) : Type 0 where
  pub records : canonical t ≡ t₁
  pub lists : listing t ≡ lines 0 0 t₁
  pub results : result t ≡ result_of t₁
  pub sizes : size t ≡ size t₁

-- every trace that stands shows the plain run, wherever its records stand; it is too large exactly beyond L records
abbrev pub ShowsThePlainRun : Type 0
ShowsThePlainRun = (P : View) (is : List InputContent) (t : Trace) (L : ℕ) → Stands P is t →
    ((size t ≤ L) ↔ (plain_run L P is ≡ some (canonical t))) ×
    ((L < size t) ↔ (plain_run L P is ≡ none)) ×
    ((t₁ : Trace) → plain_run L P is ≡ some t₁ → Shows t t₁)

-- the plain run stands, with at most L records
abbrev pub PlainRunStands : Type 0
PlainRunStands = (L : ℕ) (P : View) (is : List InputContent) (t : Trace) → plain_run L P is ≡ some t → Stands P is t × (size t ≤ L)

-- the plain run is too large exactly where the run begins more than L records, whether or not it ends; and exactly where no trace
-- of L records or fewer stands: a run without end leaves none, and is too large for every L
abbrev pub TooLargeMeans : Type 0
TooLargeMeans = (L : ℕ) (P : View) (is : List InputContent) →
    ((plain_run L P is ≡ none) ↔ BeginsMore L P is) ×
    ((plain_run L P is ≡ none) ↔ ((t : Trace) → Stands P is t → L < size t))

-- the listing has a line for each record that stands, so that its lines are numbered below S
abbrev pub OneLineEach : Type 0
OneLineEach = (t : Trace) → length (listing t) ≡ size t

-- ── stamps ──

-- the places of the records whose starts are in a list of stamps, in its order
abbrev pub starts : List Stamp → List ℕ
starts [] = []
starts (start n ∷ ss) = n ∷ starts ss
starts (end n ∷ ss) = starts ss

-- two stamps for each record, the starts in the order in which the records begin
abbrev pub TwoStampsEach : Type 0
TwoStampsEach = (t : Trace) → (starts (stamps t) ≡ places t) × (length (stamps t) ≡ size t + size t)

-- how many records start before the record at n ends: the number of the first record behind its end
abbrev pub first_behind : List Stamp → ℕ → ℕ
first_behind [] n = 0
first_behind (start m ∷ ss) n = suc (first_behind ss n)
first_behind (end m ∷ ss) n = cond (eqb n m) 0 (first_behind ss n)

-- the e of a line
abbrev pub end_told : Line → ℤ
end_told l = get_or l.numbers 1 (pos 0)

-- the lines tell for each record, in order, the first record behind its end
abbrev pub LinesTellEnds : Type 0
LinesTellEnds = (t : Trace) → Distinct (places t) → map end_told (listing t) ≡ map (λ (n : ℕ). pos (first_behind (stamps t) n)) (places t)

-- ── settling by turns ──

-- what the turns leave, from a trace that stood on other inputs, stands on these inputs
abbrev pub TurnsLeaveARun : Type 0
TurnsLeaveARun = (P : View) (is js : List InputContent) (t u : Trace) (e m : ℕ) →
    Stands P is t → Turns P (places t) (initial js) t u e m → Distinct (places u) → Stands P js u

-- settling by turns is re-executing the earliest stale read until none is stale, with the same E and M
abbrev pub ReExecutingIsSettling : Type 0
ReExecutingIsSettling = (P : View) (old : List ℕ) (σ : Store) (t u : Trace) (e m : ℕ) →
    (ReExecutions P old σ t u e m × Kept u σ) ↔ Turns P old σ t u e m

-- and that ends: there are at most as many re-executions as reads that stood
abbrev pub ReExecutingEnds : Type 0
ReExecutingEnds = (P : View) (old : List ℕ) (σ : Store) (t u : Trace) (e m : ℕ) → ReExecutions P old σ t u e m → e ≤ count_reads t

-- a settle by turns of the trace t on the inputs js, with at most L records standing afterwards
pub record ASettle (L : ℕ) (P : View) (js : List InputContent) (t : Trace) : Type 0 where
  pub leaves : Trace
  pub e : ℕ
  pub m : ℕ
  pub turns : Turns P (places t) (initial js) t leaves e m
  pub apart : Distinct (places leaves)
  pub fits : size leaves ≤ L

-- there is one wherever the plain run is not too large
abbrev pub SettlingExists : Type 0
SettlingExists = (L : ℕ) (P : View) (is js : List InputContent) (t : Trace) → Stands P is t →
    ¬ (plain_run L P js ≡ none) → ASettle L P js t

-- E and M do not depend on which places new records take
abbrev pub TurnsCountAlike : Type 0
TurnsCountAlike = (P : View) (is js : List InputContent) (t u u' : Trace) (e e' m m' : ℕ) → Stands P is t →
    Turns P (places t) (initial js) t u e m → Distinct (places u) →
    Turns P (places t) (initial js) t u' e' m' → Distinct (places u') → (e ≡ e') × (m ≡ m')

-- nor on where the old ones stood: they are those of settling the plain run's own trace
abbrev pub CountsOfThePlainRun : Type 0
CountsOfThePlainRun = (L : ℕ) (P : View) (is js : List InputContent) (t u t₁ u₁ : Trace) (e m e₁ m₁ : ℕ) →
    Stands P is t → size t ≤ L → Turns P (places t) (initial js) t u e m → Distinct (places u) →
    plain_run L P is ≡ some t₁ → Turns P (places t₁) (initial js) t₁ u₁ e₁ m₁ → Distinct (places u₁) →
    (e₁ ≡ e) × (m₁ ≡ m)

-- each re-executed read and each record outside them keeps its place, and E and M count what they say
abbrev pub KeepsPlaces : Type 0
KeepsPlaces = (P : View) (old : List ℕ) (σ : Store) (t u : Trace) (e m : ℕ) (w : Turns P old σ t u e m) → ReadOut w

-- a settle without any changed input leaves the trace as it is, with E 0 and M 0
abbrev pub UnchangedInputs : Type 0
UnchangedInputs = (P : View) (is : List InputContent) (t u : Trace) (e m : ℕ) → Stands P is t →
    Turns P (places t) (initial is) t u e m → (u ≡ t) × (e ≡ 0) × (m ≡ 0)
