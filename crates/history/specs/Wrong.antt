-- Sheets that are wrong, and of which the law cannot hold.
use Rattle.std.specs.Prelude.{◌≡◌, ℕ}
use Rattle.std.proofs.Math.Option.{Option, some, none}
use Rattle.trace.specs.Trace.{Trace, write, new, read, places, Distinct}
use Rattle.trace.specs.Run.{initial}
use Rattle.trace.specs.Listing.{lines}
use Rattle.trace.specs.Turns.{Turns}
use Rattle.history.specs.Calls.{Pass, settled, Answer, done, too_large}
use Rattle.history.specs.Book.{Book, plain_run_of, sort_before}
use Rattle.history.specs.Sheet.{Sheet, shown_lines}
use Rattle.history.specs.History.{AtSettle}

-- one that says too large where the plain run is not
abbrev pub AlwaysTooLarge : Type 0
AlwaysTooLarge = (b₀ b : Book) (s₀ s : Sheet) (q : Pass) (t : Trace) → plain_run_of b ≡ some t → ¬ (AtSettle b₀ b s₀ (too_large q) s)

-- one that shows other lines than the plain run's, as one that repeats what it held
abbrev pub RepeatsItself : Type 0
RepeatsItself = (b₀ b : Book) (s₀ s : Sheet) (a : Answer) (t : Trace) → plain_run_of b ≡ some t → ¬ (shown_lines s.trace ≡ lines 0 0 t) → ¬ (AtSettle b₀ b s₀ a s)

-- the place of the first record
abbrev pub first_place : Trace → Option ℕ
first_place (write x) = none
first_place (new n f vs inner rest) = some n
first_place (read n s b x rest) = some n

-- one that had a trace and moved its first record, as one that runs all anew
abbrev pub RunsAnew : Type 0
RunsAnew = (b₀ b : Book) (s₀ s : Sheet) (a : Answer) (t u v : Trace) → sort_before b₀.state ≡ settled → plain_run_of b ≡ some v →
    s₀.trace ≡ some t → s.trace ≡ some u → ¬ (first_place t ≡ first_place u) → ¬ (AtSettle b₀ b s₀ a s)

-- one that answers other numbers than those of settling by turns
abbrev pub InventsCounts : Type 0
InventsCounts = (b₀ b : Book) (s₀ s : Sheet) (q : Pass) (mark e m z f n : ℕ) (t u v : Trace) → sort_before b₀.state ≡ settled → plain_run_of b ≡ some v →
    s₀.trace ≡ some t → Turns b.made_of.program (places t) (initial b.inputs) t u f n → Distinct (places u) → ¬ ((e ≡ f) × (m ≡ n)) → ¬ (AtSettle b₀ b s₀ (done mark e m z q) s)
