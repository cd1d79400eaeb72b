-- Runs: which trace a program leaves on its inputs, as a relation and computed.
use Rattle.std.specs.Prelude.{◌≡◌, cond, List, ℕ, zero, suc, ◌+◌, leb, get_or}
use Rattle.std.proofs.Math.Option.{Option, some, none}
use Rattle.program.specs.View.{View}
pub use Rattle.program.specs.Contents.{content_of_input}
use Rattle.program.specs.declared.value.Name.TheVariants.{Input, Made}
use Rattle.program.specs.declared.value.Content.TheVariants.{Empty}
use Rattle.trace.specs.Code.{Code, Next, writes, makes, reads, next, resume, enter, entered, arguments, main}
use Rattle.trace.specs.Trace.{Trace, write, new, read, written, size, places, Store, put, after, Distinct}
use Rattle.program.specs.declared.value.InputContent.{InputContent}
use Rattle.program.specs.declared.value.InputContent.TheVariants.{Empty as empty}

module _ (P : View) where
  -- `Follows t c`: the trace t is what the code c leaves, given the contents that its reads took
  abbrev pub Follows : Trace → Code → Type 0
  Follows (write x) c = next P c ≡ writes x
  Follows (new n f vs inner rest) c =
      (k : Code) × (next P c ≡ makes f vs k) × Follows inner (enter P f vs) × Follows rest (resume k n)
  Follows (read n s b x rest) c = (next P c ≡ reads s b) × Follows rest (enter P (entered b x) (arguments b x))

-- from the store σ each read of the trace is kept: it took what its source holds when it begins
abbrev pub Kept : Trace → Store → Type 0
Kept (write x) σ = Unit {0}
Kept (new n f vs inner rest) σ = Kept inner σ × Kept rest (put (after inner σ) n (written inner))
Kept (read n s b x rest) σ = (σ s ≡ x) × Kept rest σ

-- the run of the code c from the store σ leaves the trace t
pub record Run (P : View) (c : Code) (σ : Store) (t : Trace) : Type 0 where
  pub follows : Follows P t c
  pub all_kept : Kept t σ

-- ── inputs ──

-- the store in which a run on the inputs begins: each input has its content, one that is not there (unreachable: a sound program names
-- inputs that are there) is empty, and nothing is made, so that what a `Made n` holds is never read
abbrev pub initial : List InputContent → Store
initial is (Input k) = content_of_input (get_or is k empty)
initial is (Made n) = Empty

-- `Stands P is t`: the trace t stands on the inputs `is`: it is the trace of a whole run on them, each record at a place of
-- its own
pub record Stands (P : View) (is : List InputContent) (t : Trace) : Type 0 where
  pub follows : Follows P t (main P)
  pub all_kept : Kept t (initial is)
  pub apart : Distinct (places t)

-- ── the plain run ──

-- a trace, if there is one, taken further
abbrev pub bind : Option Trace → (Trace → Option Trace) → Option Trace
bind none k = none
bind (some t) k = k t

-- the trace of code that does this next, from the store σ, its records at the places i, i + 1, ..; `below` runs what is inside
-- and behind the first
abbrev pub trace_next : View → (Code → Store → ℕ → Option Trace) → Next → Store → ℕ → Option Trace
trace_next P below (writes x) σ i = some (write x)
trace_next P below (makes f vs k) σ i =
    bind (below (enter P f vs) σ (suc i)) λ inner.
    bind (below (resume k i) (put (after inner σ) i (written inner)) (suc i + size inner)) λ rest.
    some (new i f vs inner rest)
trace_next P below (reads s b) σ i =
    bind (below (enter P (entered b (σ s)) (arguments b (σ s))) σ (suc i)) λ rest.
    some (read i s b (σ s) rest)

-- the trace that the code leaves from the store σ, its records at the places i, i + 1, ..; none where a path down the tree has d
-- records or more
abbrev pub trace_of : View → ℕ → Code → Store → ℕ → Option Trace
trace_of P zero c σ i = none
trace_of P (suc d) c σ i = trace_next P (trace_of P d) (next P c) σ i

-- a trace of at most L records, or none
abbrev pub at_most : ℕ → Trace → Option Trace
at_most L t = cond (leb (size t) L) (some t) none

-- the plain run: its trace, record r at place r, or none where the run makes more than L records (which a run without end does)
abbrev pub plain_run : ℕ → View → List InputContent → Option Trace
plain_run L P is = bind (trace_of P (suc L) (main P) (initial is) 0) (at_most L)
