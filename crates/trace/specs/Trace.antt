-- The trace of a run: its records as one tree, in the order in which they begin.
use Rattle.std.specs.Prelude.{cond, List, [], ◌∷◌, ◌++◌, ◌≡◌, ◌⊎◌, ◌≢◌, ℕ, suc, ◌+◌, eqb}
use Rattle.program.specs.declared.value.Name.{Name}
use Rattle.program.specs.declared.value.Name.TheVariants.{Input, Made}
use Rattle.program.specs.declared.value.Content.{Content}
use Rattle.program.specs.declared.value.Value.{Value}
use Rattle.trace.specs.Code.{Reader}

-- the trace of code, up to the write that ends it; a record stands at a place, which names it while it stands
--   write x                 the code wrote x to its destination
--   new n f vs inner rest   the record at place n, a NEW: f, with arguments vs, wrote its modifiable, and `inner` is the
--                           trace of that; `rest` came behind it
--   read n s b x rest       the record at place n, a read: the GET or CAS of the source s took x, and its reader b went on;
--                           all the rest is inside it, since a read ends when the destination is written
pub data Trace : Type 0 where
  write : Content → Trace
  new : ℕ → ℕ → List Value → Trace → Trace → Trace
  read : ℕ → Name → Reader → Content → Trace → Trace

-- what was written to the destination
abbrev pub written : Trace → Content
written (write x) = x
written (new n f vs inner rest) = written rest
written (read n s b x rest) = written rest

-- how many records stand
abbrev pub size : Trace → ℕ
size (write x) = 0
size (new n f vs inner rest) = suc (size inner + size rest)
size (read n s b x rest) = suc (size rest)

-- how many of them are reads
abbrev pub count_reads : Trace → ℕ
count_reads (write x) = 0
count_reads (new n f vs inner rest) = count_reads inner + count_reads rest
count_reads (read n s b x rest) = suc (count_reads rest)

-- the places of the records, in the order in which they begin
abbrev pub places : Trace → List ℕ
places (write x) = []
places (new n f vs inner rest) = n ∷ (places inner ++ places rest)
places (read n s b x rest) = n ∷ places rest

-- n is one of the places
abbrev pub Among : ℕ → List ℕ → Type 0
Among n [] = ⊥
Among n (p ∷ ps) = (n ≡ p) ⊎ Among n ps

-- n is none of the places
abbrev pub Absent : ℕ → List ℕ → Type 0
Absent n [] = Unit {0}
Absent n (p ∷ ps) = (n ≢ p) × Absent n ps

-- no place occurs twice
abbrev pub Distinct : List ℕ → Type 0
Distinct [] = Unit {0}
Distinct (p ∷ ps) = Absent p ps × Distinct ps

-- none of the places ps is one of the old
abbrev pub Fresh : List ℕ → List ℕ → Type 0
Fresh old [] = Unit {0}
Fresh old (p ∷ ps) = Absent p old × Fresh old ps

-- a stamp: the start or the end of the record at a place
pub data Stamp : Type 0 where
  start end : ℕ → Stamp

-- the stamps in time order, two for each record; of the ends at one write the inner stands before the outer
abbrev pub stamps : Trace → List Stamp
stamps (write x) = []
stamps (new n f vs inner rest) = start n ∷ (stamps inner ++ (end n ∷ stamps rest))
stamps (read n s b x rest) = start n ∷ (stamps rest ++ (end n ∷ []))

-- a store: what each modifiable holds
abbrev pub Store : Type 0
Store = Name → Content

-- the modifiable of the record at n holds x, and every other what it held
abbrev pub put : Store → ℕ → Content → Store
put σ n x (Input k) = σ (Input k)
put σ n x (Made m) = cond (eqb m n) x (σ (Made m))

-- the store when the code of a trace has run: each NEW inside has written its modifiable
abbrev pub after : Trace → Store → Store
after (write x) σ = σ
after (new n f vs inner rest) σ = after rest (put (after inner σ) n (written inner))
after (read n s b x rest) σ = after rest σ
