-- How a table and an order list hold a trace.
use Rattle.std.specs.Prelude.{◌≡◌, ℕ, ◌+◌, ◌*◌, ◌<◌, ◌≤◌, ◌≢◌, List, ◌∷◌, map, ◌==◌, slice_index, slice_index_or}
use Rattle.program.specs.declared.value.Name.TheVariants.{Input, Made}
use Rattle.program.specs.declared.value.InputContent.{InputContent}
use Rattle.program.specs.declared.value.InputContent.TheVariants.{Empty as empty}
use Rattle.trace.specs.Trace.{Trace, write, new, read, written, size, places, Stamp, start, end, stamps, Store, Absent, Distinct}
use Rattle.trace.specs.Run.{content_of_input}
use Rattle.order_list.specs.Order.{has}
use Rattle.table.specs.declared.record.Record.{Record}
use Rattle.table.specs.declared.record.Entry.TheVariants.{Blank}
use Rattle.table.specs.declared.table.Table.{Table}
use Rattle.table.specs.Records.{blank, a_new, a_read, sort, content_inside, source_of}
use Rattle.table.specs.Rings.{Rings}

-- what stands at each place
abbrev pub Places : Type 0
Places = ℕ → Record

abbrev pub at : Table → Places
at t p = slice_index_or t.records p blank

-- the place whose record has a stamp
abbrev pub owner : Table → ℕ → ℕ
owner t k = slice_index t.owners k

-- what each modifiable holds, with the inputs `is` and these records
abbrev pub held_in : List InputContent → Places → Store
held_in is ρ (Input k) = content_of_input (slice_index_or is k empty)
held_in is ρ (Made n) = content_inside (ρ n).entry

abbrev pub store : Table → Store
store t = held_in t.inputs (at t)

-- each record of a trace stands at its place; d is the place of the NEW that the trace writes
abbrev pub Shape : Places → ℕ → Trace → Type 0
Shape ρ d (write x) = Unit {0}
Shape ρ d (new n f vs inner rest) = (sort (ρ n).entry ≡ a_new f vs) × Shape ρ n inner × Shape ρ d rest
Shape ρ d (read n s b x rest) = (sort (ρ n).entry ≡ a_read s b x d) × Shape ρ d rest

-- the store has, for each NEW of the trace, what was written to its modifiable
abbrev pub Holds : Store → Trace → Type 0
Holds σ (write x) = Unit {0}
Holds σ (new n f vs inner rest) = (σ (Made n) ≡ written inner) × Holds σ inner × Holds σ rest
Holds σ (read n s b x rest) = Holds σ rest

-- the member of the order list that is a stamp
abbrev pub stamp_in : Places → Stamp → ℕ
stamp_in ρ (start n) = (ρ n).start
stamp_in ρ (end n) = (ρ n).end

-- the stamps of a trace, in time order
abbrev pub numbers : Places → Trace → List ℕ
numbers ρ t = map (stamp_in ρ) (stamps t)

-- each stamp of a trace is told to be that of its record
abbrev pub Owned : (ℕ → ℕ) → Places → Trace → Type 0
Owned own ρ (write x) = Unit {0}
Owned own ρ (new n f vs inner rest) = (own (ρ n).start ≡ n) × (own (ρ n).end ≡ n) × Owned own ρ inner × Owned own ρ rest
Owned own ρ (read n s b x rest) = (own (ρ n).start ≡ n) × (own (ρ n).end ≡ n) × Owned own ρ rest

-- the free places: each is blank, and on the stack once
pub record Free (t : Table) : Type 0 where
  pub below : (i : ℕ) → i < t.spares → slice_index t.spare i < 1024
  pub blank : (i : ℕ) → i < t.spares → (at t (slice_index t.spare i)).entry ≡ Blank
  pub apart : (i j : ℕ) → i < j → j < t.spares → slice_index t.spare i ≢ slice_index t.spare j

-- the readers of each source are the places whose record reads it
pub record Tied (t : Table) : Type 0 where
  pub readers : ℕ → List ℕ
  pub rings : Rings t.readers readers
  pub exact : (s : ℕ) → s < 1280 → (k : ℕ) → has (readers s) k ≡ (source_of (at t k).entry == s)

-- `Standing L c t xs u`: with the limit L, the table t and the order list xs of the capacity c hold the trace u and nothing else. Its
-- records stand at their places, and all other places are blank; so of the 2L places those that it does not take are free.
-- The list has the base, and then its stamps in time order
pub record Standing (L c : ℕ) (t : Table) (xs : List ℕ) (u : Trace) : Type 0 where
  pub shape : Shape (at t) 1024 u
  pub holds : Holds (store t) u
  pub apart : Distinct (places u)
  pub only : (q : ℕ) → Absent q (places u) → (at t q).entry ≡ Blank
  pub listed : xs ≡ 0 ∷ numbers (at t) u
  pub owned : Owned (owner t) (at t) u
  pub free : Free t
  pub counted : t.spares + size u ≡ 2 * L
  pub tied : Tied t
  pub wide : 4 * L + 1 ≤ c
