-- What a run leaves, and what it leaves as it was.
use Rattle.std.specs.Prelude.{◌≡◌, ℕ, suc, ◌+◌, ◌*◌, ◌<◌, ◌≤◌, false, ◌≢◌, List, [], ◌∷◌, length, Ok, Err, Result}
use Rattle.program.specs.View.{View}
use Rattle.program.specs.declared.value.Content.{Content}
use Rattle.program.specs.declared.value.Content.TheVariants.{Empty}
use Rattle.trace.specs.Code.{Code, next, makes, enter}
use Rattle.trace.specs.Trace.{Trace, written, places, size, after, Absent, Distinct, Among}
use Rattle.trace.specs.Run.{Run}
use Rattle.trace.specs.Over.{Over}
use Rattle.order_list.specs.Order.{has}
use Rattle.code.specs.Args.{Args}
use Rattle.code.specs.Values.{listed}
use Rattle.table.specs.declared.record.Record.{Record}
use Rattle.table.specs.declared.record.Entry.{Entry}
use Rattle.table.specs.declared.record.Entry.TheVariants.{Blank, New}
use Rattle.table.specs.declared.record.TooLarge.{TooLarge}
use Rattle.table.specs.declared.table.Table.{Table}
use Rattle.table.specs.declared.table.run.Stamped.{Stamped}
use Rattle.table.specs.declared.table.run.Written.{Written}
use Rattle.table.specs.Records.{wrote}
use Rattle.table.specs.Stamps.{Member, Moved}
use Rattle.table.specs.Standing.{at, owner, store, Shape, Holds, Owned, numbers, Free, Tied}
use Rattle.table.specs.Changes.{SameInputs}

-- records may be made, as many as there is room for
pub record Ready (t : Table) : Type 0 where
  pub free : Free t
  pub tied : Tied t

-- a run may begin at the cursor, a member of the list xs of the capacity c: there is room for two stamps of each record
pub record Open (t : Table) (c : ℕ) (xs : List ℕ) (cursor : ℕ) : Type 0 where
  pub ready : Ready t
  pub member : Member xs cursor
  pub stamps : length xs + 2 * t.room ≤ c

-- the record at a place may end at the cursor
pub record Ending (t : Table) (c : ℕ) (xs : List ℕ) (cursor place : ℕ) : Type 0 where
  pub ready : Ready t
  pub member : Member xs cursor
  pub stamps : length xs < c
  pub below : place < 1024
  pub there : (at t place).entry ≢ Blank

-- one place is written
pub record Sets (a b : Table) (n : ℕ) (r : Record) : Type 0 where
  pub here : at b n ≡ r
  pub others : (q : ℕ) → q ≢ n → at b q ≡ at a q
  pub same : SameInputs a b

-- the stamp m is that of the record at n
pub record OwnedBy (a b : Table) (m n : ℕ) : Type 0 where
  pub here : owner b m ≡ n
  pub others : (k : ℕ) → k ≢ m → owner b k ≡ owner a k

-- a record e has begun at the free place n, with its start m directly behind the cursor
pub record HasBegun (a b : Table) (xs ys : List ℕ) (cursor : ℕ) (e : Entry) (n m : ℕ) : Type 0 where
  pub blank : (at a n).entry ≡ Blank
  pub below : n < 1024
  pub sets : Sets a b n (record { entry = e; start = m; end = m })
  pub owns : OwnedBy a b m n
  pub room : suc b.room ≡ a.room
  pub spares : suc b.spares ≡ a.spares
  pub ready : Ready b
  pub moved : Moved xs cursor (m ∷ []) ys m

abbrev pub Begins : Table → Table → List ℕ → List ℕ → ℕ → Entry → Result Stamped TooLarge → Type 0
Begins a b xs ys cursor e (Ok g) = HasBegun a b xs ys cursor e g.place g.stamp
Begins a b xs ys cursor e (Err _) = a.room ≡ 0

-- the record at n has ended, with its end m directly behind the cursor; the modifiable of a NEW holds x
pub record HasEnded (a b : Table) (xs ys : List ℕ) (cursor n : ℕ) (x : Content) (m : ℕ) : Type 0 where
  pub sets : Sets a b n (record { entry = wrote (at a n).entry x; start = (at a n).start; end = m })
  pub owns : OwnedBy a b m n
  pub room : b.room ≡ a.room
  pub spares : b.spares ≡ a.spares
  pub ready : Ready b
  pub moved : Moved xs cursor (m ∷ []) ys m

-- the run of the code c has left a trace at free places, and its stamps directly behind the cursor; all else is as it was. It wrote x to
-- its destination, the modifiable of the NEW at the place d
pub record Ran (P : View) (c : Code) (d : ℕ) (a b : Table) (xs ys : List ℕ) (cursor : ℕ) (x : Content) (cursor' : ℕ) : Type 0 where
  pub trace : Trace
  pub run : Run P c (store a) trace
  pub wrote : written trace ≡ x
  pub shape : Shape (at b) d trace
  pub holds : Holds (store b) trace
  pub stored : store b ≡ after trace (store a)
  pub apart : Distinct (places trace)
  pub fresh : (q : ℕ) → Among q (places trace) → (at a q).entry ≡ Blank
  pub others : (q : ℕ) → Absent q (places trace) → at b q ≡ at a q
  pub same : SameInputs a b
  pub room : b.room + size trace ≡ a.room
  pub spares : b.spares + size trace ≡ a.spares
  pub moved : Moved xs cursor (numbers (at b) trace) ys cursor'
  pub owned : Owned (owner b) (at b) trace
  pub owners : (k : ℕ) → has (numbers (at b) trace) k ≡ false → owner b k ≡ owner a k
  pub ready : Ready b

-- the run of the code c begins one record more than may be made
pub record Exceeds (P : View) (c : Code) (a : Table) : Type 0 where
  pub begun_at : List ℕ
  pub over : Over P c (store a) begun_at a.room
  pub apart : Distinct begun_at
  pub fresh : (q : ℕ) → Among q begun_at → (at a q).entry ≡ Blank

abbrev pub Ends : View → Code → ℕ → Table → Table → List ℕ → List ℕ → ℕ → Result Written TooLarge → Type 0
Ends P c d a b xs ys cursor (Ok w) = Ran P c d a b xs ys cursor w.content w.cursor
Ends P c d a b xs ys cursor (Err _) = Exceeds P c a

-- a NEW of f with the arguments has been made at the place n, up to its end m: it began, its function ran, and it ended
pub record HasMade (P : View) (f : ℕ) (args : Args) (a b : Table) (xs ys : List ℕ) (cursor n m : ℕ) : Type 0 where
  pub table : Table
  pub members : List ℕ
  pub start : ℕ
  pub begun : HasBegun a table xs members cursor (New f args Empty) n start
  pub inner_table : Table
  pub inner_members : List ℕ
  pub last : ℕ
  pub content : Content
  pub ran : Ran P (enter P f (listed args)) n table inner_table members inner_members start content last
  pub ended : HasEnded inner_table b inner_members ys last n content m

-- code that makes it begins one record more than may be made
pub record ExceedsMaking (P : View) (f : ℕ) (args : Args) (a : Table) : Type 0 where
  pub exceeds : (c k : Code) → next P c ≡ makes f (listed args) k → Exceeds P c a

abbrev pub Makes : View → ℕ → Args → Table → Table → List ℕ → List ℕ → ℕ → Result Stamped TooLarge → Type 0
Makes P f args a b xs ys cursor (Ok s) = HasMade P f args a b xs ys cursor s.place s.stamp
Makes P f args a b xs ys cursor (Err _) = ExceedsMaking P f args a
