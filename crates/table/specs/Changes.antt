-- What the table's own methods change.
use Rattle.std.specs.Prelude.{◌≡◌, ℕ, suc, List, Ok, Err, Result, slice_index, slice_set}
use Rattle.table.specs.declared.record.Record.{Record}
use Rattle.table.specs.declared.record.TooLarge.{TooLarge}
use Rattle.table.specs.declared.table.Table.{Table}
use Rattle.table.specs.Records.{source_of}
use Rattle.table.specs.Rings.{Rings, NoReader, joined}

-- the inputs are as they were, and those that open noted too
pub record SameInputs (a b : Table) : Type 0 where
  pub inputs : b.inputs ≡ a.inputs
  pub noted : b.noted ≡ a.noted

-- a free place p is taken off the stack, for one record of those that may be made
pub record Took (a b : Table) (p : ℕ) : Type 0 where
  pub room : suc b.room ≡ a.room
  pub spares : suc b.spares ≡ a.spares
  pub which : p ≡ slice_index a.spare b.spares
  pub spare : b.spare ≡ a.spare
  pub records : b.records ≡ a.records
  pub owners : b.owners ≡ a.owners
  pub readers : b.readers ≡ a.readers
  pub same : SameInputs a b

abbrev pub Takes : Table → Table → Result ℕ TooLarge → Type 0
Takes a b (Ok p) = Took a b p
Takes a b (Err e) = (a.room ≡ 0) × SameInputs a b

-- the record r is put at the place p
pub record Puts (a b : Table) (p : ℕ) (r : Record) : Type 0 where
  pub records : b.records ≡ slice_set a.records p r
  pub owners : b.owners ≡ a.owners
  pub spare : b.spare ≡ a.spare
  pub spares : b.spares ≡ a.spares
  pub room : b.room ≡ a.room
  pub same : SameInputs a b

-- if r is a read, the place p joins the readers of its source, and else they stay
pub record Enters (a b : Table) (p : ℕ) (r : Record) : Type 0 where
  pub joins : (f : ℕ → List ℕ) → Rings a.readers f → NoReader f p → Rings b.readers (joined f (source_of r.entry) p)

-- the stamp k is told to be that of the record at the place p
pub record Owns (a b : Table) (k p : ℕ) : Type 0 where
  pub owners : b.owners ≡ slice_set a.owners k p
  pub records : b.records ≡ a.records
  pub spare : b.spare ≡ a.spare
  pub spares : b.spares ≡ a.spares
  pub room : b.room ≡ a.room
  pub readers : b.readers ≡ a.readers
  pub same : SameInputs a b
