-- A table and a list together, and a run of the whole program in them.
use Rattle.std.specs.Prelude.{◌≡◌, ℕ, ◌+◌, ◌*◌, ◌≤◌, cond, List, [], ◌∷◌, pos, Ok, Err, Result, nat_lt, slice_index_or}
use Rattle.program.specs.View.{View}
use Rattle.program.specs.declared.value.InputContent.{InputContent}
use Rattle.program.specs.declared.value.InputContent.TheVariants.{Number, Empty}
use Rattle.program.specs.declared.value.Content.TheVariants as content
use Rattle.trace.specs.Trace.{Trace, write, size}
use Rattle.trace.specs.Run.{Stands}
use Rattle.trace.specs.Over.{BeginsMore}
use Rattle.order_list.specs.declared.list.OrderList.{Ghosts}
use Rattle.table.specs.declared.record.TooLarge.{TooLarge}
use Rattle.table.specs.declared.table.Table.{Table}
use Rattle.table.specs.Changes.{SameInputs}
use Rattle.table.specs.Standing.{Standing}

-- the list x, whose meaning is g, has room for the base and the stamps of the records in 2L places
abbrev pub HasRoom : {X : Type 0} → Ghosts X → ℕ → X → Type 0
HasRoom g L x = 4 * L + 1 ≤ g.size x

-- the trace of a sheet on which nothing stands
abbrev pub nothing : Trace
nothing = write content.Empty

-- `Holding g L t x u`: with the limit L the table t and the order list x, whose meaning is g, hold the trace u
pub record Holding {X : Type 0} (g : Ghosts X) (L : ℕ) (t : Table) (x : X) (u : Trace) : Type 0 where
  pub standing : Standing L (g.size x) t (g.order x) u

-- whatever the table a held, with whatever list, b holds
pub record Stays (a b : Table) : Type 0 where
  pub stays : (L c : ℕ) (xs : List ℕ) (u : Trace) → Standing L c a xs u → Standing L c b xs u

-- ── a new table ──

-- with the limit L nothing stands in the table: it goes with every list of the base alone that has the capacity
abbrev pub Vacant : ℕ → Table → Type 0
Vacant L t = (c : ℕ) → 4 * L + 1 ≤ c → Standing L c t (0 ∷ []) nothing

-- nothing stands any more in the table and the list, and L records may be made
pub record Cleared {X : Type 0} (g : Ghosts X) (L : ℕ) (a b : Table) (x : X) : Type 0 where
  pub holding : Holding g L b x nothing
  pub room : b.room ≡ L
  pub same : SameInputs a b

-- the inputs that have a number are 0, and the others empty
abbrev pub Zeros : View → List InputContent → Type 0
Zeros P is = (k : ℕ) → slice_index_or is k Empty ≡ cond (nat_lt k P.numbers) (Number (pos 0)) Empty

-- ── a run of the whole program ──

-- it made s records, at most L, and its trace stands on the inputs; as many more may be made as L leaves
pub record RanAnew {X : Type 0} (g : Ghosts X) (P : View) (L : ℕ) (a b : Table) (x : X) (s : ℕ) : Type 0 where
  pub trace : Trace
  pub stands : Stands P a.inputs trace
  pub counted : s ≡ size trace
  pub fits : s ≤ L
  pub room : b.room + s ≡ L
  pub holding : Holding g L b x trace
  pub same : SameInputs a b

-- it begins more than L records, and nothing stands; L records may be made
pub record Exceeded {X : Type 0} (g : Ghosts X) (P : View) (L : ℕ) (a b : Table) (x : X) : Type 0 where
  pub begins_more : BeginsMore L P a.inputs
  pub room : b.room ≡ L
  pub holding : Holding g L b x nothing
  pub same : SameInputs a b

abbrev pub Anew : {X : Type 0} → Ghosts X → View → ℕ → Table → Table → X → Result ℕ TooLarge → Type 0
Anew g P L a b x (Ok s) = RanAnew g P L a b x s
Anew g P L a b x (Err e) = Exceeded g P L a b x
