-- A run of a program, by the table and the list that it fills.
use Rattle.std.specs.Prelude.{◌≡◌, ℕ, Result}
use Rattle.program.specs.View.{viewed}
use Rattle.program.specs.declared.value.Content.{Content}
use Rattle.trace.specs.Code.{Code}
use Rattle.order_list.specs.declared.list.OrderList.{Ghosts}
use Rattle.code.specs.Args.{Args}
use Rattle.table.specs.declared.record.Entry.{Entry}
use Rattle.table.specs.declared.record.TooLarge.{TooLarge}
use Rattle.table.specs.declared.table.run.Run.{Run}
use Rattle.table.specs.declared.table.run.Stamped.{Stamped}
use Rattle.table.specs.declared.table.run.Written.{Written}
use Rattle.table.specs.Changes.{SameInputs}
use Rattle.table.specs.Ran.{Open, Ending, Begins, HasEnded, Makes, Ends}

abbrev pub MayRun : {X : Type 0} → Ghosts X → Run X → ℕ → Type 0
MayRun g r cursor = Open r.table.now (g.size r.list.now) (g.order r.list.now) cursor

abbrev pub MayEnd : {X : Type 0} → Ghosts X → Run X → ℕ → ℕ → Type 0
MayEnd g r cursor place = Ending r.table.now (g.size r.list.now) (g.order r.list.now) cursor place

abbrev pub RunBegins : {X : Type 0} → Ghosts X → Run X → Run X → ℕ → Entry → Result Stamped TooLarge → Type 0
RunBegins g a b cursor e q = Begins a.table.now b.table.now (g.order a.list.now) (g.order b.list.now) cursor e q

abbrev pub RunHasEnded : {X : Type 0} → Ghosts X → Run X → Run X → ℕ → ℕ → Content → ℕ → Type 0
RunHasEnded g a b cursor place x m = HasEnded a.table.now b.table.now (g.order a.list.now) (g.order b.list.now) cursor place x m

abbrev pub RunMakes : {X : Type 0} → Ghosts X → ℕ → Args → Run X → Run X → ℕ → Result Stamped TooLarge → Type 0
RunMakes g f args a b cursor q = Makes (viewed a.program.now) f args a.table.now b.table.now (g.order a.list.now) (g.order b.list.now) cursor q

abbrev pub RunEnds : {X : Type 0} → Ghosts X → Code → ℕ → Run X → Run X → ℕ → Result Written TooLarge → Type 0
RunEnds g c d a b cursor q = Ends (viewed a.program.now) c d a.table.now b.table.now (g.order a.list.now) (g.order b.list.now) cursor q

-- what no step of a run changes: the inputs, the capacity, the program, and which table and list it fills
pub record Keeps {X : Type 0} (g : Ghosts X) (a b : Run X) : Type 0 where
  pub inputs : SameInputs a.table.now b.table.now
  pub capacity : g.size b.list.now ≡ g.size a.list.now
  pub program : b.program ≡ a.program
  pub table : b.table.ghost_name ≡ a.table.ghost_name
  pub list : b.list.ghost_name ≡ a.list.ghost_name
