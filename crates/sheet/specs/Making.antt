-- How a sheet is made.
use Rattle.std.specs.Prelude.{◌≡◌, ℕ, ◌+◌, ◌*◌, ◌≤◌, cond, Some, None, Ok, Err, Option, Result, nat_le}
use Rattle.program.specs.declared.program.Program.{Program}
use Rattle.program.specs.View.{viewed}
use Rattle.history.specs.Sheet.{fresh}
use Rattle.order_list.specs.declared.list.OrderList.{Ghosts}
use Rattle.table.specs.declared.limit.Limit.{Limit}
use Rattle.table.specs.Limits.{allowed}
use Rattle.sheet.specs.declared.pass.UnsettledPass.{UnsettledPass}
use Rattle.sheet.specs.declared.refusal.MakeRefusal.{MakeRefusal}
use Rattle.sheet.specs.declared.refusal.MakeRefusal.TheVariants as refusal
use Rattle.sheet.specs.declared.refusal.Unmade.{Unmade}
use Rattle.sheet.specs.declared.sheet.Sheet.{Sheet}
use Rattle.sheet.specs.Shows.{Shows}

-- why no sheet with the limit L is made over a list of the capacity c, if none is: the limit is tested first
abbrev pub sheet_refusal : ℕ → ℕ → Option MakeRefusal
sheet_refusal c L = cond (allowed L) (cond (nat_le (4 * L + 1) c) None (Some refusal.Capacity)) (Some refusal.Limit)

-- the limit of a sheet over a list of the capacity c, or why it has none
abbrev pub Allowed : ℕ → ℕ → Result Limit MakeRefusal → Type 0
Allowed c L (Ok l) = (sheet_refusal c L ≡ None) × (l.value ≡ L) × (4 * L + 1 ≤ c)
Allowed c L (Err e) = sheet_refusal c L ≡ Some e

-- the place holds a new sheet, over a list of the same capacity
pub record Made {X : Type 0} (g : Ghosts X) (x : X) (p : Program) (n L : ℕ) (place : Option (Sheet X)) : Type 0 where
  pub sheet : Sheet X
  pub placed : place ≡ Some sheet
  pub shows : Shows g sheet (fresh (record { program = viewed p; number = n; limit = L }))
  pub same : g.size sheet.list ≡ g.size x

-- nothing was made: all was handed back as it was
pub record HandedBack {X : Type 0} (x : X) (p : Program) (u : Unmade X) (old new : Option (Sheet X)) : Type 0 where
  pub list : u.list ≡ x
  pub program : u.program ≡ p
  pub place : new ≡ old

-- make, from the list x, the program p, the number n and the limit L, in a place that held old
abbrev pub Makes : {X : Type 0} (g : Ghosts X) → Option (Sheet X) → X → Program → ℕ → ℕ → Result UnsettledPass (Unmade X) → Option (Sheet X) → Type 0
Makes g old x p n L (Ok q) new = (sheet_refusal (g.size x) L ≡ None) × (q.0 ≡ n) × Made g x p n L new
Makes g old x p n L (Err u) new = (sheet_refusal (g.size x) L ≡ Some u.refusal) × HandedBack x p u old new
