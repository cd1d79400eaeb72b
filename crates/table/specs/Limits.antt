-- The limit of a sheet.
use Rattle.std.specs.Prelude.{◌≡◌, ℕ, Bool, true, false, ◌&&◌, Some, None, Option, nat_le}
use Rattle.table.specs.declared.limit.Limit.{Limit}

-- a limit is 1 to 512
abbrev pub allowed : ℕ → Bool
allowed n = nat_le 1 n && nat_le n 512

-- there is a limit of this value exactly where it is allowed
abbrev pub Limited : ℕ → Option Limit → Type 0
Limited n (Some l) = (allowed n ≡ true) × (l.value ≡ n)
Limited n None = allowed n ≡ false
