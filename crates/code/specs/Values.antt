-- Values in fixed memory.
use Rattle.std.specs.Prelude.{ℕ, List, take}
use Rattle.program.specs.declared.value.Value.{Value}
use Rattle.code.specs.declared.values.Values.{Values}

-- the values, in order
abbrev pub listed : {N : ℕ} → Values N → List Value
listed a = take a.count a.items
