-- The arguments of a function.
use Rattle.std.specs.Prelude.{ℕ}
use Rattle.program.specs.declared.value.Name.TheVariants.{Input}
use Rattle.program.specs.declared.value.Value.{Value}
use Rattle.program.specs.declared.value.Value.TheVariants.{Mod}
use Rattle.code.specs.declared.values.Values.{Values}

abbrev pub Args : Type 0
Args = Values 6

-- an input, as RUN gives it to function 0
abbrev pub given : ℕ → Value
given k = Mod (Input k)
