-- The six operations: the exact result, or the end of the range of 32-bit numbers that it passes.
use Rattle.std.specs.Prelude.{zero, suc, ℤ, pos, negsuc, ◌+ℤ◌, ◌-ℤ◌, ◌*ℤ◌, int_div}
use Rattle.std.specs.Int.{saturate_to_bits, int_min, int_max}
use Rattle.program.specs.declared.arith.Op.{Op}
use Rattle.program.specs.declared.arith.Op.TheVariants.{Add, Sub, Mul, Div, Min, Max}

-- the quotient without its fraction; a divisor 0 gives 0
abbrev pub divided : ℤ → ℤ → ℤ
divided a (pos zero) = pos 0
divided a (pos (suc b)) = saturate_to_bits 31 (int_div a (pos (suc b)))
divided a (negsuc b) = saturate_to_bits 31 (int_div a (negsuc b))

abbrev pub applied : Op → ℤ → ℤ → ℤ
applied Add a b = saturate_to_bits 31 (a +ℤ b)
applied Sub a b = saturate_to_bits 31 (a -ℤ b)
applied Mul a b = saturate_to_bits 31 (a *ℤ b)
applied Div a b = divided a b
applied Min a b = int_min a b
applied Max a b = int_max a b
