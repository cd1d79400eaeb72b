use Rattle.std.proofs.Common.{◌≡◌, ℕ, cond, ltb, length, get_or, pos}
use Rattle.program.specs.declared.value.InputContent.TheVariants.{Number, Empty}
use Rattle.table.proofs.table.vacant.zeros.Given as goal

abbrev pub invariant-loop-k : goal.invariant-loop-k
invariant-loop-k l = (length l.inputs ≡ 256) × ((j : ℕ) → get_or l.inputs j Empty ≡ cond (ltb j l.k) (Number (pos 0)) Empty)
