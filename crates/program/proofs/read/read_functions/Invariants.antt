use Rattle.std.proofs.Common.{◌≡◌, ◌++◌, length, vec_items}
use Rattle.std.specs.List.{flat_map}
use Rattle.text.specs.Reader.{left}
use Rattle.shape.specs.declared.standing.Due.TheVariants.{Head}
use Rattle.program.specs.Programs.{function_lines}
use Rattle.program.specs.Formed.{Formed}
use Rattle.program.proofs.read.read_functions.Given as goal

abbrev pub invariant-loop-line : goal.invariant-loop-line
invariant-loop-line l = (flat_map function_lines (vec_items l.functions) ++ left l.lines ≡ left l.initial.lines) × Formed Head (left l.lines)

abbrev pub decreases-loop-line : goal.decreases-loop-line
decreases-loop-line l = length (left l.lines)
