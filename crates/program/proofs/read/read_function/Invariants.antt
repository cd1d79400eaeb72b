use Rattle.std.proofs.Common.{◌≡◌, ◌++◌, map, length, vec_items}
use Rattle.text.specs.Reader.{left}
use Rattle.shape.specs.declared.standing.Due.TheVariants.{Body}
use Rattle.program.specs.Programs.{command_line}
use Rattle.program.specs.Formed.{Formed}
use Rattle.program.proofs.read.read_function.Given as goal

abbrev pub invariant-loop-line : goal.invariant-loop-line
invariant-loop-line l = (map command_line (vec_items l.commands) ++ left l.lines ≡ left l.initial.lines) × Formed Body (left l.lines)

abbrev pub decreases-loop-line : goal.decreases-loop-line
decreases-loop-line l = length (left l.lines)
