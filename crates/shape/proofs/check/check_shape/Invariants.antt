use Rattle.std.proofs.Common.{◌≡◌}
use Rattle.text.specs.First.{first}
use Rattle.text.specs.Lines.{lines_of}
use Rattle.text.proofs.Passes.{awaited, awaited_number, IsLatest}
use Rattle.shape.specs.Shapes.{after, shape_rules, shape_fault_of}
use Rattle.shape.proofs.check.check_shape.Given as goal

abbrev pub invariant-loop-line : goal.invariant-loop-line
invariant-loop-line l = record {
  faults : first after shape_rules l.standing (awaited_number l.lines.peeked l.lines.iter) (awaited l.lines.peeked l.lines.iter) ≡ shape_fault_of (lines_of l.text);
  latest : IsLatest l.lines.peeked l.lines.iter;
}
