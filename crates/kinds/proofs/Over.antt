-- Where no fault is told, no layer has one.
use Rattle.std.proofs.Common.{arith, ◌≡◌, ℕ, List, None, Option}
use Rattle.text.specs.declared.line.LineFault.{LineFault}
use Rattle.text.specs.Lines.{text_fault, lines_of}
use Rattle.shape.specs.declared.fault.ShapeFault.{ShapeFault}
use Rattle.shape.specs.Shapes.{shape_fault, shape_fault_of, over_lines}
use Rattle.kinds.specs.declared.fault.KindFault.{KindFault}
use Rattle.kinds.specs.Kinds.{over_shape}

none_below : (o : Option LineFault) (q : Option ShapeFault) → over_lines o q ≡ None → (o ≡ None) × (q ≡ None)
none_below o q e = grind arith

pub shaped : (bs : List ℕ) → shape_fault bs ≡ None → (text_fault bs ≡ None) × (shape_fault_of (lines_of bs) ≡ None)
shaped bs e = none_below (text_fault bs) (shape_fault_of (lines_of bs)) e

pub none_over : (o : Option ShapeFault) (q : Option KindFault) → over_shape o q ≡ None → (o ≡ None) × (q ≡ None)
none_over o q e = grind arith
