-- The rules of layer 2: where a line stands, how many fields it has, and its ranges and limits.
use Rattle.std.specs.Prelude.{ℕ, ◌+◌, ◌-◌, Bool, true, cond, ◌&&◌, List, length, ℤ, pos, Some, None, Option, nat_lt, slice_index_or}
use Rattle.text.specs.declared.line.LineFault.{LineFault}
use Rattle.text.specs.First.{first}
use Rattle.text.specs.Lines.{Said, lines_of, text_fault}
use Rattle.text.specs.Numbers.{whole_of}
use Rattle.shape.specs.declared.fault.ShapeFault.{ShapeFault}
use Rattle.shape.specs.declared.fault.ShapeFault.TheVariants as e
use Rattle.shape.specs.declared.standing.Part.{Part}
use Rattle.shape.specs.declared.standing.Part.TheVariants as p
use Rattle.shape.specs.declared.standing.Due.TheVariants as d
use Rattle.shape.specs.declared.standing.Standing.{Standing}
use Rattle.shape.specs.Parts.{part_of, placed, counted, head_stands, inputs_fit}

-- ranges and limits
abbrev pub ranged : Standing → Part → List ℤ → Bool
ranged s p.Inputs zs = inputs_fit (whole_of (slice_index_or zs 0 (pos 0))) (whole_of (slice_index_or zs 1 (pos 0)))
ranged s p.Run zs = true
ranged s p.Head zs = nat_lt s.functions 64 && head_stands zs
ranged s p.Command zs = nat_lt s.steps 512 && nat_lt s.registers 16
ranged s p.Tail zs = nat_lt s.steps 512

abbrev pub behind_part : Standing → Part → ℕ → Standing
behind_part s p.Inputs n = record { due = d.Run; functions = s.functions; steps = s.steps; registers = s.registers }
behind_part s p.Run n = record { due = d.Head; functions = s.functions; steps = s.steps; registers = s.registers }
behind_part s p.Head n = record { due = d.Body; functions = s.functions + 1; steps = s.steps; registers = n - 1 }
behind_part s p.Command n = record { due = d.Body; functions = s.functions; steps = s.steps + 1; registers = s.registers + 1 }
behind_part s p.Tail n = record { due = d.Head; functions = s.functions; steps = s.steps + 1; registers = s.registers }

-- how things stand behind a line
abbrev pub after : Standing → Said → Standing
after s (k, zs) = behind_part s (part_of k) (length zs)

abbrev pub shape_rules : Standing → ℕ → Said → Bool → Option ShapeFault
shape_rules s n (k, zs) last = cond (placed s.due (part_of k) last) (cond (counted k (length zs)) (cond (ranged s (part_of k) zs) None (Some (e.Range n))) (Some (e.Count n))) (Some (e.Position n))

abbrev pub start : Standing
start = record { due = d.Inputs; functions = 0; steps = 0; registers = 0 }

abbrev pub shape_fault_of : List Said → Option ShapeFault
shape_fault_of ls = first after shape_rules start 1 ls

-- a fault of the layer below is told first, whole
abbrev pub over_lines : Option LineFault → Option ShapeFault → Option ShapeFault
over_lines (Some x) o = Some (e.Line x)
over_lines None o = o

abbrev pub shape_fault : List ℕ → Option ShapeFault
shape_fault bs = over_lines (text_fault bs) (shape_fault_of (lines_of bs))
