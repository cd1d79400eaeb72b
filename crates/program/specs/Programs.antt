-- The lines of a program.
use Rattle.std.specs.Prelude.{ℕ, Bool, ◌&&◌, List, [], ◌∷◌, ◌++◌, map, ℤ, pos, vec_items, Option}
use Rattle.std.specs.List.{flat_map}
use Rattle.text.specs.declared.fields.Kind.{Kind}
use Rattle.text.specs.declared.fields.Kind.TheVariants as k
use Rattle.text.specs.declared.line.Word.{Word}
use Rattle.text.specs.declared.line.Word.TheVariants as w
use Rattle.text.specs.First.{no_fault}
use Rattle.text.specs.Lines.{Said}
use Rattle.text.specs.Rendering.{all_fit}
use Rattle.shape.specs.Shapes.{shape_fault_of}
use Rattle.kinds.specs.declared.fault.KindFault.{KindFault}
use Rattle.kinds.specs.Kinds.{kind_fault_of, over_shape}
use Rattle.program.specs.declared.arith.Op.{Op}
use Rattle.program.specs.declared.arith.Op.TheVariants as o
use Rattle.program.specs.declared.function.Command.{Command}
use Rattle.program.specs.declared.function.Command.TheVariants as c
use Rattle.program.specs.declared.function.Tail.{Tail}
use Rattle.program.specs.declared.function.Tail.TheVariants as t
use Rattle.program.specs.declared.function.Function.{Function}

abbrev pub op_word : Op → Word
op_word o.Add = w.Add
op_word o.Sub = w.Sub
op_word o.Mul = w.Mul
op_word o.Div = w.Div
op_word o.Min = w.Min
op_word o.Max = w.Max

abbrev pub kind_number : Kind → ℤ
kind_number k.Number = pos 1
kind_number k.ModNumber = pos 2
kind_number k.ModList = pos 3

abbrev pub wholes : List ℕ → List ℤ
wholes ns = map pos ns

abbrev pub command_line : Command → Said
command_line (c.Lit v) = (w.Lit, v ∷ [])
command_line (c.Apply op a b) = (op_word op, pos a ∷ pos b ∷ [])
command_line (c.New f args) = (w.New, pos f ∷ wholes (vec_items args))

abbrev pub tail_line : Tail → Said
tail_line (t.Put a) = (w.Put, pos a ∷ [])
tail_line t.Nil = (w.Nil, [])
tail_line (t.Con h l) = (w.Con, pos h ∷ pos l ∷ [])
tail_line (t.Get s f args) = (w.Get, pos s ∷ pos f ∷ wholes (vec_items args))
tail_line (t.Cas s f g args) = (w.Cas, pos s ∷ pos f ∷ pos g ∷ wholes (vec_items args))

abbrev pub head_said : Kind → List Kind → Said
head_said r ps = (w.Fun, kind_number r ∷ map kind_number ps)

abbrev pub function_lines : Function → List Said
function_lines f = head_said f.result (vec_items f.params) ∷ (map command_line (vec_items f.commands) ++ tail_line f.tail ∷ [])

-- the lines of a program, by its parts
abbrev pub lines_with : ℕ → ℕ → List ℕ → List Function → List Said
lines_with a b run fs = (w.Inp, pos a ∷ pos b ∷ []) ∷ (w.Run, wholes run) ∷ flat_map function_lines fs

-- the fault that is told of lines, each of which keeps the rules of layer 1
abbrev pub lines_fault : List Said → Option KindFault
lines_fault ls = over_shape (shape_fault_of ls) (kind_fault_of ls)

-- a program's lines have no fault, and their numbers fit their columns
unfoldable pub keeps_rules : ℕ → ℕ → List ℕ → List Function → Bool
keeps_rules a b run fs = no_fault (lines_fault (lines_with a b run fs)) && all_fit (lines_with a b run fs)
