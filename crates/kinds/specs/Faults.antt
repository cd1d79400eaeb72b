-- The number, the layer and the line of every fault of a text: the one definition for all cases; and its words.
use Rattle.std.specs.Prelude.{ℕ, List, ◌++◌, codes, decimal}
use Rattle.text.specs.declared.line.LineFault.TheVariants as f
use Rattle.shape.specs.declared.fault.ShapeFault.TheVariants as s
use Rattle.kinds.specs.declared.fault.KindFault.{KindFault}
use Rattle.kinds.specs.declared.fault.KindFault.TheVariants as k

abbrev pub number_of : KindFault → ℕ
number_of (k.Shape (s.Line (f.Length n))) = 1
number_of (k.Shape (s.Line (f.Word n))) = 2
number_of (k.Shape (s.Line (f.Field n))) = 3
number_of (k.Shape (s.Position n)) = 4
number_of (k.Shape (s.Count n)) = 5
number_of (k.Shape (s.Range n)) = 6
number_of (k.Missing n) = 7
number_of (k.Kinds n) = 8

abbrev pub layer_of : KindFault → ℕ
layer_of (k.Shape (s.Line x)) = 1
layer_of (k.Shape (s.Position n)) = 2
layer_of (k.Shape (s.Count n)) = 2
layer_of (k.Shape (s.Range n)) = 2
layer_of (k.Missing n) = 3
layer_of (k.Kinds n) = 3

abbrev pub line_at : KindFault → ℕ
line_at (k.Shape (s.Line (f.Length n))) = n
line_at (k.Shape (s.Line (f.Word n))) = n
line_at (k.Shape (s.Line (f.Field n))) = n
line_at (k.Shape (s.Position n)) = n
line_at (k.Shape (s.Count n)) = n
line_at (k.Shape (s.Range n)) = n
line_at (k.Missing n) = n
line_at (k.Kinds n) = n

abbrev pub words_of : KindFault → List ℕ
words_of f = codes "fault " ++ (decimal (number_of f) ++ (codes " line " ++ (decimal (line_at f) ++ (codes " layer " ++ decimal (layer_of f)))))
