-- The program of a new place.
use Rattle.std.specs.Prelude.{List, [], ◌∷◌, pos}
use Rattle.text.specs.declared.line.Word.TheVariants as w
use Rattle.text.specs.Lines.{Said}

-- FUN 2; LIT 0; PUT 0
abbrev pub zero_lines : List Said
zero_lines = (w.Fun, pos 2 ∷ []) ∷ (w.Lit, pos 0 ∷ []) ∷ (w.Put, pos 0 ∷ []) ∷ []

-- INP 1 0; RUN; and that function
abbrev pub smallest_lines : List Said
smallest_lines = (w.Inp, pos 1 ∷ pos 0 ∷ []) ∷ (w.Run, []) ∷ zero_lines
