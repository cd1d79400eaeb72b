-- What a program says.
use Rattle.std.specs.Prelude.{ℕ, List, vec_items}
use Rattle.text.specs.Lines.{Said}
use Rattle.text.specs.Rendering.{rendered}
use Rattle.program.specs.declared.program.Program.{Program}
use Rattle.program.specs.Programs.{lines_with}

abbrev pub program_lines : Program → List Said
program_lines p = lines_with p.numbers p.lists (vec_items p.run) (vec_items p.functions)

-- the text of a program
abbrev pub rendering : Program → List ℕ
rendering p = rendered (program_lines p)
