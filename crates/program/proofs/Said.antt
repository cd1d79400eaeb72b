-- A text says one program.
use Rattle.std.proofs.Common.{◌≡◌, ℕ, List, None, vec_items, sym, ap, ◌∙◌}
use Rattle.text.specs.Lines.{lines_of}
use Rattle.text.specs.Rendering.{rendered}
use Rattle.text.proofs.Rendered.{rendering_of, rendered_once}
use Rattle.kinds.specs.Kinds.{fault_of}
use Rattle.program.specs.declared.program.Program.{Program}
use Rattle.program.specs.Says.{program_lines, rendering}
use Rattle.program.specs.Checks.{Says}
use Rattle.program.proofs.Kept.{kept}
use Rattle.program.proofs.Faultless.{faultless}
use Rattle.program.proofs.Viewed.{view_from_lines}

same_lines : (p q : Program) → rendering q ≡ rendering p → program_lines q ≡ program_lines p
same_lines p q e = rendered_once (program_lines q) (program_lines p) (kept q.numbers q.lists (vec_items q.run) (vec_items q.functions) q.keeps).1 (kept p.numbers p.lists (vec_items p.run) (vec_items p.functions) p.keeps).1 e

pub says : (bs : List ℕ) (p : Program) → fault_of bs ≡ None → program_lines p ≡ lines_of bs → Says bs p
says bs p f e =
    let t : rendering p ≡ bs = ap rendered e ∙ (rendering_of bs (faultless bs f).stand).0 in
    record { text = t; once = λ q r. view_from_lines q p (same_lines p q (r ∙ sym t)) }
