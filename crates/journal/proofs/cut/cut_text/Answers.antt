use Rattle.std.proofs.lemmas.Slice.Eq.{slice_eq-Decides}
use Rattle.std.proofs.lemmas.Bool.Decides.{Decides-eqb}
use Rattle.journal.proofs.Cutting.{past_line, ends_line}
use Rattle.journal.proofs.cut.cut_text.Goals as goal

pub loop-rest-preserved : goal.loop-rest-preserved
loop-rest-preserved c = past_line _ _ _ _ c.loop-rest.invariant c.cut_line.ensures (ends_line _ _ _ _ c.as_slice.ensures (slice_eq-Decides Decides-eqb _ _ _ c.eq.ensures) c.if-eq.false)
