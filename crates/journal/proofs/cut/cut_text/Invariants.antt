use Rattle.std.proofs.Common.{length}
use Rattle.journal.proofs.Cutting.{Past}
use Rattle.journal.proofs.cut.cut_text.Given as goal

abbrev pub invariant-loop-rest : goal.invariant-loop-rest
invariant-loop-rest l = Past l.journal l.rest

abbrev pub decreases-loop-rest : goal.decreases-loop-rest
decreases-loop-rest l = length l.rest
