use Rattle.std.proofs.Common.{ℕ, List, ◌++◌, length, vec_items}
use Rattle.journal.specs.Answers.{Answered}
use Rattle.journal.proofs.answer.answer.Given as goal

abbrev pub invariant-loop-rest : goal.invariant-loop-rest
invariant-loop-rest l = (out : List ℕ) → Answered l.rest out → Answered l.journal (vec_items l.out ++ out)

abbrev pub decreases-loop-rest : goal.decreases-loop-rest
decreases-loop-rest l = length l.rest
