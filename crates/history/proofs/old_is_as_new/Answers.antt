use Rattle.history.proofs.old_is_as_new.Goals as goal
use Rattle.history.proofs.Theorem.{old_against_new}

pub returns : goal.returns
returns c = old_against_new
