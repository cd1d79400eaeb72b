use Rattle.order_trials.proofs.Stepping.{not_left, not_right}
use Rattle.order_trials.proofs.both.Pair.insert_in_both.Goals as goal

pub returns-in-Ok-Err-clause-alike : goal.returns-in-Ok-Err-clause-alike
returns-in-Ok-Err-clause-alike g c ns e t s = not_left _ _ ns _ _ _ _ _ _ t s e c.in-Ok-Err.field-0-0 c.in-Ok-Err.field-0-1 c.in-Ok-Err.ensures.done c.in-Ok-Err.ensures'.done

pub returns-in-Err-Ok-clause-alike : goal.returns-in-Err-Ok-clause-alike
returns-in-Err-Ok-clause-alike g c ns e t s = not_right _ _ ns _ _ _ _ _ _ t s e c.in-Err-Ok.field-0-1 c.in-Err-Ok.field-0-0 c.in-Err-Ok.ensures.done c.in-Err-Ok.ensures'.done
