use Rattle.history.proofs.calls_are_answered.Goals as goal
use Rattle.history.proofs.Answered.{every_call_is_answered, answers_are_determined}

pub returns : goal.returns
returns c = record { answered = every_call_is_answered; determined = answers_are_determined }
