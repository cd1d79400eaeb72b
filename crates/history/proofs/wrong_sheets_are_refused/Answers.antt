use Rattle.history.proofs.wrong_sheets_are_refused.Goals as goal
use Rattle.history.proofs.Refuted.{always_too_large, repeats_itself, runs_anew, invents_counts}

pub returns : goal.returns
returns c = record { always_too_large = always_too_large; repeats_itself = repeats_itself; runs_anew = runs_anew; invents_counts = invents_counts }
