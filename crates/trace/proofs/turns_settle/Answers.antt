use Rattle.trace.proofs.turns_settle.Goals as goal
use Rattle.trace.proofs.Settled.{turns_leave_a_run, re_executing_is_settling, re_executing_ends, unchanged_inputs}
use Rattle.trace.proofs.Exists.{settling_exists}
use Rattle.trace.proofs.Counted.{turns_count_alike}
use Rattle.trace.proofs.ByValue.{counts_of_the_plain_run}
use Rattle.trace.proofs.ReadOut.{keeps_places}

pub returns : goal.returns
returns c = record { leaves = turns_leave_a_run; earliest = re_executing_is_settling; ends = re_executing_ends; exists = settling_exists; counts = turns_count_alike; by_value = counts_of_the_plain_run; places = keeps_places; unchanged = unchanged_inputs }
