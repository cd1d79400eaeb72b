use Rattle.trace.proofs.plain_run_is_shown.Goals as goal
use Rattle.trace.proofs.Plain.{shows_the_plain_run, the_plain_run_stands}
use Rattle.trace.proofs.Over.{too_large_means}
use Rattle.trace.proofs.Listed.{one_line_each}
use Rattle.trace.proofs.Stamps.{two_stamps_each, lines_tell_ends}

pub returns : goal.returns
returns c = record { shown = shows_the_plain_run; stands = the_plain_run_stands; too_large = too_large_means; lines = one_line_each; stamps = two_stamps_each; ends = lines_tell_ends }
