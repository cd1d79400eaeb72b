use Rattle.std.proofs.Common.{◌≡◌, ◌-◌, vec_len}
use Rattle.program.specs.View.{viewed}
use Rattle.trace.specs.Code.{next}
use Rattle.code.specs.Shown.{shown}
use Rattle.code.proofs.running.Running.next.Given as goal

abbrev pub invariant-loop-command : goal.invariant-loop-command
invariant-loop-command l = (next (viewed l.program) (shown (viewed l.program) l.code) ≡ next (viewed l.program) (shown (viewed l.program) l.initial.code)) × (l.code.function ≡ l.initial.code.function)

abbrev pub decreases-loop-command : goal.decreases-loop-command
decreases-loop-command l = vec_len l.function.commands - l.code.at
