use Rattle.std.proofs.Common.{◌-◌}
use Rattle.queue.proofs.Sifting.{Sinks}
use Rattle.queue.proofs.heap.sink.Given as goal

abbrev pub invariant-loop-place : goal.invariant-loop-place
invariant-loop-place g l = Sinks (g.Q.Order.belongs l.order) (g.Q.Order.precedes l.order) l.initial.heap l.heap l.place

abbrev pub decreases-loop-place : goal.decreases-loop-place
decreases-loop-place g l = l.n - l.place
