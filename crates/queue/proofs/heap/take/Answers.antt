use Rattle.std.proofs.Common.{arith}
use Rattle.queue.proofs.Fronts.{takes}
use Rattle.queue.proofs.heap.take.Goals as goal

pub returns : goal.returns
returns g c =
    let o = c.args.order.now in
    takes (g.Q.Order.belongs o) (g.Q.Order.precedes o) (g.met.Q.Order.lawful o) c.args.heap.now c.in_ok-last.last c.index-heap-0.result c.index-heap-last.result (omega arith) c.index-heap-0.is c.index-heap-last.is _ (omega (arith, c.in_ok-last.ensures)) c.sink.new.heap c.sink.ensures.shuffled c.sink.ensures.heaped
