use Rattle.std.proofs.Common.{arith}
use Rattle.queue.proofs.Fronts.{puts}
use Rattle.queue.proofs.heap.put.Goals as goal

pub returns : goal.returns
returns g c = puts (g.Q.Order.belongs c.args.order.now) (g.Q.Order.precedes c.args.order.now) c.args.heap.now c.args.count c.args.x (omega arith) c.rise.new.heap c.rise.ensures.shuffled c.rise.ensures.heaped
