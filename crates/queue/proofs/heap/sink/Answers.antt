use Rattle.std.proofs.Common.{arith}
use Rattle.std.proofs.lemmas.List.Sorted.{IsPermutation-trans, All-permutation}
use Rattle.queue.proofs.Sifting.{at_places, sink_steps, sink_rests}
use Rattle.queue.proofs.heap.sink.Goals as goal

pub loop-place-preserved : goal.loop-place-preserved
loop-place-preserved g c =
    let P = g.Q.Order.belongs c.args.order.now in
    let before = g.Q.Order.precedes c.args.order.now in
    let l = c.loop-place in
    let s = c.swap.ensures.by_index in
    let child = c.foremost_child-child in
    record {
      same_length = omega arith;
      shuffled = IsPermutation-trans _ _ _ l.invariant.shuffled c.swap.ensures.permutation;
      gap = λ all heaped.
          let here = All-permutation P _ _ l.invariant.shuffled all in
          sink_steps before P (g.met.Q.Order.lawful c.args.order.now) l.heap c.swap.new.self l.place child.result here (omega arith) (omega arith) (omega arith) (omega arith) s.0 s.1 s.2
          (at_places P before l.heap _ _ here (omega arith) (omega arith) c.index-heap-child.is c.index-heap-place.is c.if-not-before.ensures) (child.ensures.foremost here) (l.invariant.gap all heaped);
    }

pub returns-then-not-before-clause-heaped : goal.returns-then-not-before-clause-heaped
returns-then-not-before-clause-heaped g c all heaped =
    let P = g.Q.Order.belongs c.args.order.now in
    let before = g.Q.Order.precedes c.args.order.now in
    let l = c.loop-place in
    let child = c.foremost_child-child in
    let here = All-permutation P _ _ l.invariant.shuffled all in
    sink_rests before P (g.met.Q.Order.lawful c.args.order.now) l.heap l.place child.result here (omega arith) (omega arith)
    (at_places P before l.heap _ _ here (omega arith) (omega arith) c.index-heap-child.is c.index-heap-place.is c.if-not-before.ensures) (child.ensures.foremost here) (l.invariant.gap all heaped)
